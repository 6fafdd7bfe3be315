use Rattle.guard_laws.proofs.AnswerLemmas as lemma
use Rattle.guard_laws.proofs.laws.answers_stay.Goals as goal

pub returns : goal.returns
returns c = lemma.answers_stay
