use Rattle.guard_laws.proofs.AnswerLemmas as lemma
use Rattle.guard_laws.proofs.laws.later_answers_count.Goals as goal

pub returns : goal.returns
returns c = lemma.later_answers_count
