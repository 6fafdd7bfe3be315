use Rattle.guard.proofs.AnswerLemmas as lemma
use Rattle.guard.proofs.laws.other_answers_go.Goals as goal

pub returns : goal.returns
returns c = lemma.other_answers
