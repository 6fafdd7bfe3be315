use Rattle.guard.proofs.AnswerLemmas as lemma
use Rattle.guard.proofs.laws.few_answers_go.Goals as goal

pub returns : goal.returns
returns c = lemma.few_answers
