use Rattle.guard.proofs.AnswerLemmas as lemma
use Rattle.guard.proofs.laws.clock_may_go_back.Goals as goal

pub returns : goal.returns
returns c = lemma.clock_may_go_back
