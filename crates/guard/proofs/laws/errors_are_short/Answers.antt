use Rattle.guard.proofs.AnswerLemmas as lemma
use Rattle.guard.proofs.laws.errors_are_short.Goals as goal

pub returns : goal.returns
returns c = lemma.errors_are_short
