use Rattle.guard_laws.proofs.AnswerLemmas as lemma
use Rattle.guard_laws.proofs.laws.turns_are_taken.Goals as goal

pub returns : goal.returns
returns c = lemma.turns_are_taken
