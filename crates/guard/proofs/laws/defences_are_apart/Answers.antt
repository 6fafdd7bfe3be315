use Rattle.guard.proofs.RuleLemmas as lemma
use Rattle.guard.proofs.laws.defences_are_apart.Goals as goal

pub returns : goal.returns
returns c = lemma.defences_are_apart
