use Rattle.guard.proofs.SightLemmas as lemma
use Rattle.guard.proofs.guarded_device.laws.off_changes_nothing.Goals as goal

pub returns : goal.returns
returns c = lemma.off_changes_nothing
