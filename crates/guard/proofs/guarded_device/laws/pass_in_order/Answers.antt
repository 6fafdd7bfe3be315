use Rattle.guard.proofs.SightLemmas as lemma
use Rattle.guard.proofs.guarded_device.laws.pass_in_order.Goals as goal

pub returns : goal.returns
returns c = lemma.pass_in_order
