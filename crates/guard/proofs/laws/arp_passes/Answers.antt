use Rattle.guard.proofs.PassLemmas as lemma
use Rattle.guard.proofs.laws.arp_passes.Goals as goal

pub returns : goal.returns
returns c = lemma.arp_passes
