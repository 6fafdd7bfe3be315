use Rattle.guard.proofs.PassLemmas as lemma
use Rattle.guard.proofs.laws.packets_pass.Goals as goal

pub returns : goal.returns
returns c = lemma.packets_pass
