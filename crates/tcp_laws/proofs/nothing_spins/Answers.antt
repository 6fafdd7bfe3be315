use Rattle.tcp_laws.proofs.Spins as spins
use Rattle.tcp_laws.proofs.nothing_spins.Goals as goal

pub returns : goal.returns
returns c = spins.nothing_spins
