use Rattle.tcp_laws.proofs.MachineBlocks.{blocks_hold}
use Rattle.tcp_laws.proofs.blocks_hold.Goals as goal

pub returns : goal.returns
returns c = blocks_hold
