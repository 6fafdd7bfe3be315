use Rattle.fragmentation.specs.Slots.{free_slots}
use Rattle.interface.proofs.interface.Interface.has_neighbor.Goals as goal

pub returns : goal.returns
returns c = λ sockets. c.has_neighbor.ensures (free_slots 2) sockets
