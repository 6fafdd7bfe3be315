use Rattle.host_laws.proofs.Runs.NeighborRoom.{room_stays}
use Rattle.host_laws.proofs.restraint.neighbor_room_stays.Goals as goal

pub returns : goal.returns
returns c = room_stays
