use Rattle.host_laws.proofs.Runs.SlotRoom.{room_stays}
use Rattle.host_laws.proofs.restraint.slot_room_stays.Goals as goal

pub returns : goal.returns
returns c = room_stays
