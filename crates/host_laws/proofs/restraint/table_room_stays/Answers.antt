use Rattle.host_laws.proofs.Runs.TableRoom.{room_stays}
use Rattle.host_laws.proofs.restraint.table_room_stays.Goals as goal

pub returns : goal.returns
returns c = room_stays
