use Rattle.iface_host.proofs.FragmentRoom.{known_find_room, strangers_hold_half, young_stay}
use Rattle.iface_host.proofs.fragments.slots_are_shared.Goals as goal

pub returns-clause-young : goal.returns-clause-young
returns-clause-young c = young_stay

pub returns-clause-known : goal.returns-clause-known
returns-clause-known c = known_find_room

pub returns-clause-strangers : goal.returns-clause-strangers
returns-clause-strangers c = strangers_hold_half
