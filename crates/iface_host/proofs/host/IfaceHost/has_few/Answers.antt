use Rattle.std.proofs.Common.{◌≡◌, ◌≤◌, arith}
use Rattle.iface_host.proofs.host.IfaceHost.has_few.Goals as goal

pub overflow_sub-result : goal.overflow_sub-result
overflow_sub-result c =
    let few = rw c.deref.ensures at c.fragments_taken-taken.ensures.few in
    let room = rw c.deref-2.ensures at c.fragment_room.ensures.value in
    omega (arith, few, room)
