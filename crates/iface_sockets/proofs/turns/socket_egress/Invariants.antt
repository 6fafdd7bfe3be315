use Rattle.std.proofs.Common.{◌≡◌, ◌≤◌, ◌-◌, length, true}
use Rattle.iface_context.specs.Stands.{host_in}
use Rattle.fragmentation.specs.Slots.{Slots}
use Rattle.iface_context.specs.Refines.{RefinesTelling}
use Rattle.host_machine.specs.Sockets.Turns.{Walks}
use Rattle.iface_sockets.proofs.turns.socket_egress.Given as goal

abbrev pub invariant-loop-index : goal.invariant-loop-index
invariant-loop-index g l =
    ((slots : Slots) → RefinesTelling g.D.Device.tells l.fn.device l.device
    (Walks (host_in l.fn.context slots l.fn.sockets) l.index true l.changed) (host_in l.context slots l.sockets))
    × (length l.sockets.places ≡ length l.fn.sockets.places)
    × (l.index ≤ length l.sockets.places)

abbrev pub decreases-loop-index : goal.decreases-loop-index
decreases-loop-index g l = length l.sockets.places - l.index
