use Rattle.std.proofs.Common.{◌≤◌, ◌-◌, length}
use Rattle.fragmentation.specs.Slots.{Slots}
use Rattle.host_machine.specs.Interface.Due.{IsLeast}
use Rattle.host_machine.proofs.Interface.EarliestInstant.{DueBelow}
use Rattle.iface_context.specs.Stands.{host_in}
use Rattle.iface_sockets.proofs.polling.least_from.Given as goal

abbrev pub invariant-loop-index : goal.invariant-loop-index
invariant-loop-index l =
    ((slots : Slots) → IsLeast (DueBelow (host_in l.context slots l.sockets) l.index) l.least)
    × (l.index ≤ length l.sockets.places)

abbrev pub decreases-loop-index : goal.decreases-loop-index
decreases-loop-index l = length l.sockets.places - l.index
