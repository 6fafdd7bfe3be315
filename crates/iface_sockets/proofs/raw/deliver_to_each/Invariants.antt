use Rattle.std.proofs.Common.{◌≡◌, ◌≤◌, ◌-◌, length}
use Rattle.socket_set.specs.SocketSet.{with_places}
use Rattle.host_machine.specs.Sockets.Delivery.{to_this}
use Rattle.host_machine.specs.Sockets.Raw.{storage_after_delivery, takes}
use Rattle.host_machine.proofs.Sockets.SocketIteration.{mapped, any_of}
use Rattle.iface_sockets.proofs.raw.deliver_to_each.Given as goal

-- the sockets below the index got the packet, if they take it, and the others are as they were
abbrev pub invariant-loop-index : goal.invariant-loop-index
invariant-loop-index l =
    (l.index ≤ length l.fn.sockets.places) × (length l.sockets.places ≡ length l.fn.sockets.places) ×
    (l.sockets
    ≡ with_places l.fn.sockets (mapped (to_this (takes l.header) (storage_after_delivery l.summed l.header l.payload)) l.index l.fn.sockets.places)) ×
    (l.taken ≡ any_of (takes l.header) l.index l.fn.sockets.places)

abbrev pub decreases-loop-index : goal.decreases-loop-index
decreases-loop-index l = length l.sockets.places - l.index
