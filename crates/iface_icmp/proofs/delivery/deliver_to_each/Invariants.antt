use Rattle.std.proofs.Common.{◌≡◌, ◌≤◌, ◌-◌, length}
use Rattle.socket_set.specs.SocketSet.{with_places}
use Rattle.host_machine.specs.Sockets.Delivery.{to_this}
use Rattle.host_machine.specs.Icmp.Delivery.{accepts, storage_after_delivery}
use Rattle.host_machine.proofs.Sockets.SocketIteration.{mapped}
use Rattle.iface_icmp.proofs.delivery.deliver_to_each.Given as goal

-- the sockets below the index got the message, if they take it, and the others are as they were
abbrev pub invariant-loop-index : goal.invariant-loop-index
invariant-loop-index l =
    (l.index ≤ length l.fn.sockets.places) × (length l.sockets.places ≡ length l.fn.sockets.places) ×
    (l.sockets ≡ with_places l.fn.sockets
    (mapped (to_this (accepts l.message l.contents) (storage_after_delivery l.remote l.octets)) l.index l.fn.sockets.places))

abbrev pub decreases-loop-index : goal.decreases-loop-index
decreases-loop-index l = length l.sockets.places - l.index
