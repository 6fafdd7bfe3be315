use Rattle.std.proofs.Common.{◌≤◌, ◌-◌, length}
use Rattle.host_machine.specs.Icmp.Delivery.{accepts}
use Rattle.host_machine.proofs.Sockets.OtherPorts.{NoneBefore}
use Rattle.iface_icmp.proofs.delivery.is_accepted.Given as goal

-- no socket below the index takes it
abbrev pub invariant-loop-index : goal.invariant-loop-index
invariant-loop-index l = (l.index ≤ length l.sockets.places) × NoneBefore (accepts l.message l.contents) l.sockets.places l.index

abbrev pub decreases-loop-index : goal.decreases-loop-index
decreases-loop-index l = length l.sockets.places - l.index
