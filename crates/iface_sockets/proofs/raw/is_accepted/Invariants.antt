use Rattle.std.proofs.Common.{◌≤◌, ◌-◌, length}
use Rattle.host_machine.specs.Sockets.Raw.{takes}
use Rattle.host_machine.proofs.Sockets.OtherPorts.{NoneBefore}
use Rattle.iface_sockets.proofs.raw.is_accepted.Given as goal

-- no socket below the index takes it
abbrev pub invariant-loop-index : goal.invariant-loop-index
invariant-loop-index l = (l.index ≤ length l.sockets.places) × NoneBefore (takes l.header) l.sockets.places l.index

abbrev pub decreases-loop-index : goal.decreases-loop-index
decreases-loop-index l = length l.sockets.places - l.index
