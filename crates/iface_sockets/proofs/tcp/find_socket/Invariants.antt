use Rattle.std.proofs.Common.{◌≤◌, ◌-◌, length}
use Rattle.host_machine.specs.Sockets.Tcp.{accepts}
use Rattle.host_machine.proofs.Sockets.OtherPorts.{NoneBefore}
use Rattle.iface_sockets.proofs.tcp.find_socket.Given as goal

-- no place below the index accepts it
abbrev pub invariant-loop-index : goal.invariant-loop-index
invariant-loop-index l = (l.index ≤ length l.sockets.places) × NoneBefore (accepts l.header l.repr) l.sockets.places l.index

abbrev pub decreases-loop-index : goal.decreases-loop-index
decreases-loop-index l = length l.sockets.places - l.index
