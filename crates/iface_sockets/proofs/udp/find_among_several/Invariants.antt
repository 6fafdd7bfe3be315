use Rattle.std.proofs.Common.{◌≤◌, ◌-◌, length}
use Rattle.host_machine.specs.Context.Host.{no_sockets}
use Rattle.host_machine.specs.Sockets.Udp.{accepts}
use Rattle.iface_context.specs.Stands.{host_of}
use Rattle.host_machine.proofs.Sockets.OtherPorts.{NoneBefore}
use Rattle.iface_sockets.proofs.udp.find_among_several.Given as goal

-- no place below the index accepts it
abbrev pub invariant-loop-index : goal.invariant-loop-index
invariant-loop-index l = (l.index ≤ length l.sockets.places)
    × NoneBefore (accepts (host_of l.context no_sockets).ip_addrs l.header l.ports) l.sockets.places l.index

abbrev pub decreases-loop-index : goal.decreases-loop-index
decreases-loop-index l = length l.sockets.places - l.index
