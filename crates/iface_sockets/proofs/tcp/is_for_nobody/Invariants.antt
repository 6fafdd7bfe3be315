use Rattle.std.proofs.Common.{◌≡◌, ◌≤◌, ◌-◌, length}
use Rattle.ip_wire.specs.Octets.{u16_at}
use Rattle.ip_wire.specs.declared.ip_packet.IpRepr.{IpRepr}
use Rattle.ip_wire.specs.declared.tcp.TcpRepr.{TcpRepr}
use Rattle.host_machine.specs.Sockets.Tcp.{accepts}
use Rattle.host_machine.proofs.Sockets.OtherPorts.{NoneBefore}
use Rattle.iface_sockets.proofs.tcp.is_for_nobody.Given as goal

-- no place below the index accepts a segment to the port
abbrev pub invariant-loop-index : goal.invariant-loop-index
invariant-loop-index l = (l.index ≤ length l.sockets.places)
    × ((r : IpRepr) (t : TcpRepr) → t.dst_port ≡ u16_at l.octets 2 → NoneBefore (accepts r t) l.sockets.places l.index)

abbrev pub decreases-loop-index : goal.decreases-loop-index
decreases-loop-index l = length l.sockets.places - l.index
