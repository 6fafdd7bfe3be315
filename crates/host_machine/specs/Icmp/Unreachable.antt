-- Port unreachable errors, by the family of the packet (RFC 1122 3.2.2.1, RFC 4443 3.1), unless a raw
-- socket accepted the packet.
use Rattle.std.specs.Prelude.{ℕ, Bool, List, Option}
use Rattle.ip_address.specs.declared.cidr.IpCidr.{IpCidr}
use Rattle.ip_wire.specs.declared.ip_packet.IpRepr.{IpRepr}
use Rattle.ip_wire.specs.declared.ip_packet.IpRepr.TheVariants.{Ipv4, Ipv6}
use Rattle.control_wire.specs.declared.icmpv4.Icmpv4DstUnreachable.TheVariants.{PortUnreachable}
use Rattle.host_machine.specs.Icmp.Icmpv4.{unreachable}
use Rattle.host_machine.specs.Icmp.Icmpv6 as icmpv6
use Rattle.host_machine.specs.Receive.Reply.{Reply}

abbrev pub port_unreachable : Bool → List IpCidr → IpRepr → List ℕ → Option Reply
port_unreachable handled_by_raw_socket own (Ipv4 r) payload =
    unreachable handled_by_raw_socket own PortUnreachable r payload
port_unreachable handled_by_raw_socket own (Ipv6 r) payload =
    icmpv6.port_unreachable handled_by_raw_socket own r payload
