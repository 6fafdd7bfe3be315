-- What an ICMP socket sends.
use Rattle.std.specs.Prelude.{ℕ, List, Option, Some, None}
use Rattle.control_wire.specs.declared.icmpv4.Icmpv4Repr.{Icmpv4Repr}
use Rattle.control_wire.specs.declared.icmpv4.Icmpv4Repr.TheVariants as v4
use Rattle.control_wire.specs.declared.icmpv6.Icmpv6Repr.{Icmpv6Repr}
use Rattle.control_wire.specs.declared.icmpv6.Icmpv6Repr.TheVariants as v6
use Rattle.control_wire.specs.declared.icmp.IcmpRepr.{IcmpRepr}
use Rattle.control_wire.specs.declared.icmp.IcmpRepr.TheVariants as icmp
use Rattle.host_machine.specs.Packet.Packet.{IpPayload, Icmpv4, Icmpv6}

-- an ICMP socket sends only echo messages
abbrev pub if_echo_v4 : Icmpv4Repr → List ℕ → Option IpPayload
if_echo_v4 (v4.EchoRequest ident seq_no) octets = Some (Icmpv4 (v4.EchoRequest ident seq_no) octets)
if_echo_v4 (v4.EchoReply ident seq_no) octets = Some (Icmpv4 (v4.EchoReply ident seq_no) octets)
if_echo_v4 (v4.DstUnreachable reason header) octets = None
if_echo_v4 (v4.TimeExceeded code header) octets = None

abbrev pub if_echo_v6 : Icmpv6Repr → List ℕ → Option IpPayload
if_echo_v6 (v6.EchoRequest ident seq_no) octets = Some (Icmpv6 (v6.EchoRequest ident seq_no) octets)
if_echo_v6 (v6.EchoReply ident seq_no) octets = Some (Icmpv6 (v6.EchoReply ident seq_no) octets)
if_echo_v6 (v6.DstUnreachable reason header) octets = None
if_echo_v6 (v6.PktTooBig mtu header) octets = None
if_echo_v6 (v6.TimeExceeded code header) octets = None
if_echo_v6 (v6.ParamProblem reason pointer header) octets = None
if_echo_v6 (v6.Ndisc message) octets = None
if_echo_v6 (v6.Router message) octets = None
if_echo_v6 (v6.Mld message) octets = None

abbrev pub echo_payload : IcmpRepr → List ℕ → Option IpPayload
echo_payload (icmp.Ipv4 message) octets = if_echo_v4 message octets
echo_payload (icmp.Ipv6 message) octets = if_echo_v6 message octets
