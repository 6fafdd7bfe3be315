-- The answer to an unrecognized hop-by-hop option (RFC 8200 4.2).
use Rattle.std.specs.Prelude.{ℕ, List, Option, Some, None, if◌then◌else◌}
use Rattle.ip_address.specs.declared.cidr.IpCidr.{IpCidr}
use Rattle.ip_address.specs.Ipv6.{is_multicast}
use Rattle.ip_wire.specs.declared.ipv6_packet.Ipv6Repr.{Ipv6Repr}
use Rattle.ip_wire.specs.declared.hop_by_hop.Ipv6OptionFailureType.{Ipv6OptionFailureType}
use Rattle.ip_wire.specs.declared.hop_by_hop.Ipv6OptionFailureType.TheVariants.{Skip, Discard, DiscardSendAll}
use Rattle.ip_wire.specs.declared.hop_by_hop.Ipv6OptionFailureType.TheVariants.{DiscardSendUnicast}
use Rattle.control_wire.specs.declared.icmpv6.Icmpv6ParamProblem.TheVariants.{UnrecognizedOption}
use Rattle.host_machine.specs.Receive.Reply.{Reply}
use Rattle.host_machine.specs.Icmp.Icmpv6.{problem}

-- the answer to an unrecognized option: a parameter problem, quoting from the options on; by its class also to a
-- multicast packet, or not
abbrev pub unknown_option : Ipv6OptionFailureType → List IpCidr → Ipv6Repr → List ℕ → Option Reply
unknown_option Skip own r payload = None
unknown_option Discard own r payload = None
unknown_option DiscardSendAll own r payload = Some (problem own UnrecognizedOption r payload)
unknown_option DiscardSendUnicast own r payload =
    if is_multicast r.dst_addr then None else Some (problem own UnrecognizedOption r payload)
