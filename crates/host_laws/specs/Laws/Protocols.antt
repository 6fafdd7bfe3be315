-- What a host must do with a packet of a protocol that it doesn't know, or with an option that asks to be told of where it
-- isn't known: it tells the sender by an error (RFC 1122 3.2.2.1, RFC 8200 4, 4.2).
use Rattle.std.specs.Prelude.{◌≡◌, ◌≢◌, ◌⊎◌, ℕ, ◌≤◌, ℤ, true, false, List, [], ◌∷◌, take}
use Rattle.std.specs.List.{AllByRecursion}
use Rattle.net_base.specs.Checksum.{ip_mtu_of}
use Rattle.net_base.specs.Device.{Event, sent_frames}
use Rattle.ip_address.specs.Ipv6 as ipv6
use Rattle.ip_address.specs.Protocol.{number_of}
use Rattle.ip_address.specs.declared.hardware.HardwareAddress.{HardwareAddress}
use Rattle.ip_address.specs.declared.ip.IpAddress.TheVariants.{Ipv4, Ipv6}
use Rattle.ip_address.specs.declared.protocol.IpProtocol.{IpProtocol}
use Rattle.ip_address.specs.declared.protocol.IpVersion.TheVariants as version
use Rattle.ip_wire.specs.declared.ipv4_packet.Ipv4Repr.{Ipv4Repr}
use Rattle.ip_wire.specs.declared.ipv6_packet.Ipv6Repr.{Ipv6Repr}
use Rattle.control_wire.specs.declared.icmpv4.Icmpv4Repr.TheVariants.{DstUnreachable}
use Rattle.control_wire.specs.declared.icmpv4.Icmpv4DstUnreachable.TheVariants.{ProtoUnreachable}
use Rattle.control_wire.specs.declared.icmpv6.Icmpv6Repr.TheVariants.{ParamProblem}
use Rattle.control_wire.specs.declared.icmpv6.Icmpv6ParamProblem.TheVariants.{UnrecognizedNxtHdr, UnrecognizedOption}
use Rattle.ip_wire.specs.HopByHop.{IsHopByHop, hop_by_hop_in, first_failure}
use Rattle.ip_wire.specs.declared.hop_by_hop.Ipv6OptionFailureType.TheVariants.{DiscardSendAll, DiscardSendUnicast}
use Rattle.host_machine.specs.Context.Host.{Host, at, is_assigned}
use Rattle.host_machine.specs.Packet.Packet.{Icmpv4, Icmpv6}
use Rattle.host_machine.specs.Packet.Packet as packet
use Rattle.host_machine.specs.Packet.Frame.{ip_frame}
use Rattle.host_laws.specs.Laws.Restraint.Replies.{IsNoRawFor}
use Rattle.host_laws.specs.Laws.Service.{HasPacketV4, HasPacketV6, HasPayloadV6, HasWay, IsToItself, Takes}

-- the number of a protocol of IPv4 other than ICMP, IGMP, TCP and UDP
pub record IsUnknownV4 (number : ℕ) : Type 0 where
  pub no_icmp : number ≢ 1
  pub no_igmp : number ≢ 2
  pub no_tcp : number ≢ 6
  pub no_udp : number ≢ 17

-- if no raw socket takes the packet, the call sends the protocol unreachable error and nothing else. The error quotes the
-- packet's header and the first octets of its payload (RFC 1122 3.2.2.1)
abbrev pub AnswersUnknownProtocols : ℤ → Host → List Event → Host → Type 0
AnswersUnknownProtocols t old told new =
    (own : HardwareAddress) (frame : List ℕ) (r : Ipv4Repr) (payload : List ℕ) (h : HardwareAddress) →
    Takes own t frame old told new → IsToItself own frame → HasPacketV4 own old frame r payload →
    IsUnknownV4 (number_of r.next_header) → AllByRecursion (IsNoRawFor version.Ipv4 r.next_header) old.sockets.places →
    HasWay own (at old t) (Ipv4 r.src_addr) h → 576 ≤ ip_mtu_of old.capabilities →
    sent_frames told ≡ ip_frame old h (packet.Ipv4 (record {
      src_addr = r.dst_addr;
      dst_addr = r.src_addr;
      hop_limit = 64;
      payload = Icmpv4 (DstUnreachable ProtoUnreachable r) (take 528 payload);
    })) ∷ []

-- the number of a protocol of IPv6 other than hop-by-hop options, TCP, UDP and ICMPv6
pub record IsUnknownV6 (number : ℕ) : Type 0 where
  pub no_options : number ≢ 0
  pub no_tcp : number ≢ 6
  pub no_udp : number ≢ 17
  pub no_icmpv6 : number ≢ 58

-- so it is with one of IPv6, after the header or after hop-by-hop options: the error is a parameter problem of code 1. Its
-- pointer is 40: kept, against RFC 8200 4 and RFC 4443 3.4, by which it is the offset of the field. That it quotes what is
-- behind options and not them, and that each such packet brings one, is kept, against RFC 4443 2.4 (c) and (f)
abbrev pub AnswersUnknownProtocolsV6 : ℤ → Host → List Event → Host → Type 0
AnswersUnknownProtocolsV6 t old told new =
    (own : HardwareAddress) (frame : List ℕ) (r : Ipv6Repr) (p : IpProtocol) (payload : List ℕ) (h : HardwareAddress) →
    Takes own t frame old told new → IsToItself own frame → HasPayloadV6 own old frame r p payload →
    IsUnknownV6 (number_of p) → AllByRecursion (IsNoRawFor version.Ipv6 r.next_header) old.sockets.places →
    ipv6.is_unicast r.dst_addr ≡ true → is_assigned old.ip_addrs (Ipv6 r.dst_addr) ≡ true →
    HasWay own (at old t) (Ipv6 r.src_addr) h → 1280 ≤ ip_mtu_of old.capabilities →
    sent_frames told ≡ ip_frame old h (packet.Ipv6 (record {
      src_addr = r.dst_addr;
      dst_addr = r.src_addr;
      hop_limit = 64;
      payload = Icmpv6 (ParamProblem UnrecognizedNxtHdr 40 r) (take 1192 payload);
    })) ∷ []

abbrev pub UnknownProtocolsAreAnswered : Type 0
UnknownProtocolsAreAnswered = (t : ℤ) (old new : Host) (told : List Event) →
    AnswersUnknownProtocols t old told new × AnswersUnknownProtocolsV6 t old told new

-- a packet's hop-by-hop options have one that the host doesn't know, and that asks to be told of: the first one that isn't to
-- be skipped has type bits 10; or 11, by which it isn't told of where the destination is a group (RFC 8200 4.2)
pub record AsksToBeTold (r : Ipv6Repr) (octets : List ℕ) : Type 0 where
  pub first : number_of r.next_header ≡ 0
  pub are_options : IsHopByHop octets
  pub asks : (first_failure (hop_by_hop_in octets).0.options.items ≡ DiscardSendAll)
      ⊎ ((first_failure (hop_by_hop_in octets).0.options.items ≡ DiscardSendUnicast) × (ipv6.is_multicast r.dst_addr ≡ false))

-- the call that receives it sends a parameter problem of code 2, which quotes the packet's header and the first octets of its
-- options, and nothing else. Its pointer is 40: kept, against RFC 4443 3.4, by which it is the option's offset. Each such
-- packet brings one: kept, against RFC 4443 2.4 (f)
abbrev pub AnswersUnknownOptions : ℤ → Host → List Event → Host → Type 0
AnswersUnknownOptions t old told new =
    (own : HardwareAddress) (frame : List ℕ) (r : Ipv6Repr) (octets : List ℕ) (h : HardwareAddress) →
    Takes own t frame old told new → IsToItself own frame → HasPacketV6 own old frame r octets → AsksToBeTold r octets →
    ipv6.is_unicast r.dst_addr ≡ true → is_assigned old.ip_addrs (Ipv6 r.dst_addr) ≡ true →
    HasWay own (at old t) (Ipv6 r.src_addr) h → 1280 ≤ ip_mtu_of old.capabilities →
    sent_frames told ≡ ip_frame old h (packet.Ipv6 (record {
      src_addr = r.dst_addr;
      dst_addr = r.src_addr;
      hop_limit = 64;
      payload = Icmpv6 (ParamProblem UnrecognizedOption 40 r) (take 1192 octets);
    })) ∷ []

abbrev pub UnknownOptionsAreAnswered : Type 0
UnknownOptionsAreAnswered = (t : ℤ) (old new : Host) (told : List Event) → AnswersUnknownOptions t old told new
