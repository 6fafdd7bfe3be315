-- Frames that solicit no router.
use Rattle.std.proofs.Common.{◌≡◌, ℕ, ◌==◌, Bool, true, false, List, ◌++◌, length, refl, ◌⊎◌, inl, inr}
use Rattle.std.proofs.lemmas.Bool.Decides.{Decides-eqb}
use Rattle.std.specs.Prelude.{◌&&◌, slice_index}
use Rattle.net_base.specs.Checksum.{is_tx}
use Rattle.net_base.specs.declared.phy.Medium.{Medium}
use Rattle.net_base.specs.declared.phy.Medium.TheVariants as medium
use Rattle.ip_wire.specs.Octets.{u16_at}
use Rattle.ip_address.specs.declared.ethernet_address.EthernetAddress.{EthernetAddress}
use Rattle.ip_address.specs.declared.hardware.HardwareAddress.{HardwareAddress}
use Rattle.ip_address.specs.declared.hardware.HardwareAddress.TheVariants as hardware
use Rattle.ip_address.specs.declared.ip.IpAddress.TheVariants as address
use Rattle.ip_address.specs.declared.ipv6.Ipv6Address.{Ipv6Address}
use Rattle.ip_address.specs.Hardware.{IsOf}
use Rattle.ip_address.specs.Protocol.{number_of}
use Rattle.ip_address.proofs.SixOctets.{six}
use Rattle.ip_wire.specs.declared.arp.ArpRepr.{ArpRepr}
use Rattle.ip_wire.specs.declared.ethernet.EthernetProtocol.TheVariants as protocol
use Rattle.ip_wire.specs.Arp.{ipv4_over_ethernet}
use Rattle.ip_wire.specs.declared.ipv6_packet.Ipv6Repr.{Ipv6Repr}
use Rattle.ip_wire.specs.Ipv6Packet as ipv6_packet
use Rattle.control_wire.specs.declared.icmpv6.Icmpv6Repr.{Icmpv6Repr}
use Rattle.control_wire.specs.declared.icmpv6.Icmpv6Repr.TheVariants as v6
use Rattle.control_wire.specs.declared.ndisc.NdiscRepr.TheVariants.{NeighborSolicit, NeighborAdvert}
use Rattle.control_wire.specs.declared.router.RouterRepr.TheVariants.{RouterSolicit, RouterAdvert}
use Rattle.control_wire.specs.Icmpv6 as icmpv6
use Rattle.control_wire.specs.declared.mld.MldRepr.TheVariants.{Query, Report}
use Rattle.fragmentation.specs.Cuts.{Piece}
use Rattle.host_machine.specs.Context.Host.{Host}
use Rattle.host_machine.specs.Packet.Packet.{Packet, IpPayload, payload_of}
use Rattle.host_machine.specs.Packet.Packet as packet
use Rattle.host_machine.specs.Packet.Frame.{arp_frame, ip_frame, link_header, piece_frame, piece_text}
use Rattle.host_laws.specs.Laws.Requests.{is_arp_request, is_request, is_solicitation}
use Rattle.host_laws.specs.Laws.Solicitations.{is_router_solicitation}
use Rattle.host_laws.proofs.Discovery.LearntNeighbors.{and_both, or_either}
use Rattle.host_laws.proofs.Interface.OwnMessages.{may_solicit, may_solicit_v6}

-- a frame of IPv4
of_ipv4 : (H : Host) (own : EthernetAddress) (h : HardwareAddress) (text : List ℕ) →
    H.hardware_addr ≡ hardware.Ethernet own → length own.0 ≡ 6 → IsOf medium.Ethernet h →
    is_router_solicitation medium.Ethernet (link_header H.hardware_addr h protocol.Ipv4 ++ text) ≡ false
of_ipv4 H own (hardware.Ethernet a) text is own_len len = let o6 = six own.0 own_len in let a6 = six a.0 len in rw (is, o6.is, a6.is) refl
of_ipv4 H own hardware.Ip text is own_len len = absurd len

-- one of IPv6 with another next header, or with another message
of_other_header : (H : Host) (own : EthernetAddress) (h : HardwareAddress) (r : Ipv6Repr) (text : List ℕ) →
    H.hardware_addr ≡ hardware.Ethernet own → length own.0 ≡ 6 → IsOf medium.Ethernet h → (number_of r.next_header == 58) ≡ false →
    is_router_solicitation medium.Ethernet (link_header H.hardware_addr h protocol.Ipv6 ++ (ipv6_packet.header_text r ++ text)) ≡ false
unfolding ipv6_packet.header_text
of_other_header H own (hardware.Ethernet a) r text is own_len len other =
    let o6 = six own.0 own_len in let a6 = six a.0 len in rw (is, o6.is, a6.is, other) refl
of_other_header H own hardware.Ip r text is own_len len other = absurd len

of_other_message : (H : Host) (own : EthernetAddress) (h : HardwareAddress) (r : Ipv6Repr) (m : Icmpv6Repr) (sum : ℕ) (body octets : List ℕ) →
    H.hardware_addr ≡ hardware.Ethernet own → length own.0 ≡ 6 → IsOf medium.Ethernet h → (number_of r.next_header == 58) ≡ true →
    (icmpv6.type_of m == 133) ≡ false → is_router_solicitation medium.Ethernet
    (link_header H.hardware_addr h protocol.Ipv6 ++ (ipv6_packet.header_text r ++ ((icmpv6.head_with sum m ++ body) ++ octets))) ≡ false
unfolding ipv6_packet.header_text ipv6_packet.address_text icmpv6.head_with
of_other_message H own (hardware.Ethernet a) r m sum body octets is own_len len icmp other =
    let o6 = six own.0 own_len in let a6 = six a.0 len in rw (is, o6.is, a6.is, icmp, other) refl
of_other_message H own hardware.Ip r m sum body octets is own_len len icmp other = absurd len

other_type : (m : Icmpv6Repr) → may_solicit_v6 m ≡ false → (icmpv6.type_of m == 133) ≡ false
other_type (v6.Ndisc (NeighborSolicit target lladdr)) e = refl
other_type (v6.Ndisc (NeighborAdvert flags target lladdr)) e = refl
other_type (v6.Router (RouterSolicit lladdr)) e = absurd cc
other_type (v6.Router (RouterAdvert hop_limit flags lifetime lladdr prefix)) e = refl
other_type (v6.Mld (Query code group)) e = refl
other_type (v6.Mld (Report count)) e = refl
other_type others e = refl

of_ipv6 : (H : Host) (own : EthernetAddress) (h : HardwareAddress) (src dst : Ipv6Address) (hop_limit : ℕ) (payload : IpPayload) →
    H.hardware_addr ≡ hardware.Ethernet own → length own.0 ≡ 6 → IsOf medium.Ethernet h →
    may_solicit payload ≡ false → is_router_solicitation medium.Ethernet
    (ip_frame H h (packet.Ipv6 (record { src_addr = src; dst_addr = dst; hop_limit = hop_limit; payload = payload }))) ≡ false
of_ipv6 H own h src dst hop_limit (packet.Icmpv4 m octets) is len to none = of_other_header H own h _ _ is len to refl
of_ipv6 H own h src dst hop_limit (packet.Icmpv6 m octets) is len to none =
    of_other_message H own h (packet.header_v6 (record { src_addr = src; dst_addr = dst; hop_limit = hop_limit; payload = packet.Icmpv6 m octets })) m
    (icmpv6.sum_of (is_tx H.capabilities.checksum.icmpv6) (address.Ipv6 src) (address.Ipv6 dst) m octets)
    (icmpv6.body m) octets is len to refl (other_type m none)
of_ipv6 H own h src dst hop_limit (packet.Udp header octets) is len to none = of_other_header H own h _ _ is len to refl
of_ipv6 H own h src dst hop_limit (packet.Tcp header octets) is len to none = of_other_header H own h _ _ is len to refl
of_ipv6 H own h src dst hop_limit (packet.Raw number octets) is len to none = of_other_header H own h _ _ is len to none
of_ipv6 H own h src dst hop_limit (packet.Igmp m) is len to none = of_other_header H own h _ _ is len to refl
of_ipv6 H own h src dst hop_limit (packet.Mld count records) is len to none = of_other_header H own h _ _ is len to refl

on_ethernet : (H : Host) (own : EthernetAddress) (h : HardwareAddress) (p : Packet) →
    H.hardware_addr ≡ hardware.Ethernet own → length own.0 ≡ 6 → IsOf medium.Ethernet h →
    may_solicit (payload_of p) ≡ false → is_router_solicitation medium.Ethernet (ip_frame H h p) ≡ false
on_ethernet H own h (packet.Ipv4 p) is len to none = of_ipv4 H own h _ is len to
on_ethernet H own h (packet.Ipv6 p) is len to none = of_ipv6 H own h p.src_addr p.dst_addr p.hop_limit p.payload is len to none

-- that of a packet which solicits none; of a piece; and of ARP
pub quiet_packet : (m : Medium) (H : Host) (hw h : HardwareAddress) (p : Packet) →
    H.hardware_addr ≡ hw → IsOf m hw → IsOf m h → may_solicit (payload_of p) ≡ false → is_router_solicitation m (ip_frame H h p) ≡ false
quiet_packet medium.Ethernet H (hardware.Ethernet own) h p is len to none = on_ethernet H own h p is len to none
quiet_packet medium.Ethernet H hardware.Ip h p is len to none = absurd len
quiet_packet medium.Ip H hw h p is len to none = refl

pub quiet_piece : (m : Medium) (H : Host) (hw : HardwareAddress) (p : Piece) →
    H.hardware_addr ≡ hw → IsOf m hw → IsOf m p.destination → is_router_solicitation m (piece_frame H p) ≡ false
quiet_piece medium.Ethernet H (hardware.Ethernet own) p is len to = of_ipv4 H own p.destination (piece_text H.capabilities p) is len to
quiet_piece medium.Ethernet H hardware.Ip p is len to = absurd len
quiet_piece medium.Ip H hw p is len to = refl

of_arp : (r : ArpRepr) → length r.source_hardware_addr.0 ≡ 6 → length r.target_hardware_addr.0 ≡ 6 →
    is_router_solicitation medium.Ethernet (arp_frame r) ≡ false
unfolding ipv4_over_ethernet
of_arp r own to = let o6 = six r.source_hardware_addr.0 own in let t6 = six r.target_hardware_addr.0 to in rw (o6.is, t6.is) refl

pub quiet_arp : (m : Medium) (r : ArpRepr) → IsOf m (hardware.Ethernet r.source_hardware_addr) → IsOf m (hardware.Ethernet r.target_hardware_addr) →
    is_router_solicitation m (arp_frame r) ≡ false
quiet_arp medium.Ethernet r own to = of_arp r own to
quiet_arp medium.Ip r own to = refl

-- and that of a request for a hardware address
never : (b : Bool) → (b && false) ≡ false
never true = refl
never false = refl

by_type : (frame : List ℕ) → ((u16_at frame 12 ≡ 0x0806) ⊎ (slice_index frame 54 ≡ 135)) → is_router_solicitation medium.Ethernet frame ≡ false
by_type frame (inl e) = rw e refl
by_type frame (inr e) = rw e (never (u16_at frame 12 == 0x86dd && slice_index frame 20 == 58))

pub quiet_request : (m : Medium) (frame : List ℕ) → is_request m frame ≡ true → is_router_solicitation m frame ≡ false
quiet_request medium.Ethernet frame is = by_type frame (by (or_either (is_arp_request frame) (is_solicitation frame) is)) where
  by : ((is_arp_request frame ≡ true) ⊎ (is_solicitation frame ≡ true)) → (u16_at frame 12 ≡ 0x0806) ⊎ (slice_index frame 54 ≡ 135)
  by (inl e) = inl ((Decides-eqb (u16_at frame 12) 0x0806).0 (and_both (u16_at frame 12 == 0x0806) (u16_at frame 20 == 1) e).0)
  by (inr e) = inr ((Decides-eqb (slice_index frame 54) 135).0
      (and_both (u16_at frame 12 == 0x86dd && slice_index frame 20 == 58) (slice_index frame 54 == 135) e).1)
quiet_request medium.Ip frame is = refl
