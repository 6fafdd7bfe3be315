-- What is done with a packet, over plain variables.
use Rattle.std.proofs.Common.{◌≡◌, ◌⊎◌, inl, inr, ℕ, Bool, true, false, List, [], Option, None, length, ◌≤◌, refl, ap, ◌∙◌}
use Rattle.net_base.specs.Checksum.{is_rx}
use Rattle.ip_address.specs.declared.ethernet_address.EthernetAddress.{EthernetAddress}
use Rattle.ip_address.specs.declared.hardware.HardwareAddress.TheVariants as hardware
use Rattle.ip_address.specs.declared.ip.IpAddress.TheVariants.{Ipv4}
use Rattle.ip_wire.specs.declared.ipv4_packet.Ipv4Repr.{Ipv4Repr}
use Rattle.ip_wire.specs.declared.ip_packet.IpRepr.TheVariants as repr
use Rattle.ip_address.specs.declared.protocol.IpProtocol.{IpProtocol}
use Rattle.ip_address.specs.declared.protocol.IpProtocol.TheVariants as protocol
use Rattle.ip_wire.specs.declared.ethernet.EthernetProtocol.{EthernetProtocol}
use Rattle.ip_wire.specs.declared.ethernet.EthernetProtocol.TheVariants as ethertype
use Rattle.ip_wire.specs.declared.ethernet.EthernetRepr.{EthernetRepr}
use Rattle.ip_wire.specs.Ethernet.{ethernet_in}
use Rattle.host_machine.specs.Context.Host.{Host}
use Rattle.host_machine.specs.Receive.Reply.{Reply}
use Rattle.host_machine.specs.Discovery.Arp.{NotForUs}
use Rattle.ip_address.specs.declared.hardware.HardwareAddress.{HardwareAddress}
use Rattle.ip_wire.specs.declared.ipv4_packet.Ipv4Fragment.{Ipv4Fragment}
use Rattle.ip_wire.specs.Ipv4Packet.{IsIpv4, ipv4_in}
use Rattle.host_machine.specs.Context.Addresses.{is_for_host}
use Rattle.host_machine.specs.Sockets.Raw.{host_after_raw_delivery, is_taken}
use Rattle.host_machine.specs.Discovery.Renewal.{sender_renewed}
use Rattle.host_machine.specs.Context.Note.{Note}
use Rattle.host_machine.specs.Receive.Ethernet.{ProcessesFrame, ProcessesEthernet, ProcessesIp, ProcessesEthertype, is_for}
use Rattle.host_machine.specs.Receive.Ethernet as ethernet
use Rattle.host_machine.specs.Receive.Ipv4 as ipv4
use Rattle.host_machine.specs.Receive.Ipv4.{ProcessesProtocol, ProcessesPacket, ProcessesDatagram, ProcessesIpv4, Read}
use Rattle.host_machine.specs.Icmp.Icmpv4.{unreachable}
use Rattle.control_wire.specs.declared.icmpv4.Icmpv4DstUnreachable.TheVariants.{ProtoUnreachable}
use Rattle.iface_context.proofs.Processing.{dropped}

-- a packet is read, and taken
pub ipv4_read : (source : HardwareAddress) (H K : Host) (octets payload : List ℕ) (r : Ipv4Repr) (f : Ipv4Fragment) (checked : Bool)
    (reply : Option Reply) (notes : List Note) →
    checked ≡ is_rx H.capabilities.checksum.ipv4 → IsIpv4 checked octets × ((r, f, payload) ≡ ipv4_in octets) →
    ProcessesPacket source r f H payload reply notes K → ProcessesIpv4 source H octets reply notes K
ipv4_read source H K octets payload r f checked reply notes tests is takes =
    let same_header : r ≡ (ipv4_in octets).0 = ap (λ (p : Ipv4Repr × Ipv4Fragment × List ℕ). p.0) is.1 in
    let same_fragment : f ≡ (ipv4_in octets).1 = ap (λ (p : Ipv4Repr × Ipv4Fragment × List ℕ). p.1) is.1 in
    let same_payload : payload ≡ (ipv4_in octets).2 = ap (λ (p : Ipv4Repr × Ipv4Fragment × List ℕ). p.2) is.1 in
    Read (rw tests at is.0) (rw (same_header, same_fragment, same_payload) at takes)

-- a packet for another host is heard by raw sockets alone
pub packet_for_others : (source : HardwareAddress) (H K : Host) (r : Ipv4Repr) (payload : List ℕ) →
    is_for_host H (Ipv4 r.dst_addr) ≡ false → K ≡ host_after_raw_delivery (repr.Ipv4 r) payload H → ProcessesDatagram source r H payload None [] K
packet_for_others source H K r payload others hears = rw hears (ipv4.NotForUs others (dropped (host_after_raw_delivery (repr.Ipv4 r) payload H)))

-- a packet for the host is taken by its protocol
pub packet_accepted : (source : HardwareAddress) (H J K L : Host) (r : Ipv4Repr) (payload : List ℕ) (handled_by_raw_socket : Bool)
    (reply : Option Reply) (notes : List Note) →
    is_for_host H (Ipv4 r.dst_addr) ≡ true → handled_by_raw_socket ≡ is_taken (repr.Ipv4 r) H → J ≡ host_after_raw_delivery (repr.Ipv4 r) payload H →
    K ≡ sender_renewed source (repr.Ipv4 r) J →
    ProcessesProtocol r.next_header handled_by_raw_socket r K payload reply notes L → ProcessesDatagram source r H payload reply notes L
packet_accepted source H J K L r payload handled_by_raw_socket reply notes ours taken hears renews takes =
    let renewed : K ≡ sender_renewed source (repr.Ipv4 r) (host_after_raw_delivery (repr.Ipv4 r) payload H) = renews
    ∙ ap (sender_renewed source (repr.Ipv4 r)) hears in
    ipv4.Accepted ours (rw (renewed, taken) at takes)

-- a protocol that nobody here speaks
pub protocol_refused : (p : IpProtocol) (raw : Bool) (r : Ipv4Repr) (H : Host) (octets : List ℕ) →
    (p ≡ protocol.HopByHop) ⊎ ((p ≡ protocol.Icmpv6) ⊎ ((number : ℕ) × (p ≡ protocol.Unknown number))) →
    ProcessesProtocol p raw r H octets (unreachable raw H.ip_addrs ProtoUnreachable r octets) [] H
protocol_refused p raw r H octets (inl is) = rw is (record { replied = refl; unnoted = refl; unchanged = refl })
protocol_refused p raw r H octets (inr (inl is)) = rw is (record { replied = refl; unnoted = refl; unchanged = refl })
protocol_refused p raw r H octets (inr (inr unknown)) = rw unknown.1 (record { replied = refl; unnoted = refl; unchanged = refl })

-- a payload of another type
pub payload_dropped : (t : EthernetProtocol) (own source : EthernetAddress) (H : Host) (payload : List ℕ) →
    ((number : ℕ) × (t ≡ ethertype.Unknown number)) → ProcessesEthertype own source H t payload None [] H
payload_dropped t own source H payload unknown = rw unknown.1 (dropped H)

-- octets that are no packet
pub ipv4_malformed : (source : HardwareAddress) (H : Host) (octets : List ℕ) (checked : Bool) →
    checked ≡ is_rx H.capabilities.checksum.ipv4 → (IsIpv4 checked octets → ⊥) → ProcessesIpv4 source H octets None [] H
ipv4_malformed source H octets checked tests none = ipv4.Malformed (rw tests at none) (dropped H)

-- a payload is taken by its protocol
pub taken_by_protocol : (p q : IpProtocol) (raw : Bool) (r : Ipv4Repr) (H K : Host) (octets : List ℕ)
    (reply : Option Reply) (notes : List Note) → p ≡ q →
    ProcessesProtocol q raw r H octets reply notes K → ProcessesProtocol p raw r H octets reply notes K
taken_by_protocol p q raw r H K octets reply notes is takes = rw is takes

-- a frame is taken by its medium
pub frame_taken : (h : HardwareAddress) (own : EthernetAddress) (H K : Host) (frame : List ℕ) (reply : Option Reply) (notes : List Note) →
    h ≡ hardware.Ethernet own →
    ProcessesEthernet own H frame reply notes K → ProcessesFrame h H frame reply notes K
frame_taken h own H K frame reply notes is takes = rw is takes

pub packet_taken : (h : HardwareAddress) (H K : Host) (frame : List ℕ) (reply : Option Reply) (notes : List Note) →
    h ≡ hardware.Ip → ProcessesIp H frame reply notes K → ProcessesFrame h H frame reply notes K
packet_taken h H K frame reply notes is takes = rw is takes

-- a frame's payload is taken, or it is for another interface
pub ethernet_read : (own : EthernetAddress) (H K : Host) (frame payload : List ℕ) (e : EthernetRepr) (reply : Option Reply) (notes : List Note) →
    14 ≤ length frame × ((e, payload) ≡ ethernet_in frame) →
    is_for own e.dst_addr ≡ true → ProcessesEthertype own e.src_addr H e.ethertype payload reply notes K → ProcessesEthernet own H frame reply notes K
ethernet_read own H K frame payload e reply notes is ours takes =
    let same_header : e ≡ (ethernet_in frame).0 = ap (λ (p : EthernetRepr × List ℕ). p.0) is.1 in
    let same_payload : payload ≡ (ethernet_in frame).1 = ap (λ (p : EthernetRepr × List ℕ). p.1) is.1 in
    ethernet.Accepted is.0 (rw same_header at ours) (rw (same_header, same_payload) at takes)

pub ethernet_refused : (own : EthernetAddress) (H : Host) (frame payload : List ℕ) (e : EthernetRepr) →
    14 ≤ length frame × ((e, payload) ≡ ethernet_in frame) →
    is_for own e.dst_addr ≡ false → ProcessesEthernet own H frame None [] H
ethernet_refused own H frame payload e is others =
    let same_header : e ≡ (ethernet_in frame).0 = ap (λ (p : EthernetRepr × List ℕ). p.0) is.1 in
    ethernet.NotForUs is.0 (rw same_header at others) (dropped H)
