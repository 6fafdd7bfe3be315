-- What is done with a frame leaves the UDP sockets as they were, or hands one of them one datagram.
use Rattle.std.proofs.Common.{◌≡◌, ◌⊎◌, inl, inr, ℕ, ◌==◌, Bool, true, false, List, [], refl, sym, ◌∙◌, ap}
use Rattle.std.proofs.Common.{subst, Option, Some, None, slice_get, slice_set, if◌then◌else◌, option_and_then}
use Rattle.std.specs.Prelude.{pos, ◌+ℤ◌}
use Rattle.net_base.specs.Checksum.{is_rx}
use Rattle.ip_address.specs.declared.ethernet_address.EthernetAddress.{EthernetAddress}
use Rattle.ip_address.specs.declared.hardware.HardwareAddress.{HardwareAddress}
use Rattle.ip_address.specs.declared.ip.IpAddress.{IpAddress}
use Rattle.ip_address.specs.declared.ipv4.Ipv4Address.{Ipv4Address}
use Rattle.ip_address.specs.declared.ipv6.Ipv6Address.{Ipv6Address}
use Rattle.ip_address.specs.declared.protocol.IpProtocol.{IpProtocol}
use Rattle.ip_address.specs.declared.protocol.IpProtocol.TheVariants as protocol
use Rattle.ip_wire.specs.declared.ip_packet.IpRepr.{IpRepr}
use Rattle.ip_wire.specs.declared.ip_packet.IpRepr.TheVariants as repr
use Rattle.ip_wire.specs.declared.ipv4_packet.Ipv4Repr.{Ipv4Repr}
use Rattle.ip_wire.specs.declared.tcp.TcpRepr.{TcpRepr}
use Rattle.ip_wire.specs.IpPacket.{src_addr, dst_addr}
use Rattle.ip_wire.specs.Tcp.{tcp_in}
use Rattle.ip_wire.specs.Udp.{IsUdp, udp_in}
use Rattle.ip_wire.specs.declared.ipv6_packet.Ipv6Repr.{Ipv6Repr}
use Rattle.control_wire.specs.declared.icmpv6.Icmpv6Repr.{Icmpv6Repr}
use Rattle.control_wire.specs.declared.icmpv6.Icmpv6Repr.TheVariants as icmpv6_message
use Rattle.control_wire.specs.declared.ndisc.NdiscRepr.{NdiscRepr}
use Rattle.control_wire.specs.Icmpv6.{icmpv6_in}
use Rattle.control_wire.specs.declared.igmp.IgmpRepr.{IgmpRepr}
use Rattle.control_wire.specs.declared.igmp.IgmpRepr.TheVariants.{MembershipQuery, MembershipReport, LeaveGroup}
use Rattle.control_wire.specs.Igmp.{igmp_in}
use Rattle.control_wire.specs.declared.mld.MldRepr.{MldRepr}
use Rattle.control_wire.specs.declared.mld.MldRepr.TheVariants.{Query, Report}
use Rattle.iface_tables.specs.declared.report.IgmpReportState.TheVariants as igmp_state
use Rattle.iface_tables.specs.declared.report.MldReportState.TheVariants as mld_state
use Rattle.control_wire.specs.declared.icmp.IcmpRepr.{IcmpRepr}
use Rattle.iface_tables.specs.Neighbor.{first_neighbors, after_renewal, expiry_from}
use Rattle.iface_tables.specs.Slaac.{initial_state}
use Rattle.sockets.specs.declared.socket.SocketOf.TheVariants.{Raw, Icmp, Udp, Tcp}
use Rattle.sockets.specs.Kinds.{down_udp}
use Rattle.sockets.specs.Udp as udp_socket
use Rattle.sockets.specs.Udp.{UdpSocket}
use Rattle.fragmentation.specs.Slots.{free_slots}
use Rattle.host_machine.specs.Context.Note.{Note}
use Rattle.host_machine.specs.Context.Host.{Host, Storage, no_sockets, with_places, with_neighbors}
use Rattle.host_machine.specs.Context.Addresses.{is_broadcast, is_for_host, is_unicast}
use Rattle.host_machine.specs.Sockets.Delivery.{DeliversFirst, holds}
use Rattle.host_machine.specs.Receive.Reply.{Reply}
use Rattle.host_machine.specs.Discovery.Renewal.{sender_renewed}
use Rattle.host_machine.specs.Sockets.Raw as raw
use Rattle.host_machine.specs.Icmp.Delivery as icmp
use Rattle.host_machine.specs.Icmp.Icmpv4.{ProcessesIcmpv4}
use Rattle.host_machine.specs.Icmp.Icmpv4 as icmpv4
use Rattle.host_machine.specs.Icmp.Icmpv6.{ProcessesIcmpv6, ProcessesMessage}
use Rattle.host_machine.specs.Icmp.Icmpv6 as icmpv6
use Rattle.host_machine.specs.Discovery.Ndisc.{ProcessesNdisc, ProcessesNdiscMessage, Learns}
use Rattle.host_machine.specs.Discovery.Ndisc as ndisc
use Rattle.host_machine.specs.Multicast.Igmp as igmp_rules
use Rattle.host_machine.specs.Multicast.Mld as mld_rules
use Rattle.host_machine.specs.Receive.Ipv4 as ipv4
use Rattle.host_machine.specs.Receive.Ipv6 as ipv6
use Rattle.host_machine.specs.Sockets.Tcp.{ProcessesTcp}
use Rattle.host_machine.specs.Sockets.Tcp as tcp
use Rattle.host_machine.specs.Sockets.Udp.{ProcessesUdp}
use Rattle.host_machine.specs.Sockets.Udp as udp
use Rattle.host_laws.specs.Deliveries.{udp_at}
use Rattle.host_laws.proofs.Places.{udp_of, each_same, set_same, set_other}
use Rattle.host_laws.proofs.Places as places

-- what deliveries read of a host; the rest set to one value
abbrev pub seen : Host → Host
seen H = record H {
  neighbors = first_neighbors 0;
  ipv4_id = 0;
  reassembly_timeout = 0;
  slots = free_slots 0;
  left = [];
  igmp_report = igmp_state.Inactive;
  mld_report = mld_state.Inactive;
  slaac = initial_state;
  slaac_updated_at = pos 0;
  random = 0;
  sockets = no_sockets;
}

-- that stays, and so do the UDP sockets
pub record Same (old new : Host) : Type 0 where
  pub seen_is : seen new ≡ seen old
  pub udp_is : (i : ℕ) → udp_at new.sockets i ≡ udp_at old.sockets i

pub same : {old new : Host} → new ≡ old → Same old new
same e = record { seen_is = ap seen e; udp_is = λ i. ap (λ (K : Host). udp_at K.sockets i) e }

pub same_by : {old mid new : Host} → new ≡ mid → Same old mid → Same old new
same_by e s = record { seen_is = ap seen e ∙ s.seen_is; udp_is = λ i. ap (λ (K : Host). udp_at K.sockets i) e ∙ s.udp_is i }

pub same_then : {a b c : Host} → Same a b → Same b c → Same a c
same_then s t = record { seen_is = t.seen_is ∙ s.seen_is; udp_is = λ i. t.udp_is i ∙ s.udp_is i }

-- where only what isn't read changes
pub unread : {old new : Host} → seen new ≡ seen old → new.sockets ≡ old.sockets → Same old new
unread e s = record { seen_is = e; udp_is = λ i. ap (λ t. udp_at t i) s }

-- what a socket of another kind gets
raw_same : (summed : Bool) (r : IpRepr) (payload : List ℕ) (p : Storage) →
    places.udp_in (raw.storage_after_delivery summed r payload p) ≡ places.udp_in p
raw_same summed r payload None = refl
raw_same summed r payload (Some (Raw s)) = refl
raw_same summed r payload (Some (Icmp s)) = refl
raw_same summed r payload (Some (Udp s)) = refl
raw_same summed r payload (Some (Tcp s)) = refl

icmp_same : (remote : IpAddress) (octets : List ℕ) (p : Storage) → places.udp_in (icmp.storage_after_delivery remote octets p) ≡ places.udp_in p
icmp_same remote octets None = refl
icmp_same remote octets (Some (Raw s)) = refl
icmp_same remote octets (Some (Icmp s)) = refl
icmp_same remote octets (Some (Udp s)) = refl
icmp_same remote octets (Some (Tcp s)) = refl

tcp_same : (r : IpRepr) (t : TcpRepr) (payload : List ℕ) (p : Storage) → places.udp_in (tcp.storage_after_delivery r t payload p) ≡ places.udp_in p
tcp_same r t payload None = refl
tcp_same r t payload (Some (Raw s)) = refl
tcp_same r t payload (Some (Icmp s)) = refl
tcp_same r t payload (Some (Udp s)) = refl
tcp_same r t payload (Some (Tcp s)) = refl

pub raw_heard : (r : IpRepr) (payload : List ℕ) (H : Host) → Same H (raw.host_after_raw_delivery r payload H)
raw_heard r payload H = record { seen_is = refl; udp_is = λ i. each_same (raw.takes r) _ (raw_same _ r payload) H.sockets.places i }

icmp_heard : (message : IcmpRepr) (contents : List ℕ) (remote : IpAddress) (octets : List ℕ) (H : Host) →
    Same H (icmp.host_after_delivery message contents remote octets H)
icmp_heard message contents remote octets H =
    record { seen_is = refl; udp_is = λ i. each_same (icmp.accepts message contents) _ (icmp_same remote octets) H.sockets.places i }

pub sender_same : (source : HardwareAddress) (r : IpRepr) (H : Host) → Same H (sender_renewed source r H)
sender_same source r H = by (is_unicast H.ip_addrs (dst_addr r)) where
  by : (b : Bool) → Same H (if b then with_neighbors H (after_renewal H.neighbors (src_addr r) source (expiry_from H.moment)) else H)
  by true = unread refl refl
  by false = same refl

-- the protocols but UDP
pub tcp_taken : {handled_by_raw_socket : Bool} {r : IpRepr} {H new : Host} {octets : List ℕ} {reply : Option Reply} {notes : List Note} →
    ProcessesTcp handled_by_raw_socket r H octets reply notes new → Same H new
tcp_taken (tcp.BetweenUnspecified b d) = same d.unchanged
tcp_taken (tcp.Malformed b m d) = same d.unchanged
tcp_taken {handled_by_raw_socket} {r} {H} {new} {octets} (tcp.Delivered index place b t f e n s) = same_by s (record {
  seen_is = refl;
  udp_is = λ i. set_same H.sockets.places index place
      (tcp.storage_after_delivery r (tcp_in octets).0 (tcp_in octets).1 place) f.is_there (tcp_same r (tcp_in octets).0 (tcp_in octets).1 place) i;
})
tcp_taken (tcp.NotAccepted b t none e n s) = same s

pub icmpv4_taken : {r : Ipv4Repr} {H new : Host} {octets : List ℕ} {reply : Option Reply} {notes : List Note} →
    ProcessesIcmpv4 r H octets reply notes new → Same H new
icmpv4_taken (icmpv4.Malformed m d) = same d.unchanged
icmpv4_taken {r} {H} {new} {octets} (icmpv4.Taken i e n s) = same_by s (icmp_heard _ _ _ octets H)

asked_same : (H : Host) (dst : Ipv4Address) (m : IgmpRepr) → Same H (igmp_rules.host_after_igmp H dst m)
asked_same H dst (MembershipQuery code group) = unread refl refl
asked_same H dst (MembershipReport group version) = same refl
asked_same H dst (LeaveGroup group) = same refl

pub igmp_taken : {r : Ipv4Repr} {H new : Host} {octets : List ℕ} {reply : Option Reply} {notes : List Note} →
    igmp_rules.ProcessesIgmp r H octets reply notes new → Same H new
igmp_taken (igmp_rules.Malformed m d) = same d.unchanged
igmp_taken {r} {H} {new} {octets} (igmp_rules.Taken i e n s) = same_by s (asked_same H r.dst_addr (igmp_in octets))

mld_same : (H : Host) (r : Ipv6Repr) (code : ℕ) (group : Ipv6Address) → Same H (mld_rules.host_after_mld_query H r code group)
mld_same H r code group = by (mld_rules.is_near r) where
  by : (b : Bool) → Same H (if b then record H {
    mld_report = mld_rules.mld_report_for H r.dst_addr (H.moment +ℤ pos (mld_rules.delay code H.random)) group;
    random = mld_rules.random_after_draw code H.random;
  } else H)
  by true = unread refl refl
  by false = same refl

mld_taken : (r : Ipv6Repr) (m : MldRepr) (H : Host) (reply : Option Reply) (notes : List Note) (new : Host) →
    mld_rules.ProcessesMld r m H reply notes new → Same H new
mld_taken r (Query code group) H reply notes new t = same_by t.2 (mld_same H r code group)
mld_taken r (Report count) H reply notes new t = same t.unchanged

learns_same : (o : Option EthernetAddress) (a : Ipv6Address) (H new : Host) → Learns o a H new → Same H new
learns_same None a H new l = same l
learns_same (Some h) a H new l = same_by l.same (unread refl refl)

heard_same : {own : EthernetAddress} {r : Ipv6Repr} {message : NdiscRepr} {H new : Host} {reply : Option Reply} {notes : List Note} →
    ProcessesNdiscMessage own r H reply notes new message → Same H new
heard_same {own} {r} {message} {H} {new} (ndisc.Advertised flags target lladdr l e n) = learns_same _ r.src_addr H new l
heard_same (ndisc.NoUnicast target lladdr nobody d) = same d.unchanged
heard_same {own} {r} {message} {H} {new} (ndisc.Solicited target lladdr specified l e n) = learns_same _ r.src_addr H new l

ndisc_taken : {r : Ipv6Repr} {message : NdiscRepr} {H new : Host} {reply : Option Reply} {notes : List Note} →
    ProcessesNdisc r message H reply notes new → Same H new
ndisc_taken (ndisc.FromAfar far d) = same d.unchanged
ndisc_taken (ndisc.WithoutAddresses without d) = same d.unchanged
ndisc_taken (ndisc.FromNeighbor own near mine h) = heard_same h

message_taken : (r : Ipv6Repr) (m : Icmpv6Repr) (octets : List ℕ) (H : Host) (reply : Option Reply) (notes : List Note) (new : Host) →
    ProcessesMessage r m octets H reply notes new → Same H new
message_taken r (icmpv6_message.EchoRequest ident seq_no) octets H reply notes new t = same t.2
message_taken r (icmpv6_message.Ndisc message) octets H reply notes new t = ndisc_taken t
message_taken r (icmpv6_message.Router message) octets H reply notes new t = same_by t.2 (unread refl refl)
message_taken r (icmpv6_message.Mld message) octets H reply notes new t = mld_taken r message H reply notes new t
message_taken r (icmpv6_message.EchoReply ident seq_no) octets H reply notes new t = same t.unchanged
message_taken r (icmpv6_message.DstUnreachable reason header) octets H reply notes new t = same t.unchanged
message_taken r (icmpv6_message.PktTooBig mtu header) octets H reply notes new t = same t.unchanged
message_taken r (icmpv6_message.TimeExceeded code header) octets H reply notes new t = same t.unchanged
message_taken r (icmpv6_message.ParamProblem reason pointer header) octets H reply notes new t = same t.unchanged

pub icmpv6_taken : {r : Ipv6Repr} {H new : Host} {octets : List ℕ} {reply : Option Reply} {notes : List Note} →
    ProcessesIcmpv6 r H octets reply notes new → Same H new
icmpv6_taken (icmpv6.Malformed m d) = same d.unchanged
icmpv6_taken {r} {H} {new} {octets} {reply} {notes} (icmpv6.Taken i t) =
    same_then (icmp_heard _ _ _ octets H)
    (message_taken r (icmpv6_in octets).0 (icmpv6_in octets).1 (icmpv6.host_after_delivery r octets H) reply notes new t)

-- one UDP socket was handed a datagram that it hears, and the others are as they were
pub record Hands (r : IpRepr) (octets : List ℕ) (H new : Host) : Type 0 where
  pub seen_is : seen new ≡ seen H
  pub index : ℕ
  pub socket : UdpSocket
  pub there : udp_at H.sockets index ≡ Some socket
  pub is_udp : IsUdp (is_rx H.capabilities.checksum.udp) (src_addr r) (dst_addr r) octets
  pub hears : udp_socket.accepts (is_broadcast H.ip_addrs) socket (dst_addr r) (udp_in octets).0.dst_port ≡ true
  pub udp_is : (i : ℕ) → udp_at new.sockets i
      ≡ (if index == i then Some (udp_socket.socket_after_delivery (udp.sender r (udp_in octets).0) (udp_in octets).1 socket) else udp_at H.sockets i)

-- behind what leaves the sockets as they were
pub hands_after : {r : IpRepr} {octets : List ℕ} {H mid new : Host} → Same H mid → Hands r octets mid new → Hands r octets H new
hands_after {r} {octets} {H} {mid} {new} s h =
    let caps : mid.capabilities ≡ H.capabilities = ap (λ (K : Host). K.capabilities) s.seen_is in
    let own : mid.ip_addrs ≡ H.ip_addrs = ap (λ (K : Host). K.ip_addrs) s.seen_is in
    record {
      seen_is = h.seen_is ∙ s.seen_is;
      index = h.index;
      socket = h.socket;
      there = sym (s.udp_is h.index) ∙ h.there;
      is_udp = subst (λ c. IsUdp (is_rx c.checksum.udp) (src_addr r) (dst_addr r) octets) caps h.is_udp;
      hears = subst (λ a. udp_socket.accepts (is_broadcast a) h.socket (dst_addr r) (udp_in octets).0.dst_port ≡ true) own h.hears;
      udp_is = λ i. h.udp_is i
          ∙ ap (λ o. if h.index == i then Some (udp_socket.socket_after_delivery (udp.sender r (udp_in octets).0) (udp_in octets).1 h.socket) else o)
          (s.udp_is i);
    }

-- a place that meets a test on UDP sockets has one
record Meets (test : UdpSocket → Bool) (place : Storage) : Type 0 where
  socket : UdpSocket
  is : place ≡ Some (Udp socket)
  met : test socket ≡ true

meets : (test : UdpSocket → Bool) (place : Storage) → holds down_udp test place ≡ true → Meets test place
meets test None m = absurd cc
meets test (Some (Raw s)) m = absurd cc
meets test (Some (Icmp s)) m = absurd cc
meets test (Some (Udp s)) m = record { socket = s; is = refl; met = m }
meets test (Some (Tcp s)) m = absurd cc

udp_delivered : {r : IpRepr} {H new : Host} {octets : List ℕ} (places_new : List Storage) →
    IsUdp (is_rx H.capabilities.checksum.udp) (src_addr r) (dst_addr r) octets →
    DeliversFirst (udp.accepts H.ip_addrs r (udp_in octets).0) (udp.storage_after_delivery r (udp_in octets).0 (udp_in octets).1)
    H.sockets.places places_new → new ≡ with_places H places_new → Hands r octets H new
udp_delivered {r} {H} {new} {octets} places_new u f e =
    let m = meets (λ s. udp_socket.accepts (is_broadcast H.ip_addrs) s (dst_addr r) (udp_in octets).0.dst_port) f.place f.first.accepts in
    let there : slice_get H.sockets.places f.index ≡ Some (Some (Udp m.socket)) = f.first.is_there ∙ ap (λ p. Some p) m.is in
    let put : places_new
    ≡ slice_set H.sockets.places f.index (udp.storage_after_delivery r (udp_in octets).0 (udp_in octets).1 (Some (Udp m.socket))) =
    f.changed ∙ ap (λ p. slice_set H.sockets.places f.index (udp.storage_after_delivery r (udp_in octets).0 (udp_in octets).1 p)) m.is in
    record {
      seen_is = ap seen e;
      index = f.index;
      socket = m.socket;
      there = ap (λ o. option_and_then down_udp (option_and_then (λ (place : Storage). place) o)) there;
      is_udp = u;
      hears = m.met;
      udp_is = λ i. ap (λ (K : Host). udp_at K.sockets i) e ∙ ap (λ ps. udp_of ps i) put
          ∙ set_other H.sockets.places f.index (Some (Udp m.socket))
          (udp.storage_after_delivery r (udp_in octets).0 (udp_in octets).1 (Some (Udp m.socket))) there i;
    }

udp_taken : {handled_by_raw_socket : Bool} {r : IpRepr} {H new : Host} {octets : List ℕ} {reply : Option Reply} {notes : List Note} →
    ProcessesUdp handled_by_raw_socket r H octets reply notes new → Same H new ⊎ Hands r octets H new
udp_taken (udp.Malformed m d) = inl (same d.unchanged)
udp_taken (udp.Delivered places_new u f o n e) = inr (udp_delivered places_new u f e)
udp_taken (udp.NotAccepted u none o n e) = inl (same e)

-- by protocol: one socket gets a datagram only of UDP
protocol_v4 : (p : IpProtocol) (handled_by_raw_socket : Bool) (r : Ipv4Repr) (H : Host) (octets : List ℕ) (reply : Option Reply) (notes : List Note)
    (new : Host) → ipv4.ProcessesProtocol p handled_by_raw_socket r H octets reply notes new →
    Same H new ⊎ ((p ≡ protocol.Udp) × Hands (repr.Ipv4 r) octets H new)
protocol_v4 protocol.Icmp handled_by_raw_socket r H octets reply notes new t = inl (icmpv4_taken t)
protocol_v4 protocol.Udp handled_by_raw_socket r H octets reply notes new t = by (udp_taken t) where
  by : Same H new ⊎ Hands (repr.Ipv4 r) octets H new → Same H new ⊎ ((protocol.Udp ≡ protocol.Udp) × Hands (repr.Ipv4 r) octets H new)
  by (inl s) = inl s
  by (inr h) = inr (refl, h)
protocol_v4 protocol.Tcp handled_by_raw_socket r H octets reply notes new t = inl (tcp_taken t)
protocol_v4 protocol.Igmp handled_by_raw_socket r H octets reply notes new t = inl (igmp_taken t)
protocol_v4 protocol.HopByHop handled_by_raw_socket r H octets reply notes new t = inl (same t.unchanged)
protocol_v4 protocol.Icmpv6 handled_by_raw_socket r H octets reply notes new t = inl (same t.unchanged)
protocol_v4 (protocol.Unknown n) handled_by_raw_socket r H octets reply notes new t = inl (same t.unchanged)

protocol_v6 : (p : IpProtocol) (handled_by_raw_socket : Bool) (r : Ipv6Repr) (H : Host) (octets : List ℕ) (reply : Option Reply) (notes : List Note)
    (new : Host) → ipv6.ProcessesProtocol p handled_by_raw_socket r H octets reply notes new →
    Same H new ⊎ ((p ≡ protocol.Udp) × Hands (repr.Ipv6 r) octets H new)
protocol_v6 protocol.Icmpv6 handled_by_raw_socket r H octets reply notes new t = inl (icmpv6_taken t)
protocol_v6 protocol.Udp handled_by_raw_socket r H octets reply notes new t = by (udp_taken t) where
  by : Same H new ⊎ Hands (repr.Ipv6 r) octets H new → Same H new ⊎ ((protocol.Udp ≡ protocol.Udp) × Hands (repr.Ipv6 r) octets H new)
  by (inl s) = inl s
  by (inr h) = inr (refl, h)
protocol_v6 protocol.Tcp handled_by_raw_socket r H octets reply notes new t = inl (tcp_taken t)
protocol_v6 protocol.Icmp handled_by_raw_socket r H octets reply notes new t = inl (same t.unchanged)
protocol_v6 protocol.Igmp handled_by_raw_socket r H octets reply notes new t = inl (same t.unchanged)
protocol_v6 protocol.HopByHop handled_by_raw_socket r H octets reply notes new t = inl (same t.unchanged)
protocol_v6 (protocol.Unknown n) handled_by_raw_socket r H octets reply notes new t = inl (same t.unchanged)

-- a packet for the host by its header, the protocol of its payload, and its payload
pub record HandsPacket (p : IpProtocol) (r : IpRepr) (payload : List ℕ) (H new : Host) : Type 0 where
  pub is_udp : p ≡ protocol.Udp
  pub for_host : is_for_host H (dst_addr r) ≡ true
  pub hands : Hands r payload H new

-- raw sockets hear it first, and its sender may be renewed
prepared : (source : HardwareAddress) (r : IpRepr) (payload : List ℕ) (H : Host) →
    Same H (sender_renewed source r (raw.host_after_raw_delivery r payload H))
prepared source r payload H = same_then (raw_heard r payload H) (sender_same source r (raw.host_after_raw_delivery r payload H))

packet_handed : {p : IpProtocol} {r : IpRepr} {payload : List ℕ} {H mid new : Host} →
    Same H mid → is_for_host H (dst_addr r) ≡ true → Same mid new ⊎ ((p ≡ protocol.Udp) × Hands r payload mid new) →
    Same H new ⊎ HandsPacket p r payload H new
packet_handed s u (inl t) = inl (same_then s t)
packet_handed s u (inr h) = inr (record { is_udp = h.0; for_host = u; hands = hands_after s h.1 })

pub whole_v4 : {source : HardwareAddress} {r : Ipv4Repr} {H new : Host} {payload : List ℕ} {reply : Option Reply} {notes : List Note} →
    ipv4.ProcessesDatagram source r H payload reply notes new →
    Same H new ⊎ HandsPacket r.next_header (repr.Ipv4 r) payload H new
whole_v4 {source} {r} {H} {new} {payload} (ipv4.NotForUs u d) = inl (same_then (raw_heard (repr.Ipv4 r) payload H) (same d.unchanged))
whole_v4 {source} {r} {H} {new} {payload} {reply} {notes} (ipv4.Accepted u t) =
    packet_handed (prepared source (repr.Ipv4 r) payload H) u (protocol_v4 r.next_header _ r _ payload reply notes new t)

pub payload_v6 : {source : HardwareAddress} {r : Ipv6Repr} {p : IpProtocol} {H new : Host} {payload : List ℕ} {reply : Option Reply}
    {notes : List Note} → ipv6.ProcessesDatagramV6 source r p H payload reply notes new →
    Same H new ⊎ HandsPacket p (repr.Ipv6 r) payload H new
payload_v6 (ipv6.NotForUs u d) = inl (same d.unchanged)
payload_v6 {source} {r} {p} {H} {new} {payload} {reply} {notes} (ipv6.Accepted u t) =
    packet_handed (prepared source (repr.Ipv6 r) payload H) u (protocol_v6 p _ r _ payload reply notes new t)
