-- What each rule of a host does to its neighbours: it leaves them, renews the sender's entry, or stores the sender.
use Rattle.std.proofs.Common.{◌≡◌, ◌⊎◌, ℕ, Bool, true, false, List, refl, sym, ◌∙◌, ap, subst, Option, Some, None, inl, inr}
use Rattle.std.specs.Prelude.{◌&&◌, ◌||◌, not, ℤ, pos, ◌+ℤ◌, IsTrue, is_some, if◌then◌else◌}
use Rattle.std.specs.FinMap as map
use Rattle.ip_address.specs.EthernetAddress as ethernet_address
use Rattle.ip_address.specs.Ipv6 as ipv6_address
use Rattle.ip_address.specs.Protocol.{number_of}
use Rattle.ip_address.specs.declared.ethernet_address.EthernetAddress.{EthernetAddress}
use Rattle.ip_address.specs.declared.hardware.HardwareAddress.{HardwareAddress}
use Rattle.ip_address.specs.declared.hardware.HardwareAddress.TheVariants.{Ethernet}
use Rattle.ip_address.specs.declared.ip.IpAddress.{IpAddress}
use Rattle.ip_address.specs.declared.ip.IpAddress.TheVariants.{Ipv4, Ipv6}
use Rattle.ip_address.specs.declared.ipv6.Ipv6Address.{Ipv6Address}
use Rattle.ip_address.specs.declared.protocol.IpProtocol.{IpProtocol}
use Rattle.ip_address.specs.declared.protocol.IpProtocol.TheVariants as protocol
use Rattle.ip_wire.specs.HopByHop.{hop_by_hop_in}
use Rattle.ip_wire.specs.IpPacket.{dst_addr, src_addr}
use Rattle.ip_wire.specs.Ipv4Packet.{ipv4_in}
use Rattle.ip_wire.specs.Ipv6Packet.{IsIpv6, ipv6_in}
use Rattle.ip_wire.specs.declared.ip_packet.IpRepr.{IpRepr}
use Rattle.ip_wire.specs.declared.ip_packet.IpRepr.TheVariants as repr
use Rattle.ip_wire.specs.declared.ipv4_packet.Ipv4Fragment.{Ipv4Fragment}
use Rattle.ip_wire.specs.declared.ipv4_packet.Ipv4Repr.{Ipv4Repr}
use Rattle.ip_wire.specs.declared.ipv6_packet.Ipv6Repr.{Ipv6Repr}
use Rattle.control_wire.specs.Icmpv6.{IsBody, icmpv6_in}
use Rattle.control_wire.specs.Igmp.{igmp_in}
use Rattle.control_wire.specs.declared.icmpv6.Icmpv6Repr.{Icmpv6Repr}
use Rattle.control_wire.specs.declared.icmpv6.Icmpv6Repr.TheVariants as icmp
use Rattle.control_wire.specs.declared.igmp.IgmpRepr.{IgmpRepr}
use Rattle.control_wire.specs.declared.igmp.IgmpRepr.TheVariants.{LeaveGroup, MembershipQuery, MembershipReport}
use Rattle.control_wire.specs.declared.mld.MldRepr.{MldRepr}
use Rattle.control_wire.specs.declared.mld.MldRepr.TheVariants.{Query, Report}
use Rattle.control_wire.specs.declared.ndisc.NdiscNeighborFlags.{NdiscNeighborFlags}
use Rattle.control_wire.specs.declared.ndisc.NdiscRepr.{NdiscRepr}
use Rattle.iface_tables.specs.Neighbor.{Fills, answer_of, is_found, Neighbors, Puts, after_renewal, expiry_from, is_same, renewed_from}
use Rattle.iface_tables.specs.declared.neighbor.Neighbor.{Neighbor}
use Rattle.host_machine.specs.Context.Addresses.{is_unicast}
use Rattle.host_machine.specs.Context.Host.{Host, with_neighbors}
use Rattle.host_machine.specs.Context.Note.{Note}
use Rattle.host_machine.specs.Discovery.Ndisc.{Learns, ProcessesNdisc, ProcessesNdiscMessage, advertised_lladdr, has_override, usable_lladdr}
use Rattle.host_machine.specs.Discovery.Ndisc as ndisc
use Rattle.host_machine.specs.Discovery.Renewal.{sender_renewed}
use Rattle.host_machine.specs.Icmp.Icmpv4.{ProcessesIcmpv4}
use Rattle.host_machine.specs.Icmp.Icmpv4 as icmpv4
use Rattle.host_machine.specs.Icmp.Icmpv6.{ProcessesIcmpv6, ProcessesMessage}
use Rattle.host_machine.specs.Icmp.Icmpv6 as icmpv6
use Rattle.host_machine.specs.Multicast.Igmp as igmp_rules
use Rattle.host_machine.specs.Multicast.Mld as mld_rules
use Rattle.host_machine.specs.Receive.Ipv4.{ProcessesDatagram, ProcessesIpv4, ProcessesPacket}
use Rattle.host_machine.specs.Receive.Ipv4 as ip
use Rattle.host_machine.specs.Receive.Ipv6.{ProcessesDatagramV6, ProcessesHopByHop, ProcessesIpv6}
use Rattle.host_machine.specs.Receive.Ipv6 as ipv6
use Rattle.host_machine.specs.Receive.Reply.{Reply}
use Rattle.host_machine.specs.Sockets.Raw as raw
use Rattle.host_machine.specs.Sockets.Tcp.{ProcessesTcp}
use Rattle.host_machine.specs.Sockets.Tcp as tcp
use Rattle.host_machine.specs.Sockets.Udp.{ProcessesUdp}
use Rattle.host_machine.specs.Sockets.Udp as udp
use Rattle.host_laws.specs.Laws.Restraint.Neighbors.{Gives}
use Rattle.guard_laws.proofs.CountLemmas.{Known}
use Rattle.guard_laws.proofs.StrangerLemmas.{found, put_twice}

-- what a rule does at t: nothing; or who is heard at an address is renewed; or, if the rule tells of him, he is stored
pub data Did (Tells : EthernetAddress → Type 0) (a : IpAddress) (t : ℤ) (old new : Neighbors) : Type 0 where
  Left : new ≡ old → Did Tells a t old new
  Heard : (h : HardwareAddress) → new ≡ after_renewal old a h (t +ℤ pos 60000000) → Did Tells a t old new
  Told : (h : EthernetAddress) → Tells h → Fills old new a (record { hardware_addr = Ethernet h; expires_at = t +ℤ pos 60000000 }) →
      Did Tells a t old new

pub did_so : {Tells Other : EthernetAddress → Type 0} {a : IpAddress} {t : ℤ} {old new : Neighbors} → ((h : EthernetAddress) → Tells h → Other h) → Did Tells a t old new → Did Other a t old new
did_so so (Left e) = Left e
did_so so (Heard h e) = Heard h e
did_so so (Told h tells fills) = Told h (so h tells) fills

-- a rule that tells of nobody
abbrev Nobody : EthernetAddress → Type 0
Nobody h = ⊥

-- and one that renews nobody
data Said (Told : EthernetAddress → Type 0) (a : IpAddress) (t : ℤ) (old new : Neighbors) : Type 0 where
  Unsaid : new ≡ old → Said Told a t old new
  Tells : (h : EthernetAddress) → Told h → Fills old new a (record { hardware_addr = Ethernet h; expires_at = t +ℤ pos 60000000 }) →
      Said Told a t old new

said_so : {T Other : EthernetAddress → Type 0} {a : IpAddress} {t : ℤ} {old new : Neighbors} → ((h : EthernetAddress) → T h → Other h) →
    Said T a t old new → Said Other a t old new
said_so so (Unsaid e) = Unsaid e
said_so so (Tells h tells fills) = Tells h (so h tells) fills

-- whoever was renewed is there
renewed_there : (m : Known) (a : IpAddress) (x : Neighbor) → IsTrue (map.contains_key (map.insert m a x) a)
renewed_there m a x = let t : IsTrue (is_some (map.get (map.insert m a x) a)) = rw (found m a x) refl in t

-- storing somebody whose entry was renewed is storing him
over_renewal : (room : ℕ) (m new : Known) (a : IpAddress) (h : HardwareAddress) (end : ℤ) (n : Neighbor) →
    Puts room (renewed_from (map.get m a) m a h end) new a n → Puts room m new a n
over_renewal room m new a h end n puts = by (map.get m a) refl puts where
  by : (o : Option Neighbor) → map.get m a ≡ o → Puts room (renewed_from o m a h end) new a n → Puts room m new a n
  by None none p = p
  by (Some x) some p = here (is_same x.hardware_addr h) p where
    here : (b : Bool) → Puts room (if b then map.insert m a (record x { expires_at = end }) else m) new a n → Puts room m new a n
    here false q = q
    here true q =
        let put : new ≡ map.insert m a n =
        q.there (renewed_there m a (record x { expires_at = end })) ∙ put_twice m a (record x { expires_at = end }) n in
        record {
          there = λ is. put;
          room = λ less. put;
          full = λ none many. absurd (let bad : Some x ≡ None = sym some ∙ none in cc);
        }

filled_over : {old new : Neighbors} (a : IpAddress) (h : HardwareAddress) (end : ℤ) (n : Neighbor) → Fills (after_renewal old a h end) new a n →
    Fills old new a n
filled_over {old} {new} a h end n f =
    record { puts = over_renewal old.room old.known new.known a h end n f.puts; room = f.room; silence = f.silence }

then_said : {T : EthernetAddress → Type 0} {a : IpAddress} {t : ℤ} {old mid new : Neighbors} → Did Nobody a t old mid → Said T a t mid new → Did T a t old new
then_said (Left e) (Unsaid f) = Left (f ∙ e)
then_said {a = a} {t = t} {new = new} (Left e) (Tells h tells fills) =
    Told h tells (subst (λ k. Fills k new a (record { hardware_addr = Ethernet h; expires_at = t +ℤ pos 60000000 })) e fills)
then_said (Heard g e) (Unsaid f) = Heard g (f ∙ e)
then_said {a = a} {t = t} {new = new} (Heard g e) (Tells h tells fills) =
    let n : Neighbor = record { hardware_addr = Ethernet h; expires_at = t +ℤ pos 60000000 } in
    Told h tells (filled_over a g (t +ℤ pos 60000000) n (subst (λ k. Fills k new a n) e fills))
then_said (Told h bad fills) s = absurd bad

same_neighbors : {T : EthernetAddress → Type 0} {a : IpAddress} {t : ℤ} {H new : Host} → new ≡ H → Said T a t H.neighbors new.neighbors
same_neighbors e = Unsaid (ap (λ (K : Host). K.neighbors) e)

left_so : {T : EthernetAddress → Type 0} {a : IpAddress} {t : ℤ} {H new : Host} → new ≡ H → Did T a t H.neighbors new.neighbors
left_so e = Left (ap (λ (K : Host). K.neighbors) e)

-- the sender of a packet is renewed
met : (source : HardwareAddress) (r : IpRepr) (payload : List ℕ) (H : Host) →
    Did Nobody (src_addr r) H.moment H.neighbors (sender_renewed source r (raw.host_after_raw_delivery r payload H)).neighbors
met source r payload H = by (is_unicast H.ip_addrs (dst_addr r)) where
  by : (b : Bool) → Did Nobody (src_addr r) H.moment H.neighbors (if b
      then with_neighbors (raw.host_after_raw_delivery r payload H) (after_renewal H.neighbors (src_addr r) source (expiry_from H.moment))
      else raw.host_after_raw_delivery r payload H).neighbors
  by true = Heard source refl
  by false = Left refl

met_moment : (source : HardwareAddress) (r : IpRepr) (payload : List ℕ) (H : Host) →
    (sender_renewed source r (raw.host_after_raw_delivery r payload H)).moment ≡ H.moment
met_moment source r payload H = by (is_unicast H.ip_addrs (dst_addr r)) where
  by : (b : Bool) → (if b
      then with_neighbors (raw.host_after_raw_delivery r payload H) (after_renewal H.neighbors (src_addr r) source (expiry_from H.moment))
      else raw.host_after_raw_delivery r payload H).moment ≡ H.moment
  by true = refl
  by false = refl

-- IPv6: what a message tells
usable_is : (o : Option EthernetAddress) (target : Ipv6Address) (h : EthernetAddress) → usable_lladdr o target ≡ Some h → o ≡ Some h
usable_is None target h e = absurd cc
usable_is (Some g) target h e = by (ethernet_address.is_unicast g) (ipv6_address.is_unicast target) e where
  by : (b c : Bool) → (if b && c then Some g else None) ≡ Some h → Some g ≡ Some h
  by true true q = q
  by true false q = absurd cc
  by false c q = absurd cc

advertised_is : (H : Host) (r : Ipv6Repr) (flags : NdiscNeighborFlags) (target : Ipv6Address) (o : Option EthernetAddress) (h : EthernetAddress) →
    advertised_lladdr H r flags target o ≡ Some h → o ≡ Some h
advertised_is H r flags target o h e = by (has_override flags || not (is_found (answer_of H.neighbors (Ipv6 r.src_addr) H.moment))) e where
  by : (b : Bool) → (if b then usable_lladdr o target else None) ≡ Some h → o ≡ Some h
  by true q = usable_is o target h q
  by false q = absurd cc

learns_said : (H new : Host) (a : Ipv6Address) (o : Option EthernetAddress) → Learns o a H new →
    Said (λ h. o ≡ Some h) (Ipv6 a) H.moment H.neighbors new.neighbors
learns_said H new a None e = same_neighbors e
learns_said H new a (Some h) learns =
    Tells h refl (subst (λ k. Fills H.neighbors k (Ipv6 a) _) (sym (ap (λ (K : Host). K.neighbors) learns.same)) learns.filled)

heard_said : {own : EthernetAddress} {r : Ipv6Repr} {message : NdiscRepr} {H new : Host} {reply : Option Reply} {notes : List Note} →
    ProcessesNdiscMessage own r H reply notes new message → Said (Gives message) (Ipv6 r.src_addr) H.moment H.neighbors new.neighbors
heard_said {r = r} {H = H} {new = new} (ndisc.Advertised flags target lladdr learns e n) =
    said_so (λ h e. advertised_is H r flags target lladdr h e) (learns_said H new r.src_addr (advertised_lladdr H r flags target lladdr) learns)
heard_said (ndisc.NoUnicast target lladdr nobody d) = same_neighbors d.unchanged
heard_said {r = r} {H = H} {new = new} (ndisc.Solicited target lladdr specified learns e n) =
    said_so (λ h e. usable_is lladdr target h e) (learns_said H new r.src_addr (usable_lladdr lladdr target) learns)

ndisc_said : {r : Ipv6Repr} {message : NdiscRepr} {H new : Host} {reply : Option Reply} {notes : List Note} →
    ProcessesNdisc r message H reply notes new → Said (Gives message) (Ipv6 r.src_addr) H.moment H.neighbors new.neighbors
ndisc_said (ndisc.FromAfar far d) = same_neighbors d.unchanged
ndisc_said (ndisc.WithoutAddresses without d) = same_neighbors d.unchanged
ndisc_said (ndisc.FromNeighbor own near mine h) = heard_said h

query_left : (H : Host) (r : Ipv6Repr) (code : ℕ) (group : Ipv6Address) → (mld_rules.host_after_mld_query H r code group).neighbors ≡ H.neighbors
query_left H r code group = by (mld_rules.is_near r) where
  by : (b : Bool) → (if b then record H {
    mld_report = mld_rules.mld_report_for H r.dst_addr (H.moment +ℤ pos (mld_rules.delay code H.random)) group;
    random = mld_rules.random_after_draw code H.random;
  } else H).neighbors ≡ H.neighbors
  by true = refl
  by false = refl

mld_said : {T : EthernetAddress → Type 0} {a : IpAddress} (r : Ipv6Repr) (m : MldRepr) (H : Host) (reply : Option Reply) (notes : List Note) (new : Host) →
    mld_rules.ProcessesMld r m H reply notes new → Said T a H.moment H.neighbors new.neighbors
mld_said r (Query code group) H reply notes new t = Unsaid (ap (λ (K : Host). K.neighbors) t.2 ∙ query_left H r code group)
mld_said r (Report count) H reply notes new t = same_neighbors t.unchanged

abbrev IsNdiscMessage : Icmpv6Repr → EthernetAddress → Type 0
IsNdiscMessage m h = (message : NdiscRepr) × (m ≡ icmp.Ndisc message) × Gives message h

message_said : (r : Ipv6Repr) (m : Icmpv6Repr) (octets : List ℕ) (H : Host) (reply : Option Reply) (notes : List Note) (new : Host) →
    ProcessesMessage r m octets H reply notes new → Said (IsNdiscMessage m) (Ipv6 r.src_addr) H.moment H.neighbors new.neighbors
message_said r (icmp.EchoRequest ident seq_no) octets H reply notes new t = same_neighbors t.2
message_said r (icmp.Ndisc message) octets H reply notes new t = said_so (λ h gives. (message, refl, gives)) (ndisc_said t)
message_said r (icmp.Router message) octets H reply notes new t = Unsaid (ap (λ (K : Host). K.neighbors) t.2)
message_said r (icmp.Mld message) octets H reply notes new t = mld_said r message H reply notes new t
message_said r (icmp.EchoReply ident seq_no) octets H reply notes new t = same_neighbors t.unchanged
message_said r (icmp.DstUnreachable reason header) octets H reply notes new t = same_neighbors t.unchanged
message_said r (icmp.PktTooBig mtu header) octets H reply notes new t = same_neighbors t.unchanged
message_said r (icmp.TimeExceeded code header) octets H reply notes new t = same_neighbors t.unchanged
message_said r (icmp.ParamProblem reason pointer header) octets H reply notes new t = same_neighbors t.unchanged

-- octets are a message of a neighbour
pub record IsSaidIn (octets : List ℕ) (h : EthernetAddress) : Type 0 where
  pub body : IsBody octets
  pub message : NdiscRepr
  pub values : (icmpv6_in octets).0 ≡ icmp.Ndisc message
  pub gives : Gives message h

icmpv6_said : {r : Ipv6Repr} {H new : Host} {octets : List ℕ} {reply : Option Reply} {notes : List Note} →
    ProcessesIcmpv6 r H octets reply notes new → Said (λ h. IsSaidIn octets h) (Ipv6 r.src_addr) H.moment H.neighbors new.neighbors
icmpv6_said (icmpv6.Malformed m d) = same_neighbors d.unchanged
icmpv6_said {r} {H} {new} {octets} {reply} {notes} (icmpv6.Taken i t) =
    said_so (λ h m. record { body = i.body; message = m.0; values = m.1; gives = m.2 })
    (message_said r (icmpv6_in octets).0 (icmpv6_in octets).1 (icmpv6.host_after_delivery r octets H) reply notes new t)

udp_said : {T : EthernetAddress → Type 0} {a : IpAddress} {t : ℤ} {b : Bool} {r : IpRepr} {H new : Host} {octets : List ℕ} {reply : Option Reply} {notes : List Note} →
    ProcessesUdp b r H octets reply notes new → Said T a t H.neighbors new.neighbors
udp_said (udp.Malformed m d) = same_neighbors d.unchanged
udp_said (udp.Delivered places u f e n s) = Unsaid (ap (λ (K : Host). K.neighbors) s)
udp_said (udp.NotAccepted u none e n s) = same_neighbors s

tcp_said : {T : EthernetAddress → Type 0} {a : IpAddress} {t : ℤ} {b : Bool} {r : IpRepr} {H new : Host} {octets : List ℕ} {reply : Option Reply} {notes : List Note} →
    ProcessesTcp b r H octets reply notes new → Said T a t H.neighbors new.neighbors
tcp_said (tcp.BetweenUnspecified b d) = same_neighbors d.unchanged
tcp_said (tcp.Malformed b m d) = same_neighbors d.unchanged
tcp_said (tcp.Delivered index place b s f e n same) = Unsaid (ap (λ (K : Host). K.neighbors) same)
tcp_said (tcp.NotAccepted b s none e n same) = same_neighbors same

protocol_v6_said : (p : IpProtocol) (b : Bool) (r : Ipv6Repr) (H : Host) (octets : List ℕ) (reply : Option Reply) (notes : List Note) (new : Host) →
    ipv6.ProcessesProtocol p b r H octets reply notes new →
    Said (λ h. (p ≡ protocol.Icmpv6) × IsSaidIn octets h) (Ipv6 r.src_addr) H.moment H.neighbors new.neighbors
protocol_v6_said protocol.Icmpv6 b r H octets reply notes new t = said_so (λ h s. (refl, s)) (icmpv6_said t)
protocol_v6_said protocol.Udp b r H octets reply notes new t = udp_said t
protocol_v6_said protocol.Tcp b r H octets reply notes new t = tcp_said t
protocol_v6_said protocol.Icmp b r H octets reply notes new t = same_neighbors t.unchanged
protocol_v6_said protocol.Igmp b r H octets reply notes new t = same_neighbors t.unchanged
protocol_v6_said protocol.HopByHop b r H octets reply notes new t = same_neighbors t.unchanged
protocol_v6_said (protocol.Unknown n) b r H octets reply notes new t = same_neighbors t.unchanged

datagram_v6_did : {source : HardwareAddress} {p : IpProtocol} {H new : Host} {payload : List ℕ} {reply : Option Reply} {notes : List Note}
    (r : Ipv6Repr) → ProcessesDatagramV6 source r p H payload reply notes new →
    Did (λ h. (p ≡ protocol.Icmpv6) × IsSaidIn payload h) (Ipv6 r.src_addr) H.moment H.neighbors new.neighbors
datagram_v6_did r (ipv6.NotForUs n d) = left_so d.unchanged
datagram_v6_did {source} {p} {H} {new} {payload} {reply} {notes} r (ipv6.Accepted f t) =
    let K = sender_renewed source (repr.Ipv6 r) (raw.host_after_raw_delivery (repr.Ipv6 r) payload H) in
    then_said (met source (repr.Ipv6 r) payload H)
    (subst (λ m. Said (λ h. (p ≡ protocol.Icmpv6) × IsSaidIn payload h) (Ipv6 r.src_addr) m K.neighbors new.neighbors)
    (met_moment source (repr.Ipv6 r) payload H) (protocol_v6_said p _ r K payload reply notes new t))

-- a packet has a message of a neighbour: behind its header, or behind options that the header tells of
pub data HasSaid (packet octets : List ℕ) : Type 0 where
  Directly : (ipv6_in packet).0.next_header ≡ protocol.Icmpv6 → octets ≡ (ipv6_in packet).1 → HasSaid packet octets
  BehindOptions : number_of (ipv6_in packet).0.next_header ≡ 0 → (hop_by_hop_in (ipv6_in packet).1).0.next_header ≡ protocol.Icmpv6 →
      octets ≡ (hop_by_hop_in (ipv6_in packet).1).1 → HasSaid packet octets

pub record IsSaidBy (packet : List ℕ) (h : EthernetAddress) : Type 0 where
  pub octets : List ℕ
  pub has : HasSaid packet octets
  pub said : IsSaidIn octets h

-- a packet of IPv6 that changes neighbours is whole
pub record ByPacket (packet : List ℕ) (t : ℤ) (old new : Neighbors) : Type 0 where
  pub is_packet : IsIpv6 packet
  pub did : Did (IsSaidBy packet) (Ipv6 (ipv6_in packet).0.src_addr) t old new

module _ {source : HardwareAddress} {H new : Host} {packet : List ℕ} {reply : Option Reply} {notes : List Note} where
  options_did : number_of (ipv6_in packet).0.next_header ≡ 0 → ProcessesHopByHop source (ipv6_in packet).0 H (ipv6_in packet).1 reply notes new →
      Did (IsSaidBy packet) (Ipv6 (ipv6_in packet).0.src_addr) H.moment H.neighbors new.neighbors
  options_did zero (ipv6.MalformedOptions m d) = left_so d.unchanged
  options_did zero (ipv6.Skipped o s t) =
      did_so (λ h x. record { octets = (hop_by_hop_in (ipv6_in packet).1).1; has = BehindOptions zero x.0 refl; said = x.1 })
      (datagram_v6_did (ipv6_in packet).0 t)
  options_did zero (ipv6.Discarded failure o s other e n same) = left_so same

  packet_v6_did : ipv6.ProcessesPacket source (ipv6_in packet).0 H (ipv6_in packet).1 reply notes new →
      Did (IsSaidBy packet) (Ipv6 (ipv6_in packet).0.src_addr) H.moment H.neighbors new.neighbors
  packet_v6_did (ipv6.FromNoHost s d) = left_so d.unchanged
  packet_v6_did (ipv6.WithOptions s zero t) = options_did zero t
  packet_v6_did (ipv6.Bare s z t) =
      did_so (λ h x. record { octets = (ipv6_in packet).1; has = Directly x.0 refl; said = x.1 }) (datagram_v6_did (ipv6_in packet).0 t)

  pub ipv6_did : ProcessesIpv6 source H packet reply notes new → (new.neighbors ≡ H.neighbors) ⊎ ByPacket packet H.moment H.neighbors new.neighbors
  ipv6_did (ipv6.Malformed m d) = inl (ap (λ (K : Host). K.neighbors) d.unchanged)
  ipv6_did (ipv6.Read i t) = inr (record { is_packet = i; did = packet_v6_did t })

-- IPv4 tells of nobody
igmp_left : (H : Host) (dst : _) (m : IgmpRepr) → (igmp_rules.host_after_igmp H dst m).neighbors ≡ H.neighbors
igmp_left H dst (MembershipQuery code group) = refl
igmp_left H dst (MembershipReport group version) = refl
igmp_left H dst (LeaveGroup group) = refl

igmp_said : {T : EthernetAddress → Type 0} {a : IpAddress} {t : ℤ} {r : Ipv4Repr} {H new : Host} {octets : List ℕ} {reply : Option Reply} {notes : List Note} →
    igmp_rules.ProcessesIgmp r H octets reply notes new → Said T a t H.neighbors new.neighbors
igmp_said (igmp_rules.Malformed m d) = same_neighbors d.unchanged
igmp_said {r = r} {H = H} {octets = octets} (igmp_rules.Taken i e n same) =
    Unsaid (ap (λ (K : Host). K.neighbors) same ∙ igmp_left H r.dst_addr (igmp_in octets))

icmpv4_said : {T : EthernetAddress → Type 0} {a : IpAddress} {t : ℤ} {r : Ipv4Repr} {H new : Host} {octets : List ℕ} {reply : Option Reply} {notes : List Note} →
    ProcessesIcmpv4 r H octets reply notes new → Said T a t H.neighbors new.neighbors
icmpv4_said (icmpv4.Malformed m d) = same_neighbors d.unchanged
icmpv4_said (icmpv4.Taken i e n s) = Unsaid (ap (λ (K : Host). K.neighbors) s)

protocol_said : {T : EthernetAddress → Type 0} {a : IpAddress} {t : ℤ} (p : IpProtocol) (b : Bool) (r : Ipv4Repr) (H : Host) (octets : List ℕ) (reply : Option Reply)
    (notes : List Note) (new : Host) → ip.ProcessesProtocol p b r H octets reply notes new → Said T a t H.neighbors new.neighbors
protocol_said protocol.Icmp b r H octets reply notes new t = icmpv4_said t
protocol_said protocol.Udp b r H octets reply notes new t = udp_said t
protocol_said protocol.Tcp b r H octets reply notes new t = tcp_said t
protocol_said protocol.Igmp b r H octets reply notes new t = igmp_said t
protocol_said protocol.HopByHop b r H octets reply notes new t = same_neighbors t.unchanged
protocol_said protocol.Icmpv6 b r H octets reply notes new t = same_neighbors t.unchanged
protocol_said (protocol.Unknown n) b r H octets reply notes new t = same_neighbors t.unchanged

datagram_did : {source : HardwareAddress} {H new : Host} {payload : List ℕ} {reply : Option Reply} {notes : List Note} (r : Ipv4Repr) →
    ProcessesDatagram source r H payload reply notes new → Did Nobody (Ipv4 r.src_addr) H.moment H.neighbors new.neighbors
datagram_did r (ip.NotForUs n d) = Left (ap (λ (K : Host). K.neighbors) d.unchanged)
datagram_did {source} {H} {new} {payload} {reply} {notes} r (ip.Accepted f t) =
    then_said (met source (repr.Ipv4 r) payload H) (protocol_said r.next_header _ r _ payload reply notes new t)

packet_did : {source : HardwareAddress} {H new : Host} {payload : List ℕ} {reply : Option Reply} {notes : List Note}
    (r : Ipv4Repr) (f : Ipv4Fragment) → ProcessesPacket source r f H payload reply notes new →
    Did Nobody (Ipv4 r.src_addr) H.moment H.neighbors new.neighbors
packet_did r f (ip.FromNoHost s d) = left_so d.unchanged
packet_did r f (ip.Part s p t e) = Left (ap (λ (K : Host). K.neighbors) t.changed)
packet_did {H = H} {new = new} r f (ip.Completed octets mid first rest s p t w e) =
    let one : mid.moment ≡ H.moment = ap (λ (K : Host). K.moment) t.changed in
    let two : mid.neighbors ≡ H.neighbors = ap (λ (K : Host). K.neighbors) t.changed in
    subst (λ k. Did Nobody (Ipv4 r.src_addr) H.moment k new.neighbors) two
    (subst (λ m. Did Nobody (Ipv4 r.src_addr) m mid.neighbors new.neighbors) one (datagram_did (ip.datagram_header r octets) w))
packet_did r f (ip.Whole s w t) = datagram_did r t

pub ipv4_did : {source : HardwareAddress} {H new : Host} {octets : List ℕ} {reply : Option Reply} {notes : List Note} →
    ProcessesIpv4 source H octets reply notes new → Did Nobody (Ipv4 (ipv4_in octets).0.src_addr) H.moment H.neighbors new.neighbors
ipv4_did (ip.Malformed m d) = left_so d.unchanged
ipv4_did (ip.Read i t) = packet_did _ _ t
