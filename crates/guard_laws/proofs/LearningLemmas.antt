-- By which frames a host learns of whom, as the guard reads their octets, and what follows for runs of hosts.
use Rattle.std.proofs.Common.{◌≡◌, ◌⊎◌, ℕ, ◌+◌, ◌-◌, ◌≤◌, ◌∙◌, ap, sym, subst, pos, Bool, true, false, refl, inl, inr, arith, List, [], ◌∷◌, length, drop}
use Rattle.std.specs.Prelude.{◌==◌, ◌&&◌, ℤ, cond, nat_lt, slice_index, Option, Some, None, if◌then◌else◌}
use Rattle.std.proofs.lemmas.Bool.Decides.{nat_tests}
use Rattle.std.proofs.lemmas.List.{get_or-drop, length-drop}
use Rattle.std.specs.Ordering.{eq_by_cmp}
use Rattle.std.specs.FinMap as map
use Rattle.std.specs.FinMap.{get-insert, get-remove}
use Rattle.net_base.specs.Device.{Event}
use Rattle.ip_address.specs.EthernetAddress as ethernet_address
use Rattle.ip_address.specs.Ip.{address_cmp}
use Rattle.ip_address.specs.Ipv4 as ipv4_address
use Rattle.ip_address.specs.Protocol.{number_of, protocol_of}
use Rattle.ip_address.specs.declared.cidr.IpCidr.{IpCidr}
use Rattle.ip_address.specs.declared.ethernet_address.EthernetAddress.{EthernetAddress}
use Rattle.ip_address.specs.declared.hardware.HardwareAddress.{HardwareAddress}
use Rattle.ip_address.specs.declared.hardware.HardwareAddress.TheVariants.{Ethernet}
use Rattle.ip_address.specs.declared.ip.IpAddress.{IpAddress}
use Rattle.ip_address.specs.declared.ip.IpAddress.TheVariants.{Ipv4, Ipv6}
use Rattle.ip_address.specs.declared.ipv4.Ipv4Address.{Ipv4Address}
use Rattle.ip_address.specs.declared.protocol.IpProtocol.TheVariants as ip_protocol
use Rattle.ip_wire.specs.Arp.{arp_in}
use Rattle.ip_wire.specs.Ethernet.{header_in}
use Rattle.ip_wire.specs.Ipv4Packet.{ipv4_in}
use Rattle.ip_wire.specs.Ipv6Packet.{ipv6_in}
use Rattle.ip_wire.specs.Octets.{u16_at}
use Rattle.ip_wire.specs.declared.ethernet.EthernetProtocol.{EthernetProtocol}
use Rattle.ip_wire.specs.declared.ethernet.EthernetProtocol.TheVariants as protocol
use Rattle.control_wire.specs.Icmpv6.{type_in}
use Rattle.control_wire.specs.Ndisc.{IsNdisc, ndisc_in}
use Rattle.control_wire.specs.declared.ndisc.NdiscRepr.{NdiscRepr}
use Rattle.iface_tables.specs.Neighbor.{Fills, Neighbors, Puts, after_limit, after_renewal, is_before, limited_from, renewed_from}
use Rattle.iface_tables.specs.declared.neighbor.Neighbor.{Neighbor}
use Rattle.iface_tables.proofs.EntriesLemmas.{tied}
use Rattle.iface_tables.proofs.NeighborLemmas.{address_same, address_total}
use Rattle.host_machine.specs.Context.Host.{Host, has_ip_addr, in_same_network, without_expired}
use Rattle.host_machine.specs.Context.Note.{Note}
use Rattle.host_machine.specs.Discovery.Arp.{ProcessesArp}
use Rattle.host_machine.specs.Discovery.Arp as arp
use Rattle.host_machine.specs.Receive.Ethernet.{ProcessesEthernet, ProcessesEthertype, ProcessesFrame}
use Rattle.host_machine.specs.Receive.Ethernet as ethernet
use Rattle.host_machine.specs.Receive.Reply.{IsDropped, Reply}
use Rattle.host_laws.specs.Laws.Restraint.Neighbors.{Gives}
use Rattle.host_laws.specs.Laws.Restraint.Settings.{KeepsAtFrame}
use Rattle.host_laws.proofs.Discovery.LearntNeighbors.{and_both}
use Rattle.host_laws.proofs.Interface.SettledFields.{response_leaves}
use Rattle.host_laws.proofs.Receive.ReceivedFrames.{WasHandled, handled}
use Rattle.host_laws.proofs.Receive.SettingChanges.{frames_keep}
use Rattle.guard.specs.Guard.{is_near}
use Rattle.guard.specs.Ipv6.{Behind, BehindOptions as BehindHeader, HasMessage, IsNeighborMessage, source_of}
use Rattle.guard.specs.Kind.{ipv4_at, kind_at, kind_of, kind_of_message, message_of, octet_at, packet_of_ipv6, sort_of_ipv6, target_at}
use Rattle.guard.specs.Strangers.{has_address, limit_for, limit_from, limited, may_have_entry, sender_of, teaches_nobody}
use Rattle.guard.specs.declared.guard.Guard.{Guard}
use Rattle.guard.specs.declared.kind.Kind.TheVariants.{Neighbor as OfNeighbor}
use Rattle.guard.specs.declared.kind.Kind.TheVariants as kind
use Rattle.guard.specs.declared.kind.Sort.{Sort}
use Rattle.guard.specs.declared.kind.Sort.TheVariants.{Plain}
use Rattle.guard.specs.declared.strangers.Limit.{Limit}
use Rattle.guard.specs.declared.watch.Watch.{Watch}
use Rattle.guard.proofs.PassLemmas.{kind_v6}
use Rattle.guard_laws.proofs.ClaimLemmas.{long_enough, sender_in, type_number as arp_number}
use Rattle.guard_laws.proofs.CountLemmas.{Known}
use Rattle.guard_laws.proofs.MessageClaimLemmas.{IsPlaced, IsTold, behind, is_ndisc, placed_after_header, placed_after_options, source_in, told_in, type_number as six_number}
use Rattle.guard_laws.proofs.MessageLemmas.{few_octets, first_in, neighbor_in}
use Rattle.guard_laws.proofs.StrangerLemmas.{Came, InPlace, Over, Same, came, confirmed_stay}
use Rattle.guard_laws.proofs.NewcomerLemmas.{newcomers_stay}
use Rattle.guard_laws.proofs.TeachingLemmas.{BehindOptions, ByPacket, Did, Directly, HasSaid, Heard, IsSaidBy, Left, Told, did_so, ipv4_did, ipv6_did}
use Rattle.guard_laws.specs.Learning.{Admitted, AreNear, AreWhole, Dropped, FramesTeachTheirSender, HostsKeepConfirmed, HostsKeepNewcomers}
use Rattle.guard_laws.specs.Learning.{IsOnEthernet, Sender, StaysInPlace, Takes, TakesAll, Teaches, arrived_at}
use Rattle.guard_laws.specs.Learning as learning
use Rattle.guard_laws.specs.Strangers.{All, Arrived, End, KnowSame, Learns, Leaves, Less, Nobody, Renewed, Runs}
use Rattle.guard_laws.specs.Strangers.{StaysAt, Stored, Then}

-- the type number of IPv4
type_in_frame : (four arp six : Bool) (n : ℕ) → (n == 0x0800) ≡ four → (n == 0x0806) ≡ arp → (n == 0x86dd) ≡ six →
    (if four then protocol.Ipv4 else if arp then protocol.Arp else if six then protocol.Ipv6 else protocol.Unknown n) ≡ protocol.Ipv4 → n ≡ 0x0800
type_in_frame true arp six n f a s e = grind (arith, nat_tests)
type_in_frame false true six n f a s e = absurd cc
type_in_frame false false true n f a s e = absurd cc
type_in_frame false false false n f a s e = absurd cc

four_number : (frame : List ℕ) → (header_in frame).ethertype ≡ protocol.Ipv4 → u16_at frame 12 ≡ 0x0800
four_number frame e = type_in_frame (u16_at frame 12 == 0x0800) (u16_at frame 12 == 0x0806) (u16_at frame 12 == 0x86dd) (u16_at frame 12) refl refl refl e

-- the number of a next header
number_by : (a b c d e f : Bool) (n : ℕ) → (n == 0) ≡ a →
    number_of (if a then ip_protocol.HopByHop else if b then ip_protocol.Icmp else if c then ip_protocol.Igmp else if d then ip_protocol.Tcp
    else if e then ip_protocol.Udp else if f then ip_protocol.Icmpv6 else ip_protocol.Unknown n) ≡ 0 → n ≡ 0
number_by true b c d e f n is p = grind (arith, nat_tests)
number_by false true c d e f n is p = absurd (omega (arith, p))
number_by false false true d e f n is p = absurd (omega (arith, p))
number_by false false false true e f n is p = absurd (omega (arith, p))
number_by false false false false true f n is p = absurd (omega (arith, p))
number_by false false false false false true n is p = absurd (omega (arith, p))
number_by false false false false false false n is p = p

zero_number : (n : ℕ) → number_of (protocol_of n) ≡ 0 → n ≡ 0
zero_number n p = number_by (n == 0) (n == 1) (n == 2) (n == 6) (n == 17) (n == 58) n refl p

-- who sends a frame
four_sender : (frame : List ℕ) → 42 ≤ length frame → u16_at frame 12 ≡ 0x0800 → sender_of (kind_of frame) ≡ Some (ipv4_at frame 26)
four_sender frame long type =
    let s : nat_lt (length frame) 42 ≡ false = grind (arith, nat_tests) in
    let r : (u16_at frame 12 == 0x0806) ≡ false = rw type refl in
    let f : (u16_at frame 12 == 0x0800) ≡ true = rw type refl in
    rw (s, r, f) refl

arp_kind : (frame : List ℕ) → 42 ≤ length frame → u16_at frame 12 ≡ 0x0806 → kind_of frame ≡ kind.Arp (ipv4_at frame 28)
arp_kind frame long type =
    let s : nat_lt (length frame) 42 ≡ false = grind (arith, nat_tests) in
    let r : (u16_at frame 12 == 0x0806) ≡ true = rw type refl in
    rw (s, r) refl

packet_sender : (frame : List ℕ) (sender : IpAddress) (sort : Sort) → 54 ≤ length frame →
    sender_of (packet_of_ipv6 sender frame sort) ≡ Some sender
packet_sender frame sender sort long =
    let l : nat_lt (length frame) 54 ≡ false = grind (arith, nat_tests) in
    rw l refl

message_sender : (frame : List ℕ) (sender : IpAddress) (type at : ℕ) → 54 ≤ length frame →
    sender_of (kind_of_message type at sender frame) ≡ Some sender
message_sender frame sender type at long = by (type == 135) (type == 136) where
  by : (s a : Bool) →
      sender_of (if s then OfNeighbor sender None else if a then OfNeighbor sender (target_at frame (at + 8)) else packet_of_ipv6 sender frame Plain)
      ≡ Some sender
  by true a = refl
  by false true = refl
  by false false = packet_sender frame sender Plain long

kind_sender : (frame : List ℕ) (sender : IpAddress) (m : Option ℕ) → 54 ≤ length frame → sender_of (kind_at m sender frame) ≡ Some sender
kind_sender frame sender None long = packet_sender frame sender (sort_of_ipv6 frame) long
kind_sender frame sender (Some at) long = message_sender frame sender (octet_at frame at) at long

six_sender : (frame : List ℕ) → 54 ≤ length frame → u16_at frame 12 ≡ 0x86dd → sender_of (kind_of frame) ≡ Some (source_of frame)
six_sender frame long type =
    ap sender_of (kind_v6 frame (omega (arith, long)) type) ∙ kind_sender frame (source_of frame) (message_of frame) long

-- its source in the packet is that which the guard reads
four_source : (frame : List ℕ) → Ipv4 (ipv4_in (drop 14 frame)).0.src_addr ≡ ipv4_at frame 26
four_source frame =
    rw (get_or-drop 14 frame 12 0, get_or-drop 14 frame 13 0, get_or-drop 14 frame 14 0, get_or-drop 14 frame 15 0) refl

six_source : (frame : List ℕ) → Ipv6 (ipv6_in (drop 14 frame)).0.src_addr ≡ source_of frame
six_source frame = ap Ipv6 (source_in frame)

-- a message of a neighbour is one to the guard
placed_by : (frame packet octets : List ℕ) → packet ≡ drop 14 frame → 24 ≤ length octets → HasSaid packet octets → IsPlaced frame octets
placed_by frame packet octets is long (Directly header same) = placed_after_header frame packet octets is header same
placed_by frame packet octets is long (BehindOptions zero header same) =
    let options : octet_at frame 20 ≡ 0 =
    sym (ap (λ (p : List ℕ). slice_index p 6) is ∙ get_or-drop 14 frame 6 0) ∙ zero_number (slice_index packet 6) zero in
    placed_after_options frame packet octets is long options header same

message_is : (frame : List ℕ) (at : ℕ) → HasMessage frame at → message_of frame ≡ Some at
message_is frame at (Behind protocol is) =
    let p : (octet_at frame 20 == 58) ≡ true = rw protocol refl in
    rw (p, is) refl
message_is frame at (BehindHeader options protocol is) =
    let o : (octet_at frame 20 == 58) ≡ false = rw options refl in
    let z : (octet_at frame 20 == 0) ≡ true = rw options refl in
    let p : (octet_at frame 54 == 58) ≡ true = rw protocol refl in
    rw (o, z, p, is) refl

-- where it is, and what it tells
pub record Message (frame : List ℕ) (h : EthernetAddress) : Type 0 where
  pub at : ℕ
  pub octets : List ℕ
  pub is : IsNeighborMessage frame at
  pub told : IsTold frame at octets h

teaches_by : (frame : List ℕ) (at : ℕ) → IsNeighborMessage frame at → teaches_nobody (kind_of frame) ≡ false
teaches_by frame at message =
    ap teaches_nobody (kind_v6 frame (let long = message.header.whole in omega (arith, long)) message.header.type)
    ∙ ap (λ (m : Option ℕ). teaches_nobody (kind_at m (source_of frame) frame)) (message_is frame at message.message) ∙ by message.type where
      by : (octet_at frame at ≡ 135) ⊎ (octet_at frame at ≡ 136) → teaches_nobody (kind_at (Some at) (source_of frame) frame) ≡ false
      by (inl type) = rw type refl
      by (inr type) = rw type refl

told_from : (frame : List ℕ) (h : EthernetAddress) → u16_at frame 12 ≡ 0x86dd → IsSaidBy (drop 14 frame) h → Message frame h
told_from frame h type s =
    let message = neighbor_in s.octets s.said.message s.said.values in
    let is : IsNdisc s.octets = is_ndisc s.octets s.said.body message.0 in
    let w = is.whole in
    let place = placed_by frame (drop 14 frame) s.octets refl w s.has in
    let few = few_octets frame place.at s.octets place.part in
    let first : octet_at frame place.at ≡ type_in s.octets = sym (first_in frame place.at s.octets place.part (omega (arith, w))) in
    let gives : Gives (ndisc_in s.octets) h = subst (λ (m : NdiscRepr). Gives m h) (sym message.1) s.said.gives in
    record {
      at = place.at;
      octets = s.octets;
      is = record {
        header = record { whole = behind frame place.at s.octets place.message few w; type = type };
        message = place.message;
        type = typed (octet_at frame place.at) (type_in s.octets) first message.0;
      };
      told = told_in frame place.at s.octets h place.part is gives;
    } where
      typed : (n m : ℕ) → n ≡ m → (m ≡ 135) ⊎ (m ≡ 136) → (n ≡ 135) ⊎ (n ≡ 136)
      typed n m e (inl t) = inl (e ∙ t)
      typed n m e (inr t) = inr (e ∙ t)

-- what a frame did to the neighbours of a host with these addresses
pub data How (frame : List ℕ) (a : IpAddress) (h : EthernetAddress) : Type 0 where
  ByArp : (x : Ipv4Address) → a ≡ Ipv4 x → How frame a h
  ByMessage : a ≡ source_of frame → Message frame h → How frame a h

abbrev pub MayBeStored : List ℕ → List IpCidr → IpAddress → EthernetAddress → Type 0
MayBeStored frame own a h = (teaches_nobody (kind_of frame) ≡ false) × (may_have_entry own a ≡ true) × How frame a h

pub data DidByFrame (frame : List ℕ) (own : List IpCidr) (t : ℤ) (old new : Neighbors) : Type 0 where
  Nothing : new ≡ old → DidByFrame frame own t old new
  BySender : (a : IpAddress) → (42 ≤ length frame → sender_of (kind_of frame) ≡ Some a) → Did (MayBeStored frame own a) a t old new →
      DidByFrame frame own t old new

left_by : {frame : List ℕ} {own : List IpCidr} {t : ℤ} {H new : Host} → new ≡ H → DidByFrame frame own t H.neighbors new.neighbors
left_by e = Nothing (ap (λ (K : Host). K.neighbors) e)

arp_did : {own : EthernetAddress} {H new : Host} {frame : List ℕ} {reply : Option Reply} {notes : List Note} →
    (header_in frame).ethertype ≡ protocol.Arp → ProcessesArp own H (drop 14 frame) reply notes new →
    DidByFrame frame H.ip_addrs H.moment H.neighbors new.neighbors
arp_did type (arp.Malformed m d) = left_by d.unchanged
arp_did type (arp.NotForUs a l d) = left_by d.unchanged
arp_did {own} {H} {new} {frame} type (arp.Learnt a us learns r n) =
    let p = arp_in (drop 14 frame) in
    let mine = has_ip_addr H (Ipv4 p.target_protocol_addr) in
    let many = ipv4_address.is_unicast p.source_protocol_addr in
    let station = ethernet_address.is_unicast p.source_hardware_addr in
    let near = and_both (mine && many && station) (in_same_network H.ip_addrs (Ipv4 p.source_protocol_addr)) us in
    let is = arp_kind frame (long_enough frame a.whole) (arp_number frame type) in
    BySender (Ipv4 p.source_protocol_addr) (λ long. ap sender_of is ∙ ap Some (sym (sender_in frame)))
    (Told p.source_hardware_addr (ap teaches_nobody is, near.1, ByArp p.source_protocol_addr refl)
    (subst (λ k. Fills H.neighbors k (Ipv4 p.source_protocol_addr) _) (sym (ap (λ (K : Host). K.neighbors) learns.same)) learns.filled))

payload_did : (own source : EthernetAddress) (H : Host) (type : EthernetProtocol) (frame : List ℕ) (reply : Option Reply) (notes : List Note)
    (new : Host) → (header_in frame).ethertype ≡ type → ProcessesEthertype own source H type (drop 14 frame) reply notes new →
    DidByFrame frame H.ip_addrs H.moment H.neighbors new.neighbors
payload_did own source H protocol.Arp frame reply notes new type t = arp_did type t
payload_did own source H protocol.Ipv4 frame reply notes new type t =
    BySender (Ipv4 (ipv4_in (drop 14 frame)).0.src_addr) (λ long. four_sender frame long (four_number frame type) ∙ ap Some (sym (four_source frame)))
    (did_so (λ h x. absurd x) (ipv4_did t))
payload_did own source H protocol.Ipv6 frame reply notes new type t = by (ipv6_did t) where
  by : (new.neighbors ≡ H.neighbors) ⊎ ByPacket (drop 14 frame) H.moment H.neighbors new.neighbors →
      DidByFrame frame H.ip_addrs H.moment H.neighbors new.neighbors
  by (inl same) = Nothing same
  by (inr p) =
      let whole : 54 ≤ length frame = (let w = p.is_packet.whole in omega (arith, w, length-drop 14 frame)) in
      let number = six_number frame type in
      BySender (Ipv6 (ipv6_in (drop 14 frame)).0.src_addr) (λ long. six_sender frame whole number ∙ ap Some (sym (six_source frame)))
      (did_so (λ h s. let m = told_from frame h number s in (teaches_by frame m.at m.is, refl, ByMessage (six_source frame) m)) p.did)
payload_did own source H (protocol.Unknown n) frame reply notes new type t = left_by t.unchanged

ethernet_did : {own : EthernetAddress} {H new : Host} {frame : List ℕ} {reply : Option Reply} {notes : List Note} →
    ProcessesEthernet own H frame reply notes new → DidByFrame frame H.ip_addrs H.moment H.neighbors new.neighbors
ethernet_did (ethernet.Malformed m d) = left_by d.unchanged
ethernet_did (ethernet.NotForUs l f d) = left_by d.unchanged
ethernet_did {own} {H} {new} {frame} {reply} {notes} (ethernet.Accepted l f t) =
    payload_did own (header_in frame).src_addr H (header_in frame).ethertype frame reply notes new refl t

-- and what that taught the host
renewed_near : (c : Arrived) (a : IpAddress) (h : HardwareAddress) (old new : Neighbors) → AreNear c.own old → sender_of (kind_of c.frame) ≡ Some a →
    new ≡ after_renewal old a h (pos (c.at + 60000000)) → Teaches c old new
renewed_near c (Ipv6 a) h old new near sender is =
    Sender (Ipv6 a) sender refl (Renewed h (ap (λ (k : Neighbors). k.known) is, ap (λ (k : Neighbors). k.room) is))
renewed_near c (Ipv4 a) h old new near sender is = by (map.get old.known (Ipv4 a)) refl where
  by : (o : Option Neighbor) → map.get old.known (Ipv4 a) ≡ o → Teaches c old new
  by None none =
      learning.Nobody (
        ap (λ (k : Neighbors). k.known) is ∙ ap (λ o. renewed_from o old.known (Ipv4 a) h (pos (c.at + 60000000))) none,
        ap (λ (k : Neighbors). k.room) is,
      )
  by (Some n) some =
      Sender (Ipv4 a) sender (near a n some) (Renewed h (ap (λ (k : Neighbors). k.known) is, ap (λ (k : Neighbors). k.room) is))

taught : (c : Arrived) (old new : Neighbors) → 42 ≤ length c.frame → AreNear c.own old → DidByFrame c.frame c.own (pos c.at) old new → Teaches c old new
taught c old new long near (Nothing same) = learning.Nobody (ap (λ (k : Neighbors). k.known) same, ap (λ (k : Neighbors). k.room) same)
taught c old new long near (BySender a sender did) = by did where
  by : Did (MayBeStored c.frame c.own a) a (pos c.at) old new → Teaches c old new
  by (Left same) = learning.Nobody (ap (λ (k : Neighbors). k.known) same, ap (λ (k : Neighbors). k.room) same)
  by (Heard h is) = renewed_near c a h old new near (sender long) is
  by (Told h tells fills) = Sender a (sender long) tells.1 (Stored (Ethernet h) tells.0 fills.puts fills.room)

-- who is known stays near
known_near : (own : List IpCidr) (room : ℕ) (old new : Known) (a : IpAddress) (teaches : Bool) (end : ℤ) → Came room old new a teaches end →
    may_have_entry own a ≡ true → ((b : Ipv4Address) (n : Neighbor) → map.get old (Ipv4 b) ≡ Some n → is_near own (Ipv4 b) ≡ true) →
    (b : Ipv4Address) (n : Neighbor) → map.get new (Ipv4 b) ≡ Some n → is_near own (Ipv4 b) ≡ true
known_near own room old new a teaches end (Same same) may near b n is = near b n (sym (ap (λ (m : Known). map.get m (Ipv4 b)) same) ∙ is)
known_near own room old new a teaches end (Over x e none put) may near b n is =
    by (eq_by_cmp address_cmp (Ipv4 b) a) refl
    (sym (get-insert address_total old a x (Ipv4 b)) ∙ sym (ap (λ (m : Known). map.get m (Ipv4 b)) put) ∙ is) where
      by : (d : Bool) → eq_by_cmp address_cmp (Ipv4 b) a ≡ d → cond d (Some x) (map.get old (Ipv4 b)) ≡ Some n → is_near own (Ipv4 b) ≡ true
      by true same there = subst (λ (q : IpAddress). may_have_entry own q ≡ true) (sym (tied address_total address_same (Ipv4 b) a same)) may
      by false apart there = near b n there
known_near own room old new a teaches end (InPlace x e t v least full none put) may near b n is =
    by (eq_by_cmp address_cmp (Ipv4 b) a) refl
    (sym (get-insert address_total (map.remove old v) a x (Ipv4 b)) ∙ sym (ap (λ (m : Known). map.get m (Ipv4 b)) put) ∙ is) where
      kept : (d : Bool) → cond d None (map.get old (Ipv4 b)) ≡ Some n → is_near own (Ipv4 b) ≡ true
      kept true there = absurd cc
      kept false there = near b n there

      by : (d : Bool) → eq_by_cmp address_cmp (Ipv4 b) a ≡ d → cond d (Some x) (map.get (map.remove old v) (Ipv4 b)) ≡ Some n →
          is_near own (Ipv4 b) ≡ true
      by true same there = subst (λ (q : IpAddress). may_have_entry own q ≡ true) (sym (tied address_total address_same (Ipv4 b) a same)) may
      by false apart there = kept (eq_by_cmp address_cmp (Ipv4 b) v) (sym (get-remove address_total old v (Ipv4 b)) ∙ there)

teaches_near : (c : Arrived) (old new : Neighbors) → Teaches c old new → AreNear c.own old → AreNear c.own new
teaches_near c old new (learning.Nobody same) near b n is = near b n (sym (ap (λ (m : Known). map.get m (Ipv4 b)) same.0) ∙ is)
teaches_near c old new (Sender a sender may learns) near b n is =
    known_near c.own old.room old.known new.known a _ _ (came c a old new learns) may near b n is

-- a reply is sent without learning of anybody
pub same_after : {t : ℤ} {frame : List ℕ} {old new : Host} {told : List Event} {notes : List Note} (w : WasHandled t frame old told notes new) →
    KnowSame w.taken.neighbors new.neighbors
same_after {new = new} w = (
  response_leaves (λ (H : Host). H.neighbors.known) (λ H. refl) (λ H. refl) (λ H rest. refl) w.reply w.taken w.frames w.more new w.responds,
  response_leaves (λ (H : Host). H.neighbors.room) (λ H. refl) (λ H. refl) (λ H rest. refl) w.reply w.taken w.frames w.more new w.responds,
)

pub handled_did : (t : ℤ) (frame : List ℕ) (old : Host) (own : EthernetAddress) (reply : Option Reply) (notes : List Note) (taken : Host) →
    old.hardware_addr ≡ Ethernet own →
    (ProcessesFrame old.hardware_addr (without_expired old t) frame reply notes taken ⊎ IsDropped (without_expired old t) reply notes taken) →
    DidByFrame frame old.ip_addrs t old.neighbors taken.neighbors
handled_did t frame old own reply notes taken hardware (inl p) =
    ethernet_did (subst (λ h. ProcessesFrame h (without_expired old t) frame reply notes taken) hardware p)
handled_did t frame old own reply notes taken hardware (inr d) = Nothing (ap (λ (K : Host). K.neighbors) d.unchanged)

-- where the same are known afterwards
learns_then : (c : Arrived) (a : IpAddress) (old mid new : Neighbors) → Learns c a old mid → KnowSame mid new → Learns c a old new
learns_then c a old mid new (Nobody same) on = Nobody (on.0 ∙ same.0, on.1 ∙ same.1)
learns_then c a old mid new (Stored h teaches puts room) on =
    Stored h teaches (subst (λ (m : Known). Puts old.room old.known m a (record { hardware_addr = h; expires_at = pos (c.at + 60000000) })) (sym on.0) puts)
    (on.1 ∙ room)
learns_then c a old mid new (Renewed h is) on = Renewed h (on.0 ∙ is.0, on.1 ∙ is.1)

teaches_then : (c : Arrived) (old mid new : Neighbors) → Teaches c old mid → KnowSame mid new → Teaches c old new
teaches_then c old mid new (learning.Nobody same) on = learning.Nobody (on.0 ∙ same.0, on.1 ∙ same.1)
teaches_then c old mid new (Sender a sender may learns) on = Sender a sender may (learns_then c a old mid new learns on)

pub frames_teach_their_sender : FramesTeachTheirSender
frames_teach_their_sender at frame old new told notes own guard receives hardware long near =
    let w = handled receives in
    let c = arrived_at at frame old guard in
    let first = taught c old.neighbors w.taken.neighbors long near (handled_did (pos at) frame old own w.reply w.first w.taken hardware w.takes) in
    let all = teaches_then c old.neighbors w.taken.neighbors new.neighbors first (same_after w) in
    let keeps = frames_keep (pos at) frame old new told notes receives in
    (all, subst (λ own. AreNear own new.neighbors) (sym keeps.addresses) (teaches_near c old.neighbors new.neighbors all near))

-- a limit leaves who is known, and where
limited_near : (own : List IpCidr) (limit : Option Limit) (known : Neighbors) → AreNear own known → AreNear own (limited limit known)
limited_near own None known near b n is = near b n is
limited_near own (Some l) known near b n is = by (has_address (map.get known.known l.address) l.unless) is where
  entry : (o : Option Neighbor) → map.get known.known l.address ≡ o → map.get (limited_from o known.known l.address l.expires_at) (Ipv4 b) ≡ Some n →
      is_near own (Ipv4 b) ≡ true
  entry None none there = near b n there
  entry (Some x) some there = here (is_before l.expires_at x.expires_at) there where
    put : (d : Bool) → eq_by_cmp address_cmp (Ipv4 b) l.address ≡ d →
        cond d (Some (record x { expires_at = l.expires_at })) (map.get known.known (Ipv4 b)) ≡ Some n → is_near own (Ipv4 b) ≡ true
    put true same e = near b x (ap (map.get known.known) (tied address_total address_same (Ipv4 b) l.address same) ∙ some)
    put false apart e = near b n e

    here : (s : Bool) → map.get (if s then map.insert known.known l.address (record x { expires_at = l.expires_at }) else known.known) (Ipv4 b) ≡ Some n →
        is_near own (Ipv4 b) ≡ true
    here true e =
        put (eq_by_cmp address_cmp (Ipv4 b) l.address) refl
        (sym (get-insert address_total known.known l.address (record x { expires_at = l.expires_at }) (Ipv4 b)) ∙ e)
    here false e = near b n e

  by : (d : Bool) → map.get (if d then known else after_limit known l.address l.expires_at).known (Ipv4 b) ≡ Some n → is_near own (Ipv4 b) ≡ true
  by true there = near b n there
  by false there = entry (map.get known.known l.address) refl there

same_near : (own : List IpCidr) (old new : Neighbors) → KnowSame old new → AreNear own old → AreNear own new
same_near own old new same near b n is = near b n (sym (ap (λ (m : Known). map.get m (Ipv4 b)) same.0) ∙ is)

-- what is learnt from the same neighbours
learns_from : (c : Arrived) (a : IpAddress) (old begun new : Neighbors) → KnowSame old begun → Learns c a begun new → Learns c a old new
learns_from c a old begun new on (Nobody same) = Nobody (same.0 ∙ on.0, same.1 ∙ on.1)
learns_from c a old begun new on (Stored h teaches puts room) =
    let n : Neighbor = record { hardware_addr = h; expires_at = pos (c.at + 60000000) } in
    Stored h teaches (subst (λ (r : ℕ). Puts r old.known new.known a n) on.1 (subst (λ (m : Known). Puts begun.room m new.known a n) on.0 puts))
    (room ∙ on.1)
learns_from c a old begun new on (Renewed h is) =
    Renewed h (is.0 ∙ ap (λ (m : Known). renewed_from (map.get m a) m a h (pos (c.at + 60000000))) on.0, is.1 ∙ on.1)

-- who isn't limited at all
unlimited : (c : Arrived) (known : Neighbors) → sender_of (kind_of c.frame) ≡ None → limit_for (pos c.at) c.frame c.own known c.guard ≡ None
unlimited c known none = by (c.guard.strangers_stay == 0) where
  by : (b : Bool) → (if b then None else limit_from (pos c.at) (kind_of c.frame) (sender_of (kind_of c.frame)) c.own known c.guard) ≡ None
  by true = refl
  by false = rw none refl

unlimited_far : (c : Arrived) (known : Neighbors) (a : IpAddress) → sender_of (kind_of c.frame) ≡ Some a → may_have_entry c.own a ≡ false →
    limit_for (pos c.at) c.frame c.own known c.guard ≡ None
unlimited_far c known a some far = by (c.guard.strangers_stay == 0) where
  by : (b : Bool) → (if b then None else limit_from (pos c.at) (kind_of c.frame) (sender_of (kind_of c.frame)) c.own known c.guard) ≡ None
  by true = refl
  by false = rw (some, far) refl

-- so a frame that taught a host leaves what the laws of neighbours allow
leaves_by : (c : Arrived) (old taken new : Neighbors) → Teaches c old taken →
    KnowSame (limited (limit_for (pos c.at) c.frame c.own old c.guard) taken) new → Leaves c old new
leaves_by c old taken new (Sender a sender may learns) is = Less a taken sender may learns is
leaves_by c old taken new (learning.Nobody same) is = by (sender_of (kind_of c.frame)) refl where
  all : limit_for (pos c.at) c.frame c.own old c.guard ≡ None → Leaves c old new
  all none =
      let is' : KnowSame taken new = subst (λ (l : Option Limit). KnowSame (limited l taken) new) none is in
      All (is'.0 ∙ same.0, is'.1 ∙ same.1)

  by : (o : Option IpAddress) → sender_of (kind_of c.frame) ≡ o → Leaves c old new
  by None none = all (unlimited c old none)
  by (Some a) some = here (may_have_entry c.own a) refl where
    here : (d : Bool) → may_have_entry c.own a ≡ d → Leaves c old new
    here true may = Less a taken some may (Nobody same) is
    here false far = all (unlimited_far c old a some far)

teaches_from : (c : Arrived) (old begun new : Neighbors) → KnowSame old begun → Teaches c begun new → Teaches c old new
teaches_from c old begun new on (learning.Nobody same) = learning.Nobody (same.0 ∙ on.0, same.1 ∙ on.1)
teaches_from c old begun new on (Sender a sender may learns) = Sender a sender may (learns_from c a old begun new on learns)

-- one frame
module _ (c : Arrived) (w : Watch) (old new : Host) (on : IsOnEthernet old) (long : 42 ≤ length c.frame) (guard : c.guard ≡ w.guard)
    (own : c.own ≡ old.ip_addrs) where
  step : Takes c w old new → IsOnEthernet new × Leaves c old.neighbors new.neighbors
  step (Dropped refused same) = (
    record {
      own = on.own;
      hardware = same.hardware ∙ on.hardware;
      near =
          subst (λ (o : List IpCidr). AreNear o new.neighbors) (sym same.addresses)
          (same_near old.ip_addrs old.neighbors new.neighbors same.neighbors on.near);
    },
    All same.neighbors,
  )
  step (Admitted begun taken told notes admitted same receives kept) = (
    record {
      own = on.own;
      hardware = kept.hardware ∙ keeps.hardware_address ∙ same.hardware ∙ on.hardware;
      near =
          subst (λ (o : List IpCidr). AreNear o new.neighbors) (sym kept.addresses)
          (same_near taken.ip_addrs (limited limit taken.neighbors) new.neighbors kept.neighbors
          (limited_near taken.ip_addrs limit taken.neighbors law.1));
    },
    leaves_by c old.neighbors taken.neighbors new.neighbors (teaches_from c old.neighbors begun.neighbors taken.neighbors same.neighbors taught_c) left,
  ) where
    limit : Option Limit
    limit = limit_for (pos c.at) c.frame old.ip_addrs old.neighbors w.guard

    keeps : KeepsAtFrame c.frame begun taken
    keeps = frames_keep (pos c.at) c.frame begun taken told notes receives

    near_begun : AreNear begun.ip_addrs begun.neighbors
    near_begun =
        subst (λ (o : List IpCidr). AreNear o begun.neighbors) (sym same.addresses)
        (same_near old.ip_addrs old.neighbors begun.neighbors same.neighbors on.near)

    law : Teaches (arrived_at c.at c.frame begun c.guard) begun.neighbors taken.neighbors × AreNear taken.ip_addrs taken.neighbors
    law =
        frames_teach_their_sender c.at c.frame begun taken told notes on.own c.guard receives (same.hardware ∙ on.hardware) long near_begun

    taught_c : Teaches c begun.neighbors taken.neighbors
    taught_c =
        subst (λ (o : List IpCidr). Teaches (record { at = c.at; frame = c.frame; own = o; guard = c.guard }) begun.neighbors taken.neighbors)
        (same.addresses ∙ sym own) law.0

    left : KnowSame (limited (limit_for (pos c.at) c.frame c.own old.neighbors c.guard) taken.neighbors) new.neighbors
    left =
        subst (λ (o : List IpCidr). KnowSame (limited (limit_for (pos c.at) c.frame o old.neighbors c.guard) taken.neighbors) new.neighbors) (sym own)
        (subst (λ (g : Guard). KnowSame (limited (limit_for (pos c.at) c.frame old.ip_addrs old.neighbors g) taken.neighbors) new.neighbors) (sym guard)
        kept.neighbors)

-- and many
runs_of : (arrived : List Arrived) (old new : Host) → IsOnEthernet old → AreWhole arrived → TakesAll arrived old new →
    Runs arrived old.neighbors new.neighbors
runs_of [] old new on whole (learning.End H) = End H.neighbors
runs_of (c ∷ later) old new on whole (learning.Then d rest w k mid z is_on guard own takes more) =
    let one = step c w old mid on whole.0 guard own takes in
    Then c later old.neighbors mid.neighbors new.neighbors one.1 (runs_of later mid new one.0 whole.1 more)

stays_of : (arrived : List Arrived) (old new : Host) (on : IsOnEthernet old) (whole : AreWhole arrived) (takes : TakesAll arrived old new)
    (b : IpAddress) (h : HardwareAddress) → StaysInPlace b h takes → StaysAt b h (runs_of arrived old new on whole takes)
unfolding runs_of
stays_of [] old new on whole (learning.End H) b h stays = tt
stays_of (c ∷ later) old new on whole (learning.Then d rest w k mid z is_on guard own takes more) b h stays =
    (stays.0, stays_of later mid new (step c w old mid on whole.0 guard own takes).0 whole.1 more b h stays.1)

pub hosts_keep_confirmed : HostsKeepConfirmed
hosts_keep_confirmed most stay first last end arrived old new b h on some share less few is_known minute left order same whole takes stays =
    confirmed_stay most stay first last end arrived old.neighbors new.neighbors b h some share less few is_known minute left order same
    (runs_of arrived old new on whole takes) (stays_of arrived old new on whole takes b h stays)

pub hosts_keep_newcomers : HostsKeepNewcomers
hosts_keep_newcomers stay at first last arrived old new b h on one sixty before_it few is_known alone half order same whole takes stays =
    newcomers_stay stay at first last arrived old.neighbors new.neighbors b h one sixty before_it few is_known alone half order same
    (runs_of arrived old new on whole takes) (stays_of arrived old new on whole takes b h stays)
