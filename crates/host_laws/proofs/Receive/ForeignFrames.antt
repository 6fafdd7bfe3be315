-- A frame, and a packet, to another host or from none has no effect.
use Rattle.std.proofs.Common.{◌≡◌, ◌≢◌, ◌⊎◌, ℕ, zero, suc, ◌+◌, ◌-◌, ◌*◌, ◌/◌, ◌%◌, ◌^◌, ◌≤◌, Bool, true, false, List}
use Rattle.std.proofs.Common.{[], ◌∷◌, refl, sym, ◌∙◌, ap, subst, inl, inr, Option, Some, None, arith}
use Rattle.std.specs.Prelude.{ℤ, ◌<◌, ◌==◌, ◌||◌, ◌&&◌, not, nat_le, nat_lt, slice_get, slice_index, if◌then◌else◌}
use Rattle.std.proofs.lemmas.Bool.Decides.{Decides-eqb, nat_tests}
use Rattle.std.proofs.Math.Pow.{pow_mono}
use Rattle.std.specs.List.{AllByRecursion, list_any}
use Rattle.std.specs.Str.{bytes_eq}
use Rattle.std.proofs.lemmas.Slice.Eq.{bytes_eq-Decides}
use Rattle.ip_wire.specs.Octets.{u32_at}
use Rattle.ip_address.specs.Cidr.{address_of, contains}
use Rattle.ip_address.specs.EthernetAddress.{broadcast, is_broadcast, is_multicast}
use Rattle.ip_address.specs.Ip.{is_unicast as is_one}
use Rattle.ip_address.specs.Ipv4 as ipv4_address
use Rattle.ip_address.specs.Ipv6 as ipv6_address
use Rattle.ip_address.specs.Protocol.{number_of}
use Rattle.ip_address.specs.declared.ethernet_address.EthernetAddress.{EthernetAddress}
use Rattle.ip_address.specs.declared.protocol.IpProtocol.{IpProtocol}
use Rattle.ip_wire.specs.Ethernet.{header_in}
use Rattle.ip_wire.specs.Ipv6Packet.{ipv6_in}
use Rattle.ip_wire.specs.HopByHop.{hop_by_hop_in, first_failure}
use Rattle.ip_wire.specs.declared.hop_by_hop.Ipv6OptionFailureType.TheVariants.{Skip}
use Rattle.ip_wire.specs.declared.ipv6_packet.Ipv6Repr.{Ipv6Repr}
use Rattle.ip_address.specs.Prefixes.{last_of}
use Rattle.ip_address.specs.declared.cidr.IpCidr.{IpCidr}
use Rattle.ip_address.specs.declared.cidr.IpCidr.TheVariants as cidr
use Rattle.ip_address.specs.declared.cidr.Ipv4Cidr.{Ipv4Cidr}
use Rattle.ip_address.specs.declared.hardware.HardwareAddress.{HardwareAddress}
use Rattle.ip_address.specs.declared.ip.IpAddress.{IpAddress}
use Rattle.ip_address.specs.declared.ip.IpAddress.TheVariants.{Ipv4, Ipv6}
use Rattle.ip_address.specs.declared.ipv6.Ipv6Address.{Ipv6Address}
use Rattle.ip_wire.specs.declared.ip_packet.IpRepr.TheVariants as repr
use Rattle.ip_wire.specs.declared.ipv4_packet.Ipv4Repr.{Ipv4Repr}
use Rattle.ip_wire.specs.declared.ipv4_packet.Ipv4Fragment.{Ipv4Fragment}
use Rattle.ip_wire.specs.Ipv4Packet.{ipv4_in}
use Rattle.iface_tables.specs.declared.route.Route.{Route}
use Rattle.iface_tables.specs.Route.{best, is_live, more_specific, prefix_len, router_of}
use Rattle.iface_tables.specs.declared.groups.Group.{Group}
use Rattle.iface_tables.specs.declared.groups.GroupState.TheVariants.{Leaving}
use Rattle.iface_tables.specs.Groups.{is_member}
use Rattle.iface_tables.specs.Groups as group_table
use Rattle.sockets.specs.Source.{is_same}
use Rattle.fragmentation.specs.Slots.{Slots, live_at}
use Rattle.host_machine.specs.Context.Note.{Note}
use Rattle.host_machine.specs.Context.Host.{Host, Storage, has_ip_addr, is_assigned, is_one_assigned, is_routed_here}
use Rattle.host_machine.specs.Context.Host.{with_places, with_slots, without_expired}
use Rattle.host_machine.specs.Context.Addresses.{has_solicited_node, is_broadcast_v4, is_broadcast_of, is_for_host}
use Rattle.host_machine.specs.Context.Addresses.{is_that, may_be_source}
use Rattle.host_machine.specs.Receive.Reply.{Reply, IsDropped}
use Rattle.host_machine.specs.Receive.Ipv4.{ProcessesDatagram, ProcessesIpv4, ProcessesPacket}
use Rattle.host_machine.specs.Receive.Ipv4 as ip
use Rattle.host_machine.specs.Receive.Ipv6.{ProcessesDatagramV6, ProcessesHopByHop, ProcessesIpv6}
use Rattle.host_machine.specs.Receive.Ipv6 as ipv6
use Rattle.host_machine.specs.Receive.Ethernet.{ProcessesEthernet, ProcessesFrame, is_for}
use Rattle.host_machine.specs.Receive.Ethernet as ethernet
use Rattle.host_laws.specs.Laws.Restraint.Readings.{AreSameButRaw}
use Rattle.host_laws.specs.Laws.Restraint.Foreign.{ForeignPacketsAreDropped, HasPrefixOf}
use Rattle.host_laws.specs.Laws.Restraint.Foreign.{IsForeignV4, IsInNoList}
use Rattle.host_laws.specs.Laws.Restraint.Foreign.{AsksNothingOnTheWay, ForeignPacketsV6AreDropped}
use Rattle.host_laws.specs.Laws.Restraint.Foreign.{FramesForOthersAreDropped}
use Rattle.host_laws.specs.Laws.Restraint.Foreign.{IsForeignV6, IsNoBroadcastOf, IsNoHostV4, IsNoSolicitedNodeOf}
use Rattle.host_laws.specs.Laws.Restraint.Foreign.{OwnFramesAreTaken, PacketsFromNoHostAreDropped}
use Rattle.host_laws.specs.Laws.Restraint.Foreign.{PacketsFromNoHostV6AreDropped}
use Rattle.host_laws.specs.Laws.Restraint.Foreign as law
use Rattle.host_laws.proofs.Receive.Malformed.{nothing_responded}
use Rattle.host_laws.proofs.Receive.ReceivedFrames.{WasHandled, TakenV4, TakenV6, handled, handled_v4, handled_v6}
use Rattle.host_laws.proofs.Receive.ReceivedFrames.{no_effect, raw_only, same_all}

-- an address that is none of the host's
pub same_bits : (a b : ℕ) → (a ≡ b → ⊥) → (a == b) ≡ false
same_bits a b other = grind (arith, nat_tests)

not_same : (x a : IpAddress) → x ≢ a → is_same x a ≡ false
not_same (Ipv4 x) (Ipv4 a) other = same_bits x.bits a.bits (λ e. other (ap (λ n. Ipv4 (record { bits = n })) e))
not_same (Ipv4 x) (Ipv6 a) other = refl
not_same (Ipv6 x) (Ipv4 a) other = refl
not_same (Ipv6 x) (Ipv6 a) other = same_bits x.bits a.bits (λ e. other (ap (λ n. Ipv6 (record { bits = n })) e))

none_assigned : (own : List IpCidr) (a : IpAddress) → AllByRecursion (λ c. address_of c ≢ a) own → is_assigned own a ≡ false
none_assigned [] a none = refl
none_assigned (c ∷ own) a none = rw (not_same (address_of c) a none.0) (none_assigned own a none.1)

either_false : (x y : Bool) → x ≡ false → y ≡ false → (x || y) ≡ false
either_false true y e f = absurd cc
either_false false y e f = f

not_in_group : (x a : IpAddress) → group_table.is_same x a ≡ true → x ≡ a
not_in_group (Ipv4 x) (Ipv4 a) e = let same : x.bits ≡ a.bits = grind (arith, nat_tests) in ap (λ n. Ipv4 (record { bits = n })) same
not_in_group (Ipv4 x) (Ipv6 a) e = absurd cc
not_in_group (Ipv6 x) (Ipv4 a) e = absurd cc
not_in_group (Ipv6 x) (Ipv6 a) e = let same : x.bits ≡ a.bits = grind (arith, nat_tests) in ap (λ n. Ipv6 (record { bits = n })) same

no_member : (gs : List Group) (a : IpAddress) → AllByRecursion (λ (g : Group). g.addr ≡ a → g.state ≡ Leaving) gs → is_member gs a ≡ false
no_member [] a none = refl
no_member (g ∷ gs) a none = by (no_member gs a none.1) (group_table.is_same g.addr a) refl where
  by : is_member gs a ≡ false → (b : Bool) → group_table.is_same g.addr a ≡ b → is_member (g ∷ gs) a ≡ false
  by others true e = rw (e, none.0 (not_in_group g.addr a e)) refl
  by others false e = rw e others

-- no route leads an address to the host
pub has_prefix : (c : IpCidr) (a : IpAddress) → contains c a ≡ true → HasPrefixOf c a
has_prefix (cidr.Ipv4 n) (Ipv4 a) e = grind (arith, nat_tests)
has_prefix (cidr.Ipv4 n) (Ipv6 a) e = absurd cc
has_prefix (cidr.Ipv6 n) (Ipv4 a) e = absurd cc
has_prefix (cidr.Ipv6 n) (Ipv6 a) e = grind (arith, nat_tests)

-- each route of a list that has an address's prefix leads to another host
abbrev LeadElsewhere : List IpCidr → IpAddress → List Route → Type 0
LeadElsewhere own a rs = AllByRecursion (λ (r : Route). HasPrefixOf r.cidr a → AllByRecursion (λ c. address_of c ≢ r.via_router) own) rs

leads_elsewhere : (own : List IpCidr) (a : IpAddress) (t : ℤ) (rs : List Route) →
    LeadElsewhere own a rs → is_one_assigned own (router_of (best rs a t)) ≡ false
leads_elsewhere own a t [] all = refl
leads_elsewhere own a t (r ∷ rs) all = by (leads_elsewhere own a t rs all.1) (contains r.cidr a) (is_live r t) refl where
  chosen : is_assigned own r.via_router ≡ false → (o : Option Route) → is_one_assigned own (router_of o) ≡ false →
      is_one_assigned own (router_of (Some (more_specific r o))) ≡ false
  chosen e None rest = e
  chosen e (Some after) rest = of (nat_le (prefix_len r) (prefix_len after)) where
    of : (b : Bool) → is_assigned own (if b then after else r).via_router ≡ false
    of true = rest
    of false = e

  by : is_one_assigned own (router_of (best rs a t)) ≡ false → (c l : Bool) → contains r.cidr a ≡ c →
      is_one_assigned own (router_of (if c && l then Some (more_specific r (best rs a t)) else best rs a t)) ≡ false
  by rest true true e = chosen (none_assigned own r.via_router (all.0 (has_prefix r.cidr a e))) (best rs a t) rest
  by rest true false e = rest
  by rest false l e = rest

not_own : {H : Host} {a : IpAddress} → IsInNoList H a → has_ip_addr H a ≡ false
not_own {H} {a} i = either_false (is_assigned H.ip_addrs a) (H.any_ip && is_routed_here H a) (none_assigned H.ip_addrs a i.not_assigned)
    (by i.not_routed) where
      and_false : (x y : Bool) → y ≡ false → (x && y) ≡ false
      and_false true y e = e
      and_false false y e = refl

      by : ((H.any_ip ≡ false) ⊎ LeadElsewhere H.ip_addrs a H.routes) → (H.any_ip && is_routed_here H a) ≡ false
      by (inl off) = rw off refl
      by (inr all) =
          and_false H.any_ip (is_routed_here H a)
          (and_false (is_one a) (is_one_assigned H.ip_addrs (router_of (best H.routes a H.moment)))
          (leads_elsewhere H.ip_addrs a H.moment H.routes all))

-- nor is it a broadcast address
pub no_broadcast : (own : List IpCidr) (a : ℕ) → AllByRecursion (IsNoBroadcastOf a) own →
    list_any (λ c. is_broadcast_of c (record { bits = a })) own ≡ false
no_broadcast [] a none = refl
no_broadcast (cidr.Ipv6 n ∷ own) a none = no_broadcast own a none.1
no_broadcast (cidr.Ipv4 n ∷ own) a none = either_false _ _ (by (nat_lt n.prefix_len 31) refl) (no_broadcast own a none.1) where
  by : (b : Bool) → nat_lt n.prefix_len 31 ≡ b →
      is_that (if b then Some (record { bits = last_of 32 n.prefix_len n.address.bits }) else None) (record { bits = a }) ≡ false
  by true short =
      let other = none.0 (grind (arith, nat_tests)) in
      same_bits (last_of 32 n.prefix_len n.address.bits) a (λ e. other (sym e))
  by false long = refl

pub not_for_host : {H : Host} {a : ℕ} → IsForeignV4 H a → is_for_host H (Ipv4 (record { bits = a })) ≡ false
not_for_host {H} {a} i =
    let own = not_own i.in_no_list in
    let hosts = same_bits a 0xe000_0001 i.not_all_hosts in
    let group = no_member H.groups (Ipv4 (record { bits = a })) i.in_no_list.no_group in
    let limited = same_bits a 0xffff_ffff i.not_limited_broadcast in
    let network = no_broadcast H.ip_addrs a i.no_broadcast in
    rw (own, hosts, group, limited, network) refl

-- the lists stay at another moment, and with other slots
in_no_list_at : {H : Host} {a : IpAddress} (t : ℤ) (slots : Slots) → IsInNoList H a → IsInNoList (record H { moment = t; slots = slots }) a
in_no_list_at t slots i = record { not_assigned = i.not_assigned; no_group = i.no_group; not_routed = i.not_routed }

foreign_at : {H : Host} {a : ℕ} (t : ℤ) (slots : Slots) → IsForeignV4 H a → IsForeignV4 (record H { moment = t; slots = slots }) a
foreign_at t slots i = record {
  in_no_list = in_no_list_at t slots i.in_no_list;
  not_limited_broadcast = i.not_limited_broadcast;
  not_all_hosts = i.not_all_hosts;
  no_broadcast = i.no_broadcast;
}

-- what a packet to another host leaves
record Passes (H : Host) (reply : Option Reply) (new : Host) : Type 0 where
  silent : reply ≡ None
  slots : Slots
  places : List Storage
  raw_only : AreSameButRaw H.sockets.places places
  others : new ≡ with_places (with_slots H slots) places

pass_by : {H new : Host} {reply : Option Reply} {notes : List Note} → IsDropped H reply notes new → Passes H reply new
pass_by {H} d = record {
  silent = d.silent;
  slots = H.slots;
  places = H.sockets.places;
  raw_only = same_all H.sockets.places;
  others = d.unchanged;
}

datagram_passes : {source : HardwareAddress} {H new : Host} {payload : List ℕ} {reply : Option Reply} {notes : List Note} (r : Ipv4Repr)
    (slots : Slots) → ProcessesDatagram source r (with_slots H slots) payload reply notes new →
    is_for_host (with_slots H slots) (Ipv4 r.dst_addr) ≡ false → Passes H reply new
datagram_passes {source} {H} {new} {payload} r slots (ip.NotForUs n d) foreign = record {
  silent = d.silent;
  slots = slots;
  places = _;
  raw_only = raw_only _ (repr.Ipv4 r) payload H.sockets.places;
  others = d.unchanged;
}
datagram_passes r slots (ip.Accepted f t) foreign = absurd cc

packet_passes : {source : HardwareAddress} {H new : Host} {payload : List ℕ} {reply : Option Reply} {notes : List Note}
    (r : Ipv4Repr) (f : Ipv4Fragment) → ProcessesPacket source r f H payload reply notes new →
    IsForeignV4 H r.dst_addr.bits → Passes H reply new
packet_passes r f (ip.FromNoHost s d) foreign = pass_by d
packet_passes {H = H} r f (ip.Part s p t e) foreign = record {
  silent = e;
  slots = t.slots;
  places = H.sockets.places;
  raw_only = same_all H.sockets.places;
  others = t.changed;
}
packet_passes {source} {H} {new} {payload} {reply} r f (ip.Completed octets mid first rest s p t w e) foreign =
    let on : ProcessesDatagram source (ip.datagram_header r octets) (with_slots H t.slots) octets reply rest new =
    subst (λ K. ProcessesDatagram source (ip.datagram_header r octets) K octets reply rest new) t.changed w in
    datagram_passes (ip.datagram_header r octets) t.slots on (not_for_host (foreign_at H.moment t.slots foreign))
packet_passes {H = H} r f (ip.Whole s w t) foreign = datagram_passes {H = H} r H.slots t (not_for_host foreign)

ipv4_passes : {source : HardwareAddress} {H new : Host} {octets : List ℕ} {reply : Option Reply} {notes : List Note} →
    ProcessesIpv4 source H octets reply notes new → IsForeignV4 H (u32_at octets 16) → Passes H reply new
ipv4_passes (ip.Malformed m d) foreign = pass_by d
ipv4_passes {octets = octets} (ip.Read i t) foreign = packet_passes (ipv4_in octets).0 (ipv4_in octets).1 t foreign

pub foreign_dropped : ForeignPacketsAreDropped
foreign_dropped t frame old new told notes w packet c foreign =
    let h = handled w in
    let p : Passes (without_expired old t) h.reply h.taken = by h (handled_v4 h c) in
    let r = nothing_responded p.silent h.responds in
    record { silent = h.sends_them ∙ r.0; slots = p.slots; places = p.places; raw_only = p.raw_only; others = r.2 ∙ p.others } where
      by : (h : WasHandled t frame old told notes new) →
          (TakenV4 (without_expired old t) packet h.reply h.first h.taken ⊎ IsDropped (without_expired old t) h.reply h.first h.taken) →
          Passes (without_expired old t) h.reply h.taken
      by h (inl x) = ipv4_passes x.takes (foreign_at t (live_at t old.slots) foreign)
      by h (inr d) = pass_by d

-- IPv6
no_solicited_node : (own : List IpCidr) (a : ℕ) → AllByRecursion (IsNoSolicitedNodeOf a) own → has_solicited_node own (record { bits = a }) ≡ false
no_solicited_node [] a none = refl
no_solicited_node (cidr.Ipv4 n ∷ own) a none = no_solicited_node own a none.1
no_solicited_node (cidr.Ipv6 n ∷ own) a none = either_false _ _ (by (n.address.bits == 1) refl) (no_solicited_node own a none.1) where
  by : (b : Bool) → (n.address.bits == 1) ≡ b → (not b && ((ipv6_address.solicited_node n.address).bits == a)) ≡ false
  by true here = refl
  by false there =
      let other = none.0 (λ e. let bad : (n.address.bits == 1) ≡ true = rw e refl in cc) in
      same_bits (ipv6_address.solicited_node n.address).bits a (λ e. other (sym e))

not_for_host_v6 : {H : Host} {a : ℕ} → IsForeignV6 H a → is_for_host H (Ipv6 (record { bits = a })) ≡ false
not_for_host_v6 {H} {a} i =
    let own = not_own i.in_no_list in
    let nodes = same_bits a 0xff02_0000_0000_0000_0000_0000_0000_0001 i.not_all_nodes in
    let asked = no_solicited_node H.ip_addrs a i.no_solicited_node in
    let group = no_member H.groups (Ipv6 (record { bits = a })) i.in_no_list.no_group in
    let loopback = same_bits a 1 i.not_loopback in
    rw (own, nodes, asked, group, loopback) refl

datagram_v6_dropped : {source : HardwareAddress} {p : IpProtocol} {H new : Host} {payload : List ℕ} {reply : Option Reply} {notes : List Note}
    (r : Ipv6Repr) → ProcessesDatagramV6 source r p H payload reply notes new →
    is_for_host H (Ipv6 r.dst_addr) ≡ false → IsDropped H reply notes new
datagram_v6_dropped r (ipv6.NotForUs n d) foreign = d
datagram_v6_dropped r (ipv6.Accepted f t) foreign = absurd cc

options_dropped : {source : HardwareAddress} {H new : Host} {payload : List ℕ} {reply : Option Reply} {notes : List Note} (r : Ipv6Repr) →
    ProcessesHopByHop source r H payload reply notes new → first_failure (hop_by_hop_in payload).0.options.items ≡ Skip →
    is_for_host H (Ipv6 r.dst_addr) ≡ false → IsDropped H reply notes new
options_dropped r (ipv6.MalformedOptions m d) skip foreign = d
options_dropped r (ipv6.Skipped i s t) skip foreign = datagram_v6_dropped r t foreign
options_dropped r (ipv6.Discarded failure i s other e n same) skip foreign = absurd (other (sym s ∙ skip))

packet_v6_dropped : {source : HardwareAddress} {H new : Host} {payload : List ℕ} {reply : Option Reply} {notes : List Note} (r : Ipv6Repr) →
    ipv6.ProcessesPacket source r H payload reply notes new →
    (number_of r.next_header ≢ 0) ⊎ (first_failure (hop_by_hop_in payload).0.options.items ≡ Skip) →
    is_for_host H (Ipv6 r.dst_addr) ≡ false → IsDropped H reply notes new
packet_v6_dropped r (ipv6.FromNoHost s d) asks foreign = d
packet_v6_dropped r (ipv6.WithOptions s z t) (inl other) foreign = absurd (other z)
packet_v6_dropped r (ipv6.WithOptions s z t) (inr skip) foreign = options_dropped r t skip foreign
packet_v6_dropped r (ipv6.Bare s z t) asks foreign = datagram_v6_dropped r t foreign

ipv6_dropped : {source : HardwareAddress} {H new : Host} {octets : List ℕ} {reply : Option Reply} {notes : List Note} →
    ProcessesIpv6 source H octets reply notes new → AsksNothingOnTheWay octets →
    IsForeignV6 H (ipv6_in octets).0.dst_addr.bits → IsDropped H reply notes new
ipv6_dropped (ipv6.Malformed m d) asks foreign = d
ipv6_dropped {octets = octets} (ipv6.Read i t) asks foreign = packet_v6_dropped (ipv6_in octets).0 t asks (not_for_host_v6 foreign)

foreign_v6_at : {H : Host} {a : ℕ} (t : ℤ) (slots : Slots) → IsForeignV6 H a → IsForeignV6 (record H { moment = t; slots = slots }) a
foreign_v6_at t slots i = record {
  in_no_list = in_no_list_at t slots i.in_no_list;
  not_loopback = i.not_loopback;
  not_all_nodes = i.not_all_nodes;
  no_solicited_node = i.no_solicited_node;
}

pub foreign_v6_dropped : ForeignPacketsV6AreDropped
foreign_v6_dropped t frame old new told notes w packet c asks foreign = let h = handled w in no_effect h (by h (handled_v6 h c)) where
  by : (h : WasHandled t frame old told notes new) →
      (TakenV6 (without_expired old t) packet h.reply h.first h.taken ⊎ IsDropped (without_expired old t) h.reply h.first h.taken) →
      IsDropped (without_expired old t) h.reply h.first h.taken
  by h (inl x) = ipv6_dropped x.takes asks (foreign_v6_at t (live_at t old.slots) foreign)
  by h (inr d) = d

-- a frame to another host
broadcast_odd : (a : EthernetAddress) → slice_index a.0 0 % 2 ≡ 0 → is_broadcast a ≡ false
broadcast_odd a even = by (is_broadcast a) refl where
  by : (b : Bool) → is_broadcast a ≡ b → is_broadcast a ≡ false
  by true e =
      let same : a.0 ≡ broadcast.0 = (bytes_eq-Decides a.0 broadcast.0).0 e in
      let odd : slice_index broadcast.0 0 % 2 ≡ 0 = subst (λ xs. slice_index xs 0 % 2 ≡ 0) same even in
      absurd cc
  by false e = e

other_octets : (xs ys : List ℕ) → xs ≢ ys → bytes_eq xs ys ≡ false
other_octets xs ys other = by (bytes_eq xs ys) refl where
  by : (b : Bool) → bytes_eq xs ys ≡ b → bytes_eq xs ys ≡ false
  by true e = absurd (other ((bytes_eq-Decides xs ys).0 e))
  by false e = e

frame_for_other : {own : EthernetAddress} {H new : Host} {frame : List ℕ} {reply : Option Reply} {notes : List Note} →
    ProcessesEthernet own H frame reply notes new →
    (header_in frame).dst_addr.0 ≢ own.0 → slice_index (header_in frame).dst_addr.0 0 % 2 ≡ 0 → IsDropped H reply notes new
frame_for_other (ethernet.Malformed m d) other even = d
frame_for_other (ethernet.NotForUs l f d) other even = d
frame_for_other {own} {frame = frame} (ethernet.Accepted l f t) other even =
    let one = broadcast_odd (header_in frame).dst_addr even in
    let many : is_multicast (header_in frame).dst_addr ≡ false = rw even refl in
    let mine = other_octets (header_in frame).dst_addr.0 own.0 other in
    let bad : is_for own (header_in frame).dst_addr ≡ false = rw (one, many, mine) refl in
    absurd cc

pub frames_for_others_dropped : FramesForOthersAreDropped
frames_for_others_dropped t frame old new told notes w own on other even = let h = handled w in no_effect h (by h h.takes) where
  by : (h : WasHandled t frame old told notes new) →
      (ProcessesFrame old.hardware_addr (without_expired old t) frame h.reply h.first h.taken
      ⊎ IsDropped (without_expired old t) h.reply h.first h.taken) →
      IsDropped (without_expired old t) h.reply h.first h.taken
  by h (inl x) =
      frame_for_other (subst (λ a. ProcessesFrame a (without_expired old t) frame h.reply h.first h.taken) on x) other even
  by h (inr d) = d

-- one to this host, or to many
pub own_taken : OwnFramesAreTaken
own_taken own destination (inl same) =
    let e : bytes_eq destination.0 own.0 ≡ true = (bytes_eq-Decides destination.0 own.0).1 same in
    last (is_broadcast destination || is_multicast destination) (bytes_eq destination.0 own.0) e where
      last : (x y : Bool) → y ≡ true → (x || y) ≡ true
      last true y e = refl
      last false y e = e
own_taken own destination (inr many) =
    let e : is_multicast destination ≡ true = rw many refl in
    middle (is_broadcast destination) (is_multicast destination) (bytes_eq destination.0 own.0) e where
      middle : (x y z : Bool) → y ≡ true → (x || y || z) ≡ true
      middle true y z e = refl
      middle false true z e = refl
      middle false false z e = absurd cc

-- a source that is no host's
own_broadcast : (own : List IpCidr) (i : ℕ) (n : Ipv4Cidr) (a : ℕ) → slice_get own i ≡ Some (cidr.Ipv4 n) → n.prefix_len < 31 →
    a ≡ last_of 32 n.prefix_len n.address.bits → list_any (λ c. is_broadcast_of c (record { bits = a })) own ≡ true
own_broadcast [] i n a here short is = absurd cc
own_broadcast (c ∷ own) zero n a here short is =
    let same : c ≡ cidr.Ipv4 n = cc in
    let few : nat_lt n.prefix_len 31 ≡ true = grind (arith, nat_tests) in
    let bits : (last_of 32 n.prefix_len n.address.bits == a) ≡ true = (Decides-eqb (last_of 32 n.prefix_len n.address.bits) a).1 (sym is) in
    rw (same, few, bits) refl
own_broadcast (c ∷ own) (suc i) n a here short is = or_true _ _ (own_broadcast own i n a here short is) where
  or_true : (x y : Bool) → y ≡ true → (x || y) ≡ true
  or_true true y e = refl
  or_true false y e = e

-- a broadcast address isn't 0.0.0.0
two_or_more : (k : ℕ) → 1 ≤ k → 2 ≤ 2 ^ k
two_or_more k more = pow_mono {i = 1} {j = k} more

not_zero : (a k q : ℕ) → 2 ≤ q → a ≡ k * q + (q - 1) → (a == 0) ≡ false
not_zero a k q two is = same_bits a 0 (λ e. absurd (omega (arith, two, is, e)))

no_source : (own : List IpCidr) (a : ℕ) → IsNoHostV4 own a → may_be_source own (record { bits = a }) ≡ false
no_source own a (law.LimitedBroadcast is) = rw is refl
no_source own a (law.OfGroup is) =
    let some : (a == 0) ≡ false = same_bits a 0 (λ e. let bad : 0 / 2 ^ 28 ≡ 14 = subst (λ n. n / 2 ^ 28 ≡ 14) e is in absurd cc) in
    by (a == 0xffff_ffff) (a / 2 ^ 28 == 14) (is_broadcast_v4 own (record { bits = a })) (rw is refl) some where
      by : (x y z : Bool) → y ≡ true → (a == 0) ≡ false → ((not (x || y || (a == 0)) && not z) || (a == 0)) ≡ false
      by true y z e some = some
      by false true z e some = some
      by false false z e some = absurd cc
no_source own a (law.NetworkBroadcast i n here short is) =
    let wide : 1 ≤ 32 - n.prefix_len = omega (arith, short) in
    let some : (a == 0) ≡ false =
    not_zero a (n.address.bits / 2 ^ (32 - n.prefix_len)) (2 ^ (32 - n.prefix_len)) (two_or_more (32 - n.prefix_len) wide) is in
    let all = own_broadcast own i n a here short is in
    by (a == 0xffff_ffff) (ipv4_address.is_unicast (record { bits = a })) (list_any (λ c. is_broadcast_of c (record { bits = a })) own) all some where
      by : (x u y : Bool) → y ≡ true → (a == 0) ≡ false → ((u && not (x || y)) || (a == 0)) ≡ false
      by x true true e some = by_x x some where
        by_x : (x : Bool) → (a == 0) ≡ false → (not (x || true) || (a == 0)) ≡ false
        by_x true some = some
        by_x false some = some
      by x false true e some = some
      by x u false e some = absurd cc

packet_unheard : {source : HardwareAddress} {H new : Host} {payload : List ℕ} {reply : Option Reply} {notes : List Note}
    (r : Ipv4Repr) (f : Ipv4Fragment) → ProcessesPacket source r f H payload reply notes new →
    may_be_source H.ip_addrs r.src_addr ≡ false → IsDropped H reply notes new
packet_unheard r f (ip.FromNoHost s d) nobody = d
packet_unheard r f (ip.Part s p t e) nobody = absurd cc
packet_unheard r f (ip.Completed octets mid first rest s p t w e) nobody = absurd cc
packet_unheard r f (ip.Whole s w t) nobody = absurd cc

ipv4_unheard : {source : HardwareAddress} {H new : Host} {octets : List ℕ} {reply : Option Reply} {notes : List Note} →
    ProcessesIpv4 source H octets reply notes new → IsNoHostV4 H.ip_addrs (u32_at octets 12) → IsDropped H reply notes new
ipv4_unheard (ip.Malformed m d) nobody = d
ipv4_unheard {H = H} {octets = octets} (ip.Read i t) nobody =
    packet_unheard (ipv4_in octets).0 (ipv4_in octets).1 t (no_source H.ip_addrs (u32_at octets 12) nobody)

pub unheard : PacketsFromNoHostAreDropped
unheard t frame old new told notes w packet c nobody = let h = handled w in no_effect h (by h (handled_v4 h c)) where
  by : (h : WasHandled t frame old told notes new) →
      (TakenV4 (without_expired old t) packet h.reply h.first h.taken ⊎ IsDropped (without_expired old t) h.reply h.first h.taken) →
      IsDropped (without_expired old t) h.reply h.first h.taken
  by h (inl x) = ipv4_unheard x.takes nobody
  by h (inr d) = d

no_source_v6 : (a : Ipv6Address) → (a.bits ≡ 0) ⊎ (a.bits / 2 ^ 120 ≡ 0xff) → ipv6_address.is_unicast a ≡ false
no_source_v6 a (inl none) = rw none refl
no_source_v6 a (inr many) = rw many refl

packet_v6_unheard : {source : HardwareAddress} {H new : Host} {payload : List ℕ} {reply : Option Reply} {notes : List Note} (r : Ipv6Repr) →
    ipv6.ProcessesPacket source r H payload reply notes new → ipv6_address.is_unicast r.src_addr ≡ false → IsDropped H reply notes new
packet_v6_unheard r (ipv6.FromNoHost s d) nobody = d
packet_v6_unheard r (ipv6.WithOptions s z t) nobody = absurd cc
packet_v6_unheard r (ipv6.Bare s z t) nobody = absurd cc

ipv6_unheard : {source : HardwareAddress} {H new : Host} {octets : List ℕ} {reply : Option Reply} {notes : List Note} →
    ProcessesIpv6 source H octets reply notes new →
    ((ipv6_in octets).0.src_addr.bits ≡ 0) ⊎ ((ipv6_in octets).0.src_addr.bits / 2 ^ 120 ≡ 0xff) → IsDropped H reply notes new
ipv6_unheard (ipv6.Malformed m d) nobody = d
ipv6_unheard {octets = octets} (ipv6.Read i t) nobody = packet_v6_unheard (ipv6_in octets).0 t (no_source_v6 (ipv6_in octets).0.src_addr nobody)

pub unheard_v6 : PacketsFromNoHostV6AreDropped
unheard_v6 t frame old new told notes w packet c nobody = let h = handled w in no_effect h (by h (handled_v6 h c)) where
  by : (h : WasHandled t frame old told notes new) →
      (TakenV6 (without_expired old t) packet h.reply h.first h.taken ⊎ IsDropped (without_expired old t) h.reply h.first h.taken) →
      IsDropped (without_expired old t) h.reply h.first h.taken
  by h (inl x) = ipv6_unheard x.takes nobody
  by h (inr d) = d
