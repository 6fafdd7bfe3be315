-- The next hop, the source and the hardware address of a packet, by the host's lists.
use Rattle.std.proofs.Common.{◌≡◌, ◌≢◌, ℕ, zero, suc, ◌+◌, ◌-◌, ◌*◌, ◌/◌, ◌%◌, ◌^◌, ◌≤◌, Bool, true, false, List, []}
use Rattle.std.proofs.Common.{◌∷◌, ◌++◌, refl, sym, ◌∙◌}
use Rattle.std.proofs.Common.{ap, subst, Option, Some, None, arith}
use Rattle.std.specs.FinMap as finite
use Rattle.std.specs.Prelude.{ℤ, ◌≤ℤ◌, ◌<ℤ◌, ◌==◌, ◌<◌, ◌||◌, ◌&&◌, nat_lt, map, slice_get, Ok, if◌then◌else◌}
use Rattle.std.specs.Option.{option_and_then, option_map}
use Rattle.std.specs.List.{AllByRecursion, list_any}
use Rattle.std.specs.Cmp.{int_ranks}
use Rattle.std.specs.Ordering.{int_cmp, is_le, MatchOrdering}
use Rattle.std.specs.declared.cmp.Ordering.{Ordering}
use Rattle.std.specs.declared.cmp.Ordering.TheVariants.{Less, Equal, Greater}
use Rattle.std.proofs.lemmas.Bool.Decides.{Decides-eqb, nat_tests}
use Rattle.std.proofs.lemmas.Int.{ints}
use Rattle.std.proofs.Math.Nat.{div-le_self}
use Rattle.std.proofs.lemmas.Nat.{div-mul-add, pow_pos}
use Rattle.ip_address.specs.Cidr.{contains}
use Rattle.ip_address.specs.EthernetAddress.{broadcast}
use Rattle.ip_address.specs.Prefixes.{last_of}
use Rattle.ip_address.specs.Ip.{is_unicast, is_unspecified}
use Rattle.ip_address.specs.Ipv4 as ipv4_address
use Rattle.ip_address.specs.declared.cidr.IpCidr.{IpCidr}
use Rattle.ip_address.specs.declared.cidr.IpCidr.TheVariants as cidr
use Rattle.ip_address.specs.declared.cidr.Ipv4Cidr.{Ipv4Cidr}
use Rattle.ip_address.specs.declared.ethernet_address.EthernetAddress.{EthernetAddress}
use Rattle.ip_address.specs.declared.hardware.HardwareAddress.{HardwareAddress}
use Rattle.ip_address.specs.declared.hardware.HardwareAddress.TheVariants as hardware
use Rattle.ip_address.specs.declared.ip.IpAddress.{IpAddress}
use Rattle.ip_address.specs.declared.ip.IpAddress.TheVariants.{Ipv4, Ipv6}
use Rattle.ip_address.specs.declared.ipv4.Ipv4Address.{Ipv4Address}
use Rattle.ip_address.specs.declared.ipv6.Ipv6Address.{Ipv6Address}
use Rattle.fragmentation.specs.Fragments.{Fragment}
use Rattle.fragmentation.specs.Cuts.{Datagram, Piece, piece_of}
use Rattle.iface_tables.specs.declared.neighbor.Answer.TheVariants.{Found, NotFound, RateLimited}
use Rattle.iface_tables.specs.declared.neighbor.Neighbor.{Neighbor}
use Rattle.iface_tables.specs.declared.route.Route.{Route}
use Rattle.iface_tables.specs.Neighbor.{answer_from, answer_of, answer_without_entry, is_before}
use Rattle.iface_tables.specs.Route.{IsBest, IsBestAt, is_live, is_until, matches}
use Rattle.host_machine.specs.Context.Note.{Note}
use Rattle.host_machine.specs.Context.Host.{Host, in_same_network, with_next_id}
use Rattle.host_machine.specs.Context.Addresses.{ipv4_addr, is_broadcast, is_broadcast_of, on_link_addr, or_else, source_v4}
use Rattle.host_machine.specs.Packet.Packet.{Packet}
use Rattle.host_machine.specs.Send.Outcome.{Outcome}
use Rattle.host_machine.specs.Send.Hops.{IsNextHop, OnLink, ByRouter, group_address_v4, group_address_v6, if_unicast, multicast_hardware_addr}
use Rattle.host_machine.specs.Send.Dispatch.{Emits, DispatchesByHop, DispatchesEthernet, SendsOver, Dispatches, destination_of}
use Rattle.host_machine.specs.Send.Requests.{Discovers}
use Rattle.host_machine.specs.Context.Pieces.{datagram_of}
use Rattle.host_machine.specs.Send.Dispatch as dispatch
use Rattle.host_machine.specs.Send.Requests as requests
use Rattle.host_laws.specs.Laws.Restraint.Foreign.{HasPrefixOf, IsNoBroadcastOf}
use Rattle.host_laws.specs.Laws.Restraint.NextHop.{AreApart, AsksFor, GoesByHop, GroupsHaveTheirAddresses, HopIs}
use Rattle.host_laws.specs.Laws.Restraint.NextHop.{Includes, IsGroup, IsLive, IsLongest}
use Rattle.host_laws.specs.Laws.Restraint.NextHop.{IsOfGroup, IsOneHost, IsSentTo, IsSourceFor, IsToAll, MayBeUsed}
use Rattle.host_laws.specs.Laws.Restraint.NextHop.{PacketsGoByHops, SourcesAreNear}
use Rattle.host_laws.specs.Laws.Restraint.NextHop as law
use Rattle.host_laws.specs.Laws.Restraint.Replies.{IsOneHostV4}
use Rattle.host_machine.proofs.Interface.EarliestInstant.{hop_is_one}
use Rattle.host_laws.proofs.Receive.ForeignFrames.{has_prefix, no_broadcast, same_bits}
use Rattle.host_laws.proofs.Context.ChosenSources.{chosen_v6}
use Rattle.host_laws.proofs.Interface.DueWork.{lt_of}

-- prefixes
contains_it : (c : IpCidr) (a : IpAddress) → HasPrefixOf c a → contains c a ≡ true
contains_it (cidr.Ipv4 n) (Ipv4 a) e = (Decides-eqb (n.address.bits / 2 ^ (32 - n.prefix_len)) (a.bits / 2 ^ (32 - n.prefix_len))).1 e
contains_it (cidr.Ipv4 n) (Ipv6 a) e = absurd e
contains_it (cidr.Ipv6 n) (Ipv4 a) e = absurd e
contains_it (cidr.Ipv6 n) (Ipv6 a) e = (Decides-eqb (n.address.bits / 2 ^ (128 - n.prefix_len)) (a.bits / 2 ^ (128 - n.prefix_len))).1 e

or_right : (x y : Bool) → y ≡ true → (x || y) ≡ true
or_right true y e = refl
or_right false y e = e

near_in : (own : List IpCidr) (a : IpAddress) (i : ℕ) (c : IpCidr) → slice_get own i ≡ Some c → HasPrefixOf c a → in_same_network own a ≡ true
near_in [] a i c here prefix = absurd cc
near_in (d ∷ own) a zero c here prefix = let same : d ≡ c = cc in rw (same, contains_it c a prefix) refl
near_in (d ∷ own) a (suc i) c here prefix = or_right (contains d a) (in_same_network own a) (near_in own a i c here prefix)

apart_out : (own : List IpCidr) (a : IpAddress) → AreApart own a → in_same_network own a ≡ false
apart_out [] a apart = refl
apart_out (c ∷ own) a apart = by (contains c a) refl (apart_out own a apart.1) where
  by : (b : Bool) → contains c a ≡ b → in_same_network own a ≡ false → in_same_network (c ∷ own) a ≡ false
  by true e rest = absurd (apart.0 (has_prefix c a e))
  by false e rest = rw e rest

-- lifetimes
ranked_le : (t end : ℤ) (o : Ordering) → MatchOrdering o (t <ℤ end) (t ≡ end) (end <ℤ t) → t ≤ℤ end → is_le o ≡ true
ranked_le t end Less m le = refl
ranked_le t end Equal m le = refl
ranked_le t end Greater m le = absurd (omega (arith, ints))

le_ranked : (t end : ℤ) (o : Ordering) → MatchOrdering o (t <ℤ end) (t ≡ end) (end <ℤ t) → is_le o ≡ true → t ≤ℤ end
le_ranked t end Less m e = omega (arith, ints)
le_ranked t end Equal m e = omega (arith, ints)
le_ranked t end Greater m e = absurd cc

live_until : (end : Option ℤ) (t : ℤ) → Includes end t → is_until end t ≡ true
live_until None t i = refl
live_until (Some end) t i = ranked_le t end (int_cmp t end) (int_ranks t end) i

until_live : (end : Option ℤ) (t : ℤ) → is_until end t ≡ true → Includes end t
until_live None t e = tt
until_live (Some end) t e = le_ranked t end (int_cmp t end) (int_ranks t end) e

both_true : (x y : Bool) → (x && y) ≡ true → (x ≡ true) × (y ≡ true)
both_true true true e = (refl, refl)
both_true true false e = absurd cc
both_true false y e = absurd cc

used_matches : (r : Route) (a : IpAddress) (t : ℤ) → MayBeUsed r a t → matches r a t ≡ true
used_matches r a t u = rw (contains_it r.cidr a u.prefix, live_until r.expires_at t u.live) refl

matches_used : (r : Route) (a : IpAddress) (t : ℤ) → matches r a t ≡ true → MayBeUsed r a t
matches_used r a t e = let parts = both_true (contains r.cidr a) (is_live r t) e in
    record { prefix = has_prefix r.cidr a parts.0; live = until_live r.expires_at t parts.1 }

best_is : {rs : List Route} {a : IpAddress} {t : ℤ} {i : ℕ} {r : Route} → IsLongest rs a t i r → IsBestAt rs a t i r
best_is {rs} {a} {t} {i} {r} l = record {
  is_there = l.here;
  is_match = used_matches r a t l.used;
  longest = λ k other here m. l.longest k other here (matches_used other a t m);
  last = λ k other after here m. l.last k other after here (matches_used other a t m);
}

none_best : (rs : List Route) (a : IpAddress) (t : ℤ) →
    ((i : ℕ) (r : Route) → slice_get rs i ≡ Some r → MayBeUsed r a t → ⊥) → IsBest rs a t None
none_best rs a t none k other here = by (matches other a t) refl where
  by : (b : Bool) → matches other a t ≡ b → matches other a t ≡ false
  by true e = absurd (none k other here (matches_used other a t e))
  by false e = e

-- addresses of one host
host_v4 : (own : List IpCidr) (a : Ipv4Address) → IsOneHostV4 own a.bits → ipv4_address.is_unicast a ≡ true
host_v4 own a h =
    let b = same_bits a.bits 0xffff_ffff h.not_all in
    let m = same_bits (a.bits / 2 ^ 28) 14 h.no_group in
    let u = same_bits a.bits 0 h.not_nobody in
    rw (b, m, u) refl

one_unicast : (own : List IpCidr) (a : IpAddress) → IsOneHost own a → is_unicast a ≡ true
one_unicast own (Ipv4 a) h = host_v4 own a h
one_unicast own (Ipv6 a) h = let m = same_bits (a.bits / 2 ^ 120) 0xff h.1 in let u = same_bits a.bits 0 h.0 in rw (m, u) refl

no_group_address : (own : List IpCidr) (a : IpAddress) → IsOneHost own a → multicast_hardware_addr own a ≡ None
no_group_address own (Ipv4 a) h =
    let b = same_bits a.bits 0xffff_ffff h.not_all in
    let m = same_bits (a.bits / 2 ^ 28) 14 h.no_group in
    let n = no_broadcast own a.bits h.no_broadcast in
    rw (b, n, m) refl
no_group_address own (Ipv6 a) h = let m = same_bits (a.bits / 2 ^ 120) 0xff h.1 in rw m refl

specified : (own : List IpCidr) (a : IpAddress) → IsOneHost own a → is_unspecified a ≡ false
specified own (Ipv4 a) h = same_bits a.bits 0 h.not_nobody
specified own (Ipv6 a) h = same_bits a.bits 0 h.0

-- the hop by the lists is the one of the rules
hop_by_lists : {H : Host} {a : IpAddress} {hop : Option IpAddress} → HopIs H a hop → IsNextHop H a hop
hop_by_lists {H} {a} (law.Itself near e) = OnLink (near_in H.ip_addrs a near.0 near.1 near.2 near.3) e
hop_by_lists {H} {a} (law.Gateway i r apart l host e) =
    let one = one_unicast [] r.via_router host in
    let chosen : option_and_then if_unicast (Some r.via_router) ≡ Some r.via_router = rw one refl in
    ByRouter (Some r.via_router) (apart_out H.ip_addrs a apart) (Some r, (i, best_is l), refl) (e ∙ sym chosen)
hop_by_lists {H} {a} (law.NoRouteTo apart none e) =
    ByRouter None (apart_out H.ip_addrs a apart) (None, none_best H.routes a H.moment none, refl) e

-- sources
record IsNearest (own : List IpCidr) (a s : Ipv4Address) : Type 0 where
  front : List IpCidr
  back : List IpCidr
  network : Ipv4Cidr
  is : own ≡ front ++ cidr.Ipv4 network ∷ back
  apart : AreApart front (Ipv4 a)
  prefix : HasPrefixOf (cidr.Ipv4 network) (Ipv4 a)
  same : s ≡ network.address

behind : {own : List IpCidr} {a s : Ipv4Address} (c : IpCidr) → (HasPrefixOf c (Ipv4 a) → ⊥) → IsNearest own a s → IsNearest (c ∷ own) a s
behind c other n = record {
  front = c ∷ n.front;
  back = n.back;
  network = n.network;
  is = ap (λ xs. c ∷ xs) n.is;
  apart = (other, n.apart);
  prefix = n.prefix;
  same = n.same;
}

no_prefix : (c : IpCidr) (a : IpAddress) → contains c a ≡ false → HasPrefixOf c a → ⊥
no_prefix c a e p = let there = contains_it c a p in cc

nearest : (own : List IpCidr) (a s : Ipv4Address) → on_link_addr own a ≡ Some s → IsNearest own a s
nearest [] a s e = absurd cc
nearest (cidr.Ipv4 n ∷ own) a s e = by (contains (cidr.Ipv4 n) (Ipv4 a)) refl e (nearest own a s) where
  by : (b : Bool) → contains (cidr.Ipv4 n) (Ipv4 a) ≡ b → (if b then Some n.address else on_link_addr own a) ≡ Some s →
      (on_link_addr own a ≡ Some s → IsNearest own a s) → IsNearest (cidr.Ipv4 n ∷ own) a s
  by true c q rest = let there : n.address ≡ s = cc in record {
    front = [];
    back = own;
    network = n;
    is = refl;
    apart = tt;
    prefix = has_prefix (cidr.Ipv4 n) (Ipv4 a) c;
    same = sym there;
  }
  by false c q rest = behind (cidr.Ipv4 n) (no_prefix (cidr.Ipv4 n) (Ipv4 a) c) (rest q)
nearest (cidr.Ipv6 n ∷ own) a s e = behind (cidr.Ipv6 n) (λ p. p) (nearest own a s e)

none_near : (own : List IpCidr) (a : Ipv4Address) → on_link_addr own a ≡ None → AreApart own (Ipv4 a)
none_near [] a e = tt
none_near (cidr.Ipv4 n ∷ own) a e = by (contains (cidr.Ipv4 n) (Ipv4 a)) refl e (none_near own a) where
  by : (b : Bool) → contains (cidr.Ipv4 n) (Ipv4 a) ≡ b → (if b then Some n.address else on_link_addr own a) ≡ None →
      (on_link_addr own a ≡ None → AreApart own (Ipv4 a)) → AreApart (cidr.Ipv4 n ∷ own) (Ipv4 a)
  by true c q rest = absurd cc
  by false c q rest = (no_prefix (cidr.Ipv4 n) (Ipv4 a) c, rest q)
none_near (cidr.Ipv6 n ∷ own) a e = ((λ p. p), none_near own a e)

-- no network of IPv4 in a list
abbrev NoneOfV4 : List IpCidr → Type 0
NoneOfV4 own = AllByRecursion (λ c. (m : Ipv4Cidr) → c ≢ cidr.Ipv4 m) own

record IsFirst (own : List IpCidr) (s : Ipv4Address) : Type 0 where
  front : List IpCidr
  back : List IpCidr
  network : Ipv4Cidr
  is : own ≡ front ++ cidr.Ipv4 network ∷ back
  none : NoneOfV4 front
  same : s ≡ network.address

first_v4 : (own : List IpCidr) (s : Ipv4Address) → ipv4_addr own ≡ Some s → IsFirst own s
first_v4 [] s e = absurd cc
first_v4 (cidr.Ipv4 n ∷ own) s e =
    let there : n.address ≡ s = cc in record { front = []; back = own; network = n; is = refl; none = tt; same = sym there }
first_v4 (cidr.Ipv6 n ∷ own) s e = let f = first_v4 own s e in record {
  front = cidr.Ipv6 n ∷ f.front;
  back = f.back;
  network = f.network;
  is = ap (λ xs. cidr.Ipv6 n ∷ xs) f.is;
  none = ((λ m q. absurd cc), f.none);
  same = f.same;
}

no_v4 : (own : List IpCidr) → ipv4_addr own ≡ None → NoneOfV4 own
no_v4 [] e = tt
no_v4 (cidr.Ipv4 n ∷ own) e = absurd cc
no_v4 (cidr.Ipv6 n ∷ own) e = ((λ m q. absurd cc), no_v4 own e)

source_is : (own : List IpCidr) (a s : Ipv4Address) → source_v4 own a ≡ Some s → IsSourceFor own a s
source_is own a s e = by (on_link_addr own a) refl e where
  by : (o : Option Ipv4Address) → on_link_addr own a ≡ o → or_else o (ipv4_addr own) ≡ Some s → IsSourceFor own a s
  by (Some x) is q = let n = nearest own a s (is ∙ q) in law.OnNetwork n.front n.back n.network n.is n.apart n.prefix n.same
  by None is q = let f = first_v4 own s q in law.FirstOfAll f.front f.back f.network f.is (none_near own a is) f.none f.same

no_source : (own : List IpCidr) (a : Ipv4Address) → source_v4 own a ≡ None → NoneOfV4 own
no_source own a e = by (on_link_addr own a) e where
  by : (o : Option Ipv4Address) → or_else o (ipv4_addr own) ≡ None → NoneOfV4 own
  by (Some x) q = absurd cc
  by None q = no_v4 own q

pub sources_near : SourcesAreNear
sources_near own a s e = by (source_v4 own a) refl e where
  by : (o : Option Ipv4Address) → source_v4 own a ≡ o → option_map (λ x. Ipv4 x) o ≡ Some (Ipv4 s) → IsSourceFor own a s
  by None is q = absurd cc
  by (Some x) is q = let same : x ≡ s = cc in source_is own a s (is ∙ ap Some same)

-- where a packet is sent
first_goes : (d : Datagram) (fs : List Fragment) (first : Piece) (rest : List Piece) →
    map (piece_of d) fs ≡ first ∷ rest → first.destination ≡ d.destination
first_goes d [] first rest e = absurd cc
first_goes d (f ∷ fs) first rest e = let same : piece_of d f ≡ first = cc in ap (λ (p : Piece). p.destination) (sym same)

record IsDone (H : Host) (h : HardwareAddress) (p : Packet) (outcome : Outcome) (frames : List (List ℕ)) : Type 0 where
  ok : outcome ≡ Ok tt
  sent : AllByRecursion (IsSentTo H h p) frames

emitted : {id : ℕ} {p : Packet} {h : HardwareAddress} {outcome : Outcome} {H new : Host} {frames : List (List ℕ)} {notes : List Note} →
    Emits id p h outcome (with_next_id H) frames notes new → IsDone H h p outcome frames
emitted {H = H} (dispatch.Whole fits formed o f n e) = record { ok = o; sent = rw f (law.Whole refl, tt) }
emitted {id} {p} {h} {outcome} {H} (dispatch.InPieces q first rest is long may pieces fits formed o f n e) = record {
  ok = o;
  sent = rw f (law.FirstPiece id q first rest is pieces (first_goes (datagram_of (with_next_id H) h id q) _ first rest pieces) refl, tt);
}
emitted (dispatch.TooLong long may o u) = record { ok = o; sent = rw u.silent tt }

discovered : {own : EthernetAddress} {a : IpAddress} {p : Packet} {outcome : Outcome} {H new : Host} {frames : List (List ℕ)} {notes : List Note}
    (hop : Option IpAddress) → hop ≡ Some a → answer_of H.neighbors a H.moment ≡ NotFound →
    Discovers own a outcome (with_next_id H) frames notes new → GoesByHop own H p hop outcome frames
discovered {own} {a} {p} {outcome} {H} hop is unknown (requests.Asked target source h s o f n e) =
    law.Asked a _ is unknown o f (subst (AsksFor own H _) (sym h) (law.ByArp target source (source_is H.ip_addrs target source s) refl))
discovered {own} {a} {p} {outcome} {H} hop is unknown (requests.NoSource target h s o u) =
    law.NoSource a is unknown o u.silent (no_source H.ip_addrs target s)
discovered {own} {a} {p} {outcome} {H} hop is unknown (requests.Solicited target h o f n e) =
    law.Asked a _ is unknown o f (subst (AsksFor own H _) (sym h) (law.BySolicitation target _ _ (chosen_v6 H.ip_addrs target) refl))

-- an answer is that of a live entry
live_of : (H : Host) (a : IpAddress) (h : HardwareAddress) → answer_of H.neighbors a H.moment ≡ Found h → IsLive H a h
live_of H a h found = by (finite.get H.neighbors.known a) refl found where
  nobody : (b : Bool) → (if b then RateLimited else NotFound) ≡ Found h → ⊥
  nobody true e = absurd cc
  nobody false e = absurd cc

  by_end : (n : Neighbor) → finite.get H.neighbors.known a ≡ Some n → (b : Bool) → is_before H.moment n.expires_at ≡ b →
      (if b then Found n.hardware_addr else answer_without_entry H.neighbors.silent_until H.moment) ≡ Found h → IsLive H a h
  by_end n there true later e =
      let same : n.hardware_addr ≡ h = cc in
      record { entry = n; there = there; hardware_address = same; live = lt_of H.moment n.expires_at later }
  by_end n there false later e = absurd (nobody (is_before H.moment H.neighbors.silent_until) e)

  by : (o : Option Neighbor) → finite.get H.neighbors.known a ≡ o → answer_from o H.neighbors.silent_until H.moment ≡ Found h → IsLive H a h
  by None there e = absurd (nobody (is_before H.moment H.neighbors.silent_until) e)
  by (Some n) there e = by_end n there (is_before H.moment n.expires_at) refl e

by_hop : {id : ℕ} {own : EthernetAddress} {p : Packet} {a : IpAddress} {outcome : Outcome} {H new : Host} {frames : List (List ℕ)}
    {notes : List Note} (hop : Option IpAddress) → hop ≡ Some a →
    DispatchesByHop id own p a outcome (with_next_id H) frames notes new → GoesByHop own H p hop outcome frames
by_hop {a = a} {H = H} hop is (dispatch.Known h k e) = let d = emitted e in law.Known a h is (live_of H a h k) d.ok d.sent
by_hop {a = a} hop is (dispatch.Silent s o u) = law.Silent a is s o u.silent
by_hop hop is (dispatch.Unknown u d) = discovered hop is u d

-- taking an identification changes no way
same_hop : {H : Host} {a : IpAddress} {hop : Option IpAddress} → IsNextHop H a hop → IsNextHop (with_next_id H) a hop
same_hop (OnLink i e) = OnLink i e
same_hop (ByRouter router i is e) = ByRouter router i is e

over_ethernet : {id : ℕ} {own : EthernetAddress} {p : Packet} {outcome : Outcome} {H new : Host} {frames : List (List ℕ)} {notes : List Note}
    (hop : Option IpAddress) → DispatchesEthernet id own p outcome (with_next_id H) frames notes new →
    multicast_hardware_addr H.ip_addrs (destination_of p) ≡ None → IsNextHop H (destination_of p) hop → GoesByHop own H p hop outcome frames
over_ethernet hop (dispatch.ToMulticast h m e) one is = absurd cc
over_ethernet hop (dispatch.NoHop m n o u) one is = law.NoHop (sym (hop_is_one n (same_hop is))) o u.silent
over_ethernet hop (dispatch.ByHop a m n s) one is = by_hop hop (sym (hop_is_one n (same_hop is))) s

pub go_by_hops : PacketsGoByHops
go_by_hops own p hop outcome H new frames notes (dispatch.ToUnspecified n o u) on host is =
    let bad = specified H.ip_addrs (destination_of p) host in absurd cc
go_by_hops own p hop outcome H new frames notes (dispatch.ToSpecified more s d n) on host is =
    let over : DispatchesEthernet H.ipv4_id own p outcome (with_next_id H) frames more new =
    subst (λ x. SendsOver H.ipv4_id x p outcome (with_next_id H) frames more new) on d in
    over_ethernet hop over (no_group_address H.ip_addrs (destination_of p) host) (hop_by_lists is)

-- groups
low_bits_v4 : (n : ℕ) → n / 2 ^ 16 % 128 * 2 ^ 16 + n / 2 ^ 8 % 256 * 2 ^ 8 + n % 256 ≡ n % 2 ^ 23
low_bits_v4 n = omega arith

low_bits_v6 : (n : ℕ) → n / 2 ^ 24 % 256 * 2 ^ 24 + n / 2 ^ 16 % 256 * 2 ^ 16 + n / 2 ^ 8 % 256 * 2 ^ 8 + n % 256 ≡ n % 2 ^ 32
low_bits_v6 n = omega arith

-- a broadcast address has the prefix of its network
broadcast_prefix : (n : Ipv4Cidr) (a : ℕ) → a ≡ n.address.bits / 2 ^ (32 - n.prefix_len) * 2 ^ (32 - n.prefix_len) + (2 ^ (32 - n.prefix_len) - 1) →
    HasPrefixOf (cidr.Ipv4 n) (Ipv4 (record { bits = a }))
broadcast_prefix n a is =
    let q = 2 ^ (32 - n.prefix_len) in
    let some : 0 < 2 ^ (32 - n.prefix_len) = pow_pos (32 - n.prefix_len) in
    let low : 2 ^ (32 - n.prefix_len) - 1 < 2 ^ (32 - n.prefix_len) = omega (arith, some) in
    sym (ap (λ x. x / 2 ^ (32 - n.prefix_len)) is ∙ div-mul-add (n.address.bits / 2 ^ (32 - n.prefix_len)) (2 ^ (32 - n.prefix_len)) (2 ^
    (32 - n.prefix_len) - 1) low)

no_broadcasts : (own : List IpCidr) (a : ℕ) → AreApart own (Ipv4 (record { bits = a })) → AllByRecursion (IsNoBroadcastOf a) own
no_broadcasts [] a apart = tt
no_broadcasts (cidr.Ipv4 n ∷ own) a apart = ((λ short is. apart.0 (broadcast_prefix n a is)), no_broadcasts own a apart.1)
no_broadcasts (cidr.Ipv6 n ∷ own) a apart = (tt, no_broadcasts own a apart.1)

-- a group's address
pub record IsManysAddress (own : List IpCidr) (a : IpAddress) (h : EthernetAddress) : Type 0 where
  pub specified : is_unspecified a ≡ false
  pub is : multicast_hardware_addr own a ≡ Some h

some_v4 : (n : ℕ) → n / 2 ^ 28 ≡ 14 → n ≢ 0
some_v4 n group e = omega (arith, group, e)

few_v4 : (n : ℕ) → n / 2 ^ 28 ≡ 14 → n ≢ 0xffff_ffff
few_v4 n group e = omega (arith, group, e)

some_v6 : (n q v : ℕ) → n / q ≡ suc v → n ≢ 0
some_v6 n q v group e =
    let least : suc v ≤ 0 = subst (λ x. x ≤ 0) group (subst (λ x. x / q ≤ 0) (sym e) (div-le_self 0 q)) in
    absurd (omega (arith, least))

many_v4 : (own : List IpCidr) (g : Ipv4Address) → IsGroup (Ipv4 g) → AreApart own (Ipv4 g) → IsManysAddress own (Ipv4 g) (group_address_v4 g)
many_v4 own g group apart =
    let all = same_bits g.bits 0xffff_ffff (few_v4 g.bits group) in
    let none = no_broadcast own g.bits (no_broadcasts own g.bits apart) in
    record { specified = same_bits g.bits 0 (some_v4 g.bits group); is = rw (all, none, group) refl }

many_v6 : (own : List IpCidr) (g : Ipv6Address) → IsGroup (Ipv6 g) → IsManysAddress own (Ipv6 g) (group_address_v6 g)
many_v6 own g group = record { specified = same_bits g.bits 0 (some_v6 g.bits (2 ^ 120) 0xfe group); is = rw group refl }

of_group_v4 : (g : Ipv4Address) → law.IsOfGroupV4 g (group_address_v4 g)
of_group_v4 g = record { x = g.bits / 2 ^ 16 % 128; y = g.bits / 2 ^ 8 % 256; z = g.bits % 256; octets = refl; low = low_bits_v4 g.bits }

of_group_v6 : (g : Ipv6Address) → law.IsOfGroupV6 g (group_address_v6 g)
of_group_v6 g = record {
  w = g.bits / 2 ^ 24 % 256;
  x = g.bits / 2 ^ 16 % 256;
  y = g.bits / 2 ^ 8 % 256;
  z = g.bits % 256;
  octets = refl;
  low = low_bits_v6 g.bits;
}

pub many_address : (own : List IpCidr) (a : IpAddress) → IsGroup a → AreApart own a → (h : EthernetAddress) × IsOfGroup a h × IsManysAddress own a h
many_address own (Ipv4 g) group apart = (group_address_v4 g, of_group_v4 g, many_v4 own g group apart)
many_address own (Ipv6 g) group apart = (group_address_v6 g, of_group_v6 g, many_v6 own g group)

to_group : {id : ℕ} {own : EthernetAddress} {p : Packet} {outcome : Outcome} {new : Host} {frames : List (List ℕ)} {notes : List Note}
    (H : Host) (h : EthernetAddress) → DispatchesEthernet id own p outcome (with_next_id H) frames notes new →
    multicast_hardware_addr H.ip_addrs (destination_of p) ≡ Some h → AllByRecursion (IsSentTo H (hardware.Ethernet h) p) frames
to_group {p = p} {frames = frames} H h (dispatch.ToMulticast g m e) is =
    let same : g ≡ h = let both : Some g ≡ Some h = sym m ∙ is in cc in
    subst (λ x. AllByRecursion (IsSentTo H (hardware.Ethernet x) p) frames) same (emitted e).sent
to_group H h (dispatch.NoHop m n o u) is = absurd cc
to_group H h (dispatch.ByHop a m n s) is = absurd cc

pub groups_reached : GroupsHaveTheirAddresses
groups_reached own p outcome H new frames notes d on group apart =
    let many = many_address H.ip_addrs (destination_of p) group apart in (many.0, many.1, by many.0 many.2 d) where
      by : (h : EthernetAddress) → IsManysAddress H.ip_addrs (destination_of p) h → Dispatches p outcome H frames notes new →
          AllByRecursion (IsSentTo H (hardware.Ethernet h) p) frames
      by h m (dispatch.ToUnspecified n o u) = let bad = m.specified in absurd cc
      by h m (dispatch.ToSpecified more s d n) =
          let over : DispatchesEthernet H.ipv4_id own p outcome (with_next_id H) frames more new =
          subst (λ x. SendsOver H.ipv4_id x p outcome (with_next_id H) frames more new) on d in
          to_group H h over m.is

-- an address of all hosts
is_all : (own : List IpCidr) (a : Ipv4Address) (i : ℕ) (c : IpCidr) → slice_get own i ≡ Some c → is_broadcast_of c a ≡ true →
    list_any (λ d. is_broadcast_of d a) own ≡ true
is_all [] a i c here is = absurd cc
is_all (d ∷ own) a zero c here is = let same : d ≡ c = cc in rw (same, is) refl
is_all (d ∷ own) a (suc i) c here is =
    or_right (is_broadcast_of d a) (list_any (λ e. is_broadcast_of e a) own) (is_all own a i c here is)

last_is_all : (n : Ipv4Cidr) (a : Ipv4Address) → n.prefix_len < 31 →
    a.bits ≡ n.address.bits / 2 ^ (32 - n.prefix_len) * 2 ^ (32 - n.prefix_len) + (2 ^ (32 - n.prefix_len) - 1) →
    is_broadcast_of (cidr.Ipv4 n) a ≡ true
last_is_all n a short same =
    let few : nat_lt n.prefix_len 31 ≡ true = grind (arith, nat_tests) in
    let bits : (last_of 32 n.prefix_len n.address.bits == a.bits) ≡ true = (Decides-eqb (last_of 32 n.prefix_len n.address.bits) a.bits).1 (sym same) in
    rw (few, bits) refl

pub all_broadcast : (own : List IpCidr) (a : IpAddress) → IsToAll own a → is_broadcast own a ≡ true
all_broadcast own _ (law.OnLink a e) = let all : (a.bits == 0xffff_ffff) ≡ true = (Decides-eqb a.bits 0xffff_ffff).1 e in rw all refl
all_broadcast own _ (law.OnNetwork a i n here short e) =
    or_right (ipv4_address.is_broadcast a) _ (is_all own a i (cidr.Ipv4 n) here (last_is_all n a short e))

pub all_address : (own : List IpCidr) (a : IpAddress) → IsToAll own a → multicast_hardware_addr own a ≡ Some broadcast
all_address own _ (law.OnLink a e) = let all : (a.bits == 0xffff_ffff) ≡ true = (Decides-eqb a.bits 0xffff_ffff).1 e in rw all refl
all_address own _ (law.OnNetwork a i n here short e) =
    let network = or_right (ipv4_address.is_broadcast a) _ (is_all own a i (cidr.Ipv4 n) here (last_is_all n a short e)) in rw network refl

pub all_reached : {own : EthernetAddress} {p : Packet} {outcome : Outcome} {H new : Host} {frames : List (List ℕ)} {notes : List Note} →
    Dispatches p outcome H frames notes new → H.hardware_addr ≡ hardware.Ethernet own → IsToAll H.ip_addrs (destination_of p) →
    AllByRecursion (IsSentTo H (hardware.Ethernet broadcast) p) frames
all_reached (dispatch.ToUnspecified n o u) on all = rw u.silent tt
all_reached {own} {p} {outcome} {H} {new} {frames} (dispatch.ToSpecified more s d n) on all =
    let over : DispatchesEthernet H.ipv4_id own p outcome (with_next_id H) frames more new =
    subst (λ x. SendsOver H.ipv4_id x p outcome (with_next_id H) frames more new) on d in
    to_group H broadcast over (all_address H.ip_addrs (destination_of p) all)

-- a medium without hardware addresses
pub ip_reached : {p : Packet} {outcome : Outcome} {H new : Host} {frames : List (List ℕ)} {notes : List Note} →
    Dispatches p outcome H frames notes new → H.hardware_addr ≡ hardware.Ip → AllByRecursion (IsSentTo H hardware.Ip p) frames
ip_reached (dispatch.ToUnspecified n o u) on = rw u.silent tt
ip_reached {p} {outcome} {H} {new} {frames} (dispatch.ToSpecified more s d n) on =
    let over : Emits H.ipv4_id p hardware.Ip outcome (with_next_id H) frames more new =
    subst (λ x. SendsOver H.ipv4_id x p outcome (with_next_id H) frames more new) on d in (emitted over).sent
