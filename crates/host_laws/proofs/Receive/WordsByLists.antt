-- The words by which laws of service are said hold where lists, numbers and forms say so.
use Rattle.std.proofs.Common.{◌≡◌, ◌⊎◌, inl, inr, ℕ, ◌<◌, Bool, true, false, List, [], ◌∷◌, refl, ap, subst, sym, ◌∙◌, Option, Some, None, arith}
use Rattle.std.specs.Prelude.{zero, suc, ◌≢◌, ◌^◌, ◌/◌, ◌-◌, ◌==◌, ◌||◌, ◌&&◌, not, nat_lt, slice_get, if◌then◌else◌}
use Rattle.std.specs.List.{list_any}
use Rattle.std.proofs.lemmas.Bool.Decides.{Decides-eqb, nat_tests}
use Rattle.ip_address.specs.Cidr.{address_of, contains}
use Rattle.ip_address.specs.declared.cidr.IpCidr.{IpCidr}
use Rattle.ip_address.specs.declared.cidr.IpCidr.TheVariants as cidr
use Rattle.ip_address.specs.declared.cidr.Ipv4Cidr.{Ipv4Cidr}
use Rattle.ip_address.specs.declared.cidr.Ipv6Cidr.{Ipv6Cidr}
use Rattle.ip_address.specs.Ip.{is_multicast}
use Rattle.ip_address.specs.Prefixes.{last_of}
use Rattle.ip_address.specs.declared.ip.IpAddress.{IpAddress}
use Rattle.ip_address.specs.declared.ip.IpAddress.TheVariants.{Ipv4, Ipv6}
use Rattle.ip_address.specs.declared.ipv4.Ipv4Address.{Ipv4Address}
use Rattle.ip_address.specs.Ipv6.{solicited_node}
use Rattle.sockets.specs.Source.{is_same}
use Rattle.host_machine.specs.Context.Host.{in_same_network, is_assigned}
use Rattle.sockets.specs.Udp.{UdpSocket, accepts, is_accepted_at}
use Rattle.host_machine.specs.Context.Addresses.{has_solicited_node, is_asked_by, is_broadcast, is_broadcast_of, is_that, is_unicast_v4}
use Rattle.host_laws.specs.Laws.Restraint.Foreign.{HasPrefixOf, last_address}
use Rattle.host_laws.specs.Laws.Restraint.NextHop.{IsGroup, IsToAll}
use Rattle.host_laws.specs.Laws.Restraint.NextHop as next
use Rattle.host_laws.specs.Laws.Restraint.Replies.{IsOneHostV4}
use Rattle.host_laws.specs.Laws.Restraint.Words.{WordsAreLists}
use Rattle.host_laws.proofs.Receive.ForeignFrames.{no_broadcast, same_bits}
use Rattle.host_laws.proofs.Discovery.LearntNeighbors.{and_both}

or_left : (x y : Bool) → x ≡ true → (x || y) ≡ true
or_left true y e = refl
or_left false y e = absurd cc

or_right : (x y : Bool) → y ≡ true → (x || y) ≡ true
or_right true y e = refl
or_right false y e = e

itself : (x : IpAddress) → is_same x x ≡ true
itself (Ipv4 x) = (Decides-eqb x.bits x.bits).1 refl
itself (Ipv6 x) = (Decides-eqb x.bits x.bits).1 refl

assigned_in : (own : List IpCidr) (a : IpAddress) (i : ℕ) (c : IpCidr) → slice_get own i ≡ Some c → address_of c ≡ a → is_assigned own a ≡ true
assigned_in [] a i c here is = absurd cc
assigned_in (d ∷ own) a zero c here is =
    let same : d ≡ c = cc in
    let one : address_of d ≡ a = ap address_of same ∙ is in
    or_left (is_same (address_of d) a) (is_assigned own a) (subst (λ x. is_same (address_of d) x ≡ true) one (itself (address_of d)))
assigned_in (d ∷ own) a (suc i) c here is = or_right (is_same (address_of d) a) (is_assigned own a) (assigned_in own a i c here is)

holds_it : (c : IpCidr) (a : IpAddress) → HasPrefixOf c a → contains c a ≡ true
holds_it (cidr.Ipv4 n) (Ipv4 a) e = (Decides-eqb (n.address.bits / 2 ^ (32 - n.prefix_len)) (a.bits / 2 ^ (32 - n.prefix_len))).1 e
holds_it (cidr.Ipv4 n) (Ipv6 a) e = absurd e
holds_it (cidr.Ipv6 n) (Ipv4 a) e = absurd e
holds_it (cidr.Ipv6 n) (Ipv6 a) e = (Decides-eqb (n.address.bits / 2 ^ (128 - n.prefix_len)) (a.bits / 2 ^ (128 - n.prefix_len))).1 e

near_by : (own : List IpCidr) (a : IpAddress) (i : ℕ) (c : IpCidr) → slice_get own i ≡ Some c → HasPrefixOf c a → in_same_network own a ≡ true
near_by [] a i c here prefix = absurd cc
near_by (d ∷ own) a zero c here prefix = let same : d ≡ c = cc in rw (same, holds_it c a prefix) refl
near_by (d ∷ own) a (suc i) c here prefix = or_right (contains d a) (in_same_network own a) (near_by own a i c here prefix)

one_host_by : (own : List IpCidr) (a : Ipv4Address) → IsOneHostV4 own a.bits → is_unicast_v4 own a ≡ true
one_host_by own a h =
    let b = same_bits a.bits 0xffff_ffff h.not_all in
    let m = same_bits (a.bits / 2 ^ 28) 14 h.no_group in
    let z = same_bits a.bits 0 h.not_nobody in
    let n = no_broadcast own a.bits h.no_broadcast in
    rw (b, m, z, n) refl

both : (x y : Bool) → x ≡ true → y ≡ true → (x && y) ≡ true
both x y e f = rw (e, f) refl

not_so : (x : Bool) → x ≡ false → not x ≡ true
not_so x e = rw e refl

solicited_by : (own : List IpCidr) (i : ℕ) (n : Ipv6Cidr) → slice_get own i ≡ Some (cidr.Ipv6 n) → n.address.bits ≢ 1 →
    has_solicited_node own (solicited_node n.address) ≡ true
solicited_by [] i n here other = absurd cc
solicited_by (d ∷ own) zero n here other =
    let same : d ≡ cidr.Ipv6 n = cc in
    let asked : is_asked_by (solicited_node n.address) (cidr.Ipv6 n) ≡ true =
    both _ _ (not_so (n.address.bits == 1) (same_bits n.address.bits 1 other))
    ((Decides-eqb (solicited_node n.address).bits (solicited_node n.address).bits).1 refl) in
    or_left (is_asked_by (solicited_node n.address) d) (has_solicited_node own (solicited_node n.address))
    (subst (λ x. is_asked_by (solicited_node n.address) x ≡ true) (sym same) asked)
solicited_by (d ∷ own) (suc i) n here other =
    or_right (is_asked_by (solicited_node n.address) d) (has_solicited_node own (solicited_node n.address)) (solicited_by own i n here other)

-- a broadcast address is one of the lists
some_network : (own : List IpCidr) (a : Ipv4Address) → list_any (λ c. is_broadcast_of c a) own ≡ true →
    (i : ℕ) × (n : Ipv4Cidr) × (slice_get own i ≡ Some (cidr.Ipv4 n)) × (is_broadcast_of (cidr.Ipv4 n) a ≡ true)
some_network [] a e = absurd cc
some_network (cidr.Ipv6 n ∷ own) a e = let x = some_network own a e in (suc x.0, x.1, x.2, x.3)
some_network (cidr.Ipv4 n ∷ own) a e = by (is_broadcast_of (cidr.Ipv4 n) a) refl e (λ later. some_network own a later) where
  by : (b : Bool) → is_broadcast_of (cidr.Ipv4 n) a ≡ b → (b || list_any (λ c. is_broadcast_of c a) own) ≡ true →
      (list_any (λ c. is_broadcast_of c a) own ≡ true →
      (i : ℕ) × (m : Ipv4Cidr) × (slice_get own i ≡ Some (cidr.Ipv4 m)) × (is_broadcast_of (cidr.Ipv4 m) a ≡ true)) →
      (i : ℕ) × (m : Ipv4Cidr) × (slice_get (cidr.Ipv4 n ∷ own) i ≡ Some (cidr.Ipv4 m)) × (is_broadcast_of (cidr.Ipv4 m) a ≡ true)
  by true is any rest = (0, n, refl, is)
  by false is any rest = let x = rest any in (suc x.0, x.1, x.2, x.3)

last_by : (n : Ipv4Cidr) (a : Ipv4Address) → is_broadcast_of (cidr.Ipv4 n) a ≡ true →
    (n.prefix_len < 31) × (a.bits ≡ last_address (32 - n.prefix_len) n.address.bits)
last_by n a e = by (nat_lt n.prefix_len 31) refl e where
  by : (b : Bool) → nat_lt n.prefix_len 31 ≡ b → is_that (if b then Some (record { bits = last_of 32 n.prefix_len n.address.bits }) else None) a ≡ true →
      (n.prefix_len < 31) × (a.bits ≡ last_address (32 - n.prefix_len) n.address.bits)
  by true short is = (grind (arith, nat_tests), sym ((Decides-eqb (last_of 32 n.prefix_len n.address.bits) a.bits).0 is))
  by false long is = absurd cc

to_all_by : (own : List IpCidr) (a : IpAddress) → is_broadcast own a ≡ true → IsToAll own a
to_all_by own (Ipv6 a) e = absurd cc
to_all_by own (Ipv4 a) e = by (a.bits == 0xffff_ffff) refl e where
  by : (b : Bool) → (a.bits == 0xffff_ffff) ≡ b → (b || list_any (λ c. is_broadcast_of c a) own) ≡ true → IsToAll own (Ipv4 a)
  by true is any = next.OnLink a ((Decides-eqb a.bits 0xffff_ffff).0 is)
  by false is any =
      let x = some_network own a any in
      let last = last_by x.1 a x.3 in
      next.OnNetwork a x.0 x.1 x.2 last.0 last.1

group_by : (a : IpAddress) → is_multicast a ≡ true → IsGroup a
group_by (Ipv4 a) e = (Decides-eqb (a.bits / 2 ^ 28) 14).0 e
group_by (Ipv6 a) e = (Decides-eqb (a.bits / 2 ^ 120) 0xff).0 e

same_address : (x a : IpAddress) → is_same x a ≡ true → x ≡ a
same_address (Ipv4 x) (Ipv4 a) e = ap (λ n. Ipv4 (record { bits = n })) ((Decides-eqb x.bits a.bits).0 e)
same_address (Ipv4 x) (Ipv6 a) e = absurd cc
same_address (Ipv6 x) (Ipv4 a) e = absurd cc
same_address (Ipv6 x) (Ipv6 a) e = ap (λ n. Ipv6 (record { bits = n })) ((Decides-eqb x.bits a.bits).0 e)

-- a socket that accepts a datagram
heard_by : (own : List IpCidr) (s : UdpSocket) (a : IpAddress) (port : ℕ) → accepts (is_broadcast own) s a port ≡ true →
    (s.endpoint.port ≡ port) × ((s.endpoint.addr ≡ None) ⊎ (s.endpoint.addr ≡ Some a) ⊎ IsToAll own a ⊎ IsGroup a)
heard_by own s a port e =
    let parts = and_both (s.endpoint.port == port) (is_accepted_at (is_broadcast own) s.endpoint.addr a) e in
    ((Decides-eqb s.endpoint.port port).0 parts.0, by s.endpoint.addr refl parts.1) where
      by : (o : Option IpAddress) → s.endpoint.addr ≡ o → is_accepted_at (is_broadcast own) o a ≡ true →
          (s.endpoint.addr ≡ None) ⊎ (s.endpoint.addr ≡ Some a) ⊎ IsToAll own a ⊎ IsGroup a
      by None is at = inl is
      by (Some g) is at = of (is_same g a) (is_broadcast own a) refl refl at where
        of : (b c : Bool) → is_same g a ≡ b → is_broadcast own a ≡ c → (b || c || is_multicast a) ≡ true →
            (s.endpoint.addr ≡ None) ⊎ (s.endpoint.addr ≡ Some a) ⊎ IsToAll own a ⊎ IsGroup a
        of true c same all any = inr (inl (is ∙ ap (λ x. Some x) (same_address g a same)))
        of false true same all any = inr (inr (inl (to_all_by own a all)))
        of false false same all any = inr (inr (inr (group_by a any)))

pub words_by_lists : WordsAreLists
words_by_lists = record {
  assigned = λ own a given. assigned_in own a given.0 given.1 given.2 given.3;
  near = λ own a by_it. near_by own a by_it.0 by_it.1 by_it.2 by_it.3;
  one_host = one_host_by;
  solicited = solicited_by;
  datagrams = λ H r octets is. is;
  sockets = heard_by;
  segments = λ H r octets is. is;
  messages = λ H r octets is. is;
}
