-- A neighbour that is learnt from one host in two ways: but for which neighbour makes room, the hosts after it are one.
use Rattle.std.proofs.Common.{◌≡◌, ◌≢◌, ◌⊎◌, ℕ, ◌<◌, ◌≤◌, true, false, refl, sym, ◌∙◌, ap, inl, inr, Option, Some, None, arith}
use Rattle.std.proofs.lemmas.Bool.Decides.{nat_tests}
use Rattle.std.specs.Prelude.{IsTrue, is_some, nat_lt}
use Rattle.std.specs.FinMap as map
use Rattle.std.specs.FinMap.{FinMap}
use Rattle.std.specs.Ordering.{is_eq}
use Rattle.std.specs.declared.cmp.Ordering.{Ordering}
use Rattle.std.specs.declared.cmp.Ordering.TheVariants.{Less, Equal, Greater}
use Rattle.ip_address.specs.declared.ip.IpAddress.{IpAddress}
use Rattle.ip_address.specs.Ip.{address_cmp}
use Rattle.iface_tables.specs.declared.neighbor.Neighbor.{Neighbor}
use Rattle.iface_tables.specs.Neighbor.{Neighbors, IsLeastEnd, Fills}
use Rattle.iface_tables.proofs.EntriesLemmas.{tied_itself}
use Rattle.iface_tables.proofs.NeighborLemmas.{address_total, address_same}
use Rattle.host_machine.specs.Context.Host.{Host, with_neighbors}
use Rattle.host_laws.specs.Laws.Determined.{OtherMadeRoom}

-- two addresses are one, or they aren't
one_or_other : (v w : IpAddress) → (v ≡ w) ⊎ (v ≢ w)
one_or_other v w = by (address_cmp v w) refl where
  apart : (o : Ordering) → is_eq o ≡ false → address_cmp v w ≡ o → v ≢ w
  apart o other e same =
      let itself : is_eq (address_cmp v v) ≡ true = tied_itself address_total address_same v in
      let one : address_cmp v v ≡ o = ap (address_cmp v) same ∙ e in
      let bad : is_eq o ≡ true = sym (ap is_eq one) ∙ itself in
      absurd cc

  by : (o : Ordering) → address_cmp v w ≡ o → (v ≡ w) ⊎ (v ≢ w)
  by Less e = inr (apart Less refl e)
  by Equal e = inl (address_same v w e)
  by Greater e = inr (apart Greater refl e)

-- the host after a neighbour was learnt, by the entries that it has then
learnt_by : (H : Host) {x : Host} {a : IpAddress} {n : Neighbor} {one : Neighbors} (known : FinMap address_cmp Neighbor) →
    Fills H.neighbors one a n → one.known ≡ known → x ≡ with_neighbors H one →
    x ≡ with_neighbors H (record H.neighbors { known = known })
learnt_by H {x} {a} {n} {one} known f e is = is ∙ ap (λ k. with_neighbors H (record one { known = k })) e
    ∙ ap (λ r. with_neighbors H (record { room = r; known = known; silent_until = one.silent_until })) f.room
    ∙ ap (λ s. with_neighbors H (record { room = H.neighbors.room; known = known; silent_until = s })) f.silence

pub filled_once : (H : Host) {x x' : Host} {a : IpAddress} {n : Neighbor} {one two : Neighbors} →
    Fills H.neighbors one a n → Fills H.neighbors two a n → x ≡ with_neighbors H one → x' ≡ with_neighbors H two →
    (x ≡ x') ⊎ OtherMadeRoom x x'
filled_once H {x} {x'} {a} {n} {one} {two} f g is is' = by (map.get H.neighbors.known a) refl where
  same : (known : FinMap address_cmp Neighbor) → one.known ≡ known → two.known ≡ known → (x ≡ x') ⊎ OtherMadeRoom x x'
  same known e e' = inl (learnt_by H known f e is ∙ sym (learnt_by H known g e' is'))

  full : map.get H.neighbors.known a ≡ None → H.neighbors.room ≤ map.len H.neighbors.known → (x ≡ x') ⊎ OtherMadeRoom x x'
  full none many = made (f.puts.full none many) (g.puts.full none many) where
    made : ((v : IpAddress) × IsLeastEnd H.neighbors.known v × (one.known ≡ map.insert (map.remove H.neighbors.known v) a n)) →
        ((w : IpAddress) × IsLeastEnd H.neighbors.known w × (two.known ≡ map.insert (map.remove H.neighbors.known w) a n)) →
        (x ≡ x') ⊎ OtherMadeRoom x x'
    made p q = elim (one_or_other p.0 q.0) [
      | inl v_is_w ↦
          same (map.insert (map.remove H.neighbors.known p.0) a n) p.2 (q.2 ∙ ap (λ v. map.insert (map.remove H.neighbors.known v) a n) (sym v_is_w))
      | inr apart ↦ inr (record {
        before = H;
        address = a;
        neighbor = n;
        unknown = none;
        full = many;
        one = p.0;
        other = q.0;
        one_ends_first = p.1;
        other_ends_first = q.1;
        apart = apart;
        by_one = learnt_by H (map.insert (map.remove H.neighbors.known p.0) a n) f p.2 is;
        by_other = learnt_by H (map.insert (map.remove H.neighbors.known q.0) a n) g q.2 is';
      })
    ]

  room : (k : ℕ) → map.len H.neighbors.known ≡ k → map.get H.neighbors.known a ≡ None → (x ≡ x') ⊎ OtherMadeRoom x x'
  room k len none = elim (nat_lt k H.neighbors.room) as (λ b. nat_lt k H.neighbors.room ≡ b → (x ≡ x') ⊎ OtherMadeRoom x x') [
    | true ↦ λ t. let few : map.len H.neighbors.known < H.neighbors.room = grind (arith, nat_tests) in
        same (map.insert H.neighbors.known a n) (f.puts.room few) (g.puts.room few)
    | false ↦ λ t. let many : H.neighbors.room ≤ map.len H.neighbors.known = grind (arith, nat_tests) in full none many
  ] refl

  by : (o : Option Neighbor) → map.get H.neighbors.known a ≡ o → (x ≡ x') ⊎ OtherMadeRoom x x'
  by None none = room (map.len H.neighbors.known) refl none
  by (Some old) some =
      let there : IsTrue (is_some (map.get H.neighbors.known a)) = rw some refl in
      same (map.insert H.neighbors.known a n) (f.puts.there there) (g.puts.there there)
