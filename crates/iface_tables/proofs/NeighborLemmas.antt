-- The lists of neighbours, as the finite maps that they make.
use Rattle.std.proofs.Common.{inl, inr, rules, ◌≡◌, ◌≢◌, ℕ, ◌<◌, ◌≤◌, List, [], ◌∷◌, ◌++◌, length, get_or, take, drop, ◌-◌, refl, sym, ap, subst, ◌∙◌, arith, suc}
use Rattle.std.proofs.lemmas.Bool.Decides.{nat_tests}
use Rattle.ip_address.specs.Hardware.{IsOf}
use Rattle.std.specs.Prelude.{Option, is_some, slice_get, slice_set, nat_lt, IsTrue, if◌then◌else◌}
use Rattle.std.specs.Prelude.{Bool, ℤ, pos, ◌≤ℤ◌, true, false, cond, Some, None}
use Rattle.std.specs.List.{insert, remove}
use Rattle.std.specs.Ordering.{nat_cmp, eq_by_cmp}
use Rattle.std.specs.Cmp.{IsTotalOrder, nat_cmp_total}
use Rattle.std.specs.FinMap as map
use Rattle.std.specs.FinMap.{FinMap, get-insert, get-remove, get-empty, IsAntisymmetric, find, from_entries, get-from_entries}
use Rattle.std.proofs.lemmas.Cmp.{on_total, then_total}
use Rattle.std.proofs.lemmas.Map.Lookups.{exact_pairs, exact_unsigned}
use Rattle.std.proofs.lemmas.List.{length-drop, length_push}
use Rattle.std.proofs.Math.Seq.{take-length}
use Rattle.std.proofs.lemmas.Option.{get_or_from_slice_get, slice_get_cases, slice_get_within}
use Rattle.ip_address.specs.Ip.{address_cmp, address_key, address_of_key, address_of_key-address_key}
use Rattle.iface_tables.specs.Entries.{AreKeysDistinct, index_of}
use Rattle.iface_tables.specs.Neighbor.{AreOf, HasPlace, IsEarliest, IsLeastEnd, Neighbors, Puts, is_same, after_renewal, renewed_at, renewed_from}
use Rattle.iface_tables.specs.Neighbor.{after_limit, is_before, limited_at, limited_from}
use Rattle.net_base.specs.declared.phy.Medium.{Medium}
use Rattle.ip_address.specs.declared.ip.IpAddress.{IpAddress}
use Rattle.ip_address.specs.contracts.hardware.HardwareAddressPartialEq.TheImpl as hardware_eq
use Rattle.ip_address.specs.declared.hardware.HardwareAddress.{HardwareAddress}
use Rattle.ip_address.specs.declared.hardware.HardwareAddress.TheVariants.{Ip, Ethernet}
use Rattle.iface_tables.specs.declared.neighbor.Neighbor.{Neighbor}
use Rattle.iface_tables.proofs.EntriesLemmas.{find-drop, index-at, index_of-le, find-absent, find-there, key-there, from_entries-remove, tied}
use Rattle.iface_tables.proofs.EntriesLemmas.{from_entries-put, len-from_entries, distinct_after-remove}
use Rattle.iface_tables.proofs.EntriesLemmas.{distinct_after-put, find-at, absent_after-remove, put_over, tied_itself}
use Rattle.iface_tables.proofs.ListLemmas.{set_is_insert, remove_last}

-- `==` of hardware addresses is their equality
pub eq_is_same : (a b : HardwareAddress) → hardware_eq.ghosts.eq a b ≡ is_same a b
eq_is_same Ip Ip = refl
eq_is_same Ip (Ethernet b) = refl
eq_is_same (Ethernet a) Ip = refl
eq_is_same (Ethernet a) (Ethernet b) = search rules

pub address_total : IsTotalOrder address_cmp
address_total = then_total (on_total (λ a. (address_key a).0) nat_cmp_total) (on_total (λ a. (address_key a).1) nat_cmp_total)

pub address_same : IsAntisymmetric address_cmp
address_same a b h =
    sym (address_of_key-address_key a)
    ∙ ap address_of_key (exact_pairs nat_cmp nat_cmp exact_unsigned exact_unsigned (address_key a) (address_key b) h) ∙ address_of_key-address_key b

-- what the map that the entries make has at an address
pub known_at : (es : List (IpAddress × Neighbor)) (a : IpAddress) → map.get (from_entries {R = address_cmp} es) a ≡ find address_cmp a es
known_at es a = get-from_entries address_total es a

-- what putting an entry leaves
pub record PutsIn (most : ℕ) (es fs : List (IpAddress × Neighbor)) (a : IpAddress) (n : Neighbor) : Type 0 where
  pub distinct : AreKeysDistinct address_cmp fs
  pub puts : Puts most (from_entries es) (from_entries fs) a n

not_none : (n : Neighbor) → Some n ≢ None
not_none n h = cc

pub none_found : (es : List (IpAddress × Neighbor)) (a : IpAddress) (i : ℕ) → i ≡ index_of address_cmp a es → length es ≤ i → find address_cmp a es ≡ None
none_found es a i e past = let le = index_of-le address_cmp a es in find-absent address_cmp a es (omega arith)

-- what holds of each entry holds of one that is found
found_has : (P : Neighbor → Type 0) (es : List (IpAddress × Neighbor)) (b : IpAddress) (n : Neighbor) →
    ((k : ℕ) (d : IpAddress × Neighbor) → k < length es → P (get_or es k d).1) → find address_cmp b es ≡ Some n → P n
found_has P [] b n each is = absurd (not_none n (sym is))
found_has P (e ∷ es) b n each is =
    elim (eq_by_cmp address_cmp b e.0) as (λ t. cond t (Some e.1) (find address_cmp b es) ≡ Some n → P n) [
      | true ↦ λ is. let same : e.1 ≡ n = cc in subst P same (each 0 e (omega arith))
      | false ↦ λ is. found_has P es b n (λ k d h. each (suc k) d (omega arith)) is
    ] is

-- one of the earliest entries is one of least end
least_at : (es : List (IpAddress × Neighbor)) (p : ℕ) (d : IpAddress × Neighbor) →
    AreKeysDistinct address_cmp es → IsEarliest es p → IsLeastEnd (from_entries es) (get_or es p d).0
least_at es p d distinct earliest = record {
  entry = (get_or es p d).1;
  is_there = known_at es _ ∙ find-at address_total address_same es p d earliest.within distinct;
  least = λ b n is. found_has (λ m. (get_or es p d).1.expires_at ≤ℤ m.expires_at) es b n (earliest.least d) (sym (known_at es b) ∙ is);
}

-- a neighbour at an address that is there goes to its place
pub place_there : (most : ℕ) (es : List (IpAddress × Neighbor)) (a : IpAddress) (d : IpAddress × Neighbor) (i : ℕ) →
    AreKeysDistinct address_cmp es → i ≡ index_of address_cmp a es → i < length es → HasPlace most es es a i
place_there most es a d i distinct at within =
    let here : index_of address_cmp a es < length es = rw at at within in
    let key : (get_or es i d).0 ≡ a = rw at (key-there address_total address_same a es d here) in
    let is : find address_cmp a es ≡ Some (get_or es (index_of address_cmp a es) d).1 = find-there address_cmp a es d here in
    let rest : from_entries (remove es i) ≡ map.remove (from_entries es) a =
    from_entries-remove address_total address_same es i d within distinct ∙ ap (map.remove (from_entries es)) key in
    let over : (n : Neighbor) → map.insert (from_entries (remove es i)) a n ≡ map.insert (from_entries es) a n = λ n. ap (λ m. map.insert m a n) rest
    ∙ put_over address_total address_same (from_entries es) a n in
    record {
      within = within;
      distinct = distinct_after-remove address_total address_same es i within distinct;
      absent = ap (λ m. map.get m a) rest ∙ get-remove address_total (from_entries es) a a
          ∙ ap (λ b. cond b None (map.get {R = address_cmp} (from_entries es) a)) (tied_itself address_total address_same a);
      puts = λ n. record {
        there = λ _. over n;
        room = λ _. over n;
        full = λ none _. absurd (not_none _ (sym is ∙ sym (known_at es a) ∙ none));
      };
    }

-- one at a new address goes to that of the earliest entry of a full table
pub place_earliest : (most : ℕ) (es : List (IpAddress × Neighbor)) (a : IpAddress) (d : IpAddress × Neighbor) (i p : ℕ) →
    AreKeysDistinct address_cmp es → i ≡ index_of address_cmp a es → length es ≤ i → most ≤ length es → IsEarliest es p → HasPlace most es es a p
place_earliest most es a d i p distinct at past full earliest =
    let none = none_found es a i at past in
    let len = len-from_entries address_total address_same es distinct in
    record {
      within = earliest.within;
      distinct = distinct_after-remove address_total address_same es p earliest.within distinct;
      absent = known_at (remove es p) a ∙ absent_after-remove address_total address_same a es p d earliest.within distinct none;
      puts = λ n. record {
        there = λ t. let u = rw (known_at es a, none) at t in cc;
        room = λ h. absurd (omega (arith, len));
        full = λ _ _. (
          (get_or es p d).0,
          least_at es p d distinct earliest,
          ap (λ m. map.insert m a n) (from_entries-remove address_total address_same es p d earliest.within distinct),
        );
      };
    }

-- or behind all others, where there is room
pub place_after : (most : ℕ) (es : List (IpAddress × Neighbor)) (a : IpAddress) (e : IpAddress × Neighbor) (i : ℕ) →
    AreKeysDistinct address_cmp es → i ≡ index_of address_cmp a es → length es ≤ i → length es < most → HasPlace most es (es ++ e ∷ []) a i
place_after most es a e i distinct at past room =
    let none = none_found es a i at past in
    let le = index_of-le address_cmp a es in
    let end : i ≡ length es = omega arith in
    let rest : remove (es ++ e ∷ []) i ≡ es = ap (remove (es ++ e ∷ [])) end ∙ remove_last es e in
    let len = len-from_entries address_total address_same es distinct in
    record {
      within = omega (arith, length_push es e);
      distinct = rw rest distinct;
      absent = rw rest (known_at es a ∙ none);
      puts = λ n. rw rest (record { there = λ _. refl; room = λ _. refl; full = λ _ many. absurd (omega (arith, len)) });
    }

-- a neighbour that is written at its place was put
pub put_over_place : (most : ℕ) (old mid : List (IpAddress × Neighbor)) (a : IpAddress) (n : Neighbor) (i : ℕ) →
    HasPlace most old mid a i → PutsIn most old (slice_set mid i (a, n)) a n
put_over_place most old mid a n i h =
    let none : find address_cmp a (remove mid i) ≡ None = sym (known_at (remove mid i) a) ∙ h.absent in
    let is : slice_set mid i (a, n) ≡ insert (remove mid i) i (a, n) = set_is_insert mid i (a, n) h.within in
    record {
      distinct = rw is (distinct_after-put address_total address_same a n (remove mid i) i none h.distinct);
      puts = rw (is, from_entries-put address_total address_same a n (remove mid i) i none) (h.puts n);
    }

-- what renewing leaves in a list of entries
pub record RenewsIn (es fs : List (IpAddress × Neighbor)) (a : IpAddress) (h : HardwareAddress) (end : ℤ) : Type 0 where
  pub distinct : AreKeysDistinct address_cmp fs
  pub renews : from_entries fs ≡ renewed_from (find address_cmp a es) (from_entries es) a h end

-- the entry at an address's index is the one that is found
pub found_is : (es : List (IpAddress × Neighbor)) (a : IpAddress) (d : IpAddress × Neighbor) (i : ℕ) →
    i ≡ index_of address_cmp a es → i < length es → find address_cmp a es ≡ Some (get_or es i d).1
found_is es a d i at within = rw at (find-there address_cmp a es d (rw at at within))

-- an address is found as among the entries from its own on
pub found_from : (es : List (IpAddress × Neighbor)) (a : IpAddress) (i : ℕ) →
    i ≡ index_of address_cmp a es → find address_cmp a (take (length es - i) (drop i es)) ≡ find address_cmp a es
found_from es a i at =
    ap (λ n. find address_cmp a (take n (drop i es))) (sym (length-drop i es)) ∙ ap (find address_cmp a) (take-length (drop i es))
    ∙ ap (λ k. find address_cmp a (drop k es)) at ∙ find-drop address_cmp a es

-- an entry that has an address is at the address's index
pub is_index : (es : List (IpAddress × Neighbor)) (a : IpAddress) (d : IpAddress × Neighbor) (i : ℕ) →
    AreKeysDistinct address_cmp es → i < length es → eq_by_cmp address_cmp a (get_or es i d).0 ≡ true → i ≡ index_of address_cmp a es
is_index es a d i distinct within same =
    let key : a ≡ (get_or es i d).0 = tied address_total address_same a (get_or es i d).0 same in
    sym (ap (λ k. index_of address_cmp k es) key ∙ index-at address_total address_same es i d within distinct)

-- renewing at an address's index renews the neighbour there
pub renewed : (es : List (IpAddress × Neighbor)) (a : IpAddress) (h : HardwareAddress) (end : ℤ) (i : ℕ) →
    AreKeysDistinct address_cmp es → i ≡ index_of address_cmp a es → RenewsIn es (renewed_at (slice_get es i) es i h end) a h end
renewed es a h end i distinct at = by (slice_get es i) refl where
  there : (e : IpAddress × Neighbor) → slice_get es i ≡ Some e → (b : Bool) → is_same e.1.hardware_addr h ≡ b →
      RenewsIn es (if b then slice_set es i (e.0, record e.1 { expires_at = end }) else es) a h end
  there e is true same =
      let within = slice_get_within es i e is in
      let read : get_or es i e ≡ e = get_or_from_slice_get es i e e is in
      let n : Neighbor = record e.1 { expires_at = end } in
      let found : find address_cmp a es ≡ Some e.1 = found_is es a e i at within ∙ ap (λ (x : IpAddress × Neighbor). Some x.1) read in
      let key : e.0 ≡ a = ap (λ (x : IpAddress × Neighbor). x.0) (sym read)
      ∙ rw at (key-there address_total address_same a es e (rw at at within)) in
      let put = put_over_place 0 es es a n i (place_there 0 es a e i distinct at within) in
      let known : IsTrue (map.contains_key (from_entries {R = address_cmp} es) a) = rw (known_at es a, found) refl in
      rw key (record { distinct = put.distinct; renews = rw (found, same) (put.puts.there known) })
  there e is false other =
      let within = slice_get_within es i e is in
      let read : get_or es i e ≡ e = get_or_from_slice_get es i e e is in
      let found : find address_cmp a es ≡ Some e.1 = found_is es a e i at within ∙ ap (λ (x : IpAddress × Neighbor). Some x.1) read in
      record { distinct = distinct; renews = rw (found, other) refl }

  by : (o : Option (IpAddress × Neighbor)) → slice_get es i ≡ o → RenewsIn es (renewed_at o es i h end) a h end
  by None is =
      elim (slice_get_cases es i).1 [
        | inl some ↦ let bad : None ≡ Some some.0 = sym is ∙ some.2 in cc
        | inr none ↦ record { distinct = distinct; renews = rw (none_found es a i at none.0) refl }
      ]
  by (Some e) is = there e is (is_same e.1.hardware_addr h) refl

-- the entries of a map, each of a medium
abbrev EachOf : Medium → FinMap address_cmp Neighbor → Type 0
EachOf m k = (a : IpAddress) (n : Neighbor) → map.get k a ≡ Some n → IsOf m n.hardware_addr

inserted_of : (m : Medium) (k : FinMap address_cmp Neighbor) (a : IpAddress) (n : Neighbor) →
    IsOf m n.hardware_addr → EachOf m k → EachOf m (map.insert k a n)
inserted_of m k a n of all b e is = by (eq_by_cmp address_cmp b a) (sym (get-insert address_total k a n b) ∙ is) where
  by : (t : Bool) → cond t (Some n) (map.get k b) ≡ Some e → IsOf m e.hardware_addr
  by true h = let same : n ≡ e = cc in subst (λ (x : Neighbor). IsOf m x.hardware_addr) same of
  by false h = all b e h

removed_of : (m : Medium) (k : FinMap address_cmp Neighbor) (a : IpAddress) → EachOf m k → EachOf m (map.remove k a)
removed_of m k a all b e is = by (eq_by_cmp address_cmp b a) (sym (get-remove address_total k a b) ∙ is) where
  by : (t : Bool) → cond t None (map.get k b) ≡ Some e → IsOf m e.hardware_addr
  by true h = absurd cc
  by false h = all b e h

-- what is put keeps the medium
pub put_of : (m : Medium) (most : ℕ) (old new : FinMap address_cmp Neighbor) (a : IpAddress) (n : Neighbor) →
    IsOf m n.hardware_addr → Puts most old new a n → EachOf m old → EachOf m new
put_of m most old new a n of p all = by (map.get old a) refl where
  room : (k : ℕ) → map.len old ≡ k → map.get old a ≡ None → EachOf m new
  room k is none = elim (nat_lt k most) as (λ b. nat_lt k most ≡ b → EachOf m new) [
    | true ↦ λ t. let h : map.len old < most = grind (arith, nat_tests) in rw (p.room h) (inserted_of m old a n of all)
    | false ↦ λ t. let h : most ≤ map.len old = grind (arith, nat_tests) in let f = p.full none h in
        rw f.2 (inserted_of m (map.remove old f.0) a n of (removed_of m old f.0 all))
  ] refl

  by : (o : Option Neighbor) → map.get old a ≡ o → EachOf m new
  by None is = room (map.len old) refl is
  by (Some x) is = let t : IsTrue (is_some (map.get old a)) = rw is refl in rw (p.there t) (inserted_of m old a n of all)

pub renewed_of : (m : Medium) (c : Neighbors) (a : IpAddress) (h : HardwareAddress) (end : ℤ) → AreOf m c → AreOf m (after_renewal c a h end)
renewed_of m c a h end all = by (map.get c.known a) refl where
  by : (o : Option Neighbor) → map.get c.known a ≡ o → EachOf m (renewed_from o c.known a h end)
  by None is = all
  by (Some e) is = here (is_same e.hardware_addr h) where
    here : (b : Bool) → EachOf m (if b then map.insert c.known a (record e { expires_at = end }) else c.known)
    here true = inserted_of m c.known a (record e { expires_at = end }) (all a e is) all
    here false = all

-- an empty list of entries
pub none_in : (m : Medium) → EachOf m (from_entries {R = address_cmp} [])
none_in m a n is = let bad : None ≡ Some n = rw get-empty at is in absurd cc

-- a list in which one entry was renewed
pub renewed_in : (m : Medium) (es fs : List (IpAddress × Neighbor)) (a : IpAddress) (h : HardwareAddress) (end : ℤ) →
    from_entries {R = address_cmp} fs ≡ renewed_from (find address_cmp a es) (from_entries es) a h end → EachOf m (from_entries es) →
    EachOf m (from_entries {R = address_cmp} fs)
renewed_in m es fs a h end e all =
    rw (e, ← known_at es a) (renewed_of m (record { room = 0; known = from_entries es; silent_until = pos 0 }) a h end all)

-- what a limit leaves in a list of entries
pub record LimitsIn (es fs : List (IpAddress × Neighbor)) (a : IpAddress) (t : ℤ) : Type 0 where
  pub distinct : AreKeysDistinct address_cmp fs
  pub limits : from_entries fs ≡ limited_from (find address_cmp a es) (from_entries es) a t

-- a limit at an address's index is one of the neighbour there
pub limited : (es : List (IpAddress × Neighbor)) (a : IpAddress) (t : ℤ) (i : ℕ) →
    AreKeysDistinct address_cmp es → i ≡ index_of address_cmp a es → LimitsIn es (limited_at (slice_get es i) es i t) a t
limited es a t i distinct at = by (slice_get es i) refl where
  there : (e : IpAddress × Neighbor) → slice_get es i ≡ Some e → (b : Bool) → is_before t e.1.expires_at ≡ b →
      LimitsIn es (if b then slice_set es i (e.0, record e.1 { expires_at = t }) else es) a t
  there e is true late =
      let within = slice_get_within es i e is in
      let read : get_or es i e ≡ e = get_or_from_slice_get es i e e is in
      let n : Neighbor = record e.1 { expires_at = t } in
      let found : find address_cmp a es ≡ Some e.1 = found_is es a e i at within ∙ ap (λ (x : IpAddress × Neighbor). Some x.1) read in
      let key : e.0 ≡ a = ap (λ (x : IpAddress × Neighbor). x.0) (sym read)
      ∙ rw at (key-there address_total address_same a es e (rw at at within)) in
      let put = put_over_place 0 es es a n i (place_there 0 es a e i distinct at within) in
      let known : IsTrue (map.contains_key (from_entries {R = address_cmp} es) a) = rw (known_at es a, found) refl in
      rw key (record { distinct = put.distinct; limits = rw (found, late) (put.puts.there known) })
  there e is false other =
      let within = slice_get_within es i e is in
      let read : get_or es i e ≡ e = get_or_from_slice_get es i e e is in
      let found : find address_cmp a es ≡ Some e.1 = found_is es a e i at within ∙ ap (λ (x : IpAddress × Neighbor). Some x.1) read in
      record { distinct = distinct; limits = rw (found, other) refl }

  by : (o : Option (IpAddress × Neighbor)) → slice_get es i ≡ o → LimitsIn es (limited_at o es i t) a t
  by None is =
      elim (slice_get_cases es i).1 [
        | inl some ↦ let bad : None ≡ Some some.0 = sym is ∙ some.2 in cc
        | inr none ↦ record { distinct = distinct; limits = rw (none_found es a i at none.0) refl }
      ]
  by (Some e) is = there e is (is_before t e.1.expires_at) refl

pub limited_of : (m : Medium) (c : Neighbors) (a : IpAddress) (t : ℤ) → AreOf m c → AreOf m (after_limit c a t)
limited_of m c a t all = by (map.get c.known a) refl where
  by : (o : Option Neighbor) → map.get c.known a ≡ o → EachOf m (limited_from o c.known a t)
  by None is = all
  by (Some e) is = here (is_before t e.expires_at) where
    here : (b : Bool) → EachOf m (if b then map.insert c.known a (record e { expires_at = t }) else c.known)
    here true = inserted_of m c.known a (record e { expires_at = t }) (all a e is) all
    here false = all

-- a list in which one entry was limited
pub limited_in : (m : Medium) (es fs : List (IpAddress × Neighbor)) (a : IpAddress) (t : ℤ) →
    from_entries {R = address_cmp} fs ≡ limited_from (find address_cmp a es) (from_entries es) a t → EachOf m (from_entries es) →
    EachOf m (from_entries {R = address_cmp} fs)
limited_in m es fs a t e all =
    rw (e, ← known_at es a) (limited_of m (record { room = 0; known = from_entries es; silent_until = pos 0 }) a t all)
