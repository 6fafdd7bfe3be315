-- How many entries of a list expire after an instant, as of the finite map that they make.
use Rattle.std.proofs.Common.{◌≡◌, ℕ, ◌+◌, List, [], ◌∷◌, length, refl, sym, ap, ◌∙◌, add-one}
use Rattle.std.specs.Prelude.{Bool, ℤ, true, false, cond, Option, Some, None}
use Rattle.std.specs.List.{filter}
use Rattle.std.specs.Ordering.{eq_by_cmp}
use Rattle.std.specs.declared.cmp.Ordering.TheVariants.{Equal}
use Rattle.std.specs.FinMap as map
use Rattle.std.specs.FinMap.{find, from_entries, get-from_entries, get-retain_keys, same_map}
use Rattle.ip_address.specs.Ip.{address_cmp}
use Rattle.ip_address.specs.declared.ip.IpAddress.{IpAddress}
use Rattle.iface_tables.specs.Entries.{AreKeysDistinct}
use Rattle.iface_tables.specs.Neighbor.{count_after, count_later, is_before, is_later}
use Rattle.iface_tables.specs.declared.neighbor.Neighbor.{Neighbor}
use Rattle.iface_tables.proofs.EntriesLemmas.{len-from_entries, tied}
use Rattle.iface_tables.proofs.NeighborLemmas.{address_total, address_same}

-- the entries that expire after t
abbrev later : ℤ → List (IpAddress × Neighbor) → List (IpAddress × Neighbor)
later t es = filter (λ e. is_before t e.1.expires_at) es

length-later : (t : ℤ) (es : List (IpAddress × Neighbor)) → length (later t es) ≡ count_later t es
length-later t [] = refl
length-later t (e ∷ es) =
    elim (is_before t e.1.expires_at) as (λ b. length (cond b (e ∷ later t es) (later t es)) ≡ cond b (count_later t es + 1) (count_later t es)) [
      | true ↦ sym (add-one (length (later t es))) ∙ ap (λ n. n + 1) (length-later t es)
      | false ↦ length-later t es
    ]

-- one that isn't there is in no part of the list
nowhere : (t : ℤ) (o : Option Neighbor) → o ≡ None → cond (is_later t o) o None ≡ None
nowhere t o none = rw none refl

-- an address has among these its own entry, if that expires after t
find-later : (t : ℤ) (q : IpAddress) (es : List (IpAddress × Neighbor)) → AreKeysDistinct address_cmp es →
    find address_cmp q (later t es) ≡ cond (is_later t (find address_cmp q es)) (find address_cmp q es) None
find-later t q [] distinct = refl
find-later t q (e ∷ es) distinct =
    by (is_before t e.1.expires_at) refl (eq_by_cmp address_cmp q e.0) refl (find-later t q es distinct.1) where
      by : (b : Bool) → is_before t e.1.expires_at ≡ b → (r : Bool) → eq_by_cmp address_cmp q e.0 ≡ r →
          find address_cmp q (later t es) ≡ cond (is_later t (find address_cmp q es)) (find address_cmp q es) None →
          find address_cmp q (cond b (e ∷ later t es) (later t es))
          ≡ cond (is_later t (cond r (Some e.1) (find address_cmp q es))) (cond r (Some e.1) (find address_cmp q es)) None
      by true late true same rest = rw (same, late) refl
      by true late false other rest = rw other rest
      by false soon true same rest =
          let key : q ≡ e.0 = tied address_total address_same q e.0 same in
          let absent : find address_cmp q es ≡ None = rw key distinct.0 in
          rest ∙ nowhere t (find address_cmp q es) absent ∙ rw soon refl
      by false soon false other rest = rest

-- an entry that isn't there is in no part
none_later : (t : ℤ) (k : IpAddress) (es : List (IpAddress × Neighbor)) → AreKeysDistinct address_cmp es → find address_cmp k es ≡ None →
    find address_cmp k (later t es) ≡ None
none_later t k es distinct none = find-later t k es distinct ∙ nowhere t (find address_cmp k es) none

distinct-later : (t : ℤ) (es : List (IpAddress × Neighbor)) → AreKeysDistinct address_cmp es → AreKeysDistinct address_cmp (later t es)
distinct-later t [] distinct = tt
distinct-later t (e ∷ es) distinct =
    elim (is_before t e.1.expires_at) as (λ b. AreKeysDistinct address_cmp (cond b (e ∷ later t es) (later t es))) [
      | true ↦ (none_later t e.0 es distinct.1 distinct.0, distinct-later t es distinct.1)
      | false ↦ distinct-later t es distinct.1
    ]

-- these make the map of which the others are left out
made-later : (t : ℤ) (es : List (IpAddress × Neighbor)) → AreKeysDistinct address_cmp es →
    from_entries {R = address_cmp} (later t es)
    ≡ map.retain_keys (from_entries es) (λ a. is_later t (map.get {R = address_cmp} (from_entries es) a))
made-later t es distinct = same_map address_total address_same _ _ (λ q.
    get-from_entries address_total (later t es) q ∙ find-later t q es distinct
    ∙ ap (λ o. cond (is_later t o) o None) (sym (get-from_entries address_total es q))
    ∙ sym (get-retain_keys (from_entries es) (λ a. is_later t (map.get {R = address_cmp} (from_entries es) a)) q
    (λ x tie. ap (λ a. is_later t (map.get {R = address_cmp} (from_entries es) a)) (sym (address_same q x tie)))))

pub counted : (t : ℤ) (es : List (IpAddress × Neighbor)) → AreKeysDistinct address_cmp es → count_later t es ≡ count_after t (from_entries es)
counted t es distinct =
    sym (length-later t es) ∙ sym (len-from_entries address_total address_same (later t es) (distinct-later t es distinct))
    ∙ ap map.len (made-later t es distinct)
