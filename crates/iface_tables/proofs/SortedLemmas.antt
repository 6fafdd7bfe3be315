-- The list of neighbours by rising expiry, and the entry at an index of it.
use Rattle.std.proofs.Common.{◌≡◌, ℕ, zero, suc, ◌+◌, ◌-◌, ◌<◌, ◌≤◌, ◌⊎◌, inl, inr, List, [], ◌∷◌}
use Rattle.std.proofs.Common.{length, get_or, refl, sym, ap, ◌∙◌, arith}
use Rattle.std.specs.Prelude.{Bool, true, false, ℤ, pos, ◌+ℤ◌, ◌<ℤ◌, ◌≤ℤ◌, Some, None, slice_get, if◌then◌else◌, ◌==◌}
use Rattle.std.specs.List.{insert}
use Rattle.std.specs.Ordering.{int_cmp, int_eq, is_lt}
use Rattle.std.specs.FinMap as map
use Rattle.std.specs.FinMap.{find, from_entries}
use Rattle.std.specs.declared.cmp.Ordering.{Ordering}
use Rattle.std.specs.declared.cmp.Ordering.TheVariants.{Less, Equal, Greater}
use Rattle.std.proofs.lemmas.Bool.{cases_lt, cases_order}
use Rattle.std.proofs.lemmas.Bool.Decides.{Decides-int_eq, nat_tests}
use Rattle.std.proofs.lemmas.Cmp.{int_ranked}
use Rattle.std.proofs.lemmas.Int.{ints}
use Rattle.std.proofs.lemmas.Option.{slice_get-get_or}
use Rattle.std.proofs.lemmas.List.Edits.{get_or-insert_below, get_or-insert_at, get_or-insert_above, length-insert}
use Rattle.ip_address.specs.Ip.{address_cmp}
use Rattle.ip_address.specs.declared.ip.IpAddress.{IpAddress}
use Rattle.iface_tables.specs.declared.neighbor.Neighbor.{Neighbor}
use Rattle.iface_tables.specs.Entries.{AreKeysDistinct}
use Rattle.iface_tables.specs.Neighbor.{AreFrom, AreUpTo, IsByEnd, IsEndAt, count_before, expiring_at, is_before, sorted}
use Rattle.iface_tables.proofs.EntriesLemmas.{from_entries-put, distinct_after-put}
use Rattle.iface_tables.proofs.NeighborLemmas.{address_total, address_same, known_at}

-- what a test of two moments tells
pub cases_before : (a b : ℤ) → ((is_before a b ≡ true) × (a <ℤ b)) ⊎ ((is_before a b ≡ false) × (b ≤ℤ a))
cases_before a b = by (int_cmp a b) refl where
  by : (o : Ordering) → o ≡ int_cmp a b → ((is_lt o ≡ true) × (a <ℤ b)) ⊎ ((is_lt o ≡ false) × (b ≤ℤ a))
  by Less e = inl (refl, int_ranked a b Less e)
  by Equal e = let h = int_ranked a b Equal e in inr (refl, omega (arith, ints, h))
  by Greater e = let h = int_ranked a b Greater e in inr (refl, omega (arith, ints, h))

-- when the entry at an index expires
abbrev pub end_at : List (IpAddress × Neighbor) → ℕ → IpAddress × Neighbor → ℤ
end_at es k d = (get_or es k d).1.expires_at

-- how many expire before t, of a list with one entry more
pub counts : (t : ℤ) (e : IpAddress × Neighbor) (es : List (IpAddress × Neighbor)) →
    is_before e.1.expires_at t ≡ true → count_before t (e ∷ es) ≡ count_before t es + 1
counts t e es h = ap (λ b. if b then count_before t es + 1 else count_before t es) h

pub counts_not : (t : ℤ) (e : IpAddress × Neighbor) (es : List (IpAddress × Neighbor)) →
    is_before e.1.expires_at t ≡ false → count_before t (e ∷ es) ≡ count_before t es
counts_not t e es h = ap (λ b. if b then count_before t es + 1 else count_before t es) h

pub count_le : (t : ℤ) (es : List (IpAddress × Neighbor)) → count_before t es ≤ length es
count_le t [] = omega arith
count_le t (e ∷ es) =
    let rest = count_le t es in
    elim (cases_before e.1.expires_at t) [
      | inl b ↦ let n = counts t e es b.0 in omega (arith, n, rest)
      | inr b ↦ let n = counts_not t e es b.0 in omega (arith, n, rest)
    ]

-- no fewer expire before a later moment
pub count_rises : (s t : ℤ) → s ≤ℤ t → (es : List (IpAddress × Neighbor)) → count_before s es ≤ count_before t es
count_rises s t le [] = omega arith
count_rises s t le (e ∷ es) =
    let rest = count_rises s t le es in
    elim (cases_before e.1.expires_at s) [
      | inl a ↦ let m = counts s e es a.0 in elim (cases_before e.1.expires_at t) [
        | inl b ↦ let n = counts t e es b.0 in omega (arith, m, n, rest)
        | inr b ↦ let x = a.1 in let y = b.1 in absurd (omega (arith, ints, x, y, le))
      ]
      | inr a ↦ let m = counts_not s e es a.0 in elim (cases_before e.1.expires_at t) [
        | inl b ↦ let n = counts t e es b.0 in omega (arith, m, n, rest)
        | inr b ↦ let n = counts_not t e es b.0 in omega (arith, m, n, rest)
      ]
    ]

-- none expires before the first, and all before an instant after the last
pub count_none : (t : ℤ) (es : List (IpAddress × Neighbor)) → AreFrom t es → count_before t es ≡ 0
count_none t [] from = refl
count_none t (e ∷ es) from =
    elim (cases_before e.1.expires_at t) [
      | inl b ↦ let x = b.1 in let y = from 0 e (omega arith) in absurd (omega (arith, ints, x, y))
      | inr b ↦ counts_not t e es b.0 ∙ count_none t es (λ k d lt. from (suc k) d (omega arith))
    ]

pub count_all : (t : ℤ) (es : List (IpAddress × Neighbor)) → AreUpTo t es → count_before (t +ℤ pos 1) es ≡ length es
count_all t [] upto = refl
count_all t (e ∷ es) upto =
    let rest = count_all t es (λ k d lt. upto (suc k) d (omega arith)) in
    elim (cases_before e.1.expires_at (t +ℤ pos 1)) [
      | inl b ↦ let n = counts (t +ℤ pos 1) e es b.0 in omega (arith, n, rest)
      | inr b ↦ let x = b.1 in let y = upto 0 e (omega arith) in absurd (omega (arith, ints, x, y))
    ]

-- the first expiry isn't after the last
pub in_order : (s t : ℤ) (es : List (IpAddress × Neighbor)) → 0 < length es → AreFrom s es → AreUpTo t es → s ≤ℤ t
in_order s t [] some from upto = absurd (omega (arith, some))
in_order s t (e ∷ es) some from upto = let a = from 0 e some in let b = upto 0 e some in omega (arith, ints, a, b)

-- where an entry is put, the count is the same
pub count_insert : (t : ℤ) (es : List (IpAddress × Neighbor)) (p : ℕ) (e : IpAddress × Neighbor) →
    p ≤ length es → count_before t (insert es p e) ≡ count_before t (e ∷ es)
count_insert t es zero e le = refl
count_insert t [] (suc p) e le = absurd (omega arith)
count_insert t (x ∷ es) (suc p) e le =
    let rest = count_insert t es p e (omega arith) in
    elim (cases_before x.1.expires_at t) [
      | inl a ↦ let l = counts t x (insert es p e) a.0 in let m = counts t x es a.0 in elim (cases_before e.1.expires_at t) [
        | inl b ↦ let n = counts t e es b.0 in let o = counts t e (x ∷ es) b.0 in omega (arith, l, m, n, o, rest)
        | inr b ↦ let n = counts_not t e es b.0 in let o = counts_not t e (x ∷ es) b.0 in omega (arith, l, m, n, o, rest)
      ]
      | inr a ↦ let l = counts_not t x (insert es p e) a.0 in let m = counts_not t x es a.0 in elim (cases_before e.1.expires_at t) [
        | inl b ↦ let n = counts t e es b.0 in let o = counts t e (x ∷ es) b.0 in omega (arith, l, m, n, o, rest)
        | inr b ↦ let n = counts_not t e es b.0 in let o = counts_not t e (x ∷ es) b.0 in omega (arith, l, m, n, o, rest)
      ]
    ]

pub length-sorted : (es : List (IpAddress × Neighbor)) → length (sorted es) ≡ length es
length-sorted [] = refl
length-sorted (e ∷ es) =
    let rest = length-sorted es in
    let le = count_le e.1.expires_at es in
    let n = length-insert (sorted es) (count_before e.1.expires_at es) e (omega (arith, rest, le)) in
    omega (arith, rest, n)

-- an entry is put within the others
pub put_within : (es : List (IpAddress × Neighbor)) (t : ℤ) → count_before t es ≤ length (sorted es)
put_within es t = let rest = length-sorted es in let le = count_le t es in omega (arith, rest, le)

pub count_sorted : (t : ℤ) (es : List (IpAddress × Neighbor)) → count_before t (sorted es) ≡ count_before t es
count_sorted t [] = refl
count_sorted t (e ∷ es) =
    count_insert t (sorted es) (count_before e.1.expires_at es) e (put_within es e.1.expires_at)
    ∙ elim (cases_before e.1.expires_at t) [
      | inl b ↦ counts t e (sorted es) b.0 ∙ ap (λ n. n + 1) (count_sorted t es) ∙ sym (counts t e es b.0)
      | inr b ↦ counts_not t e (sorted es) b.0 ∙ count_sorted t es ∙ sym (counts_not t e es b.0)
    ]

-- the entries of a list by rising expiry, as far as they expire before t, and from there on
by_end-tail : (e : IpAddress × Neighbor) (es : List (IpAddress × Neighbor)) → IsByEnd (e ∷ es) → IsByEnd es
by_end-tail e es by i j d le lt = by (suc i) (suc j) d (omega arith) (omega arith)

from_first : (e : IpAddress × Neighbor) (es : List (IpAddress × Neighbor)) (t : ℤ) → IsByEnd (e ∷ es) → t ≤ℤ e.1.expires_at → AreFrom t es
from_first e es t by le k d lt = let h = by 0 (suc k) d (omega arith) (omega arith) in omega (arith, ints, h, le)

pub ends_below : (es : List (IpAddress × Neighbor)) (t : ℤ) (k : ℕ) (d : IpAddress × Neighbor) →
    IsByEnd es → k < count_before t es → end_at es k d <ℤ t
ends_below [] t k d by lt = absurd (omega arith)
ends_below (e ∷ es) t zero d by lt =
    elim (cases_before e.1.expires_at t) [
      | inl b ↦ b.1
      | inr b ↦
          let n = counts_not t e es b.0 in
          let none = count_none t es (from_first e es t by b.1) in
          absurd (omega (arith, n, none, lt))
    ]
ends_below (e ∷ es) t (suc k) d by lt =
    elim (cases_before e.1.expires_at t) [
      | inl b ↦ let n = counts t e es b.0 in ends_below es t k d (by_end-tail e es by) (omega (arith, n, lt))
      | inr b ↦
          let n = counts_not t e es b.0 in
          let none = count_none t es (from_first e es t by b.1) in
          absurd (omega (arith, n, none, lt))
    ]

pub ends_above : (es : List (IpAddress × Neighbor)) (t : ℤ) (k : ℕ) (d : IpAddress × Neighbor) →
    IsByEnd es → count_before t es ≤ k → k < length es → t ≤ℤ end_at es k d
ends_above [] t k d by from lt = absurd (omega arith)
ends_above (e ∷ es) t zero d by from lt =
    elim (cases_before e.1.expires_at t) [
      | inl b ↦ let n = counts t e es b.0 in absurd (omega (arith, n, from))
      | inr b ↦ b.1
    ]
ends_above (e ∷ es) t (suc k) d by from lt =
    elim (cases_before e.1.expires_at t) [
      | inl b ↦ let n = counts t e es b.0 in ends_above es t k d (by_end-tail e es by) (omega (arith, n, from)) (omega (arith, lt))
      | inr b ↦ from_first e es t by b.1 k d (omega (arith, lt))
    ]

-- an entry that is put where the order asks leaves it
inserted : (es : List (IpAddress × Neighbor)) (p : ℕ) (e : IpAddress × Neighbor) → IsByEnd es → p ≤ length es →
    ((k : ℕ) (d : IpAddress × Neighbor) → k < p → end_at es k d ≤ℤ e.1.expires_at) →
    ((k : ℕ) (d : IpAddress × Neighbor) → p ≤ k → k < length es → e.1.expires_at ≤ℤ end_at es k d) → IsByEnd (insert es p e)
inserted es p e by within less more i j d le lt =
    elim (cases_order j p) [
      | inl at ↦ elim (cases_lt i j) [
        | inl below ↦ rw (at, get_or-insert_at es p e d within, get_or-insert_below es p e d i (omega arith) within) (less i d (omega arith))
        | inr same ↦ let s : i ≡ j = omega arith in rw s (omega (arith, ints))
      ]
      | inr rest ↦ elim rest [
        | inl front ↦
            rw (get_or-insert_below es p e d i (omega arith) within, get_or-insert_below es p e d j front within) (by i j d le (omega arith))
        | inr back ↦
            let n = length-insert es p e within in
            let s : j ≡ (j - 1) + 1 = omega arith in
            rw (s, get_or-insert_above es p e d (j - 1) (omega arith) within) (elim (cases_order i p) [
              | inl at ↦ rw (at, get_or-insert_at es p e d within) (more (j - 1) d (omega arith) (omega (arith, n)))
              | inr other ↦ elim other [
                | inl below ↦ rw (get_or-insert_below es p e d i below within) (by i (j - 1) d (omega arith) (omega (arith, n)))
                | inr above ↦ let u : i ≡ (i - 1) + 1 = omega arith in
                    rw (u, get_or-insert_above es p e d (i - 1) (omega arith) within) (by (i - 1) (j - 1) d (omega arith) (omega (arith, n)))
              ]
            ])
      ]
    ]

pub sorted_by_end : (es : List (IpAddress × Neighbor)) → IsByEnd (sorted es)
sorted_by_end [] = λ i j d le lt. absurd (omega (arith, lt))
sorted_by_end (e ∷ es) =
    let t = e.1.expires_at in
    let by = sorted_by_end es in
    let n = count_sorted t es in
    inserted (sorted es) (count_before t es) e by (put_within es t)
    (λ k d lt. let h = ends_below (sorted es) t k d by (omega (arith, n, lt)) in omega (arith, ints, h))
    (λ k d from lt. ends_above (sorted es) t k d by (omega (arith, n, from)) lt)

-- it has the same neighbours, each once
none_in_sorted : (e : IpAddress × Neighbor) (es : List (IpAddress × Neighbor)) → AreKeysDistinct address_cmp (e ∷ es) →
    from_entries {R = address_cmp} (sorted es) ≡ from_entries es → find address_cmp e.0 (sorted es) ≡ None
none_in_sorted e es distinct known = sym (known_at (sorted es) e.0) ∙ ap (λ m. map.get m e.0) known ∙ known_at es e.0 ∙ distinct.0

pub sorted_known : (es : List (IpAddress × Neighbor)) → AreKeysDistinct address_cmp es →
    from_entries {R = address_cmp} (sorted es) ≡ from_entries es
sorted_known [] distinct = refl
sorted_known (e ∷ es) distinct =
    let known = sorted_known es distinct.1 in
    from_entries-put address_total address_same e.0 e.1 (sorted es) (count_before e.1.expires_at es) (none_in_sorted e es distinct known)
    ∙ ap (λ m. map.insert m e.0 e.1) known

pub sorted_distinct : (es : List (IpAddress × Neighbor)) → AreKeysDistinct address_cmp es → AreKeysDistinct address_cmp (sorted es)
sorted_distinct [] distinct = tt
sorted_distinct (e ∷ es) distinct =
    distinct_after-put address_total address_same e.0 e.1 (sorted es) (count_before e.1.expires_at es)
    (none_in_sorted e es distinct (sorted_known es distinct.1)) (sorted_distinct es distinct.1)

-- which of those that expire at t is the one after n others
not_then : (t : ℤ) (n : ℕ) (e : IpAddress × Neighbor) (es : List (IpAddress × Neighbor)) →
    int_eq e.1.expires_at t ≡ false → expiring_at t n (e ∷ es) ≡ expiring_at t n es
not_then t n e es h = ap (λ b. if b then (if n == 0 then Some e else expiring_at t (n - 1) es) else expiring_at t n es) h

then_one : (t : ℤ) (n : ℕ) (e : IpAddress × Neighbor) (es : List (IpAddress × Neighbor)) →
    int_eq e.1.expires_at t ≡ true → expiring_at t n (e ∷ es) ≡ (if n == 0 then Some e else expiring_at t (n - 1) es)
then_one t n e es h = ap (λ b. if b then (if n == 0 then Some e else expiring_at t (n - 1) es) else expiring_at t n es) h

pub the_first : (t : ℤ) (n : ℕ) (e : IpAddress × Neighbor) (es : List (IpAddress × Neighbor)) →
    int_eq e.1.expires_at t ≡ true → n ≡ 0 → expiring_at t n (e ∷ es) ≡ Some e
the_first t n e es h none = then_one t n e es h ∙ rw none refl

pub the_next : (t : ℤ) (n : ℕ) (e : IpAddress × Neighbor) (es : List (IpAddress × Neighbor)) →
    int_eq e.1.expires_at t ≡ true → 0 < n → expiring_at t n (e ∷ es) ≡ expiring_at t (n - 1) es
the_next t n e es h some =
    let more : (n == 0) ≡ false = grind (arith, nat_tests) in
    then_one t n e es h ∙ ap (λ b. if b then Some e else expiring_at t (n - 1) es) more

differ : (a b : ℤ) (r : Bool) → int_eq a b ≡ r → (a ≡ b → ⊥) → int_eq a b ≡ false
differ a b true e apart = absurd (apart ((Decides-int_eq a b).0 e))
differ a b false e apart = e

-- the entry at an index of the sorted list
pub nth : (t : ℤ) (r : ℕ) (es : List (IpAddress × Neighbor)) (d : IpAddress × Neighbor) → IsEndAt es r t →
    Some (get_or (sorted es) r d) ≡ expiring_at t (r - count_before t es) es
nth t r [] d is = let h = is.until in absurd (omega (arith, h))
nth t r (e ∷ es) d is =
    let x = e.1.expires_at in
    let u = t +ℤ pos 1 in
    let p = count_before x es in
    let within = put_within es x in
    let lo = is.before in
    let hi = is.until in
    elim (cases_before x t) [
      | inl a ↦
          let ax = a.1 in
          let m = counts t e es a.0 in
          let rises = count_rises x t (omega (arith, ints, ax)) es in
          elim (cases_before x u) [
            | inl b ↦
                let n = counts u e es b.0 in
                let one : r ≡ (r - 1) + 1 = omega (arith, lo, m) in
                let same : r - 1 - count_before t es ≡ r - count_before t (e ∷ es) = omega (arith, lo, m) in
                ap (λ k. Some (get_or (insert (sorted es) p e) k d)) one
                ∙ ap Some (get_or-insert_above (sorted es) p e d (r - 1) (omega (arith, rises, lo, m)) within)
                ∙ nth t (r - 1) es d (record { before = omega (arith, lo, m); until = omega (arith, lo, hi, m, n) })
                ∙ ap (λ k. expiring_at t k es) same
                ∙ sym (not_then t (r - count_before t (e ∷ es)) e es (differ x t (int_eq x t) refl (λ eq. omega (arith, ints, eq, ax))))
            | inr b ↦ let bx = b.1 in absurd (omega (arith, ints, ax, bx))
          ]
      | inr a ↦
          let ax = a.1 in
          let m = counts_not t e es a.0 in
          elim (cases_before x u) [
            | inl b ↦
                let bx = b.1 in
                let n = counts u e es b.0 in
                let at : x ≡ t = omega (arith, ints, ax, bx) in
                let ties : int_eq x t ≡ true = (Decides-int_eq x t).1 at in
                let here : p ≡ count_before t es = ap (λ s. count_before s es) at in
                elim (cases_lt p r) [
                  | inl after ↦
                      let one : r ≡ (r - 1) + 1 = omega (arith, after) in
                      let same : r - 1 - count_before t es ≡ r - count_before t (e ∷ es) - 1 = omega (arith, after, here, m) in
                      ap (λ k. Some (get_or (insert (sorted es) p e) k d)) one
                      ∙ ap Some (get_or-insert_above (sorted es) p e d (r - 1) (omega (arith, after)) within)
                      ∙ nth t (r - 1) es d (record { before = omega (arith, after, here); until = omega (arith, hi, n, after) })
                      ∙ ap (λ k. expiring_at t k es) same
                      ∙ sym (the_next t (r - count_before t (e ∷ es)) e es ties (omega (arith, after, here, m)))
                  | inr upto ↦
                      let same : r ≡ p = omega (arith, upto, here, lo, m) in
                      ap (λ k. Some (get_or (insert (sorted es) p e) k d)) same
                      ∙ ap Some (get_or-insert_at (sorted es) p e d within)
                      ∙ sym (the_first t (r - count_before t (e ∷ es)) e es ties (omega (arith, same, here, m)))
                ]
            | inr b ↦
                let bx = b.1 in
                let n = counts_not u e es b.0 in
                let rises = count_rises u x bx es in
                let same : r - count_before t es ≡ r - count_before t (e ∷ es) = omega (arith, m) in
                ap Some (get_or-insert_below (sorted es) p e d r (omega (arith, hi, n, rises)) within)
                ∙ nth t r es d (record { before = omega (arith, lo, m); until = omega (arith, hi, n) })
                ∙ ap (λ k. expiring_at t k es) same
                ∙ sym (not_then t (r - count_before t (e ∷ es)) e es (differ x t (int_eq x t) refl (λ eq. omega (arith, ints, eq, bx))))
          ]
    ]

-- as it is found
pub nth_found : (t : ℤ) (r : ℕ) (es : List (IpAddress × Neighbor)) → IsEndAt es r t → r < length es →
    expiring_at t (r - count_before t es) es ≡ slice_get (sorted es) r
nth_found t r [] is within = absurd (omega (arith, within))
nth_found t r (e ∷ es) is within =
    let n = length-sorted (e ∷ es) in
    sym (nth t r (e ∷ es) e is) ∙ sym (slice_get-get_or (sorted (e ∷ es)) r e (omega (arith, n, within)))
