-- How many neighbours of a map expire after an instant.
use Rattle.std.proofs.Common.{◌≡◌, ℕ, ◌+◌, ◌-◌, ◌≤◌, Bool, true, false, List, [], ◌∷◌, refl, sym, ap, ◌∙◌, arith}
use Rattle.std.specs.Prelude.{cond, ℤ, ◌<ℤ◌, ◌≤ℤ◌, T, ◌&&◌, Option, Some, None}
use Rattle.std.specs.Ordering.{eq_by_cmp, int_cmp, is_eq, is_lt, MatchOrdering}
use Rattle.std.specs.declared.cmp.Ordering.{Ordering}
use Rattle.std.specs.declared.cmp.Ordering.TheVariants.{Less, Equal, Greater}
use Rattle.std.specs.Cmp.{int_cmp_is, int_ranks}
use Rattle.std.proofs.lemmas.Int.{ints}
use Rattle.std.specs.FinMap as map
use Rattle.std.specs.FinMap.{FinMap, find, get-entries, get-from_entries, get-insert, get-remove, get-retain_keys, is_sorted, len-insert, len-remove, same_map, from_entries, entries_sorted}
use Rattle.ip_address.specs.Ip.{address_cmp}
use Rattle.ip_address.specs.declared.ip.IpAddress.{IpAddress}
use Rattle.iface_tables.specs.Entries.{AreKeysDistinct}
use Rattle.iface_tables.specs.Neighbor.{count_after, count_later, is_before, is_later}
use Rattle.iface_tables.specs.declared.neighbor.Neighbor.{Neighbor}
use Rattle.iface_tables.proofs.LaterLemmas.{counted}
use Rattle.iface_tables.proofs.NeighborLemmas.{address_total, address_same}

abbrev pub Known : Type 0
Known = FinMap address_cmp Neighbor

-- the neighbours that expire after t
abbrev pub later : ℤ → Known → Known
later t m = map.retain_keys m (λ a. is_later t (map.get m a))

get-later : (t : ℤ) (m : Known) (q : IpAddress) → map.get (later t m) q ≡ cond (is_later t (map.get m q)) (map.get m q) None
get-later t m q = get-retain_keys m (λ a. is_later t (map.get m a)) q
    (λ x tie. ap (λ a. is_later t (map.get {R = address_cmp} m a)) (sym (address_same q x tie)))

both_ways : (r : Bool) (t : ℤ) (n : Neighbor) (o : Option Neighbor) → is_before t n.expires_at ≡ true →
    cond (is_later t (cond r (Some n) o)) (cond r (Some n) o) None ≡ cond r (Some n) (cond (is_later t o) o None)
both_ways true t n o late = rw late refl
both_ways false t n o late = refl

-- one that expires after t is one of them
later-insert : (t : ℤ) (m : Known) (a : IpAddress) (n : Neighbor) → is_before t n.expires_at ≡ true →
    later t (map.insert m a n) ≡ map.insert (later t m) a n
later-insert t m a n late = same_map address_total address_same _ _ (λ q.
    get-later t (map.insert m a n) q ∙ ap (λ o. cond (is_later t o) o None) (get-insert address_total m a n q)
    ∙ both_ways (eq_by_cmp address_cmp q a) t n (map.get m q) late
    ∙ sym (get-insert address_total (later t m) a n q ∙ ap (cond (eq_by_cmp address_cmp q a) (Some n)) (get-later t m q)))

neither_way : (r : Bool) (t : ℤ) (n : Neighbor) (o : Option Neighbor) → is_before t n.expires_at ≡ false →
    cond (is_later t (cond r (Some n) o)) (cond r (Some n) o) None ≡ cond r None (cond (is_later t o) o None)
neither_way true t n o soon = rw soon refl
neither_way false t n o soon = refl

-- and another one isn't
later-insert_soon : (t : ℤ) (m : Known) (a : IpAddress) (n : Neighbor) → is_before t n.expires_at ≡ false →
    later t (map.insert m a n) ≡ map.remove (later t m) a
later-insert_soon t m a n soon = same_map address_total address_same _ _ (λ q.
    get-later t (map.insert m a n) q ∙ ap (λ o. cond (is_later t o) o None) (get-insert address_total m a n q)
    ∙ neither_way (eq_by_cmp address_cmp q a) t n (map.get m q) soon
    ∙ sym (get-remove address_total (later t m) a q ∙ ap (cond (eq_by_cmp address_cmp q a) None) (get-later t m q)))

without : (r : Bool) (t : ℤ) (o : Option Neighbor) →
    cond (is_later t (cond r None o)) (cond r None o) None ≡ cond r None (cond (is_later t o) o None)
without true t o = refl
without false t o = refl

later-remove : (t : ℤ) (m : Known) (v : IpAddress) → later t (map.remove m v) ≡ map.remove (later t m) v
later-remove t m v = same_map address_total address_same _ _ (λ q.
    get-later t (map.remove m v) q ∙ ap (λ o. cond (is_later t o) o None) (get-remove address_total m v q)
    ∙ without (eq_by_cmp address_cmp q v) t (map.get m q)
    ∙ sym (get-remove address_total (later t m) v q ∙ ap (cond (eq_by_cmp address_cmp q v) None) (get-later t m q)))

-- a map has at most one more after an insertion, and no more where the key is there
at_most_one_more : (b : Bool) (n : ℕ) → cond b n (n + 1) ≤ n + 1
at_most_one_more true n = omega arith
at_most_one_more false n = omega arith

no_more : (b : Bool) (n : ℕ) → cond b (n - 1) n ≤ n
no_more true n = omega arith
no_more false n = omega arith

pub count-insert : (t : ℤ) (m : Known) (a : IpAddress) (n : Neighbor) → count_after t (map.insert m a n) ≤ count_after t m + 1
count-insert t m a n = by (is_before t n.expires_at) refl where
  by : (b : Bool) → is_before t n.expires_at ≡ b → count_after t (map.insert m a n) ≤ count_after t m + 1
  by true late =
      rw (later-insert t m a n late, len-insert address_total (later t m) a n)
      (at_most_one_more (map.contains_key (later t m) a) (map.len (later t m)))
  by false soon =
      let fewer : map.len (map.remove (later t m) a) ≤ map.len (later t m) =
      rw (len-remove address_total (later t m) a) (no_more (map.contains_key (later t m) a) (map.len (later t m))) in
      rw (later-insert_soon t m a n soon) (omega (arith, fewer))

pub count-insert_soon : (t : ℤ) (m : Known) (a : IpAddress) (n : Neighbor) → is_before t n.expires_at ≡ false →
    count_after t (map.insert m a n) ≤ count_after t m
count-insert_soon t m a n soon =
    rw (later-insert_soon t m a n soon, len-remove address_total (later t m) a)
    (no_more (map.contains_key (later t m) a) (map.len (later t m)))

there : (t : ℤ) (o : Option Neighbor) (n : Neighbor) → o ≡ Some n → is_before t n.expires_at ≡ true → cond (is_later t o) o None ≡ Some n
there t o n is late = rw (is, late) refl

-- one that takes the place of one that expires after t
pub count-insert_there : (t : ℤ) (m : Known) (a : IpAddress) (n old : Neighbor) → map.get m a ≡ Some old → is_before t old.expires_at ≡ true →
    count_after t (map.insert m a n) ≤ count_after t m
count-insert_there t m a n old is late = by (is_before t n.expires_at) refl where
  has : map.get (later t m) a ≡ Some old
  has = get-later t m a ∙ there t (map.get m a) old is late

  by : (b : Bool) → is_before t n.expires_at ≡ b → count_after t (map.insert m a n) ≤ count_after t m
  by true also =
      rw (later-insert t m a n also, len-insert address_total (later t m) a n, has) (omega arith)
  by false soon = count-insert_soon t m a n soon

pub count-remove : (t : ℤ) (m : Known) (v : IpAddress) → count_after t (map.remove m v) ≤ count_after t m
count-remove t m v =
    rw (later-remove t m v, len-remove address_total (later t m) v) (no_more (map.contains_key (later t m) v) (map.len (later t m)))

all_kept : (t : ℤ) (o : Option Neighbor) → ((n : Neighbor) → o ≡ Some n → is_before t n.expires_at ≡ true) → cond (is_later t o) o None ≡ o
all_kept t None all = refl
all_kept t (Some n) all = rw (all n refl) refl

-- where all expire after t, all are counted
pub count-all : (t : ℤ) (m : Known) → ((a : IpAddress) (n : Neighbor) → map.get m a ≡ Some n → is_before t n.expires_at ≡ true) →
    count_after t m ≡ map.len m
count-all t m all = ap map.len (same_map address_total address_same _ _ (λ q. get-later t m q ∙ all_kept t (map.get m q) (all q)))

-- orders of instants, by their comparison
ranked_lt : (t end : ℤ) (o : Ordering) → MatchOrdering o (t <ℤ end) (t ≡ end) (end <ℤ t) → is_lt o ≡ true → t <ℤ end
ranked_lt t end Less m is = m
ranked_lt t end Equal m is = absurd cc
ranked_lt t end Greater m is = absurd cc

pub lt_of : (t end : ℤ) → is_before t end ≡ true → t <ℤ end
lt_of t end is = ranked_lt t end (int_cmp t end) (int_ranks t end) is

pub before : (t x : ℤ) → t <ℤ x → is_before t x ≡ true
before t x less = let e : is_lt (int_cmp t x) ≡ true = rw (← int_cmp_is t x Less less) refl in e

pub sooner : (t u x : ℤ) → t ≤ℤ u → is_before u x ≡ true → is_before t x ≡ true
sooner t u x le is = let less : u <ℤ x = lt_of u x is in before t x (omega (arith, ints))

-- a later instant has no more after it
fewer_by : (t u : ℤ) → t ≤ℤ u → (es : List (IpAddress × Neighbor)) → count_later u es ≤ count_later t es
fewer_by t u le [] = omega arith
fewer_by t u le (e ∷ es) = by (is_before u e.1.expires_at) refl (is_before t e.1.expires_at) refl (fewer_by t u le es) where
  by : (b : Bool) → is_before u e.1.expires_at ≡ b → (d : Bool) → is_before t e.1.expires_at ≡ d → count_later u es ≤ count_later t es →
      cond b (count_later u es + 1) (count_later u es) ≤ cond d (count_later t es + 1) (count_later t es)
  by true late true also rest = omega (arith, rest)
  by true late false soon rest = let bad = sooner t u e.1.expires_at le late in absurd cc
  by false soon true late rest = omega (arith, rest)
  by false soon false other rest = rest

-- the keys of a map differ
other_key : (r : Ordering) → T (is_lt r) → is_eq r ≡ false
other_key Less h = refl
other_key Equal h = absurd h
other_key Greater h = absurd h

first : (a b : Bool) → T (a && b) → T a
first true b h = tt
first false b h = h

second : (a b : Bool) → T (a && b) → T b
second true b h = h
second false b h = absurd h

above_none : (x : IpAddress) (es : List (IpAddress × Neighbor)) → T (map.Entries.below_all address_cmp x es) → find address_cmp x es ≡ None
above_none x [] h = refl
above_none x (e ∷ es) h =
    let rest = above_none x es (second (is_lt (address_cmp x e.0)) (map.Entries.below_all address_cmp x es) h) in
    rw (other_key (address_cmp x e.0) (first (is_lt (address_cmp x e.0)) (map.Entries.below_all address_cmp x es) h)) rest

sorted_distinct : (es : List (IpAddress × Neighbor)) → T (is_sorted address_cmp es) → AreKeysDistinct address_cmp es
sorted_distinct [] h = tt
sorted_distinct (e ∷ es) h = (
  above_none e.0 es (first (map.Entries.below_all address_cmp e.0 es) (is_sorted address_cmp es) h),
  sorted_distinct es (second (map.Entries.below_all address_cmp e.0 es) (is_sorted address_cmp es) h),
)

made : (m : Known) → from_entries {R = address_cmp} (map.entries m) ≡ m
made m = same_map address_total address_same _ _ (λ q. get-from_entries address_total (map.entries m) q ∙ sym (get-entries m q))

pub count-fewer : (t u : ℤ) (m : Known) → t ≤ℤ u → count_after u m ≤ count_after t m
count-fewer t u m le =
    let distinct = sorted_distinct (map.entries m) (entries_sorted m) in
    let at_t : count_later t (map.entries m) ≡ count_after t m = counted t (map.entries m) distinct ∙ ap (count_after t) (made m) in
    let at_u : count_later u (map.entries m) ≡ count_after u m = counted u (map.entries m) distinct ∙ ap (count_after u) (made m) in
    let few = fewer_by t u le (map.entries m) in
    omega (arith, at_t, at_u, few)
