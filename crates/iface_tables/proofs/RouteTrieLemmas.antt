-- The nodes of a trie, and the walk along an address.
use Rattle.std.proofs.Common.{◌≡◌, ◌≢◌, ◌<◌, ◌≤◌, ◌⊎◌, inl, inr, ℕ, zero, suc, ◌+◌, ◌-◌, ◌*◌, ◌/◌, ◌^◌, Bool, true, false, cond}
use Rattle.std.proofs.Common.{List, [], ◌∷◌, length, get_or, refl, sym, ap, subst, ◌∙◌, arith, one-add, get_or-set_same, get_or-set_other}
use Rattle.std.specs.Prelude.{Some, None, slice_get, slice_set, not, nat_le, nat_lt, ◌==◌, ◌&&◌}
use Rattle.std.proofs.lemmas.Bool.{cases_eq, cases_lt, eq-eqb, eqb-true}
use Rattle.std.proofs.lemmas.Option.{slice_get_past, slice_get_read}
use Rattle.std.proofs.Math.Nat.{div-eq_of_lt, sub-zero}
use Rattle.ip_address.specs.declared.cidr.IpCidr.{IpCidr}
use Rattle.iface_tables.specs.declared.route_trie.Beginning.{Beginning}
use Rattle.iface_tables.specs.declared.route_trie.Network.{Network}
use Rattle.iface_tables.specs.declared.route_trie.RouteNode.{RouteNode}
use Rattle.ip_address.specs.Cidr.{prefix_len_of}
use Rattle.ip_address.specs.declared.cidr.IpCidr.TheVariants as cidr
use Rattle.std.specs.List.{position_or_len}
use Rattle.std.proofs.lemmas.List.{get_or-map, length-map}
use Rattle.iface_tables.specs.declared.route.Route.{Route}
use Rattle.iface_tables.specs.Route.{cidrs}
use Rattle.iface_tables.specs.RouteTrie.{HasNodes, IsNodeOf, begins, has_place, is_marked, is_whole, network_of, number, index_of, start_of}
use Rattle.std.proofs.lemmas.Bool.Decides.{nat_tests}

-- the prefixes of routes: as many, in the same order
pub length_cidrs : (rs : List Route) → length (cidrs rs) ≡ length rs
length_cidrs rs = length-map rs (λ r. r.cidr)

pub cidr_there : (rs : List Route) (i : ℕ) (r : Route) → i < length rs → r ≡ get_or rs i r → (i < length (cidrs rs)) × (r.cidr ≡ get_or (cidrs rs) i r.cidr)
cidr_there rs i r within is = (
  omega (arith, within, length_cidrs rs),
  ap (λ (x : Route). x.cidr) is ∙ sym (get_or-map (λ (x : Route). x.cidr) rs i r r.cidr within),
)

-- the prefix of no bit
pub whole_root : (b : Beginning) (p : Network) → p.len ≡ 0 → p.len ≡ b.len → p.width ≡ b.width → p.bits < 2 ^ p.width →
    (b.len ≡ 0 → b.leading ≡ 0) → is_whole b p ≡ true
whole_root b p none len width fits root =
    let z : b.len ≡ 0 = sym len ∙ none in
    let q : p.bits / 2 ^ (p.width - b.len) ≡ b.leading = rw (z, sub-zero) (div-eq_of_lt fits) ∙ sym (root z) in
    let n : nat_le b.len p.len ≡ true = at_most _ _ (omega arith) in
    rw (eq-eqb _ _ len, eq-eqb _ _ width, n, eq-eqb _ _ q) refl
  where
    at_most : (m n : ℕ) → m ≤ n → nat_le m n ≡ true
    at_most m n h = grind (arith, nat_tests)

-- one place more is looked at
pub marks_more : (b : Beginning) (cidrs : List IpCidr) (mask new i : ℕ) (c : IpCidr) → i < length cidrs → c ≡ get_or cidrs i c
    → has_place new i ≡ is_whole b (network_of c) → ((k : ℕ) → k ≢ i → has_place new k ≡ has_place mask k)
    → ((k : ℕ) → k < i → has_place mask k ≡ is_marked b (slice_get cidrs k)) → (k : ℕ) → k < i + 1 → has_place new k ≡ is_marked b (slice_get cidrs k)
marks_more b cidrs mask new i c within is tested kept done k lt =
    elim (cases_eq k i) [
      | inl at ↦ rw (at, slice_get_read cidrs (length cidrs) i c refl within is) tested
      | inr other ↦ kept k other ∙ done k (omega arith)
    ]

pub marks_all : (b : Beginning) (cidrs : List IpCidr) (mask i : ℕ) →
    length cidrs ≤ i → ((k : ℕ) → k < i → has_place mask k ≡ is_marked b (slice_get cidrs k))
    → ((k : ℕ) → i ≤ k → has_place mask k ≡ false)
    → (k : ℕ) → has_place mask k ≡ is_marked b (slice_get cidrs k)
marks_all b cidrs mask i past done rest k =
    elim (cases_lt k i) [
      | inl lt ↦ done k lt
      | inr ge ↦ rw (slice_get_past cidrs k (omega arith)) (rest k ge)
    ]

pub some_is : {X : Type 0} (x y : X) → Some x ≡ Some y → x ≡ y
some_is x y e = cc

pub both : (a b : Bool) → a && b ≡ true → (a ≡ true) × (b ≡ true)
both true true h = (refl, refl)
both true false h = cc
both false b h = cc

pub le_of_test : (m n : ℕ) → nat_le m n ≡ true → m ≤ n
le_of_test m n h = grind (arith, nat_tests)

pub test_of_le : (m n : ℕ) → m ≤ n → nat_le m n ≡ true
test_of_le m n h = grind (arith, nat_tests)

-- no prefix is longer than its addresses
pub short : (c : IpCidr) → ((network_of c).len ≤ (network_of c).width) × ((network_of c).width ≤ 128) × ((network_of c).len ≡ prefix_len_of c)
short (cidr.Ipv4 n) = (n.in_range, omega arith, refl)
short (cidr.Ipv6 n) = (n.in_range, omega arith, refl)

-- one node more is written
pub filled_more : (cidrs : List IpCidr) (p : Network) (ns : List RouteNode) (base i : ℕ) (x : RouteNode) →
    base + i < length ns → IsNodeOf cidrs (start_of p (i + 1)) x
    → ((m : ℕ) (d : RouteNode) → m < i → IsNodeOf cidrs (start_of p (m + 1)) (get_or ns (base + m) d))
    → (m : ℕ) (d : RouteNode) → m < i + 1 → IsNodeOf cidrs (start_of p (m + 1)) (get_or (slice_set ns (base + i) x) (base + m) d)
filled_more cidrs p ns base i x within node filled m d lt =
    elim (cases_eq m i) [
      | inl at ↦ rw (at, get_or-set_same ns (base + i) x d within) node
      | inr other ↦ let apart : base + m ≢ base + i = (λ e. other (omega arith)) in
          rw (get_or-set_other ns (base + i) (base + m) x d apart) (filled m d (omega arith))
    ]

pub has_nodes : (cidrs : List IpCidr) (ns : List RouteNode) (place i : ℕ) (x : IpCidr) (p : Network) →
    place < length cidrs → x ≡ get_or cidrs place x → p ≡ network_of x → p.len ≤ i
    → ((m : ℕ) (d : RouteNode) → m < i → IsNodeOf cidrs (start_of p (m + 1)) (get_or ns (2 + 128 * place + m) d)) → HasNodes ns cidrs place
has_nodes cidrs ns place i x p within is net all filled c m d there lt =
    let e : x ≡ c = some_is _ _ (sym (slice_get_read cidrs (length cidrs) place x refl within is) ∙ there) in
    let n : p ≡ network_of c = net ∙ ap network_of e in
    let l : p.len ≡ (network_of c).len = ap (λ (q : Network). q.len) n in
    rw (← n) (filled m d (omega arith))

pub nodes_kept : (cidrs : List IpCidr) (ns ms : List RouteNode) (j place : ℕ) →
    j < place → ((k : ℕ) (d : RouteNode) → k ≤ 1 + 128 * place → get_or ms k d ≡ get_or ns k d) → HasNodes ns cidrs j → HasNodes ms cidrs j
nodes_kept cidrs ns ms j place before kept has c m d there lt =
    let s = short c in
    rw (kept (2 + 128 * j + m) d (omega (arith, s.0, s.1))) (has c m d there lt)

pub nodes_more : (cidrs : List IpCidr) (ns ms : List RouteNode) (place : ℕ) →
    ((k : ℕ) (d : RouteNode) → k ≤ 1 + 128 * place → get_or ms k d ≡ get_or ns k d) → HasNodes ms cidrs place → ((j : ℕ) → j < place → HasNodes ns cidrs j)
    → (j : ℕ) → j < place + 1 → HasNodes ms cidrs j
nodes_more cidrs ns ms place kept here before j lt =
    elim (cases_eq j place) [
      | inl at ↦ rw at here
      | inr other ↦ nodes_kept cidrs ns ms j place (omega arith) kept (before j (omega arith))
    ]

-- the first that passes a test
pub first_passes : {X : Type 0} (p : X → Bool) (xs : List X) →
    position_or_len p xs < length xs → (item : X) × (slice_get xs (position_or_len p xs) ≡ Some item) × (p item ≡ true)
first_passes p [] lt = absurd (omega arith)
first_passes {X} p (x ∷ xs) lt =
    elim (p x) as (λ t. p x ≡ t → cond (not t) (1 + position_or_len p xs) 0 < suc (length xs) →
    (item : X) × (slice_get (x ∷ xs) (cond (not t) (1 + position_or_len p xs) 0) ≡ Some item) × (p item ≡ true)) [
      | true ↦ λ t l. (x, refl, t)
      | false ↦ λ t l. let r = first_passes p xs (omega arith) in (r.0, ap (slice_get (x ∷ xs)) (one-add (position_or_len p xs)) ∙ r.1, r.2)
    ] refl lt

-- no one passes before it
pub none_passes : {X : Type 0} (p : X → Bool) (xs : List X) (k : ℕ) (x : X) → slice_get xs k ≡ Some x → p x ≡ true → position_or_len p xs < length xs
none_passes p [] k x there pass = absurd (let bad : None ≡ Some x = there in cc)
none_passes p (y ∷ xs) zero x there pass = let e : p y ≡ true = ap p (some_is y x there) ∙ pass in rw e (omega arith)
none_passes p (y ∷ xs) (suc k) x there pass =
    elim (p y) as (λ t. cond (not t) (1 + position_or_len p xs) 0 < suc (length xs)) [
      | true ↦ omega arith
      | false ↦ let r = none_passes p xs k x there pass in omega arith
    ]

-- a beginning of a prefix is its first bits
start_is : (b : Beginning) (p : Network) → begins b p ≡ true → (b ≡ start_of p b.len) × (b.len ≤ p.len)
start_is b p h =
    let w = both (p.width == b.width) _ h in
    let l = both (nat_le b.len p.len) _ w.1 in
    let width : p.width ≡ b.width = eqb-true _ _ w.0 in
    let leading : p.bits / 2 ^ (p.width - b.len) ≡ b.leading = eqb-true _ _ l.1 in
    (same_start (sym width) (sym leading), le_of_test _ _ l.0)
  where
    same_start : {w v x y n : ℕ} →
        w ≡ v → x ≡ y → ◌≡◌ {A = Beginning} (record { width = w; len = n; leading = x }) (record { width = v; len = n; leading = y })
    same_start e f = rw (e, f) refl

-- a node of a beginning that has a number is there
pub number_cases : (cidrs : List IpCidr) (b : Beginning) → ((index_of cidrs b < length cidrs) × (number cidrs b ≡ 1 + 128 * index_of cidrs b + b.len))
    ⊎ ((length cidrs ≤ index_of cidrs b) × (number cidrs b ≡ 0))
number_cases cidrs b =
    elim (cases_lt (index_of cidrs b) (length cidrs)) [
      | inl lt ↦ inl (lt, ap (λ t. cond t (1 + 128 * index_of cidrs b + b.len) 0) (below _ _ lt))
      | inr ge ↦ inr (ge, ap (λ t. cond t (1 + 128 * index_of cidrs b + b.len) 0) (not_below _ _ ge))
    ]
  where
    below : (m n : ℕ) → m < n → nat_lt m n ≡ true
    below m n h = grind (arith, nat_tests)

    not_below : (m n : ℕ) → n ≤ m → nat_lt m n ≡ false
    not_below m n h = grind (arith, nat_tests)

pub trie_others : (cidrs : List IpCidr) (ns : List RouteNode) → ((j : ℕ) → j < length cidrs → HasNodes ns cidrs j) → (b : Beginning) (d : RouteNode) →
    0 < b.len → 0 < number cidrs b → IsNodeOf cidrs b (get_or ns (number cidrs b) d)
trie_others cidrs ns filled b d some there =
    elim (number_cases cidrs b) [
      | inl here ↦
          let first = first_passes (λ c. begins b (network_of c)) cidrs here.0 in
          let start = start_is b (network_of first.0) first.2 in
          let m : (b.len - 1) + 1 ≡ b.len = omega arith in
          let at : 2 + 128 * index_of cidrs b + (b.len - 1) ≡ number cidrs b = omega (arith, here.1) in
          let node : IsNodeOf cidrs (start_of (network_of first.0) ((b.len - 1) + 1)) (get_or ns (2 + 128 * index_of cidrs b + (b.len - 1)) d) =
          filled (index_of cidrs b) here.0 first.0 (b.len - 1) d first.1 (omega (arith, start.1)) in
          let same : start_of (network_of first.0) ((b.len - 1) + 1) ≡ b = ap (start_of (network_of first.0)) m ∙ sym start.0 in
          subst (λ (n : ℕ). IsNodeOf cidrs b (get_or ns n d)) at
          (subst (λ (e : Beginning). IsNodeOf cidrs e (get_or ns (2 + 128 * index_of cidrs b + (b.len - 1)) d)) same node)
      | inr none ↦ absurd (omega (arith, none.1))
    ]
