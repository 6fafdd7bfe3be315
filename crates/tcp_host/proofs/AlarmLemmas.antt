-- A tournament of instants.
use Rattle.std.proofs.Common.{◌≡◌, ◌+◌, ◌*◌, ◌/◌, ◌≤◌, ◌<◌, ◌≢◌, ◌-◌, ◌⊎◌, inl, inr, ℕ, zero}
use Rattle.std.proofs.Common.{suc, Bool, true, false, List, length, drop, refl, sym, ap, ◌∙◌, subst, arith, min}
use Rattle.std.specs.Prelude.{get_or, nat_le, set, replicate, ◌==◌}
use Rattle.std.proofs.lemmas.Bool.Decides.{nat_tests}
use Rattle.std.proofs.lemmas.List.{get_or-set_same, get_or-set_other, get_or-drop, length-drop, get_or-replicate}
use Rattle.tcp_host.specs.Alarms.{IsLesser, IsTournament, IsTournamentBut, IsLeast}

-- where all are the same, each is the lesser
pub all_same : (places x : ℕ) → IsTournament places (replicate (2 * places) x)
all_same places x = λ node l m.
    get_or-replicate (2 * places) node x 0 (omega (arith, m))
    ∙ sym (ap (λ (a : ℕ). min a (get_or (replicate (2 * places) x) (2 * node + 1) 0)) (get_or-replicate (2 * places) (2 * node) x 0 (omega (arith, m)))
    ∙ ap (min x) (get_or-replicate (2 * places) (2 * node + 1) x 0 (omega (arith, m))) ∙ omega arith)

-- a node becomes the lesser of the two below it: then the one above it may be otherwise
pub raised : (places node : ℕ) (nodes : List ℕ) → length nodes ≡ places + places → 1 ≤ node → node < places → IsTournamentBut places node nodes →
    IsTournamentBut places (node / 2) (set nodes node (min (get_or nodes (2 * node) 0) (get_or nodes (2 * node + 1) 0)))
raised places node nodes len l m others = λ k a b other. by k a b other (k == node) refl where
  value : ℕ
  value = min (get_or nodes (2 * node) 0) (get_or nodes (2 * node + 1) 0)

  by : (k : ℕ) → 1 ≤ k → k < places → k ≢ node / 2 → (t : Bool) → (k == node) ≡ t → IsLesser k (set nodes node value)
  by k a b other true t =
      let e : k ≡ node = grind (arith, nat_tests, t) in
      let first : 2 * k ≢ node = omega (arith, e, l) in
      let second : 2 * k + 1 ≢ node = omega (arith, e, l) in
      ap (λ (n : ℕ). get_or (set nodes node value) n 0) e
      ∙ get_or-set_same nodes node value 0 (omega (arith, len, m))
      ∙ sym (ap (λ (x : ℕ). min x (get_or (set nodes node value) (2 * k + 1) 0)) (get_or-set_other nodes node (2 * k) value 0 first)
      ∙ ap (min (get_or nodes (2 * k) 0)) (get_or-set_other nodes node (2 * k + 1) value 0 second)
      ∙ ap (λ (n : ℕ). min (get_or nodes (2 * n) 0) (get_or nodes (2 * n + 1) 0)) e)
  by k a b other false t =
      let e : k ≢ node = grind (arith, nat_tests, t) in
      let first : 2 * k ≢ node = grind (arith, nat_tests, other) in
      let second : 2 * k + 1 ≢ node = grind (arith, nat_tests, other) in
      get_or-set_other nodes node k value 0 e ∙ others k a b e
      ∙ sym (ap (λ (x : ℕ). min x (get_or (set nodes node value) (2 * k + 1) 0)) (get_or-set_other nodes node (2 * k) value 0 first)
      ∙ ap (min (get_or nodes (2 * k) 0)) (get_or-set_other nodes node (2 * k + 1) value 0 second))

halves : (n : ℕ) → 2 ≤ n → (1 ≤ n / 2) × (n / 2 < n) × ((2 * (n / 2) ≡ n) ⊎ (2 * (n / 2) + 1 ≡ n))
halves n l = (omega (arith, l), omega (arith, l), by (2 * (n / 2) == n) refl) where
  by : (b : Bool) → (2 * (n / 2) == n) ≡ b → (2 * (n / 2) ≡ n) ⊎ (2 * (n / 2) + 1 ≡ n)
  by true e = let k : 2 * (n / 2) ≡ n = grind (arith, nat_tests, e) in inl k
  by false e = let k : 2 * (n / 2) ≢ n = grind (arith, nat_tests, e) in inr (omega (arith, k))

-- a node is at most the two below it
at_most : (places node : ℕ) (nodes : List ℕ) → IsTournament places nodes → 1 ≤ node / 2 → node / 2 < places →
    (2 * (node / 2) ≡ node) ⊎ (2 * (node / 2) + 1 ≡ node) → get_or nodes (node / 2) 0 ≤ get_or nodes node 0
at_most places node nodes t l m (inl e) =
    let k = t (node / 2) l m in
    let n = ap (λ (i : ℕ). get_or nodes i 0) e in
    omega (arith, k, n)
at_most places node nodes t l m (inr e) =
    let k = t (node / 2) l m in
    let n = ap (λ (i : ℕ). get_or nodes i 0) e in
    omega (arith, k, n)

-- the first node is at most each other
below : (places fuel node : ℕ) (nodes : List ℕ) → IsTournament places nodes → 1 ≤ node → node < places + places → node ≤ fuel →
    get_or nodes 1 0 ≤ get_or nodes node 0
below places zero node nodes t l m few = absurd (omega (arith, l, few))
below places (suc fuel) node nodes t l m few =
    by (node == 1) refl (λ a b c. below places fuel (node / 2) nodes t a b c) where
      by : (b : Bool) → (node == 1) ≡ b →
          (1 ≤ node / 2 → node / 2 < places + places → node / 2 ≤ fuel → get_or nodes 1 0 ≤ get_or nodes (node / 2) 0) →
          get_or nodes 1 0 ≤ get_or nodes node 0
      by true e rest = let n : node ≡ 1 = grind (arith, nat_tests, e) in subst (λ (k : ℕ). get_or nodes 1 0 ≤ get_or nodes k 0) (sym n) (omega arith)
      by false e rest =
          let n : node ≢ 1 = grind (arith, nat_tests, e) in
          let h = halves node (omega (arith, n, l)) in
          let h0 = h.0 in
          let h1 = h.1 in
          let first = rest h0 (omega (arith, h1, m)) (omega (arith, h1, few)) in
          let second = at_most places node nodes t h0 (omega (arith, m)) h.2 in
          omega (arith, first, second)

-- and it is one of the second half
one_of : (places fuel node : ℕ) (nodes : List ℕ) → IsTournament places nodes → 1 ≤ node → node < places + places → places ≤ node + fuel →
    (i : ℕ) × (i < places) × (get_or nodes (places + i) 0 ≡ get_or nodes node 0)
one_of places zero node nodes t l m few =
    let e : places + (node - places) ≡ node = omega (arith, few) in
    (node - places, omega (arith, m, few), ap (λ (k : ℕ). get_or nodes k 0) e)
one_of places (suc fuel) node nodes t l m few =
    by (nat_le places node) refl (λ c a b. one_of places fuel c nodes t a b) where
      OneOf : ℕ → Type 0
      OneOf c = (i : ℕ) × (i < places) × (get_or nodes (places + i) 0 ≡ get_or nodes c 0)

      lesser : (node < places) → (b : Bool) → nat_le (get_or nodes (2 * node) 0) (get_or nodes (2 * node + 1) 0) ≡ b →
          ((c : ℕ) → 1 ≤ c → c < places + places → places ≤ c + fuel → OneOf c) → OneOf node
      lesser less true e rest =
          let f : get_or nodes (2 * node) 0 ≤ get_or nodes (2 * node + 1) 0 = grind (arith, nat_tests, e) in
          let k = t node l less in
          let r = rest (2 * node) (omega (arith, l)) (omega (arith, less)) (omega (arith, few, l)) in
          let same : get_or nodes (2 * node) 0 ≡ get_or nodes node 0 = omega (arith, k, f) in
          (r.0, r.1, r.2 ∙ same)
      lesser less false e rest =
          let f : get_or nodes (2 * node + 1) 0 ≤ get_or nodes (2 * node) 0 = grind (arith, nat_tests, e) in
          let k = t node l less in
          let r = rest (2 * node + 1) (omega (arith, l)) (omega (arith, less)) (omega (arith, few, l)) in
          let same : get_or nodes (2 * node + 1) 0 ≡ get_or nodes node 0 = omega (arith, k, f) in
          (r.0, r.1, r.2 ∙ same)

      by : (b : Bool) → nat_le places node ≡ b → ((c : ℕ) → 1 ≤ c → c < places + places → places ≤ c + fuel → OneOf c) → OneOf node
      by true e rest =
          let f : places ≤ node = grind (arith, nat_tests, e) in
          let n : places + (node - places) ≡ node = omega (arith, f) in
          (node - places, omega (arith, m, f), ap (λ (k : ℕ). get_or nodes k 0) n)
      by false e rest =
          let f : node < places = grind (arith, nat_tests, e) in
          lesser f (nat_le (get_or nodes (2 * node) 0) (get_or nodes (2 * node + 1) 0)) refl rest

-- so the first node is the least of the second half
pub least_is : (places : ℕ) (nodes : List ℕ) → length nodes ≡ places + places → 1 ≤ places → IsTournament places nodes →
    IsLeast (drop places nodes) (get_or nodes 1 0)
least_is places nodes len some t = record {
  below = λ i l.
      let left = length-drop places nodes in
      let at = get_or-drop places nodes i 0 in
      let b = below places (places + i) (places + i) nodes t (omega (arith, some)) (omega (arith, l, left, len)) (omega arith) in
      omega (arith, at, b);
  one =
      let o = one_of places places 1 nodes t (omega arith) (omega (arith, some)) (omega arith) in
      let left = length-drop places nodes in
      let l = o.1 in
      (o.0, omega (arith, l, left, len), get_or-drop places nodes o.0 0 ∙ o.2);
}
