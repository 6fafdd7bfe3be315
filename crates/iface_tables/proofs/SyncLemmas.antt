-- Routes that are taken out from the last to the first.
use Rattle.std.proofs.Common.{◌≡◌, ◌<◌, ◌+◌, ◌-◌, arith, ℕ, zero, suc, Bool, true, false, List, [], ◌∷◌, ◌++◌, take, drop, refl, ap, ◌∙◌}
use Rattle.std.specs.Prelude.{ℤ, filter, not, slice_get, if◌then◌else◌}
use Rattle.std.specs.List.{remove}
use Rattle.iface_tables.specs.declared.route.Route.{Route as StoredRoute}
use Rattle.iface_tables.specs.declared.slaac.Route.{Route}
use Rattle.iface_tables.specs.Sync.{is_ended_at, is_ended_route, without_ended_at}

module _ (t : ℤ) (rs : List Route) where
  -- those from an index on that haven't expired, behind all before it
  abbrev pub left_from : List StoredRoute → ℕ → List StoredRoute
  left_from xs n = take n xs ++ filter (λ (s : StoredRoute). not (is_ended_route t rs s)) (drop n xs)

  pub one_back : (xs : List StoredRoute) (n : ℕ) → without_ended_at t rs (left_from xs (suc n)) n ≡ left_from xs n
  one_back [] zero = refl
  one_back [] (suc n) = refl
  one_back (x ∷ xs) zero = by (is_ended_route t rs x) refl where
    by : (b : Bool) → is_ended_route t rs x ≡ b → without_ended_at t rs (left_from (x ∷ xs) 1) 0 ≡ left_from (x ∷ xs) 0
    by true e = rw e refl
    by false e = rw e refl
  one_back (x ∷ xs) (suc n) = by (is_ended_at t rs (slice_get (left_from xs (suc n)) n)) (one_back xs n) where
    l : List StoredRoute
    l = left_from xs (suc n)

    by : (b : Bool) → (if b then remove l n else l) ≡ left_from xs n → (if b then remove (x ∷ l) (suc n) else x ∷ l) ≡ left_from (x ∷ xs) (suc n)
    by true e = ap (λ ys. x ∷ ys) e
    by false e = ap (λ ys. x ∷ ys) e

  pub passed_on : (xs items items' : List StoredRoute) (len passed : ℕ) → passed < len → items ≡ left_from xs (len - passed) →
      items' ≡ without_ended_at t rs items (len - 1 - passed) → items' ≡ left_from xs (len - (passed + 1))
  passed_on xs items items' len passed lt before after =
      let n = len - (passed + 1) in
      let next : len - passed ≡ suc n = omega (arith, lt) in
      let at : len - 1 - passed ≡ n = omega (arith, lt) in
      after ∙ ap (λ ys. without_ended_at t rs ys (len - 1 - passed)) (before ∙ ap (left_from xs) next)
      ∙ ap (λ i. without_ended_at t rs (left_from xs (suc n)) i) at ∙ one_back xs n
