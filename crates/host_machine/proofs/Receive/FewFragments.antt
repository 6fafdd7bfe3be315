-- Few fragments cover few separate ranges.
use Rattle.std.proofs.Common.{◌≡◌, ℕ, zero, suc, ◌+◌, ◌≤◌, List, [], ◌∷◌, ◌++◌, length, length-append, arith}
use Rattle.std.specs.Prelude.{Bool, true, false, ◌&&◌, ◌||◌, not, nat_le, nat_lt, if◌then◌else◌}
use Rattle.std.proofs.lemmas.Bool.Decides.{nat_tests}
use Rattle.fragmentation.specs.Fragments.{Fragment, end_of, has_place, is_covered, begins_run, runs_below, ranges, keeps_few}

abbrev one_if : Bool → ℕ
one_if b = if b then 1 else 0

-- a run of two sets together begins where one of theirs does
either_begins : (a b c d : Bool) → one_if ((a || b) && not (c || d)) ≤ one_if (a && not c) + one_if (b && not d)
either_begins true b true d = omega arith
either_begins true b false true = omega arith
either_begins true b false false = omega arith
either_begins false true true true = omega arith
either_begins false true true false = omega arith
either_begins false true false true = omega arith
either_begins false true false false = omega arith
either_begins false false c d = omega arith

begins_either : (s t : ℕ → Bool) (p : ℕ) → one_if (begins_run (λ x. s x || t x) p) ≤ one_if (begins_run s p) + one_if (begins_run t p)
begins_either s t zero = by (s 0) (t 0) where
  by : (a b : Bool) → one_if (a || b) ≤ one_if a + one_if b
  by true b = omega arith
  by false b = omega arith
begins_either s t (suc p) = either_begins (s (suc p)) (t (suc p)) (s p) (t p)

runs_either : (s t : ℕ → Bool) (n : ℕ) → runs_below (λ x. s x || t x) n ≤ runs_below s n + runs_below t n
unfolding runs_below
runs_either s t zero = omega arith
runs_either s t (suc n) =
    let rest = runs_either s t n in
    let here = begins_either s t n in
    omega arith

-- one fragment begins a run at its offset alone
begins_one : (a b n : ℕ) → one_if (begins_run (λ p. nat_le a p && nat_lt p b) n) + one_if (nat_lt a n) ≤ one_if (nat_lt a (suc n))
begins_one a b zero = grind (arith, nat_tests)
begins_one a b (suc n) = grind (arith, nat_tests)

runs_one : (a b n : ℕ) → runs_below (λ p. nat_le a p && nat_lt p b) n ≤ one_if (nat_lt a n)
unfolding runs_below
runs_one a b zero = omega arith
runs_one a b (suc n) =
    let rest = runs_one a b n in
    let here = begins_one a b n in
    omega arith

runs_none : (n : ℕ) → runs_below (λ p. false) n ≤ 0
unfolding runs_below
runs_none zero = omega arith
runs_none (suc zero) = omega arith
runs_none (suc (suc n)) = let rest = runs_none (suc n) in omega arith

at_most_one : (b : Bool) → one_if b ≤ 1
at_most_one true = omega arith
at_most_one false = omega arith

pub runs_few : (fs : List Fragment) (n : ℕ) → runs_below (is_covered fs) n ≤ length fs
runs_few [] n = runs_none n
runs_few (f ∷ fs) n =
    let both = runs_either (has_place f) (is_covered fs) n in
    let one = runs_one f.offset (end_of f) n in
    let most = at_most_one (nat_lt f.offset n) in
    let rest = runs_few fs n in
    omega arith

-- a fragment that follows at most three others is kept
pub few_kept : (fs : List Fragment) (f : Fragment) → length fs ≤ 3 → keeps_few fs f ≡ true
few_kept fs f l =
    let most = runs_few (fs ++ f ∷ []) 4096 in
    let len : length (fs ++ f ∷ []) ≡ length fs + 1 = length-append fs (f ∷ []) in
    small (ranges (fs ++ f ∷ [])) (omega arith) where
      small : (n : ℕ) → n ≤ 4 → nat_le n 4 ≡ true
      small n h = grind (arith, nat_tests)
