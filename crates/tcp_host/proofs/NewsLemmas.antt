-- Marks of connections that changed.
use Rattle.std.proofs.Common.{◌≡◌, ◌≢◌, ◌<◌, ◌≤◌, ◌+◌, ℕ, zero, suc, Bool, true, false, List, [], ◌∷◌, length, get_or, slice_set, refl, sym, ap, subst, arith}
use Rattle.std.specs.Prelude.{nat_lt}
use Rattle.std.proofs.lemmas.Bool.Decides.{nat_tests}
use Rattle.tcp_host.specs.Alarms.{IsLeast}
use Rattle.tcp_host.specs.Host.{Host, never, is_program, slot_at}

abbrev pub mark : Bool → ℕ
mark true = 1
mark false = 0

abbrev pub marks : List ℕ → ℕ
marks [] = 0
marks (x ∷ xs) = mark (nat_lt x never) + marks xs

-- one that goes is one less
pub one_less : (xs : List ℕ) (i : ℕ) → i < length xs → get_or xs i 0 < never → marks (slice_set xs i never) < marks xs
one_less [] i lt m = omega (arith, lt)
one_less (x ∷ xs) zero lt m =
    let is : nat_lt x never ≡ true = grind (arith, nat_tests, m) in
    let more : mark (nat_lt x never) ≡ 1 = ap mark is in
    omega (arith, more)
one_less (x ∷ xs) (suc i) lt m = let h = one_less xs i (omega (arith, lt)) m in omega (arith, h)

-- the least is one of them, where any is
least_marked : (xs : List ℕ) (least first : ℕ) → IsLeast xs least → IsLeast xs first → least < never → first < never
least_marked xs least first l f lt =
    let below = f.below l.one.0 l.one.1 in
    let is = l.one.2 in
    omega (arith, below, is, lt)

pub first_goes : (xs : List ℕ) (least place : ℕ) → IsLeast xs least → IsLeast xs (get_or xs place 0) → least < never → place < length xs →
    marks (slice_set xs place never) < marks xs
first_goes xs least place l f lt within = one_less xs place within (least_marked xs least (get_or xs place 0) l f lt)

-- what stays while marks go of places that no program has
pub record Spent (old h : Host) : Type 0 where
  pub rest : h ≡ record old { news = h.news }
  pub others : (p : ℕ) → is_program (slot_at p old).owner ≡ true → get_or h.news p 0 ≡ get_or old.news p 0
