-- The first index that has a property.
use Rattle.std.specs.Prelude.{ℕ, zero, suc, ◌≡◌, ◌≢◌, ◌<◌, ◌≤◌, ◌+◌, ◌-◌, Bool, true, false, refl, if◌then◌else◌}
use Rattle.std.proofs.Common.{sym, ap, ◌∙◌, arith}
use Rattle.egress_schedule.specs.Plan.{first_from}

-- where one has it, it is the first
pub found : (p : ℕ → Bool) (from n : ℕ) → from < n → p from ≡ true → first_from p from (n - from) ≡ from
found p from n within has =
    let count : n - from ≡ suc (n - suc from) = omega (arith, within) in
    rw count (rw has refl)

-- where it hasn't, it is that from the next one on
pub passed : (p : ℕ → Bool) (from n : ℕ) → from < n → p from ≡ false → first_from p from (n - from) ≡ first_from p (suc from) (n - suc from)
passed p from n within hasnt =
    let count : n - from ≡ suc (n - suc from) = omega (arith, within) in
    rw count (rw hasnt refl)

-- it is never before where it begins
pub above : (p : ℕ → Bool) (from k : ℕ) → from ≤ first_from p from k
above p from zero = omega arith
above p from (suc k) = by (p from) (above p (suc from) k) where
  by : (b : Bool) → suc from ≤ first_from p (suc from) k → from ≤ (if b then from else first_from p (suc from) k)
  by true later = omega arith
  by false later = omega (arith, later)

-- nor behind one that has it
pub below : (p : ℕ → Bool) (from k i : ℕ) → from ≤ i → i < from + k → p i ≡ true → first_from p from k ≤ i
below p from zero i after before has = absurd (omega (arith, after, before))
below p from (suc k) i after before has = by (p from) refl (λ later. below p (suc from) k i later (omega (arith, before)) has) where
  by : (b : Bool) → p from ≡ b → (suc from ≤ i → first_from p (suc from) k ≤ i) → (if b then from else first_from p (suc from) k) ≤ i
  by true is next = after
  by false is next = next (omega (arith, after, other)) where
    other : from ≢ i
    other same = absurd (let never : false ≡ true = (sym is ∙ (ap p same ∙ has)) in cc)

pub add-one : (n : ℕ) → suc n ≡ n + 1
add-one n = omega arith
