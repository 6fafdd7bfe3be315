-- The longest run of groups that are 0, among the groups before one.
use Rattle.std.proofs.Common.{◌≡◌, ◌≢◌, ℕ, ◌+◌, ◌-◌, ◌<◌, ◌≤◌, Bool, true, false, eqb, List, length, slice_index, refl, arith}
use Rattle.std.proofs.lemmas.Bool.{eqb-true, eqb-false}
use Rattle.ip_address.specs.Details.Ipv6Text.{HasNoRun, IsRun, IsShortened}

-- among the groups before i: those from `from` on are 0, and no run that ends at i begins before; the run of `len`
-- groups is the first one of the longest
pub record IsBest (groups : List ℕ) (start len from i : ℕ) : Type 0 where
  pub size : length groups ≡ 8
  pub below : from ≤ i
  pub zero_since : (k : ℕ) → from ≤ k → k < i → slice_index groups k ≡ 0
  pub ends : (f n : ℕ) → IsRun groups f n → f + n ≡ i → 0 < n → from ≤ f
  pub within : start + len ≤ i
  pub zero : (k : ℕ) → start ≤ k → k < start + len → slice_index groups k ≡ 0
  pub longest : (f n : ℕ) → IsRun groups f n → f + n ≤ i → n ≤ len
  pub first : (f : ℕ) → IsRun groups f len → f + len ≤ i → 0 < len → start ≤ f

module _ (groups : List ℕ) (start len from i : ℕ) (best : IsBest groups start len from i) (lt : i < 8) where
  -- a run of groups that ends at i + 1 has the group at i
  has : (f n : ℕ) → IsRun groups f n → f + n ≡ i + 1 → 0 < n → slice_index groups i ≡ 0
  has f n run end some = run.zero i (omega arith) (omega arith)

  -- and without that group it is a run that ends at i
  shorter : (f n : ℕ) → IsRun groups f n → f + n ≡ i + 1 → 0 < n → IsRun groups f (n - 1)
  shorter f n run end some = record {
    within = omega (arith, run.within);
    zero = λ k low high. run.zero k low (omega arith);
  }

  since : (f n : ℕ) → IsRun groups f n → f + n ≡ i + 1 → 0 < n → from ≤ f
  since f n run end some =
      let more : 0 < n - 1 → from ≤ f = best.ends f (n - 1) (shorter f n run end some) (omega arith) in
      grind (arith, more, best.below)

  -- the group at i isn't 0
  pub best_past_other : slice_index groups i ≢ 0 → IsBest groups start len (i + 1) (i + 1)
  best_past_other other =
      let none : (f n : ℕ) → IsRun groups f n → f + n ≡ i + 1 → n ≤ 0 = λ f n run end. omega (arith, λ (some : 0 < n). other (has f n run end some)) in
      record {
        size = best.size;
        below = omega arith;
        zero_since = λ k low high. absurd (omega arith);
        ends = λ f n run end some. absurd (other (has f n run end some));
        within = omega (arith, best.within);
        zero = best.zero;
        longest = λ f n run most. grind (arith, none f n run, best.longest f n run);
        first = λ f run most some. grind (arith, none f len run, λ (less : f + len ≤ i). best.first f run less some);
      }

  module _ (here : slice_index groups i ≡ 0) where
    zero_here : (k : ℕ) → from ≤ k → k < i + 1 → slice_index groups k ≡ 0
    zero_here k low high = by (eqb k i) refl where
      by : (t : Bool) → eqb k i ≡ t → slice_index groups k ≡ 0
      by true e = rw (eqb-true k i e) here
      by false e = best.zero_since k low (omega (arith, eqb-false k i e))

    -- the run that ends at i + 1 is longer
    pub best_past_longer : len + from ≤ i → IsBest groups from (i + 1 - from) from (i + 1)
    best_past_longer more = record {
      size = best.size;
      below = omega (arith, best.below);
      zero_since = zero_here;
      ends = since;
      within = omega (arith, best.below);
      zero = λ k low high. zero_here k low (omega (arith, best.below));
      longest = λ f n run most. grind (arith, since f n run, best.longest f n run);
      first = λ f run most some. grind (arith, since f (i + 1 - from) run, best.longest f (i + 1 - from) run);
    }

    -- it isn't
    pub best_past_zero : i < len + from → IsBest groups start len from (i + 1)
    best_past_zero less = record {
      size = best.size;
      below = omega (arith, best.below);
      zero_since = zero_here;
      ends = since;
      within = omega (arith, best.within);
      zero = best.zero;
      longest = λ f n run most. grind (arith, since f n run, best.longest f n run);
      first = λ f run most some. grind (arith, since f len run, λ (in_front : f + len ≤ i). best.first f run in_front some, best.within);
    }

module _ (groups : List ℕ) (start len from i : ℕ) (best : IsBest groups start len from i) (all : 8 ≤ i) where
  ends_within : (f n : ℕ) → IsRun groups f n → f + n ≤ i
  ends_within f n run = omega (arith, run.within, best.size)

  pub none_of_two : len < 2 → HasNoRun groups
  none_of_two less from n run = omega (arith, best.longest from n run (ends_within from n run))

  pub shortened : i ≤ 8 → 2 ≤ len → IsShortened groups start len
  shortened most two = record {
    run = record { within = omega (arith, best.within, best.size); zero = best.zero };
    not_one = two;
    longest = λ from n run. best.longest from n run (ends_within from n run);
    first = λ from run. best.first from run (ends_within from len run) (omega arith);
  }
