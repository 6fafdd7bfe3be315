-- Sums that are counted up to a bound: nothing added to one is itself.
use Rattle.std.proofs.Common.{◌≡◌, ◌+◌, ◌-◌, ◌≤◌, ℕ, List, [], ◌∷◌, min, refl, arith}
use Rattle.std.specs.Prelude.{max}
use Rattle.net_base.specs.declared.assembler.Range.{Range}
use Rattle.tcp_machine.specs.Scoreboard as spec

again : (a b : ℕ) → spec.counted 0 (spec.counted a b) ≡ spec.counted a b
again a b = omega arith

pub octets_alone : (rs : List Range) → spec.counted 0 (spec.octets_in rs) ≡ spec.octets_in rs
octets_alone [] = refl
octets_alone (r ∷ rs) = again (r.end - r.start) (spec.octets_in rs)

pub told_alone : (from to : ℕ) (rs : List Range) → spec.counted 0 (spec.told_between from to rs) ≡ spec.told_between from to rs
told_alone from to [] = refl
told_alone from to (r ∷ rs) = again (min r.end to - max r.start from) (spec.told_between from to rs)

pub lost_alone : (mss p : ℕ) (rs : List Range) → spec.counted 0 (spec.lost_from mss p rs) ≡ spec.lost_from mss p rs
lost_alone mss p [] = refl
lost_alone mss p (r ∷ rs) = again (spec.lost_below mss p r.end rs) (spec.lost_from mss p rs)
