-- When own addresses are announced.
use Rattle.std.proofs.Common.{◌≡◌, ◌+◌, Bool, true, false, refl, arith}
use Rattle.std.specs.Prelude.{not, ◌&&◌, ◌||◌, ◌==◌, nat_le, nat_lt, Some, None, if◌then◌else◌}
use Rattle.std.proofs.lemmas.Bool.Decides.{nat_tests}
use Rattle.guard.specs.Laws.{DefencesAreApart}

-- once a claim was answered, another one is not for so long
pub defences_are_apart : DefencesAreApart
defences_are_apart first second a b d due back early =
    let late : nat_le (first + d.interval) second ≡ false = grind (arith, nat_tests) in
    let ahead : nat_lt (second + 60000000) first ≡ false = grind (arith, nat_tests) in
    (rw due refl, rw due (by (d.interval == 0) late ahead)) where
      by : (off : Bool) → nat_le (first + d.interval) second ≡ false → nat_lt (second + 60000000) first ≡ false →
          (if not off && (nat_le (first + d.interval) second || nat_lt (second + 60000000) first)
          then record d { last = Some second; owed = Some b } else record d { last = Some first; owed = None })
          ≡ record d { last = Some first; owed = None }
      by true late ahead = refl
      by false late ahead = rw late (rw ahead refl)
