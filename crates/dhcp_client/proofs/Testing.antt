-- An address that is tested isn't in use before four seconds have passed.
use Rattle.std.proofs.Common.{◌≡◌, ℕ, ◌+◌, ◌%◌, ◌≤◌, ◌<◌, Bool, true, false, refl, sym, ap, subst, ◌∙◌, arith, List, [], ◌∷◌}
use Rattle.std.specs.Prelude.{nat_le, nat_lt, ◌&&◌, if◌then◌else◌}
use Rattle.std.proofs.lemmas.Bool.Decides.{nat_tests}
use Rattle.dhcp_client.specs.declared.probing.Probing.{Probing}
use Rattle.dhcp_client.specs.Laws.{TestsTakeFourSeconds, TurnsAreBefore, after_turns}
use Rattle.dhcp_client.specs.Probing.{after_request, begun, is_due, is_tested, pause}

-- how many requests were sent, and the least instant of the next one
data Early (from : ℕ) (p : Probing) : Type 0 where
  None : p.sent ≡ 0 → from ≤ p.next_at → Early from p
  One : p.sent ≡ 1 → from + 1000000 ≤ p.next_at → Early from p
  Two : p.sent ≡ 2 → from + 2000000 ≤ p.next_at → Early from p
  Three : p.sent ≡ 3 → from + 4000000 ≤ p.next_at → Early from p

has_come : (now : ℕ) (p : Probing) → is_due now p ≡ true → p.next_at ≤ now
has_come now p due = grind (arith, nat_tests, due)

abbrev sent : ℕ → ℕ → Probing → Probing
sent now random p = record p { sent = p.sent + 1; next_at = now + pause random p.sent }

moved : (from now random : ℕ) (p : Probing) → p.next_at ≤ now → now < from + 4000000 → Early from p → Early from (sent now random p)
moved from now random p come before (None e low) =
    One (ap (λ (n : ℕ). n + 1) e) (let least : 1000000 ≤ pause random p.sent = rw e (omega arith) in omega (arith, least, come, low))
moved from now random p come before (One e low) =
    Two (ap (λ (n : ℕ). n + 1) e) (let least : 1000000 ≤ pause random p.sent = rw e (omega arith) in omega (arith, least, come, low))
moved from now random p come before (Two e low) =
    Three (ap (λ (n : ℕ). n + 1) e) (let least : 2000000 ≤ pause random p.sent = rw e (omega arith) in omega (arith, least, come, low))
moved from now random p come before (Three e low) = absurd (omega (arith, come, before, low))

by_due : (t : Bool) (from now random : ℕ) (p : Probing) → is_due now p ≡ t → now < from + 4000000 → Early from p →
    Early from (if t then sent now random p else p)
by_due true from now random p due before early = moved from now random p (has_come now p due) before early
by_due false from now random p due before early = early

by_turns : (from : ℕ) (turns : List (ℕ × ℕ)) (p : Probing) → TurnsAreBefore (from + 4000000) turns → Early from p →
    Early from (after_turns turns p)
by_turns from [] p before early = early
by_turns from (t ∷ ts) p before early =
    by_turns from ts (after_request t.0 t.1 p) before.1 (by_due (is_due t.0 p) from t.0 t.1 p refl before.0 early)

untested : (from : ℕ) (p : Probing) → Early from p → is_tested p ≡ false
untested from p (None e low) = rw e refl
untested from p (One e low) = rw e refl
untested from p (Two e low) = rw e refl
untested from p (Three e low) = rw e refl

pub tests_take_four_seconds : TestsTakeFourSeconds
tests_take_four_seconds address now random turns before =
    untested now (after_turns turns (begun address now random)) (by_turns now turns (begun address now random) before (None refl (omega arith)))
