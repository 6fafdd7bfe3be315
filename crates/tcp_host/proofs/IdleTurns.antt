-- A turn at which nothing is due.
use Rattle.std.proofs.Common.{◌≡◌, ◌<◌, ℕ, Bool, true, length, get_or, sym, ap, subst, arith}
use Rattle.std.specs.Prelude.{nat_lt, if◌then◌else◌}
use Rattle.std.proofs.lemmas.Bool.Decides.{nat_tests}
use Rattle.tcp_host.specs.Alarms.{IsLeast}
use Rattle.tcp_host.specs.Host.{Host}
use Rattle.tcp_host.specs.Turns.{TakesTurn, turn_due}
use Rattle.tcp_host.specs.declared.turns.Turn.TheVariants.{Idle}

-- nothing is due, if the least instant is later
pub idle_turn : (now least : ℕ) (h : Host) → IsLeast h.alarms least → now < least → length h.alarms ≡ length h.slots → TakesTurn now h Idle h
idle_turn now least h is later same =
    let place = is.one.0 in
    let instant = is.one.2 in
    let within = is.one.1 in
    let early : nat_lt now (get_or h.alarms place 0) ≡ true = grind (arith, nat_tests, later, instant) in record {
      place = place;
      within = omega (arith, within, same);
      first = subst (λ (t : ℕ). IsLeast h.alarms t) (sym instant) is;
      is = sym (ap (λ (b : Bool). if b then (Idle, h) else turn_due place now h) early);
    }
