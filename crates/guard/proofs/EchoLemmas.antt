-- Few requests for echoes pass.
use Rattle.std.proofs.Common.{◌≡◌, ℕ, pos, Bool, true, false, refl, subst, sym, ◌∙◌, List, [], ◌∷◌}
use Rattle.std.specs.Prelude.{max, is_none, ◌&&◌, ◌==◌, Option, Some, None, if◌then◌else◌, ℤ}
use Rattle.net_base.specs.Bucket.{has_token}
use Rattle.ip_address.specs.declared.cidr.IpCidr.{IpCidr}
use Rattle.ip_address.specs.declared.hardware.HardwareAddress.{HardwareAddress}
use Rattle.guard.specs.Guard.{after_echo, after_passing, at_clock, first_of, has_room, reason_of, reason_unless}
use Rattle.guard.specs.Kind.{is_echo}
use Rattle.guard.specs.Laws.{AreWithin, Arrival, FewEchoesPass, after_it, echoes_seen}
use Rattle.guard.specs.Watch.{admits, after_arrival, after_judging, after_reason, reason_for}
use Rattle.guard.specs.declared.guard.Guard.{Guard}
use Rattle.guard.specs.declared.guard.Reason.{Reason}
use Rattle.guard.specs.declared.guard.Reason.TheVariants as reason
use Rattle.guard.specs.declared.watch.Watch.{Watch}
use Rattle.guard.proofs.RateLemmas.{End, Stayed, TakesToken, Taking, Then, few, rate_takes}

-- what is counted and noted changes no rule
reported : (now : ℤ) (frame : List ℕ) (why : Option Reason) (w : Watch) →
    ((after_reason now frame why w).guard ≡ w.guard) × ((after_reason now frame why w).is_on ≡ w.is_on)
reported now frame None w = (refl, refl)
reported now frame (Some why) w = (refl, refl)

passes_if : (room : Bool) → is_none (reason_unless room reason.EchoRequest) ≡ room
passes_if true = refl
passes_if false = refl

-- by what a frame is, and whether it has a request: one that isn't dropped takes a token
judged : (on : Bool) → on ≡ true → (why : Option Reason) (echo : Bool) (now : ℕ) (w : Watch) →
    TakesToken now
    (echo && is_none (if on then first_of why (if echo then reason_unless (has_room now w.guard.echo_requests) reason.EchoRequest else None) else None))
    w.guard.echo_requests
    (if on && is_none why then record w {
      guard = if echo then record w.guard { echo_requests = after_passing now w.guard.echo_requests } else w.guard;
    } else w).guard.echo_requests
judged false e why echo now w = absurd cc
judged true e (Some why) true now w = Stayed refl refl
judged true e (Some why) false now w = Stayed refl refl
judged true e None false now w = Stayed refl refl
judged true e None true now w =
    rw (passes_if (has_room now w.guard.echo_requests))
    (rate_takes (w.guard.echo_requests.interval == 0) (has_token now (at_clock now w.guard.echo_requests)) now w.guard.echo_requests refl refl)

stays_on : (b : Bool) (g : Guard) (w : Watch) → (if b then record w { guard = g } else w).is_on ≡ w.is_on
stays_on true g w = refl
stays_on false g w = refl

taken : (now : ℕ) (frame : List ℕ) (hardware : Option HardwareAddress) (own : List IpCidr) (w : Watch) → w.is_on ≡ true →
    TakesToken now (is_echo frame && admits (pos now) frame hardware own w) w.guard.echo_requests
    (after_arrival (pos now) frame hardware own w).guard.echo_requests
taken now frame hardware own w on =
    subst (λ (g : Guard). TakesToken now (is_echo frame && admits (pos now) frame hardware own w) w.guard.echo_requests g.echo_requests)
    (sym (reported (pos now) frame (reason_for (pos now) frame hardware own w) (after_judging (pos now) frame hardware own w)).0)
    (judged w.is_on on (reason_of frame hardware own w.guard) (is_echo frame) now w)

is_on_after : (now : ℕ) (frame : List ℕ) (hardware : Option HardwareAddress) (own : List IpCidr) (w : Watch) → w.is_on ≡ true →
    (after_arrival (pos now) frame hardware own w).is_on ≡ true
is_on_after now frame hardware own w on =
    (reported (pos now) frame (reason_for (pos now) frame hardware own w) (after_judging (pos now) frame hardware own w)).1
    ∙ stays_on (w.is_on && is_none (reason_of frame hardware own w.guard)) (after_echo (pos now) frame w.guard) w ∙ on

taking : (w : Watch) (first latest last : ℕ) (arrived : List Arrival) → w.is_on ≡ true → AreWithin first latest last arrived →
    Taking first last latest w.guard.echo_requests (echoes_seen w arrived)
taking w first latest last [] on within = End latest w.guard.echo_requests
taking w first latest last (a ∷ later) on (low, high, back, rest) =
    Then a.at latest (echoes_seen (after_it a w) later) (is_echo a.frame && admits (pos a.at) a.frame a.hardware a.own w)
    w.guard.echo_requests (after_it a w).guard.echo_requests low high back (taken a.at a.frame a.hardware a.own w on)
    (taking (after_it a w) first (max latest a.at) last later (is_on_after a.at a.frame a.hardware a.own w on) rest)

pub few_echoes : FewEchoesPass
few_echoes w first last arrived on l within =
    few first last first w.guard.echo_requests (echoes_seen w arrived) l (taking w first first last arrived on within)
