-- When something is sent once more: after its time-out, after three duplicates, once blocks say that it is lost, or in the recovery that
-- these begin (RFC 6298 5, RFC 5681 3.2, RFC 6582 3.2, RFC 6675 5).
use Rattle.std.specs.Prelude.{◌≡◌, ℕ, ◌<◌, ◌≤◌, Bool, true, Some, ◌⊎◌}
use Rattle.tcp_machine.specs.declared.timers.Pending.TheVariants.{Resend}
use Rattle.tcp_machine.specs.Instants.{has_passed}
use Rattle.tcp_machine.specs.Pieces.{Piece}
use Rattle.tcp_machine.specs.Scoreboard.{is_lost}
use Rattle.tcp_machine.specs.Connection.{Connection}
use Rattle.tcp_machine.specs.Segments.{Segment}
use Rattle.tcp_machine.specs.Opening.{after_arrival}
use Rattle.tcp_machine.specs.Timers.{after_timers}
use Rattle.tcp_machine.specs.Reports.{after_too_long}
use Rattle.tcp_machine.specs.Outgoing.{SendAgain, action}

-- it was owed already, two duplicates came before, or a loss is being recovered
abbrev pub HasReason : Connection → Type 0
HasReason c = (c.pending ≡ Resend) ⊎ ((c.congestion.duplicates ≡ 2) ⊎ (c.congestion.is_recovering ≡ true))

-- or the blocks that are told by now say that the first unacknowledged octet is lost
abbrev pub IsFirstLost : Connection → Type 0
IsFirstLost c = is_lost c.transmission.mss c.transmission.sender.una c.transmission.told ≡ true

pub record RetransmissionsWait : Type 0 where
  -- a segment is sent again only where that is owed
  pub sent : (now : ℕ) (c : Connection) (p : Piece) → action now c ≡ Some (SendAgain p) → c.pending ≡ Resend
  -- a segment that arrives makes it owed only with a reason, and never takes the next position back
  pub arrivals : (default link now : ℕ) (keeps : Bool) (s : Segment) (c : Connection) →
      ((after_arrival default link now keeps s c).pending ≡ Resend → HasReason c ⊎ IsFirstLost (after_arrival default link now keeps s c))
      × (c.transmission.nxt ≤ (after_arrival default link now keeps s c).transmission.nxt)
  -- timers don't make it owed, and take the next position back only where the time-out has ended
  pub timers : (now : ℕ) (c : Connection) → (after_timers now c).pending ≡ Resend → c.pending ≡ Resend
  pub back : (now : ℕ) (c : Connection) → (after_timers now c).transmission.nxt < c.transmission.nxt → has_passed c.timers.resend_at now ≡ true
  -- what routers say takes it back only where segments get shorter, and doesn't make it owed
  pub shorter : (size : ℕ) (c : Connection) → (after_too_long size c).transmission.nxt < c.transmission.nxt →
      (after_too_long size c).transmission.mss < c.transmission.mss
  pub told : (size : ℕ) (c : Connection) → (after_too_long size c).pending ≡ Resend → c.pending ≡ Resend
