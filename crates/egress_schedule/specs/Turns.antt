-- Turns among sockets that wait for neighbours. One request is sent in a second, for all of them, so the sockets whose
-- waits are over ask in turn.
use Rattle.std.specs.Prelude.{ℕ, ◌+◌, ◌-◌, ◌||◌, ◌&&◌, not, nat_lt, Bool, true, false}
use Rattle.std.specs.Prelude.{length, get_or, ℤ, Option, Some, None, if◌then◌else◌}
use Rattle.std.specs.Ordering.{int_cmp, is_le}
use Rattle.net_base.specs.Time.{silence_from}
use Rattle.socket_set.specs.SocketMeta.{Wait}
use Rattle.socket_set.specs.SocketSet.{socket_at, wait_of, with_wait}
use Rattle.egress_schedule.specs.declared.watch.Waiting.{Waiting}
use Rattle.egress_schedule.specs.Asides.{is_over, with_wait_aside}
use Rattle.egress_schedule.specs.Patience.{is_at_end, must_go}
use Rattle.egress_schedule.specs.Plan.{Plan, Planned, each_of, first_from, idle, next_in_turn, turn_after, waiting_at, watch_at, with_watch}
use Rattle.egress_schedule.specs.Queues.{has_packets}

-- a socket asks again: its wait is over, and has not lasted long enough
abbrev pub asks_again : ℕ → ℤ → Bool → Waiting → Bool
asks_again patience now must_go w = is_over now w && not (is_at_end patience now must_go w)

-- a socket isn't to ask in this round: its wait is over, and it isn't its turn, or its packet will be given up
abbrev pub is_held : ℕ → ℤ → Bool → Bool → Waiting → Bool
is_held patience now must_go is_before w = is_over now w && (is_before || is_at_end patience now must_go w)

-- a socket of this wait may be asked, whomever it waits for: it doesn't wait, or its wait has passed
abbrev pub is_free : ℤ → Wait → Bool
is_free now None = true
is_free now (Some wait) = is_le (int_cmp wait.1 now)

-- when the neighbour of a wait was first asked for
abbrev pub first_asked : ℤ → Option ℤ → Option ℤ
first_asked now None = Some now
first_asked now (Some t) = Some t

-- a wait whose neighbour is asked for
abbrev pub waiting_asked : ℤ → Option Waiting → Option Waiting
waiting_asked now None = None
waiting_asked now (Some w) = Some (record w { asked = first_asked now w.asked })

-- the socket whose turn it is, if there is one, asks
abbrev pub plan_asked : ℤ → ℕ → Plan → Plan
plan_asked now next plan =
    let watch = get_or plan.watches next idle in
    if nat_lt next (length plan.watches)
    then record (with_watch next (record watch { waiting = waiting_asked now watch.waiting }) plan) { asked = Some now }
    else plan

module _ {L : Type 0} where
  abbrev pub if_asking : ℤ → Planned L → ℕ → Option Waiting → Bool
  if_asking now r i None = false
  if_asking now r i (Some w) = asks_again r.plan.patience now (must_go now i r w) w

  abbrev pub asks_at : ℤ → Planned L → ℕ → Bool
  asks_at now r i = if_asking now r i (waiting_at i r)

  -- the socket whose turn it is to ask
  abbrev pub next_to_ask : ℤ → Planned L → ℕ
  next_to_ask now r = next_in_turn (asks_at now r) r.plan.discovery_turn (length r.plan.watches)

  -- the socket at an index waits a second more, unless its neighbour is known
  abbrev pub with_wait_longer : ℤ → ℕ → Waiting → Planned L → Planned L
  with_wait_longer now i w r = record {
    plan = with_watch i (record (watch_at i r) { waiting = Some (record w { until = silence_from now }) }) r.plan;
    sockets = with_wait r.sockets i (Some (w.neighbor, silence_from now));
  }

  -- a socket that doesn't wait has something to send, and would be asked before the one whose turn it is
  abbrev pub comes_before : ℤ → ℕ → ℕ → Planned L → Bool
  comes_before now next i r =
      is_free now (wait_of r.sockets i)
      && (nat_lt i next && (nat_lt next (length r.plan.watches) && has_packets (socket_at r.sockets i)))

  -- so it isn't asked in this round
  abbrev pub if_held : ℤ → ℕ → ℕ → Planned L → Option Waiting → Planned L
  if_held now next i r None = if comes_before now next i r then with_wait_aside now i r else r
  if_held now next i r (Some w) =
      if is_held r.plan.patience now (must_go now i r w) (nat_lt i next) w
      then with_wait_longer now i w r
      else r

  abbrev pub after_hold_at : ℤ → ℕ → ℕ → Planned L → Planned L
  after_hold_at now next i r = if_held now next i r (waiting_at i r)

  -- of those before the one whose turn it is, which would ask before it, those that wait do so a second more, and the
  -- others aren't asked; those after it find the silence that it begins
  abbrev pub after_taking_turns : ℤ → Planned L → Planned L
  after_taking_turns now r =
      let n = length r.plan.watches in
      let next = next_to_ask now r in
      let held = each_of (after_hold_at now next) n r in
      record held { plan = record (plan_asked now next held.plan) { discovery_turn = turn_after n r.plan.discovery_turn next } }
