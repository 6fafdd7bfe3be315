-- Giving up a neighbour that doesn't answer. After three solicitations, a second apart, resolution has failed, and the
-- packets that wait for it are dropped (RFC 4861 7.2.2, 10).
use Rattle.std.specs.Prelude.{ℕ, ◌≡◌, zero, suc, ◌+◌, ◌==◌, not, min, ◌&&◌, ◌||◌, Bool, false, true, is_some}
use Rattle.std.specs.Prelude.{List, length, get_or}
use Rattle.std.specs.Prelude.{ℤ, pos, ◌+ℤ◌, Option, Some, None, if◌then◌else◌}
use Rattle.std.specs.Ordering.{int_cmp, is_gt, is_le}
use Rattle.ip_address.specs.declared.ip.IpAddress.{IpAddress}
use Rattle.sockets.specs.declared.socket.SocketOf.{SocketOf}
use Rattle.sockets.specs.Source.{is_same}
use Rattle.socket_set.specs.SocketMeta.{Wait}
use Rattle.socket_set.specs.SocketSet.{Sockets, socket_at, wait_of, with_place, with_wait}
use Rattle.egress_schedule.specs.declared.watch.Waiting.{Waiting}
use Rattle.egress_schedule.specs.declared.watch.Watch.{Watch}
use Rattle.egress_schedule.specs.Plan.{Plan, Planned, each_of, idle, turn_after, waiting_at, watch_at, with_watch}
use Rattle.egress_schedule.specs.Passing.{without_packet_for}
use Rattle.egress_schedule.specs.Queues.{has_others, is_crowded}

-- a second after an instant, if there is one, has come: so long a host is silent after a request (RFC 1122 2.3.2.1)
abbrev pub is_second_over : ℤ → Option ℤ → Bool
is_second_over now None = false
is_second_over now (Some t) = is_le (int_cmp (t +ℤ pos 1000000) now)

-- a request may be sent: none was, or the second after the last one is over
abbrev pub may_ask : ℤ → Option ℤ → Bool
may_ask now None = true
may_ask now (Some t) = is_second_over now (Some t)

-- the instant, if something happens at it
abbrev pub if_asked : Bool → ℤ → Option ℤ → Option ℤ
if_asked asks now before = if asks then Some now else before

-- a wait that begins: its socket was asked in this round, so its neighbour was asked for, if a request might be sent
abbrev pub begun : ℤ → Option ℤ → IpAddress × ℤ → Waiting
begun now last wait = record { neighbor = wait.0; since = now; asked = if_asked (may_ask now last) now None; until = wait.1 }

-- a wait that goes on for the same neighbour, or begins
abbrev pub begun_or_before : ℤ → Option ℤ → IpAddress × ℤ → Option Waiting → Waiting
begun_or_before now last wait None = begun now last wait
begun_or_before now last wait (Some before) =
    if is_same before.neighbor wait.0 then record before { neighbor = wait.0; until = wait.1 } else begun now last wait

-- for whom a socket waits after a round: for the neighbour of a wait that isn't over
abbrev pub waiting_after : ℤ → Option ℤ → Wait → Option Waiting → Option Waiting
waiting_after now last None before = None
waiting_after now last (Some wait) before =
    if is_gt (int_cmp wait.1 now) then Some (begun_or_before now last wait before) else None

-- whether a socket that waits began to in this round
abbrev pub is_new : Option Waiting → Option Waiting → Bool
is_new None waiting = false
is_new (Some w) None = true
is_new (Some w) (Some before) = not (is_same before.neighbor w.neighbor)

-- the turn, of so many, after the one at an index asked; where it doesn't ask, the turn stays
abbrev pub turn_if : (asks : Bool) → ℕ → ℕ → ℕ → ℕ
turn_if asks count turn i = if asks then turn_after count turn i else turn

-- less than ten seconds after an instant, if there is one
abbrev pub is_recent : ℤ → Option ℤ → Bool
is_recent now None = false
is_recent now (Some t) = is_gt (int_cmp (t +ℤ pos 10000000) now)

-- a wait has lasted long enough, unless the patience is for ever: since the patience, or its packet has to make room
abbrev pub is_at_end : ℕ → ℤ → Bool → Waiting → Bool
is_at_end patience now must_go w =
    not (patience == 0) && (is_le (int_cmp (w.since +ℤ pos patience) now) || must_go)

-- a packet is given up: its wait has lasted long enough, or its neighbour was just given up
abbrev pub is_given_up : ℕ → ℤ → Bool → Option IpAddress → Waiting → Bool
is_given_up patience now must_go None w = is_at_end patience now must_go w
is_given_up patience now must_go (Some unreachable) w =
    is_at_end patience now must_go w || is_same unreachable w.neighbor

-- the neighbour that was just given up: as long as the socket waits
abbrev pub unreachable_after : Option Waiting → Option IpAddress → Option IpAddress
unreachable_after None unreachable = None
unreachable_after (Some w) unreachable = unreachable

-- it isn't written down of a socket that it waits, or whom it just gave up
pub record IsUnnoted (watch : Watch) : Type 0 where
  pub waiting : watch.waiting ≡ None
  pub unreachable : watch.unreachable ≡ None

-- nor of any socket
abbrev pub NoneIsNoted : List Watch → Type 0
NoneIsNoted watches = (i : ℕ) → IsUnnoted (get_or watches i idle)

-- the plan with what is written down of a socket of this wait after a round
abbrev pub plan_after_look : ℤ → ℕ → Wait → Plan → Plan
plan_after_look now i wait plan =
    let watch = get_or plan.watches i idle in
    let waiting = waiting_after now plan.asked wait watch.waiting in
    let asks = is_new waiting watch.waiting && may_ask now plan.asked in
    record (with_watch i
    (record watch { waiting = waiting; unreachable = unreachable_after waiting watch.unreachable }) plan) {
      asked = if_asked asks now plan.asked;
      discovery_turn = turn_if asks (length plan.watches) plan.discovery_turn i;
      is_waiting = plan.is_waiting || is_some waiting;
    }

-- one more, as far as the count goes
abbrev pub count_after : ℕ → ℕ
count_after n = min (n + 1) 18446744073709551615

-- the earlier of two instants, if there are two
abbrev pub earlier_of : Option ℤ → ℤ → ℤ
earlier_of None at = at
earlier_of (Some other) at = if is_le (int_cmp other at) then other else at

-- the earliest end of a wait with that of another socket, if that waits
abbrev pub earliest_with : Option Waiting → Option ℤ → Option ℤ
earliest_with None end = end
earliest_with (Some w) end = Some (earlier_of end w.until)

-- the earliest end of the waits of the first n sockets
abbrev pub earliest_end : ℕ → List Watch → Option ℤ
earliest_end zero watches = None
earliest_end (suc n) watches = earliest_with (get_or watches n idle).waiting (earliest_end n watches)

-- what is written down of a socket whose first packet is given up
abbrev pub watch_after_giving_up : ℤ → IpAddress → Watch → Watch
watch_after_giving_up now neighbor watch =
    record watch { waiting = None; unreachable = Some neighbor; given_up = Some neighbor; dropped = Some now }

module _ {L : Type 0} where
  -- the first packet of the socket at an index has to make room for those that wait behind it: the request for its
  -- neighbour wasn't answered for a second; or the queue has no room for more, and the socket just gave one up
  abbrev pub must_go : ℤ → ℕ → Planned L → Waiting → Bool
  must_go now i r w =
      has_others (socket_at r.sockets i)
      && (is_second_over now w.asked || is_crowded (socket_at r.sockets i) && is_recent now (watch_at i r).dropped)

  -- what is written down of a socket after a round
  abbrev pub after_look_at : ℤ → ℕ → Planned L → Planned L
  after_look_at now i r = record r { plan = plan_after_look now i (wait_of r.sockets i) r.plan }

  abbrev pub after_look : ℤ → Planned L → Planned L
  after_look now r =
      each_of (after_look_at now) (length r.plan.watches) (record r { plan = record r.plan { is_waiting = false } })

  abbrev pub if_waiting : ℤ → ℕ → Planned L → Option Waiting → Planned L
  if_waiting end i r None = r
  if_waiting end i r (Some w) = record {
    plan = with_watch i (record (watch_at i r) { waiting = Some (record w { until = end }) }) r.plan;
    sockets = with_wait r.sockets i (Some (w.neighbor, end));
  }

  abbrev pub after_alignment_at : ℤ → ℕ → Planned L → Planned L
  after_alignment_at end i r = if_waiting end i r (watch_at i r).waiting

  abbrev pub after_alignment_to : Option ℤ → Planned L → Planned L
  after_alignment_to None r = r
  after_alignment_to (Some end) r = each_of (after_alignment_at end) (length r.plan.watches) r

  -- all sockets that wait may ask again at one instant, the earliest, so they find the silence of the one whose
  -- turn it was, and no other
  abbrev pub after_alignment : Planned L → Planned L
  after_alignment r = after_alignment_to (earliest_end (length r.plan.watches) r.plan.watches) r

  -- the set whose socket at an index, if there is one, has lost its first packet for a neighbour
  abbrev pub without_first : ℕ → IpAddress → Sockets L → Option (SocketOf L) → Sockets L
  without_first i neighbor s None = s
  without_first i neighbor s (Some socket) = with_place s i (Some (without_packet_for neighbor socket))

  -- the first packet of a socket for the neighbour that it waits for is given up: it is dropped, told of and counted, and the
  -- socket waits no more
  abbrev pub after_giving_up : ℤ → ℕ → IpAddress → Planned L → Planned L
  after_giving_up now i neighbor r = record {
    plan = record (with_watch i (watch_after_giving_up now neighbor (watch_at i r)) r.plan) {
      given_up = count_after r.plan.given_up;
    };
    sockets = with_wait (without_first i neighbor r.sockets (socket_at r.sockets i)) i None;
  }

  abbrev pub if_given_up : ℕ → ℤ → Planned L → Option Waiting → Planned L
  if_given_up i now r None = r
  if_given_up i now r (Some w) =
      if is_given_up r.plan.patience now (must_go now i r w) (watch_at i r).unreachable w
      then after_giving_up now i w.neighbor r
      else r

  abbrev pub after_patience_at : ℤ → ℕ → Planned L → Planned L
  after_patience_at now i r = if_given_up i now r (waiting_at i r)

  -- each socket whose wait has lasted long enough, or whose neighbour was just given up, gives up its first packet
  abbrev pub after_patience : ℤ → Planned L → Planned L
  after_patience now r = each_of (after_patience_at now) (length r.plan.watches) r
