-- Rounds that change nothing of the sockets that wait, as most do: all wait until one instant that is to come, as it is
-- written down, and none gives its packet up.
use Rattle.std.specs.Prelude.{ℕ, ◌&&◌, not, Bool, false, is_none, is_some, List, get_or, ℤ, Option, Some, None}
use Rattle.std.specs.Ordering.{int_eq, int_cmp, is_le}
use Rattle.ip_address.specs.declared.ip.IpAddress.{IpAddress}
use Rattle.sockets.specs.Source.{is_same}
use Rattle.socket_set.specs.SocketMeta.{Wait}
use Rattle.socket_set.specs.SocketSet.{wait_of}
use Rattle.egress_schedule.specs.declared.watch.Waiting.{Waiting}
use Rattle.egress_schedule.specs.declared.watch.Watch.{Watch}
use Rattle.egress_schedule.specs.Patience.{is_at_end, is_given_up, is_second_over, must_go}
use Rattle.egress_schedule.specs.Plan.{Planned, idle, watch_at}

-- it is written down of a socket that it waits
abbrev pub waits_at : List Watch → ℕ → Bool
waits_at watches i = is_some (get_or watches i idle).waiting

-- a wait, if there is one, is over
abbrev pub is_some_over : ℤ → Option Waiting → Bool
is_some_over now None = false
is_some_over now (Some w) = is_le (int_cmp w.until now)

-- it is written down of a socket that it waits, and that this is over
abbrev pub ends_at : ℤ → List Watch → ℕ → Bool
ends_at now watches i = is_some_over now (get_or watches i idle).waiting

-- a wait until this instant is written down as it is
abbrev pub is_written : ℤ → IpAddress × ℤ → Waiting → Bool
is_written end wait w = is_same w.neighbor wait.0 && (int_eq w.until end && int_eq wait.1 end)

-- what is written down of a socket that waits keeps its packet, whatever is queued behind that: it gave none up, and neither
-- the request for its neighbour nor its wait has lasted long enough
abbrev pub is_quiet : ℕ → ℤ → Watch → Waiting → Bool
is_quiet patience now watch w =
    is_none watch.unreachable && (is_none watch.dropped
    && (not (is_second_over now w.asked) && not (is_at_end patience now false w)))

module _ {L : Type 0} where
  -- a socket of this wait, of which this is written down, doesn't wait, or waits until the instant and keeps its packet
  abbrev pub is_settled_as : ℤ → ℤ → Planned L → ℕ → Wait → Option Waiting → Bool
  is_settled_as now end r i None None = is_none (watch_at i r).unreachable
  is_settled_as now end r i None (Some w) = false
  is_settled_as now end r i (Some wait) None = false
  is_settled_as now end r i (Some wait) (Some w) =
      is_written end wait w
      && not (is_given_up r.plan.patience now (must_go now i r w) (watch_at i r).unreachable w)

  abbrev pub is_settled : ℤ → ℤ → Planned L → ℕ → Bool
  is_settled now end r i = is_settled_as now end r i (wait_of r.sockets i) (watch_at i r).waiting
