-- Packets to neighbours that are known pass those that wait: in a round the first of them is sent in place of the first
-- packet of its socket, whose own wait is put back after the round.
use Rattle.std.specs.Prelude.{ℕ, zero, suc, ℤ, ◌&&◌, not, Bool, false, true, List, [], ◌∷◌, length, get_or, Option, Some, None, if◌then◌else◌}
use Rattle.std.specs.Ordering.{int_cmp, is_gt}
use Rattle.ip_address.specs.declared.ip.IpAddress.{IpAddress}
use Rattle.sockets.specs.Kinds.{destinations, socket_after_told, socket_brought_forward}
use Rattle.sockets.specs.Source.{is_same}
use Rattle.sockets.specs.declared.socket.SocketOf.{SocketOf}
use Rattle.socket_set.specs.SocketMeta.{Wait}
use Rattle.socket_set.specs.SocketSet.{Sockets, socket_at, wait_of, with_place, with_wait}
use Rattle.egress_schedule.specs.declared.watch.Waiting.{Waiting}
use Rattle.egress_schedule.specs.Asides.{is_over, nobody}
use Rattle.egress_schedule.specs.Plan.{Planned, each_of, waiting_at, watch_at, with_watch}

-- an address, if there is one, has a property
abbrev pub is_for : (IpAddress → Bool) → Option IpAddress → Bool
is_for p None = false
is_for p (Some d) = p d

-- how many stand before the first address that has a property; their number, where none has it
abbrev pub before_first : (IpAddress → Bool) → List (Option IpAddress) → ℕ
before_first p [] = zero
before_first p (d ∷ ds) = if is_for p d then zero else suc (before_first p ds)

-- to whom the packet goes that a socket that waits has to send first: where the wait is over, to the neighbour that it waits
-- for, so that this is asked for; before that, to one that is known
abbrev pub goes_first : (IpAddress → Bool) → ℤ → Waiting → (IpAddress → Bool)
goes_first known now w = if is_over now w then is_same w.neighbor else known

module _ {L : Type 0} where
  -- the socket with the first packet for such an address before the others; it stays where it has none
  abbrev pub with_first_for : (IpAddress → Bool) → SocketOf L → SocketOf L
  with_first_for p socket = socket_brought_forward (before_first p (destinations socket)) socket

  -- a socket loses the first packet for an address
  abbrev pub without_packet_for : IpAddress → SocketOf L → SocketOf L
  without_packet_for d socket = socket_after_told true (with_first_for (is_same d) socket)

  -- the first packet of a socket, if there is one, is for such an address
  abbrev pub is_first_for : (IpAddress → Bool) → Option (SocketOf L) → Bool
  is_first_for p None = false
  is_first_for p (Some socket) = is_for p (get_or (destinations socket) 0 None)

  abbrev pub with_front_of : (IpAddress → Bool) → ℕ → Sockets L → Option (SocketOf L) → Sockets L
  with_front_of p i s None = s
  with_front_of p i s (Some socket) = with_place s i (Some (with_first_for p socket))

  abbrev pub if_brought : (IpAddress → Bool) → ℤ → ℕ → Planned L → Option Waiting → Planned L
  if_brought known now i r None = r
  if_brought known now i r (Some w) =
      record r { sockets = with_front_of (goes_first known now w) i r.sockets (socket_at r.sockets i) }

  -- a socket that waits has that packet first
  abbrev pub after_bringing_at : (IpAddress → Bool) → ℤ → ℕ → Planned L → Planned L
  after_bringing_at known now i r = if_brought known now i r (waiting_at i r)

  abbrev pub after_bringing : (IpAddress → Bool) → ℤ → Planned L → Planned L
  after_bringing known now r = each_of (after_bringing_at known now) (length r.plan.watches) r

  -- a socket is asked although it waits: its wait isn't over, whom it waits for isn't known, and its first packet is for one
  -- that is
  abbrev pub may_pass : (IpAddress → Bool) → ℤ → Option (SocketOf L) → Wait → Bool
  may_pass known now socket None = false
  may_pass known now socket (Some wait) =
      not (is_same wait.0 nobody)
      && (is_gt (int_cmp wait.1 now) && (not (known wait.0) && is_first_for known socket))

  -- its own wait is put back after the round
  abbrev pub with_pass : ℕ → Planned L → Planned L
  with_pass i r = record {
    plan = with_watch i (record (watch_at i r) { set_aside = Some (wait_of r.sockets i) }) r.plan;
    sockets = with_wait r.sockets i None;
  }

  abbrev pub after_passing_at : (IpAddress → Bool) → ℤ → ℕ → Planned L → Planned L
  after_passing_at known now i r = if may_pass known now (socket_at r.sockets i) (wait_of r.sockets i) then with_pass i r else r

  abbrev pub after_passing : (IpAddress → Bool) → ℤ → Planned L → Planned L
  after_passing known now r = each_of (after_passing_at known now) (length r.plan.watches) r
