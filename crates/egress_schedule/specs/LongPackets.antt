-- Packets that have to be cut. The pieces of one replace those that are left of the one before. So one socket at a time
-- sends such a packet, and none while a piece is left.
use Rattle.std.specs.Prelude.{ℕ, ◌==◌, ◌&&◌, ◌||◌, not, nat_lt, Bool, false}
use Rattle.std.specs.Prelude.{length, ℤ, Option, Some, None, if◌then◌else◌}
use Rattle.sockets.specs.declared.socket.SocketOf.{SocketOf}
use Rattle.socket_set.specs.SocketSet.{Sockets, socket_at}
use Rattle.egress_schedule.specs.Asides.{with_wait_aside}
use Rattle.egress_schedule.specs.Plan.{Plan, Planned, each_of, first_from, next_in_turn, turn_after}
use Rattle.egress_schedule.specs.Queues.{first_len, has_others}

-- the first packet is longer than the link's packets
abbrev pub is_long : {L : Type 0} → ℕ → Option (SocketOf L) → Bool
is_long mtu None = false
is_long mtu (Some socket) = nat_lt mtu (first_len socket)

-- it is, or one behind it may be
abbrev pub may_be_long : {L : Type 0} → ℕ → Option (SocketOf L) → Bool
may_be_long mtu socket = is_long mtu socket || has_others socket

-- the turn to send a long packet, after the one that had it; it stays while a piece is left
abbrev pub fragment_turn_after : Bool → ℕ → Plan → ℕ
fragment_turn_after is_piece_left next plan =
    if is_piece_left then plan.fragment_turn else turn_after (length plan.watches) plan.fragment_turn next

module _ {L : Type 0} where
  abbrev pub has_long : ℕ → Sockets L → ℕ → Bool
  has_long mtu s i = is_long mtu (socket_at s i)

  abbrev pub may_have_long : ℕ → Sockets L → ℕ → Bool
  may_have_long mtu s i = may_be_long mtu (socket_at s i)

  -- a socket with a long packet isn't asked in this round
  abbrev pub after_setting_aside_at : ℕ → ℤ → ℕ → ℕ → Planned L → Planned L
  after_setting_aside_at mtu now next i r =
      if has_long mtu r.sockets i && not (i == next) then with_wait_aside now i r else r

  -- the socket that may send a long packet: the one whose turn it is, and none while a piece is left
  abbrev pub next_long : ℕ → Bool → Planned L → ℕ
  next_long mtu is_piece_left r =
      if is_piece_left
      then length r.plan.watches
      else next_in_turn (has_long mtu r.sockets) r.plan.fragment_turn (length r.plan.watches)

  -- some socket has one, or may have one behind its first packet
  abbrev pub some_may_have_long : ℕ → Planned L → Bool
  some_may_have_long mtu r =
      nat_lt (first_from (may_have_long mtu r.sockets) 0 (length r.plan.watches)) (length r.plan.watches)

  -- all others whose first packet is long aren't asked
  abbrev pub after_setting_aside : ℕ → ℤ → Bool → Planned L → Planned L
  after_setting_aside mtu now is_piece_left r =
      let n = length r.plan.watches in
      let next = next_long mtu is_piece_left r in
      let rest = each_of (after_setting_aside_at mtu now next) n r in
      record rest {
        plan = record rest.plan {
          fragment_turn = fragment_turn_after is_piece_left next r.plan;
          may_have_long = some_may_have_long mtu r;
        };
      }
