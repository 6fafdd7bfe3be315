-- What a connection does for its program and for its peer (RFC 9293 3.4, 3.5, 3.7.4, 3.8.6.2.1, 3.10.7.4; RFC 5681 4.2).
use Rattle.std.specs.Prelude.{◌≡◌, ℕ, ◌+◌, ◌-◌, ◌<◌, ◌≤◌, max, Bool, true, false, length, take, drop, Some, None, is_some, ◌++◌, ◌⊎◌, []}
use Rattle.std.specs.Option.{option_and_then}
use Rattle.tcp_machine.specs.declared.state.State.{State}
use Rattle.tcp_machine.specs.declared.state.State.TheVariants.{SynSent, SynReceived, Established, FinWait1, FinWait2, CloseWait, Closing, LastAck}
use Rattle.tcp_machine.specs.declared.settings.Settings.{Settings}
use Rattle.tcp_machine.specs.declared.timers.Pending.TheVariants.{Empty, Reset}
use Rattle.tcp_machine.specs.Instants.{later}
use Rattle.tcp_machine.specs.Positions.{number_at, position_near}
use Rattle.tcp_machine.specs.Pieces.{IsBeginning}
use Rattle.tcp_machine.specs.Receiving.{next, edge, expected}
use Rattle.tcp_machine.specs.Connection.{Connection}
use Rattle.tcp_machine.specs.Segments.{Segment, acknowledged_in}
use Rattle.tcp_machine.specs.Arrivals.{after_segment_arrives}
use Rattle.tcp_machine.specs.Opening.{accepted, after_arrival}
use Rattle.tcp_machine.specs.Calls.{readable}
use Rattle.tcp_machine.specs.Outgoing.{Action, SendSyn, SendNext, action, segment_for}
use Rattle.tcp_machine.specs.Due.{due_at}

-- The state of a connection whose own SYN is acknowledged, and in which the peer may send octets
abbrev pub MayGet : State → Type 0
MayGet s = (s ≡ Established) ⊎ ((s ≡ FinWait1) ⊎ (s ≡ FinWait2))

-- or in which it acknowledges what is sent
abbrev pub MayWait : State → Type 0
MayWait s = MayGet s ⊎ ((s ≡ CloseWait) ⊎ ((s ≡ Closing) ⊎ (s ≡ LastAck)))

-- a segment that is neither a SYN nor a reset stands at the next position, and there is room for its octets; an end comes behind
-- octets, and none has come before
pub record StandsNext (c : Connection) (s : Segment) : Type 0 where
  pub no_syn : s.syn ≡ false
  pub no_reset : s.rst ≡ false
  pub position : position_near c.remote (next c.reception.receiver) s.number ≡ Some (next c.reception.receiver)
  pub before_end : c.reception.receiver.stop ≡ None
  pub room : next c.reception.receiver + length s.octets ≤ edge c.reception.receiver
  pub end : s.fin ≡ true → 0 < length s.octets

-- it acknowledges up to a position
abbrev pub Acknowledges : Connection → Segment → ℕ → Type 0
Acknowledges c s a = option_and_then (λ (n : ℕ). acknowledged_in c n) s.ack ≡ Some a

-- something is sent at an instant, which tells that all before a position has arrived
pub record TellsArrived (t q : ℕ) (d : Connection) : Type 0 where
  pub sent : Action
  pub now : action t d ≡ Some sent
  pub ack : (segment_for sent d).ack ≡ Some (number_at d.remote (expected d.reception.receiver))
  pub all : q ≤ expected d.reception.receiver

-- What follows: the octets are read behind those that could be read before. From the end of the delay on an acknowledgement is
-- sent, if nothing else happens, and the owner is told so
pub record IsServed (now : ℕ) (s : Segment) (c d : Connection) : Type 0 where
  pub readable : IsBeginning (readable c ++ s.octets) (readable d)
  pub told : (t : ℕ) → later now c.settings.ack_delay ≤ t → TellsArrived t (next c.reception.receiver + length s.octets) d
  pub due : (t : ℕ) × (due_at now d ≡ Some t) × (t ≤ max now (later now c.settings.ack_delay))

-- Octets that are expected next can be read at once, and are acknowledged within the delay
abbrev pub OctetsAreServed : Type 0
OctetsAreServed =
    (now a : ℕ) (s : Segment) (c : Connection) → MayGet c.state → ((n : ℕ) → c.pending ≡ Reset n → ⊥) → StandsNext c s →
    0 < length s.octets → Acknowledges c s a → c.transmission.sender.una ≤ a → a ≤ c.transmission.sender.top →
    IsServed now s c (after_segment_arrives now true s c)

-- What is acknowledged leaves the ring, and nothing else of it
pub record HasLeft (a : ℕ) (c d : Connection) : Type 0 where
  pub una : d.transmission.sender.una ≡ a
  pub ring : d.transmission.sender.ring ≡ drop (a - c.transmission.sender.una) c.transmission.sender.ring

abbrev pub AcknowledgedOctetsLeave : Type 0
AcknowledgedOctetsLeave =
    (now a : ℕ) (s : Segment) (c : Connection) → MayWait c.state → StandsNext c s → Acknowledges c s a →
    c.transmission.sender.una ≤ a → a ≤ c.transmission.sender.top → HasLeft a c (after_segment_arrives now true s c)

-- No acknowledgement is believed that lies above all that was sent: nothing leaves the ring, and the octets that come with it
-- aren't taken (RFC 5961 5.2)
pub record IsNotBelieved (c d : Connection) : Type 0 where
  pub transmission : d.transmission ≡ c.transmission
  pub reception : d.reception ≡ c.reception
  pub state : d.state ≡ c.state

abbrev pub NothingAboveIsBelieved : Type 0
NothingAboveIsBelieved =
    (now a : ℕ) (s : Segment) (c : Connection) → MayWait c.state → StandsNext c s → Acknowledges c s a →
    c.transmission.sender.top < a → IsNotBelieved c (after_segment_arrives now true s c)

-- so many octets wait behind what is on its way, and the peer's window and the congestion window have room for them
pub record HasRoomFor (n : ℕ) (c : Connection) : Type 0 where
  pub some : 0 < n
  pub low : c.transmission.sender.una ≤ c.transmission.nxt
  pub written : c.transmission.nxt + n ≤ c.transmission.sender.una + length c.transmission.sender.ring
  pub window : c.transmission.nxt + n ≤ c.transmission.told_edge
  pub congestion : c.settings.congestion_control ≡ true → c.transmission.nxt + n ≤ c.transmission.sender.una + c.congestion.window

-- the state of a connection that sends octets
abbrev pub MaySendOctets : State → Type 0
MaySendOctets s = (s ≡ Established) ⊎ ((s ≡ CloseWait) ⊎ ((s ≡ FinWait1) ⊎ ((s ≡ Closing) ⊎ (s ≡ LastAck))))

-- A whole segment; or all that waits, if Nagle's rule doesn't hold it back: it is off, or nothing is on its way (RFC 9293 3.7.4)
abbrev pub IsWorthIt : ℕ → Connection → Type 0
IsWorthIt n c =
    (n ≡ c.transmission.mss)
    ⊎ ((n ≤ c.transmission.mss) × (c.transmission.nxt + n ≡ c.transmission.sender.una + length c.transmission.sender.ring)
    × ((c.settings.nagle ≡ false) ⊎ (c.transmission.nxt ≡ c.transmission.sender.una)))

-- What may be sent is sent at once: these octets, from the position that is to be sent next
pub record IsSentNow (now n : ℕ) (c : Connection) : Type 0 where
  pub ends : Bool
  pub sent : action now c
      ≡ Some (SendNext (record {
        start = c.transmission.nxt;
        octets = take n (drop (c.transmission.nxt - c.transmission.sender.una) c.transmission.sender.ring);
        ends = ends;
      }))

abbrev pub WhatMayBeSentIsSent : Type 0
WhatMayBeSentIsSent =
    (now n : ℕ) (c : Connection) → MaySendOctets c.state → c.pending ≡ Empty → HasRoomFor n c → IsWorthIt n c → IsSentNow now n c

-- Once the program has closed and all octets were sent, the end is sent at once, in whatever window (RFC 9293 3.10.4)
abbrev pub TheEndFollows : Type 0
TheEndFollows =
    (now : ℕ) (c : Connection) → MaySendOctets c.state → c.pending ≡ Empty → c.transmission.sender.stop ≡ Some c.transmission.nxt →
    c.transmission.nxt ≡ c.transmission.sender.una + length c.transmission.sender.ring →
    action now c ≡ Some (SendNext (record { start = c.transmission.nxt; octets = []; ends = true }))

-- A SYN that a listener accepts is answered at once by a SYN that acknowledges it (RFC 9293 3.5, figure 6)
pub record AnswersSyn (now : ℕ) (s : Segment) (c : Connection) : Type 0 where
  pub sent : action now c ≡ Some SendSyn
  pub syn : (segment_for SendSyn c).syn ≡ true
  pub ack : (segment_for SendSyn c).ack ≡ Some (number_at s.number 1)

abbrev pub SynsAreAnswered : Type 0
SynsAreAnswered =
    (now at iss room size default link : ℕ) (settings : Settings) (s : Segment) →
    AnswersSyn at s (accepted now iss room size default link settings s)

-- Either side is established by an acknowledgement of its SYN, unless its program has closed already
pub record HandshakesEnd : Type 0 where
  -- of whom opened it: the peer's SYN comes with it
  pub opened : (default link now : ℕ) (keeps : Bool) (s : Segment) (c : Connection) → c.state ≡ SynSent → is_some c.timers.waiting_since ≡ true →
      s.syn ≡ true → s.rst ≡ false → s.ack ≡ Some (number_at c.local 1) → c.transmission.sender.stop ≡ None →
      (after_arrival default link now keeps s c).state ≡ Established
  -- of whom accepted it
  pub accepted : (now : ℕ) (s : Segment) (c : Connection) → c.state ≡ SynReceived → StandsNext c s → s.fin ≡ false →
      s.ack ≡ Some (number_at c.local 1) → c.transmission.sender.stop ≡ None → c.transmission.sender.una ≡ 1 →
      1 ≤ c.transmission.sender.top → (after_segment_arrives now true s c).state ≡ Established
