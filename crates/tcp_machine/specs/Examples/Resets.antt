-- Resets and what may be an attacker's (RFC 9293 3.5.1, figure 9; RFC 5961 3 to 5).
use Rattle.std.specs.Prelude.{◌≡◌, true, [], ◌∷◌, Some, None}
use Rattle.tcp_machine.specs.declared.timers.Ending.TheVariants.{ByPeer}
use Rattle.tcp_machine.specs.declared.state.State.TheVariants as state
use Rattle.tcp_machine.specs.Connection.{Connection}
use Rattle.tcp_machine.specs.Calls.{after_abort, readable}
use Rattle.tcp_machine.specs.Examples.Ends.{opened_by, ack_segment, syn_segment, reset_segment, fin_segment, text_segment}
use Rattle.tcp_machine.specs.Examples.Ends.{sends, after_sending, after_segment, sent_ack, sent_reset}

-- established, with the next number 300 and the peer's 100
abbrev pub connected : Connection
connected = after_sending 0 (after_segment 0 (syn_segment 99 (Some 300)) (after_sending 0 (opened_by 299)))

-- Figure 9: the peer has crashed, and opens anew by SYN 400. It is told 100, and its reset 100 ends the old connection
abbrev pub told_100 : Connection
told_100 = after_segment 1 (syn_segment 400 None) connected

pub record HalfOpen : Type 0 where
  pub stays : told_100.state ≡ state.Established
  pub ack : sends 1 told_100 ≡ Some (sent_ack 300 100)
  pub ended : (after_segment 2 (reset_segment 100) (after_sending 1 told_100)).state ≡ state.Closed
  pub by_peer : (after_segment 2 (reset_segment 100) (after_sending 1 told_100)).ending ≡ Some ByPeer
  pub silent : sends 2 (after_segment 2 (reset_segment 100) (after_sending 1 told_100)) ≡ None

-- an abort sends a reset of the next number
pub record Abort : Type 0 where
  pub closed : (after_abort connected).state ≡ state.Closed
  pub reset : sends 1 (after_abort connected) ≡ Some (sent_reset 300)
  pub once : sends 1 (after_sending 1 (after_abort connected)) ≡ None

-- Empty segments that aren't taken. One before the next number asks whether this side is still there, and is answered
pub record EmptySegments : Type 0 where
  pub asks : sends 1 (after_segment 1 (ack_segment 99 300) connected) ≡ Some (sent_ack 300 100)
  pub older : sends 1 (after_segment 1 (ack_segment 50 299) connected) ≡ Some (sent_ack 300 100)
  -- one that acknowledges what wasn't sent is an answer itself, and brings nothing; neither does one beyond the window, nor one of
  -- the next number
  pub before_above : sends 1 (after_segment 1 (ack_segment 99 301) connected) ≡ None
  pub beyond : sends 1 (after_segment 1 (ack_segment 130 300) connected) ≡ None
  pub above : sends 1 (after_segment 1 (ack_segment 100 301) connected) ≡ None
  -- with octets, or the end, each is answered
  pub octets : sends 1 (after_segment 1 (text_segment 130 300 (7 ∷ [])) connected) ≡ Some (sent_ack 300 100)
  pub end : sends 1 (after_segment 1 (fin_segment 99 301) connected) ≡ Some (sent_ack 300 100)

-- what must not be
pub record NoReset : Type 0 where
  -- a reset of another number ends nothing: in the window it is answered, outside of it not (RFC 5961 3.2)
  pub in_window : (after_segment 1 (reset_segment 101) connected).state ≡ state.Established
  pub answered : sends 1 (after_segment 1 (reset_segment 101) connected) ≡ Some (sent_ack 300 100)
  pub outside : sends 1 (after_segment 1 (reset_segment 120) connected) ≡ None
  pub before : sends 1 (after_segment 1 (reset_segment 99) connected) ≡ None
  -- octets with an acknowledgement of what wasn't sent are not taken, and are answered (RFC 5961 5.2)
  pub above : readable (after_segment 1 (text_segment 100 301 (7 ∷ [])) connected) ≡ []
  pub told : sends 1 (after_segment 1 (text_segment 100 301 (7 ∷ [])) connected) ≡ Some (sent_ack 300 100)
  -- nor are octets without an acknowledgement, or beyond the window
  pub without_ack : readable (after_segment 1 (record (text_segment 100 0 (7 ∷ [])) { ack = None }) connected) ≡ []
  pub beyond : readable (after_segment 1 (text_segment 120 300 (7 ∷ [])) connected) ≡ []
  pub taken : readable (after_segment 1 (text_segment 100 300 (7 ∷ [])) connected) ≡ 7 ∷ []
  -- a SYN with an end opens and ends nothing, and is answered (RFC 5961 4.2)
  pub syn_with_end : (after_segment 1 (record (syn_segment 100 None) { fin = true }) connected).state ≡ state.Established
  pub only_answered : sends 1 (after_segment 1 (record (syn_segment 100 None) { fin = true }) connected) ≡ Some (sent_ack 300 100)
