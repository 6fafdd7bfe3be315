-- Handshakes, by the figures of RFC 9293 3.5. The numbers are those of the figures.
use Rattle.std.specs.Prelude.{◌≡◌, [], ◌∷◌, Some, None}
use Rattle.tcp_machine.specs.declared.state.State.TheVariants as state
use Rattle.tcp_machine.specs.Connection.{Connection}
use Rattle.tcp_machine.specs.Calls.{after_writing, readable}
use Rattle.tcp_machine.specs.Timers.{after_timers}
use Rattle.tcp_machine.specs.Examples.Ends.{opened_by, accepted_by, ack_segment, syn_segment, reset_segment, text_segment}
use Rattle.tcp_machine.specs.Examples.Ends.{sends, after_sending, after_segment, sent_ack, sent_syn, sent_text, sent_reset}

-- Figure 6, the side that opens: SYN 100; SYN 300 with ACK 101 arrives; ACK 301, and then octets with the same number
abbrev pub opening : Connection
opening = after_sending 0 (opened_by 100)

abbrev pub connected : Connection
connected = after_segment 1 (syn_segment 300 (Some 101)) opening

abbrev pub connected_after_ack : Connection
connected_after_ack = after_sending 1 connected

abbrev pub with_octets : Connection
with_octets = after_writing (7 ∷ 8 ∷ []) connected_after_ack

pub record BasicHandshake : Type 0 where
  pub syn : sends 0 (opened_by 100) ≡ Some (sent_syn 100 None)
  pub once : sends 0 opening ≡ None
  pub established : connected.state ≡ state.Established
  pub ack : sends 1 connected ≡ Some (sent_ack 101 301)
  pub one_ack : sends 1 connected_after_ack ≡ None
  pub octets : sends 1 with_octets ≡ Some (sent_text 101 301 (7 ∷ 8 ∷ []))

-- Figure 6, the other side, at a listener
abbrev pub accepting : Connection
accepting = accepted_by 300 (syn_segment 100 None)

abbrev pub asked : Connection
asked = after_sending 0 accepting

abbrev pub accepted : Connection
accepted = after_segment 1 (ack_segment 101 301) asked

pub record BasicHandshakeAccepted : Type 0 where
  pub syn_ack : sends 0 accepting ≡ Some (sent_syn 300 (Some 101))
  pub received : asked.state ≡ state.SynReceived
  pub established : accepted.state ≡ state.Established
  pub nothing_owed : sends 1 accepted ≡ None
  pub octets : readable (after_segment 2 (text_segment 101 301 (7 ∷ 8 ∷ [])) accepted) ≡ 7 ∷ 8 ∷ []

-- Figure 7: both open at once. SYN 300 arrives where SYN 100 was sent; then SYN 300 with ACK 101
abbrev pub crossed : Connection
crossed = after_segment 1 (syn_segment 300 None) opening

abbrev pub crossed_after_syn : Connection
crossed_after_syn = after_sending 1 crossed

pub record SimultaneousOpen : Type 0 where
  pub received : crossed.state ≡ state.SynReceived
  pub syn_ack : sends 1 crossed ≡ Some (sent_syn 100 (Some 301))
  pub established : (after_segment 2 (syn_segment 300 (Some 101)) crossed_after_syn).state ≡ state.Established

-- Figure 8: an old SYN 90 was answered by SYN 300 with ACK 91, and that arrives where SYN 100 was sent: a reset 91 goes
-- back, and ends what the old SYN began
abbrev pub misled : Connection
misled = after_segment 1 (syn_segment 300 (Some 91)) opening

abbrev pub begun_by_old : Connection
begun_by_old = after_sending 0 (accepted_by 300 (syn_segment 90 None))

pub record OldDuplicateSyn : Type 0 where
  pub waits : misled.state ≡ state.SynSent
  pub reset : sends 1 misled ≡ Some (sent_reset 91)
  pub ends : (after_segment 2 (reset_segment 91) begun_by_old).state ≡ state.Closed
  -- and the true SYN-ACK still establishes
  pub goes_on : (after_segment 3 (syn_segment 400 (Some 101)) (after_sending 1 misled)).state ≡ state.Established

-- The own SYN is due again, and before it is sent its acknowledgement arrives: octets follow it all the same, and each side
-- is established
abbrev pub due_again : Connection
due_again = after_timers 1000000 asked

abbrev pub accepted_late : Connection
accepted_late = after_writing (7 ∷ 8 ∷ []) (after_segment 1000001 (ack_segment 101 301) due_again)

abbrev pub opening_late : Connection
opening_late = after_segment 1000001 (syn_segment 300 (Some 101)) (after_timers 1000000 opening)

pub record LateHandshake : Type 0 where
  pub syn_again : sends 1000000 due_again ≡ Some (sent_syn 300 (Some 101))
  pub octets : sends 1000001 accepted_late ≡ Some (sent_text 301 101 (7 ∷ 8 ∷ []))
  pub established : opening_late.state ≡ state.Established
  pub ack : sends 1000001 opening_late ≡ Some (sent_ack 101 301)

-- In SYN-RECEIVED the peer's SYN comes once more, as the answer to it was lost: the own one goes once more. Anything else that
-- isn't acceptable is answered by an acknowledgement after the own SYN: a SYN of another number, and octets before the window
pub record AnswersInSynReceived : Type 0 where
  pub again : sends 1 (after_segment 1 (syn_segment 100 None) asked) ≡ Some (sent_syn 300 (Some 101))
  pub other_syn : sends 1 (after_segment 1 (syn_segment 90 None) asked) ≡ Some (sent_ack 301 101)
  pub before_window : sends 1 (after_segment 1 (text_segment 100 301 (7 ∷ [])) asked) ≡ Some (sent_ack 301 101)
  pub once : sends 1 (after_sending 1 (after_segment 1 (syn_segment 90 None) asked)) ≡ None

-- Both sides stand in SYN-RECEIVED with numbers that don't fit, since an old SYN 70000 came to the one that opened. What isn't
-- acceptable is answered by an acknowledgement, the wrong number in that one by a reset, and this ends the connection
abbrev pub misled_opener : Connection
misled_opener = after_sending 1 (after_segment 1 (syn_segment 70000 None) opening)

abbrev pub near_opener : Connection
near_opener = after_sending 1 (after_segment 1 (syn_segment 299 None) opening)

abbrev pub challenged : Connection
challenged = after_segment 2 (syn_segment 100 (Some 70001)) asked

abbrev pub told_wrong : Connection
told_wrong = after_segment 4 (ack_segment 101 70001) (after_sending 2 challenged)

pub record OldSynAtBothSides : Type 0 where
  pub misled : misled_opener.state ≡ state.SynReceived
  pub challenge : sends 2 challenged ≡ Some (sent_ack 301 101)
  pub answer : sends 3 (after_segment 3 (ack_segment 301 101) misled_opener) ≡ Some (sent_ack 101 70001)
  pub reset : sends 4 told_wrong ≡ Some (sent_reset 70001)
  pub ends : (after_segment 5 (reset_segment 70001) misled_opener).state ≡ state.Closed
  -- where the other side was misled, too, the two don't answer each other
  pub no_end : sends 3 (after_segment 3 (ack_segment 301 90001) misled_opener) ≡ None
  -- where the old number is just below the true one, the side that opened is established for once; the first segment that it sends
  -- is answered by the reset
  pub near : (after_segment 3 (ack_segment 301 101) near_opener).state ≡ state.Established
  pub near_reset : sends 4 (after_segment 4 (text_segment 101 300 (7 ∷ [])) asked) ≡ Some (sent_reset 300)

-- what must not be
pub record NoHandshake : Type 0 where
  -- the acknowledgement of another number doesn't establish, at either side
  pub one_too_many : (after_segment 1 (syn_segment 300 (Some 102)) opening).state ≡ state.SynSent
  pub one_too_few : (after_segment 1 (ack_segment 101 300) asked).state ≡ state.SynReceived
  pub answered_by_reset : sends 1 (after_segment 1 (ack_segment 101 300) asked) ≡ Some (sent_reset 300)
  -- nor does an acknowledgement without SYN, or of a SYN that wasn't sent
  pub without_syn : (after_segment 1 (ack_segment 300 101) opening).state ≡ state.SynSent
  pub before_syn : (after_segment 1 (syn_segment 300 (Some 101)) (opened_by 100)).state ≡ state.SynSent
  -- a reset without the right acknowledgement ends nothing; with it the connection is refused
  pub blind_reset : (after_segment 1 (reset_segment 300) opening).state ≡ state.SynSent
  pub octets_wait : sends 0 (after_writing (7 ∷ []) opening) ≡ None
