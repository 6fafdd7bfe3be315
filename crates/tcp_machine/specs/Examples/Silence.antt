-- A peer that doesn't answer: keep-alive (RFC 9293 3.8.4), giving up (3.8.3), and a lost segment that three acknowledgements
-- tell of (RFC 5681 3.2, RFC 6582 3.2).
use Rattle.std.specs.Prelude.{◌≡◌, ℕ, ◌+◌, ◌*◌, zero, suc, [], ◌∷◌, replicate, Some, None, false}
use Rattle.tcp_machine.specs.declared.timers.Ending.TheVariants.{TimedOut}
use Rattle.tcp_machine.specs.declared.settings.Settings.{Settings}
use Rattle.tcp_machine.specs.declared.state.State.TheVariants as state
use Rattle.tcp_machine.specs.Connection.{Connection}
use Rattle.tcp_machine.specs.Opening.{opened}
use Rattle.tcp_machine.specs.Calls.{after_writing, after_closing}
use Rattle.tcp_machine.specs.Timers.{after_timers}
use Rattle.tcp_machine.specs.Due.{due_at}
use Rattle.tcp_machine.specs.Examples.Ends.{settings, no_options, ack_segment, syn_segment, sends, after_sending, after_segment, sent_ack, sent_text, sent_reset}

-- established, with the next number 100 and the peer's 300; rings of a thousand octets, with choices of the program
abbrev pub connected : Settings → Connection
connected chosen =
    after_sending 0
    (after_segment 0 (record (syn_segment 299 (Some 100)) { window = 1000; options = record no_options { mss = Some 100 } })
    (after_sending 0 (opened 0 99 1000 1000 100 chosen)))

-- Keep-alive each 1,000 µs: an empty segment before the next number, for as long as nothing arrives
abbrev pub kept_alive : Connection
kept_alive = connected (record settings { keep_alive = Some 1000 })

abbrev pub probed_once : Connection
probed_once = after_sending 1000 (after_timers 1000 kept_alive)

-- n probes more, a thousand microseconds after one another
abbrev pub probed : ℕ → Connection
probed zero = probed_once
probed (suc n) = after_sending (1000 * (suc n + 1)) (after_timers (1000 * (suc n + 1)) (probed n))

pub record KeepAlive : Type 0 where
  pub due : due_at 0 kept_alive ≡ Some 1000
  pub not_before : sends 999 (after_timers 999 kept_alive) ≡ None
  pub probe : sends 1000 (after_timers 1000 kept_alive) ≡ Some (record (sent_ack 99 300) { window = 1000 })
  pub next : due_at 1000 probed_once ≡ Some 2000
  -- an answer ends the probes, and the peer is probed a second after it
  pub answered : due_at 1500 (after_segment 1500 (ack_segment 300 100) probed_once) ≡ Some 2500
  -- a program that comes late asks once, and the peer has an interval to answer
  pub late : due_at 20000 (after_sending 20000 (after_timers 20000 kept_alive)) ≡ Some 21000
  pub once : sends 20000 (after_timers 20000 (after_sending 20000 (after_timers 20000 kept_alive))) ≡ None
  -- nobody is asked while an octet is unacknowledged
  pub unacknowledged : sends 1000 (after_timers 1000 (after_sending 0 (after_writing (7 ∷ []) kept_alive))) ≡ None
  -- the ninth probe is the last one
  pub ninth : (after_timers 9000 (probed 7)).state ≡ state.Established
  pub given_up : (after_timers 10000 (probed 8)).ending ≡ Some TimedOut
  pub told : sends 10000 (after_timers 10000 (probed 8)) ≡ Some (sent_reset 100)
  -- without keep-alive nothing is ever due
  pub off : due_at 0 (connected settings) ≡ None

-- A user's time-out of 3 s: what is unacknowledged for so long ends the connection
abbrev pub impatient : Connection
impatient = after_sending 0 (after_writing (7 ∷ []) (connected (record settings { timeout = Some 3000000 })))

abbrev pub tried_again : Connection
tried_again = after_sending 1000000 (after_timers 1000000 impatient)

pub record GivingUp : Type 0 where
  pub again : sends 1000000 (after_timers 1000000 impatient) ≡ Some (record (sent_text 100 300 (7 ∷ [])) { window = 1000 })
  pub second : due_at 1000000 tried_again ≡ Some 3000000
  pub given_up : (after_timers 3000000 tried_again).ending ≡ Some TimedOut
  pub closed : (after_timers 3000000 tried_again).state ≡ state.Closed
  -- an acknowledgement in time keeps it
  pub kept : (after_timers 3000000 (after_segment 2999999 (ack_segment 300 101) tried_again)).state ≡ state.Established

-- A time-out of ten seconds ends after ten seconds, whenever the timer of retransmissions would
abbrev pub patient : Connection
patient = after_sending 0 (after_writing (7 ∷ []) (connected (record settings { timeout = Some 10000000 })))

abbrev pub again_at : ℕ → Connection → Connection
again_at now c = after_sending now (after_timers now c)

abbrev pub tried_thrice : Connection
tried_thrice = again_at 7000000 (again_at 3000000 (again_at 1000000 patient))

-- The window closes for two minutes, while each probe is answered, and opens: what is sent then has its ten seconds
abbrev pub closes_window : ℕ → Connection → Connection
closes_window now c = after_segment now (record (ack_segment 300 100) { window = 0 }) c

abbrev pub opens_again : Connection
opens_again =
    after_sending 120000000 (after_segment 120000000 (record (ack_segment 300 100) { window = 1000 }) (closes_window 9000000 patient))

-- The end is sent at 0 to a peer whose window is closed; or an octet waits for that window from 0 on, and is probed with after 1 s
abbrev pub closed_at_once : Connection
closed_at_once =
    after_segment 0 (record (ack_segment 300 100) { window = 0 }) (connected (record settings { timeout = Some 10000000 }))

abbrev pub ends_at_closed : Connection
ends_at_closed = after_sending 0 (after_closing closed_at_once)

abbrev pub probing : Connection
probing = after_sending 1000000 (after_timers 1000000 (after_timers 0 (after_writing (7 ∷ []) closed_at_once)))

abbrev pub opens_at_last : Connection
opens_at_last = after_segment 5000000 (record (ack_segment 300 100) { window = 1000 }) probing

pub record TimesOut : Type 0 where
  pub due : due_at 9999999 tried_thrice ≡ Some 10000000
  pub ends : (after_timers 10000000 tried_thrice).ending ≡ Some TimedOut
  pub not_before : (after_timers 9999999 tried_thrice).ending ≡ None
  pub while_closed : (after_timers 20000000 (closes_window 9000000 patient)).ending ≡ None
  pub opened : (after_timers 129999999 opens_again).ending ≡ None
  pub in_the_end : (after_timers 130000000 opens_again).ending ≡ Some TimedOut
  -- a peer that doesn't answer the end, or a probe, is given up, too; each answer gives it ten seconds more, from what is sent next
  pub no_answer_to_end : (after_timers 10000000 ends_at_closed).ending ≡ Some TimedOut
  pub not_before_end : (after_timers 9999999 ends_at_closed).ending ≡ None
  pub no_answer_to_probe : (after_timers 11000000 probing).ending ≡ Some TimedOut
  pub not_before_probe : (after_timers 10999999 probing).ending ≡ None
  pub answered : (after_timers 11000000 (closes_window 9000000 probing)).ending ≡ None
  -- a window that opens begins the wait anew
  pub anew : (after_timers 14999999 opens_at_last).ending ≡ None
  pub ends_anew : (after_timers 15000000 opens_at_last).ending ≡ Some TimedOut

-- An octet waits for a closed window. It is probed with after 1, 3 and 7 s, and each probe is answered
abbrev pub answers_closed : ℕ → Connection → Connection
answers_closed now c = after_segment now (record (ack_segment 300 100) { window = 0 }) (again_at now c)

abbrev pub thrice_probed : Connection
thrice_probed = answers_closed 7000000 (answers_closed 3000000 (answers_closed 1000000 (after_timers 0 (after_writing (7 ∷ []) closed_at_once))))

abbrev pub reopened : Connection
reopened = after_segment 8000000 (record (ack_segment 300 100) { window = 1000 }) thrice_probed

pub record Reopens : Type 0 where
  -- what answers a probe is no duplicate
  pub none_lost : thrice_probed.congestion.duplicates ≡ 0
  pub same_threshold : thrice_probed.congestion.threshold ≡ closed_at_once.congestion.threshold
  -- the octet goes at once when the window opens. It is sent again after the second that was measured, not after the eight of probes
  pub doubled : thrice_probed.estimator.timeout ≡ 8000000
  pub at_once : sends 8000000 reopened ≡ Some (record (sent_text 100 300 (7 ∷ [])) { window = 1000 })
  pub measured : due_at 8000000 (after_sending 8000000 reopened) ≡ Some 9000000

-- The round trip of the handshake is measured: a tenth of a second, and the time-out is three times that. It isn't, if the SYN was
-- sent twice
abbrev pub slow_answer : ℕ → Connection → Connection
slow_answer now c = after_segment now (record (syn_segment 299 (Some 100)) { window = 1000 }) c

abbrev pub asks_slowly : Connection
asks_slowly = after_sending 0 (opened 0 99 1000 1000 100 (record settings { shortest_timeout = 200000 }))

pub record HandshakesTimed : Type 0 where
  pub quick : (slow_answer 100000 asks_slowly).estimator.timeout ≡ 300000
  pub not_twice : (slow_answer 1100000 (again_at 1000000 asks_slowly)).estimator.round_trip ≡ None
  pub after_a_loss : (slow_answer 1100000 (again_at 1000000 asks_slowly)).estimator.timeout ≡ 3000000

-- Five segments of 100 octets, of which the second is lost. The first is acknowledged, and then thrice the same number
abbrev pub five_sent : Connection
five_sent =
    after_sending 0 (after_sending 0 (after_sending 0 (after_sending 0 (after_sending 0
    (after_writing (replicate 500 7) (connected settings))))))

abbrev pub ack_of : ℕ → Connection → Connection
ack_of number c = after_segment 10 (record (ack_segment 300 number) { window = 1000 }) c

abbrev pub second_lost : Connection
second_lost = ack_of 200 (ack_of 200 five_sent)

abbrev pub third_duplicate : Connection
third_duplicate = ack_of 200 (ack_of 200 second_lost)

pub record Recovery : Type 0 where
  pub not_yet : sends 10 (ack_of 200 second_lost) ≡ None
  pub again : sends 10 third_duplicate ≡ Some (record (sent_text 200 300 (replicate 100 7)) { window = 1000 })
  pub once : sends 10 (after_sending 10 third_duplicate) ≡ None
  pub threshold : third_duplicate.congestion.threshold ≡ 200
  -- a partial acknowledgement tells of the next lost one
  pub partial : sends 10 (ack_of 400 (after_sending 10 third_duplicate))
      ≡ Some (record (sent_text 400 300 (replicate 100 7)) { window = 1000 })
  -- all of it
  pub full : (ack_of 600 (after_sending 10 third_duplicate)).congestion.is_recovering ≡ false
