-- Octets on their way: order, delay of acknowledgements, Nagle's rule, retransmission, a window that is closed or too small,
-- numbers that wrap.
use Rattle.std.specs.Prelude.{◌≡◌, ℕ, true, false, List, [], ◌∷◌, Some, None}
use Rattle.tcp_machine.specs.Connection.{Connection}
use Rattle.tcp_machine.specs.Opening.{opened, scale_from, own_scale_for, mss_from}
use Rattle.tcp_machine.specs.Outgoing.{Outgoing}
use Rattle.tcp_machine.specs.Calls.{after_writing, after_reading, after_closing, readable}
use Rattle.tcp_machine.specs.Timers.{after_timers}
use Rattle.tcp_machine.specs.Due.{due_at}
use Rattle.tcp_machine.specs.Examples.Ends.{settings, opened_by, ack_segment, syn_segment, text_segment, sends, after_sending, after_segment}
use Rattle.tcp_machine.specs.Examples.Ends.{sent_ack, sent_text}

-- established, with the next number 100 and the peer's 300; rings and windows of twenty octets
abbrev pub connected : Connection
connected = after_sending 0 (after_segment 0 (syn_segment 299 (Some 100)) (after_sending 0 (opened_by 99)))

abbrev pub with_window : ℕ → Outgoing → Outgoing
with_window n s = record s { window = n }

-- Two octets in order: they are readable at once, and acknowledged 10 ms later. What is read opens the window by half of
-- the ring at the least, so it stays
abbrev pub heard : Connection
heard = after_segment 1000 (text_segment 300 100 (5 ∷ 6 ∷ [])) connected

pub record InOrder : Type 0 where
  pub octets : readable heard ≡ 5 ∷ 6 ∷ []
  pub not_yet : sends 1000 heard ≡ None
  pub due : due_at 1000 heard ≡ Some 11000
  pub then_ack : sends 11000 heard ≡ Some (with_window 18 (sent_ack 100 302))
  pub after_read : sends 11000 (after_reading 2 heard) ≡ Some (with_window 18 (sent_ack 100 302))
  -- an answer carries it
  pub answer : sends 2000 (after_writing (7 ∷ []) heard) ≡ Some (with_window 18 (sent_text 100 302 (7 ∷ [])))

-- The second piece arrives first: it is acknowledged at once, and what fills the gap likewise
abbrev pub ahead : Connection
ahead = after_segment 1 (text_segment 302 100 (7 ∷ [])) connected

abbrev pub filled : Connection
filled = after_segment 2 (text_segment 300 100 (5 ∷ 6 ∷ [])) (after_sending 1 ahead)

pub record OutOfOrder : Type 0 where
  pub nothing : readable ahead ≡ []
  pub duplicate : sends 1 ahead ≡ Some (sent_ack 100 300)
  pub all : readable filled ≡ 5 ∷ 6 ∷ 7 ∷ []
  pub ack : sends 2 filled ≡ Some (with_window 17 (sent_ack 100 303))
  -- what comes twice, with other octets, changes nothing
  pub once : readable (after_segment 3 (text_segment 300 100 (1 ∷ 1 ∷ 1 ∷ [])) filled) ≡ 5 ∷ 6 ∷ 7 ∷ []
  -- what overlaps gives what is new
  pub overlap : readable (after_segment 3 (text_segment 302 100 (1 ∷ 8 ∷ [])) filled) ≡ 5 ∷ 6 ∷ 7 ∷ 8 ∷ []

-- A ring of one octet: once that is read, one segment tells the window, and nothing follows it at that instant
abbrev pub with_one_cell : Connection
with_one_cell =
    after_segment 1 (text_segment 300 100 (5 ∷ []))
    (after_sending 0 (after_segment 0 (syn_segment 299 (Some 100)) (after_sending 0 (opened 0 99 20 1 100 settings))))

abbrev pub read_again : Connection
read_again = after_reading 1 (after_sending 10001 with_one_cell)

pub record OneCell : Type 0 where
  pub full : sends 10001 with_one_cell ≡ Some (with_window 0 (sent_ack 100 301))
  pub quiet : sends 10001 (after_sending 10001 with_one_cell) ≡ None
  pub told : sends 10001 read_again ≡ Some (with_window 1 (sent_ack 100 301))
  pub once : sends 10001 (after_sending 10001 read_again) ≡ None

-- One octet goes at once, a second one waits for its acknowledgement, unless Nagle's rule is off or the program closes
abbrev pub one_sent : Connection
one_sent = after_sending 1 (after_writing (7 ∷ []) connected)

abbrev pub one_more : Connection
one_more = after_writing (8 ∷ []) one_sent

pub record Nagle : Type 0 where
  pub first : sends 1 (after_writing (7 ∷ []) connected) ≡ Some (sent_text 100 300 (7 ∷ []))
  pub second_waits : sends 2 one_more ≡ None
  pub second : sends 3 (after_segment 3 (ack_segment 300 101) one_more) ≡ Some (sent_text 101 300 (8 ∷ []))
  pub switched_off : sends 2 (record one_more { settings = record one_more.settings { nagle = false } })
      ≡ Some (sent_text 101 300 (8 ∷ []))
  pub closing : sends 2 (after_closing one_more) ≡ Some (record (sent_text 101 300 (8 ∷ [])) { fin = true })

-- What isn't acknowledged goes once more after 1 s, with what was written since; then after 2 s
abbrev pub again : Connection
again = after_sending 1000001 (after_timers 1000001 one_more)

pub record Retransmission : Type 0 where
  pub due : due_at 2 one_more ≡ Some 1000001
  pub not_before : sends 1000000 (after_timers 1000000 one_more) ≡ None
  pub again_both : sends 1000001 (after_timers 1000001 one_more) ≡ Some (sent_text 100 300 (7 ∷ 8 ∷ []))
  pub doubled : due_at 1000002 again ≡ Some 3000001
  pub acknowledged : due_at 1000003 (after_segment 1000003 (ack_segment 300 102) again) ≡ None
  -- the first octet alone: the timer goes on for the other one
  pub half : due_at 1000003 (after_segment 1000003 (ack_segment 300 101) again) ≡ Some 3000003
  -- while it is sent again, an acknowledgement alone still stands after it
  pub alone : sends 1000001 (after_segment 1000001 (text_segment 298 100 (1 ∷ [])) (after_timers 1000001 one_more))
      ≡ Some (sent_ack 101 300)
  -- and is read at the window's edge, but no further
  pub at_the_edge : due_at 1000003 (after_segment 1000003 (ack_segment 320 102) again) ≡ None
  pub further : due_at 1000003 (after_sending 1000003 (after_segment 1000003 (ack_segment 321 102) again)) ≡ Some 3000001
  -- an acknowledgement of more than was sent acknowledges nothing
  pub above : due_at 1000003 (after_sending 1000003 (after_segment 1000003 (ack_segment 300 103) again)) ≡ Some 3000001

-- The peer closes its window with all acknowledged: after the time-out one octet goes beyond it, then after twice the time
abbrev pub shut : Connection
shut = after_writing (8 ∷ 9 ∷ [])
    (after_segment 2 (record (ack_segment 300 101) { window = 0 }) one_sent)

abbrev pub shut_timed : Connection
shut_timed = after_timers 3 shut

abbrev pub probed : Connection
probed = after_sending 1000003 (after_timers 1000003 shut_timed)

pub record ClosedWindow : Type 0 where
  pub waits : sends 3 shut_timed ≡ None
  pub timer_wanted : due_at 3 shut ≡ Some 3
  pub due : due_at 3 shut_timed ≡ Some 1000003
  pub probe : sends 1000003 (after_timers 1000003 shut_timed) ≡ Some (sent_text 101 300 (8 ∷ []))
  pub next : due_at 1000004 probed ≡ Some 3000003
  -- it opens: the rest goes at once
  pub opens : sends 1000005 (after_segment 1000005 (ack_segment 300 102) probed) ≡ Some (sent_text 102 300 (9 ∷ []))

-- All is acknowledged, and the window is open by four octets of twenty. Eight wait: four of them are neither a whole segment,
-- nor the last ones, nor half of the largest window. The segment that tells a wider window is lost. After the time-out the
-- four go all the same (RFC 9293 3.8.6.2.1, rule (4)), and their acknowledgement tells it again
abbrev pub eight : List ℕ
eight = 1 ∷ 2 ∷ 3 ∷ 4 ∷ 5 ∷ 6 ∷ 7 ∷ 8 ∷ []

abbrev pub narrowed_to : ℕ → Connection
narrowed_to window = after_writing eight (after_segment 2 (record (ack_segment 300 101) { window = window }) one_sent)

abbrev pub narrow : Connection
narrow = narrowed_to 4

abbrev pub narrow_timed : Connection
narrow_timed = after_timers 3 narrow

abbrev pub overridden : Connection
overridden = after_sending 1000003 (after_timers 1000003 narrow_timed)

abbrev pub with_mss : ℕ → Connection → Connection
with_mss mss c = record c { transmission = record c.transmission { mss = mss } }

pub record SmallWindow : Type 0 where
  pub waits : sends 3 narrow_timed ≡ None
  pub timer_wanted : due_at 3 narrow ≡ Some 3
  pub due : due_at 3 narrow_timed ≡ Some 1000003
  pub not_before : sends 1000002 (after_timers 1000002 narrow_timed) ≡ None
  pub probe : sends 1000003 (after_timers 1000003 narrow_timed) ≡ Some (sent_text 101 300 (1 ∷ 2 ∷ 3 ∷ 4 ∷ []))
  -- once, until it is lost: then once more
  pub once : sends 1000003 overridden ≡ None
  pub next : due_at 1000003 overridden ≡ Some 3000003
  pub again : sends 3000003 (after_timers 3000003 overridden) ≡ Some (sent_text 101 300 (1 ∷ 2 ∷ 3 ∷ 4 ∷ []))
  -- its acknowledgement tells a wider window: the rest goes at once
  pub opens : sends 1000005 (after_segment 1000005 (ack_segment 300 105) overridden)
      ≡ Some (sent_text 105 300 (5 ∷ 6 ∷ 7 ∷ 8 ∷ []))
  -- no probe waits where a whole segment has room, or half of the largest window, or all that waits
  pub whole : sends 3 (with_mss 4 narrow) ≡ Some (sent_text 101 300 (1 ∷ 2 ∷ 3 ∷ 4 ∷ []))
  pub whole_untimed : (after_timers 3 (with_mss 4 narrow)).timers.resend_at ≡ None
  pub half_untimed : (after_timers 3 (after_writing eight (narrowed_to 10))).timers.resend_at ≡ None
  pub all : sends 3 (narrowed_to 8) ≡ Some (sent_text 101 300 eight)
  pub all_untimed : (after_timers 3 (narrowed_to 8)).timers.resend_at ≡ None
  -- nor where Nagle's rule holds octets back, as something is on its way then
  pub nagle : (after_timers 3 one_more).timers.resend_at ≡ one_sent.timers.resend_at

-- The peer's numbers wrap within a segment
abbrev pub near_the_end : Connection
near_the_end = after_sending 0 (after_segment 0 (syn_segment 4294967293 (Some 100)) (after_sending 0 (opened_by 99)))

abbrev pub wrapped : Connection
wrapped = after_segment 1 (text_segment 4294967294 100 (1 ∷ 2 ∷ 3 ∷ 4 ∷ [])) near_the_end

pub record Wraps : Type 0 where
  pub octets : readable wrapped ≡ 1 ∷ 2 ∷ 3 ∷ 4 ∷ []
  pub ack : sends 10001 wrapped ≡ Some (with_window 16 (sent_ack 100 2))

-- options of a SYN: a scale of 15 counts as 14 (RFC 7323 2.3), and none as none; MSS without the option
pub record SynOptions : Type 0 where
  pub fourteen : scale_from (Some 14) ≡ 14
  pub fifteen : scale_from (Some 15) ≡ 14
  pub none : scale_from None ≡ 0
  pub own_unless_offered : own_scale_for 7 None ≡ 0
  pub default_mss : mss_from 536 1460 None ≡ 536
  pub small_mss : mss_from 536 1460 (Some 1) ≡ 88
  pub large_mss : mss_from 536 1460 (Some 9000) ≡ 1460
