-- An end that comes twice, in TIME-WAIT too, and windows that are scaled.
use Rattle.std.specs.Prelude.{◌≡◌, [], ◌∷◌, Some, None}
use Rattle.tcp_machine.specs.declared.state.State.TheVariants as state
use Rattle.tcp_machine.specs.Connection.{Connection}
use Rattle.tcp_machine.specs.Opening.{accepted}
use Rattle.tcp_machine.specs.Outgoing.{SendSyn, SendAck, segment_for}
use Rattle.tcp_machine.specs.Examples.Ends.{settings, no_options, ack_segment, syn_segment, reset_segment, fin_segment, text_segment, sent_ack}
use Rattle.tcp_machine.specs.Examples.Ends.{sends, after_sending, after_segment}
use Rattle.tcp_machine.specs.Due.{due_at}
use Rattle.tcp_machine.specs.Timers.{after_timers}
use Rattle.tcp_machine.specs.Examples.Closings.{connected, waiting}

-- The peer's end comes twice, before two octets that it follows
abbrev pub end_twice : Connection
end_twice = after_segment 2 (fin_segment 302 100) (after_segment 1 (fin_segment 302 100) connected)

abbrev pub gap_filled : Connection
gap_filled = after_segment 3 (text_segment 300 100 (7 ∷ 8 ∷ [])) end_twice

pub record EndCountsOnce : Type 0 where
  pub not_before : end_twice.state ≡ state.Established
  pub once : gap_filled.state ≡ state.CloseWait
  pub ack : sends 3 gap_filled ≡ Some (record (sent_ack 100 303) { window = 17 })
  -- and once more, behind its position
  pub again : (after_segment 4 (fin_segment 302 100) gap_filled).state ≡ state.CloseWait
  pub same : sends 4 (after_segment 4 (fin_segment 302 100) gap_filled) ≡ Some (record (sent_ack 100 303) { window = 17 })

-- The end comes again in TIME-WAIT, which is restarted: it is acknowledged, and not reset. An acknowledgement brings nothing (RFC 9293
-- 3.10.7.4, eighth check)
abbrev pub waits_again : Connection
waits_again = after_segment 5 (fin_segment 300 101) (after_sending 3 waiting)

pub record TimeWaitStays : Type 0 where
  pub stays : waits_again.state ≡ state.TimeWait
  pub ack : sends 5 waits_again ≡ Some (record (sent_ack 101 301) { window = 19 })
  pub restarted : due_at 5 (after_sending 5 waits_again) ≡ Some 60000005
  pub silent : sends 5 (after_segment 5 (ack_segment 301 101) (after_sending 3 waiting)) ≡ None
  -- a reset is left, of the next number, too (RFC 1337)
  pub reset : (after_segment 5 (reset_segment 301) (after_sending 3 waiting)).state ≡ state.TimeWait
  pub as_long : due_at 5 (after_segment 5 (reset_segment 301) (after_sending 3 waiting)) ≡ Some 60000003
  pub no_reason : (after_timers 60000003 (after_segment 5 (reset_segment 301) (after_sending 3 waiting))).ending ≡ None

-- A listener whose windows are scaled by one bit, with room for twenty octets; and once it is established
abbrev pub scaled : Connection
scaled =
    accepted 0 299 20 20 536 100 (record settings { own_scale = 1 })
    (record (syn_segment 99 None) { options = record no_options { scale = Some 0 } })

abbrev pub scaled_up : Connection
scaled_up = after_segment 1 (ack_segment 100 300) (after_sending 0 scaled)

-- the window of a SYN isn't scaled, in either direction (RFC 7323 2.2); all later ones are
pub record WindowsScaled : Type 0 where
  pub syn : (segment_for SendSyn scaled).window ≡ 20
  pub later : (segment_for SendAck scaled_up).window ≡ 10
