-- Closings, by the figures of RFC 9293 3.6. The numbers are those of the figures.
use Rattle.std.specs.Prelude.{◌≡◌, true, [], ◌∷◌, Some, None}
use Rattle.tcp_machine.specs.declared.state.State.TheVariants as state
use Rattle.tcp_machine.specs.Connection.{Connection}
use Rattle.tcp_machine.specs.Calls.{after_writing, after_closing}
use Rattle.tcp_machine.specs.Outgoing.{Outgoing}
use Rattle.tcp_machine.specs.Timers.{after_timers}
use Rattle.tcp_machine.specs.Due.{due_at}
use Rattle.tcp_machine.specs.Examples.Ends.{opened_by, ack_segment, syn_segment, fin_segment, text_segment}
use Rattle.tcp_machine.specs.Examples.Ends.{sends, after_sending, after_segment, sent_ack, sent_fin, sent_text}

-- established, with the next number 100 and the peer's 300
abbrev pub connected : Connection
connected = after_sending 0 (after_segment 0 (syn_segment 299 (Some 100)) (after_sending 0 (opened_by 99)))

-- the peer's end took a position of the window
abbrev pub with_19 : Outgoing → Outgoing
with_19 s = record s { window = 19 }

-- Figure 12, the side that closes first: FIN 100; ACK 101 arrives; FIN 300 arrives; ACK 301, and 2 MSL later it is gone
abbrev pub closing : Connection
closing = after_closing connected

abbrev pub closed_first : Connection
closed_first = after_sending 1 closing

abbrev pub half_closed : Connection
half_closed = after_segment 2 (ack_segment 300 101) closed_first

abbrev pub waiting : Connection
waiting = after_segment 3 (fin_segment 300 101) half_closed

pub record NormalClose : Type 0 where
  pub fin : sends 1 closing ≡ Some (sent_fin 100 300)
  pub one_fin : sends 1 closed_first ≡ None
  pub fin_wait_1 : closed_first.state ≡ state.FinWait1
  pub fin_wait_2 : half_closed.state ≡ state.FinWait2
  pub time_wait : waiting.state ≡ state.TimeWait
  pub ack : sends 3 waiting ≡ Some (with_19 (sent_ack 101 301))
  pub waits : due_at 3 (after_sending 3 waiting) ≡ Some 60000003
  pub stays : (after_timers 60000002 (after_sending 3 waiting)).state ≡ state.TimeWait
  pub gone : (after_timers 60000003 (after_sending 3 waiting)).state ≡ state.Closed

-- Figure 12, the other side, with the numbers exchanged: FIN 300 arrives; ACK 301; the program closes: FIN 100; ACK 101
abbrev pub left : Connection
left = after_segment 1 (fin_segment 300 100) connected

abbrev pub last : Connection
last = after_sending 2 (after_closing (after_sending 1 left))

pub record NormalCloseOfOther : Type 0 where
  pub close_wait : left.state ≡ state.CloseWait
  pub ack : sends 1 left ≡ Some (with_19 (sent_ack 100 301))
  -- half of it is connected: octets still go
  pub octets : sends 1 (after_writing (7 ∷ []) (after_sending 1 left)) ≡ Some (with_19 (sent_text 100 301 (7 ∷ [])))
  pub fin : sends 2 (after_closing (after_sending 1 left)) ≡ Some (with_19 (sent_fin 100 301))
  pub last_ack : last.state ≡ state.LastAck
  pub closed : (after_segment 3 (ack_segment 301 101) last).state ≡ state.Closed
  pub no_reason : (after_segment 3 (ack_segment 301 101) last).ending ≡ None
  pub silent : sends 3 (after_segment 3 (ack_segment 301 101) last) ≡ None

-- Figure 13: both close at once. FIN 300 with ACK 100 arrives after FIN 100 was sent; then ACK 101
abbrev pub crossed : Connection
crossed = after_segment 2 (fin_segment 300 100) closed_first

pub record SimultaneousClose : Type 0 where
  pub closing : crossed.state ≡ state.Closing
  pub ack : sends 2 crossed ≡ Some (with_19 (sent_ack 101 301))
  pub time_wait : (after_segment 3 (ack_segment 301 101) (after_sending 2 crossed)).state ≡ state.TimeWait

-- what must not be
pub record NoClose : Type 0 where
  -- the end comes after the last octet that was written, and not before
  pub octets_first : sends 1 (after_closing (after_writing (7 ∷ 8 ∷ []) connected))
      ≡ Some (record (sent_text 100 300 (7 ∷ 8 ∷ [])) { fin = true })
  -- an end that comes before octets doesn't count until these have arrived
  pub end_ahead : (after_segment 1 (fin_segment 302 100) connected).state ≡ state.Established
  pub then_octets : (after_segment 2 (text_segment 300 100 (5 ∷ 6 ∷ [])) (after_segment 1 (fin_segment 302 100) connected)).state
      ≡ state.CloseWait
  -- the peer's end isn't counted twice
  pub twice : sends 3 (after_sending 3 (after_segment 3 (fin_segment 300 100) (after_sending 1 left))) ≡ None
  pub still_301 : sends 3 (after_segment 3 (fin_segment 300 100) (after_sending 1 left)) ≡ Some (with_19 (sent_ack 100 301))
  -- an acknowledgement of less than the end doesn't end LAST-ACK
  pub not_yet : (after_segment 3 (ack_segment 301 100) last).state ≡ state.LastAck
