-- Windows: what the peer's tells, and what is told to it (RFC 9293 3.8.6, RFC 7323 2).
use Rattle.std.specs.Prelude.{ℕ, ◌+◌, ◌-◌, ◌*◌, ◌/◌, ◌^◌, min, max, nat_lt, nat_le, ◌==◌, ◌&&◌, ◌||◌, Bool, length, if◌then◌else◌}
use Rattle.tcp_machine.specs.Receiving.{Receiver, edge, expected}
use Rattle.tcp_machine.specs.Connection.{Transmission, Reception}

-- A newer segment, or a later acknowledgement of the same one, tells the window: SND.WL1 < SEG.SEQ, or SND.WL1 = SEG.SEQ
-- and SND.WL2 =< SEG.ACK (RFC 9293 3.10.7.4, fifth check)
abbrev pub tells_window : ℕ → ℕ → Transmission → Bool
tells_window start ack t = nat_lt t.wl1 start || ((t.wl1 == start) && nat_le t.wl2 ack)

-- the edge that it tells narrows what is sent for the first time; `sender` keeps the furthest one
abbrev pub with_window : (start ack window : ℕ) → Transmission → Transmission
with_window start ack window t = record t {
  told_edge = ack + window;
  largest_window = max t.largest_window window;
  wl1 = start;
  wl2 = ack;
}

abbrev pub after_window : (start ack window : ℕ) → Transmission → Transmission
after_window start ack window t = if tells_window start ack t then with_window start ack window t else t

-- The step in which the own window opens: the lesser of a segment and half of the ring (RFC 9293 3.8.6.2.2)
abbrev pub window_step : ℕ → Receiver → ℕ
window_step own_mss r = min own_mss (length r.cells / 2)

-- the edge that is promised in the next segment
abbrev pub next_promise : ℕ → Reception → ℕ
next_promise own_mss r =
    if nat_le (r.promised + window_step own_mss r.receiver) (edge r.receiver) then edge r.receiver else r.promised

-- the window field that tells a promise, rounded down and at most 65,535 (RFC 7323 2.3)
abbrev pub window_field : ℕ → Reception → ℕ
window_field promise r = min 65535 ((promise - expected r.receiver) / 2 ^ r.scale)

-- whether a program that has read so much makes it worth a segment of its own to tell: twice the step, and an octet at least
abbrev pub is_update_due : ℕ → Reception → Bool
is_update_due own_mss r =
    nat_le (r.promised + max 1 (min (2 * own_mss) (length r.receiver.cells / 2))) (edge r.receiver)
