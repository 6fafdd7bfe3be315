-- What a stream's host has sent of it, by positions: SYN has position 0, octet i has 1 + i, and the end comes after the last one.
use Rattle.std.specs.Prelude.{ℕ, ◌+◌, ◌-◌, ◌^◌, min, max, nat_lt, ◌==◌, Bool, Option, Some, None, if◌then◌else◌}
use Rattle.tcp_connection.specs.declared.segment.Segment.{Segment}
use Rattle.tcp_machine.specs.Positions.{position_near}
use Rattle.simulation_streams.specs.declared.transmissions.Transmitted.{Transmitted}

abbrev pub one_if : Bool → ℕ
one_if b = if b then 1 else 0

-- how many positions a segment with so many octets has (RFC 9293 3.3.1, SEG.LEN)
abbrev pub positions_in : Segment → ℕ → ℕ
positions_in s octets = octets + one_if s.syn + one_if s.fin

-- a segment had so many positions, from one on: it was sent again if that was sent before
abbrev pub after_position : ℕ → Option ℕ → Transmitted → Transmitted
after_position count None t = t
after_position count (Some position) t = record t {
  end = max t.end (min (position + count) (2 ^ 64 - 1));
  again = if nat_lt position t.end then min (t.again + 1) (2 ^ 64 - 1) else t.again;
}

-- the same by its number; the first one is that of the SYN
abbrev pub after_number : ℕ → ℕ → Option ℕ → Transmitted → Transmitted
after_number number count None t = record t { initial = Some number; end = count }
after_number number count (Some initial) t = after_position count (position_near initial (min t.end (2 ^ 62)) number) t

-- a segment with so many octets was sent; one without a position tells nothing
abbrev pub after_segment : Segment → ℕ → Transmitted → Transmitted
after_segment s octets t =
    if positions_in s octets == 0 then t else after_number s.number (positions_in s octets) t.initial t
