-- Segments that belong to no connection (RFC 9293 3.10.7.1, 3.10.7.2).
use Rattle.std.specs.Prelude.{ℕ, ◌+◌, ◌%◌, ◌^◌, Bool, Option, Some, None, ◌&&◌, not, is_none, if◌then◌else◌}
use Rattle.tcp_connection.specs.declared.segment.Segment.{Segment}
use Rattle.tcp_host.specs.declared.resets.Reset.{Reset}

-- SEG.LEN: SYN and FIN count (RFC 9293 3.3.1)
abbrev pub length_of : Segment → ℕ → ℕ
length_of s len = len + (if s.syn then 1 else 0) + (if s.fin then 1 else 0)

-- <SEQ=SEG.ACK><CTL=RST>, or <SEQ=0><ACK=SEG.SEQ+SEG.LEN><CTL=RST,ACK>
abbrev pub numbers_for : Option ℕ → Segment → ℕ → Reset
numbers_for (Some ack) s len = record { number = ack; ack = None }
numbers_for None s len = record { number = 0; ack = Some ((s.number + length_of s len) % 2 ^ 32) }

-- no reset answers a reset
abbrev pub reset_for : Segment → ℕ → Option Reset
reset_for s len = if s.rst then None else Some (numbers_for s.ack s len)

-- it begins a connection of a listener
abbrev pub begins : Segment → Bool
begins s = s.syn && not s.rst && is_none s.ack
