-- The header of a reset, by the octets of the segment that it answers (RFC 9293 3.1, 3.5.2, 3.10.7.1).
use Rattle.std.specs.Prelude.{◌≡◌, ℕ, ◌+◌, ◌*◌, ◌/◌, ◌%◌, ◌^◌, List, length, drop, slice_index, Some, None}
use Rattle.ip_wire.specs.Octets.{u16_at, u32_at}
use Rattle.ip_wire.specs.declared.tcp.TcpControl.TheVariants.{Rst}
use Rattle.ip_wire.specs.declared.tcp.TcpRepr.{TcpRepr}

-- the flags ACK and SYN of a segment
abbrev pub ack_of : List ℕ → ℕ
ack_of segment = slice_index segment 13 / 16 % 2

abbrev pub syn_of : List ℕ → ℕ
syn_of segment = slice_index segment 13 / 2 % 2

-- the number behind a segment that begins with SYN: one more than its own, and as many as it has octets after its header
abbrev pub end_of_syn : List ℕ → ℕ
end_of_syn segment = (u32_at segment 4 + (1 + length (drop (slice_index segment 12 / 16 * 4) segment))) % 2 ^ 32

-- The numbers of a reset. With ACK its sequence number is that which the segment acknowledges, and it has no ACK.
-- Without, its sequence number is 0, and it acknowledges a SYN and what follows it. What has neither isn't acknowledged:
-- kept, against RFC 9293 3.10.7.1
pub data HasResetNumbers (segment : List ℕ) (r : TcpRepr) : Type 0 where
  AtAcknowledged : ack_of segment ≡ 1 → r.seq_number.bits ≡ u32_at segment 8 → r.ack_number ≡ None →
      HasResetNumbers segment r
  OfSyn : ack_of segment ≡ 0 → syn_of segment ≡ 1 → r.seq_number.bits ≡ 0 →
      r.ack_number ≡ Some (record { bits = end_of_syn segment }) → HasResetNumbers segment r
  OfNeither : ack_of segment ≡ 0 → syn_of segment ≡ 0 → r.seq_number.bits ≡ 0 → r.ack_number ≡ None →
      HasResetNumbers segment r

-- a reset, from the segment's destination port to its source port, with these numbers and window 0
pub record IsResetFor (segment : List ℕ) (r : TcpRepr) : Type 0 where
  pub from_port : r.src_port ≡ u16_at segment 2
  pub to_port : r.dst_port ≡ u16_at segment 0
  pub is_reset : r.control ≡ Rst
  pub numbers : HasResetNumbers segment r
  pub window : r.window_len ≡ 0
