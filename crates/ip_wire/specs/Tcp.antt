-- TCP segments (RFC 9293 3.1).
use Rattle.std.specs.Prelude.{◌≡◌, ◌≢◌, ℕ, ◌+◌, ◌*◌, ◌/◌, ◌%◌, ◌<◌, ◌≤◌, ◌^◌, ◌==◌, Bool, true, IsTrue}
use Rattle.std.specs.Prelude.{Option, Some, None, List, [], ◌∷◌, ◌++◌, length, drop, slice_index, if◌then◌else◌}
use Rattle.std.specs.Borrow.{Bor}
use Rattle.std.specs.Int.{w16, w32, to_be_bytes}
use Rattle.ip_wire.specs.Checksum.{folded_sum, word_sum, checksum_of}
use Rattle.ip_wire.specs.Octets.{u16_at, u32_at}
use Rattle.ip_wire.specs.Pseudo.{pseudo}
use Rattle.ip_address.specs.declared.ip.IpAddress.{IpAddress}
use Rattle.ip_wire.specs.declared.tcp.TcpControl.{TcpControl}
use Rattle.ip_wire.specs.declared.tcp.TcpControl.TheVariants as control
use Rattle.ip_wire.specs.declared.tcp.TcpSeqNumber.{TcpSeqNumber}
use Rattle.ip_wire.specs.declared.tcp.TcpRepr.{TcpRepr}

-- the length of the header with its options, in octets
abbrev pub header_len : List ℕ → ℕ
header_len octets = slice_index octets 12 / 16 * 4

-- the flags of a segment, each a bit of one octet
abbrev pub fin : ℕ → ℕ
fin flags = flags % 2

abbrev pub syn : ℕ → ℕ
syn flags = flags / 2 % 2

abbrev pub rst : ℕ → ℕ
rst flags = flags / 4 % 2

abbrev pub psh : ℕ → ℕ
psh flags = flags / 8 % 2

abbrev pub ack : ℕ → ℕ
ack flags = flags / 16 % 2

-- at most one of FIN, SYN and RST
abbrev pub IsControl : ℕ → Type 0
IsControl flags = fin flags + syn flags + rst flags ≤ 1

-- the meaning of flags; PSH is ignored beside FIN, SYN or RST
unfoldable pub control_of : ℕ → TcpControl
control_of flags =
    if fin flags == 1 then control.Fin else if syn flags == 1 then control.Syn else if rst flags == 1 then control.Rst
    else if psh flags == 1 then control.Psh else control.None

-- the octets are a segment; its checksum is right if the sum with the pseudo-header is all ones
pub record IsTcp (checked : Bool) (src dst : IpAddress) (octets : List ℕ) : Type 0 where
  pub whole : 20 ≤ length octets
  pub header : 20 ≤ header_len octets
  pub header_fits : header_len octets ≤ length octets
  pub source : u16_at octets 0 ≢ 0
  pub destination : u16_at octets 2 ≢ 0
  pub flags : IsControl (slice_index octets 13)
  pub sum : IsTrue checked → folded_sum (word_sum (pseudo src dst 6 (length octets) ++ octets)) ≡ 65535

-- the values of its header
abbrev pub header_in : List ℕ → TcpRepr
header_in octets = record {
  src_port = u16_at octets 0;
  dst_port = u16_at octets 2;
  control = control_of (slice_index octets 13);
  seq_number = record { bits = u32_at octets 4 };
  ack_number = if ack (slice_index octets 13) == 1 then Some (record { bits = u32_at octets 8 }) else None;
  window_len = u16_at octets 14;
}

-- its values, and its payload, all octets after the header
abbrev pub tcp_in : List ℕ → TcpRepr × List ℕ
tcp_in octets = (header_in octets, drop (header_len octets) octets)

-- values and a payload, apart from where that is in memory
abbrev pub parts : TcpRepr × Bor (List ℕ) → TcpRepr × List ℕ
parts p = (p.0, p.1.now)

-- the flags of a segment's meaning
abbrev pub flags_of : TcpControl → ℕ
flags_of control.Fin = 0x01
flags_of control.Syn = 0x02
flags_of control.Rst = 0x04
flags_of control.Psh = 0x08
flags_of control.None = 0

-- ACK says that there is an acknowledgement number; without it the field is 0
abbrev pub ack_flag : Option TcpSeqNumber → ℕ
ack_flag None = 0
ack_flag (Some n) = 0x10

abbrev pub ack_bits : Option TcpSeqNumber → ℕ
ack_bits None = 0
ack_bits (Some n) = n.bits

-- the text of a header of five words, with a checksum; the urgent pointer is 0
unfoldable pub header_with : ℕ → TcpRepr → List ℕ
header_with sum r =
    to_be_bytes w16 r.src_port ++ to_be_bytes w16 r.dst_port ++ to_be_bytes w32 r.seq_number.bits
    ++ to_be_bytes w32 (ack_bits r.ack_number)
    ++ 0x50 ∷ (flags_of r.control + ack_flag r.ack_number)
    ∷ (to_be_bytes w16 r.window_len ++ to_be_bytes w16 sum ++ 0 ∷ 0 ∷ [])

-- its checksum, or 0 if that is off: that of pseudo-header and segment, with 0 in its place
abbrev pub sum_of : Bool → IpAddress → IpAddress → TcpRepr → List ℕ → ℕ
sum_of summed src dst r payload =
    if summed then checksum_of (pseudo src dst 6 (20 + length payload) ++ (header_with 0 r ++ payload)) else 0

-- the text of a segment
abbrev pub text : Bool → IpAddress → IpAddress → TcpRepr → List ℕ → List ℕ
text summed src dst r payload = header_with (sum_of summed src dst r payload) r ++ payload

-- values that the header of a segment can have
pub record IsHeader (r : TcpRepr) : Type 0 where
  pub source : r.src_port < 2 ^ 16
  pub some_source : r.src_port ≢ 0
  pub destination : r.dst_port < 2 ^ 16
  pub some_destination : r.dst_port ≢ 0
  pub sequence : r.seq_number.bits < 2 ^ 32
  pub acknowledgement : ack_bits r.ack_number < 2 ^ 32
  pub window : r.window_len < 2 ^ 16

-- a text with its checksum is parsed back as its values
abbrev pub ReadAgain : Type 0
ReadAgain = (checked : Bool) (src dst : IpAddress) (r : TcpRepr) (payload : List ℕ) →
    IsHeader r → 20 + length payload < 2 ^ 16
    → IsTcp checked src dst (text true src dst r payload) × (tcp_in (text true src dst r payload) ≡ (r, payload))
