-- TCP segments with their options (RFC 9293 3.1). What a segment is, and the values of its first five words, are those of
-- `ip_wire`'s definitions.
use Rattle.std.specs.Prelude.{◌≡◌, ℕ, ◌+◌, ◌*◌, ◌/◌, ◌<◌, ◌^◌, Bool, true, List, [], ◌∷◌, ◌++◌, length, drop, slice_range, if◌then◌else◌}
use Rattle.std.specs.Borrow.{Bor}
use Rattle.std.specs.Int.{w16, w32, to_be_bytes}
use Rattle.ip_wire.specs.Checksum.{checksum_of}
use Rattle.ip_wire.specs.Pseudo.{pseudo}
use Rattle.ip_address.specs.declared.ip.IpAddress.{IpAddress}
use Rattle.ip_wire.specs.declared.tcp.TcpRepr.{TcpRepr as Words}
use Rattle.ip_wire.specs.Tcp.{header_in, header_len, flags_of, ack_flag, ack_bits, IsHeader, IsTcp}
use Rattle.tcp_wire.specs.declared.options.TcpOptions.{TcpOptions}
use Rattle.tcp_wire.specs.declared.tcp.TcpRepr.{TcpRepr}
use Rattle.tcp_wire.specs.Options.{options_in, options_text, AreOptions}

-- the values of the first five words, with options
abbrev pub with_options : Words → TcpOptions → TcpRepr
with_options words options = record {
  src_port = words.src_port;
  dst_port = words.dst_port;
  control = words.control;
  seq_number = words.seq_number;
  ack_number = words.ack_number;
  window_len = words.window_len;
  options = options;
}

-- the values of the first five words
abbrev pub words_of : TcpRepr → Words
words_of r = record {
  src_port = r.src_port;
  dst_port = r.dst_port;
  control = r.control;
  seq_number = r.seq_number;
  ack_number = r.ack_number;
  window_len = r.window_len;
}

-- the octets of a header behind its first five words
abbrev pub options_part : List ℕ → List ℕ
options_part octets = slice_range octets 20 (header_len octets)

-- the values of a segment's header, and its payload, all octets after the header
abbrev pub tcp_in : List ℕ → TcpRepr × List ℕ
tcp_in octets = (with_options (header_in octets) (options_in (options_part octets)), drop (header_len octets) octets)

-- values and a payload, apart from where that is in memory
abbrev pub parts : TcpRepr × Bor (List ℕ) → TcpRepr × List ℕ
parts p = (p.0, p.1.now)

-- the length of a header with its options, in octets
abbrev pub text_len : TcpRepr → ℕ
text_len r = 20 + length (options_text r.options)

-- the text of the first five words, with a checksum; the data offset counts words of the header, the urgent pointer is 0
unfoldable pub words_text : ℕ → TcpRepr → List ℕ
words_text sum r =
    to_be_bytes w16 r.src_port ++ to_be_bytes w16 r.dst_port ++ to_be_bytes w32 r.seq_number.bits
    ++ to_be_bytes w32 (ack_bits r.ack_number)
    ++ (text_len r / 4 * 16) ∷ (flags_of r.control + ack_flag r.ack_number)
    ∷ (to_be_bytes w16 r.window_len ++ to_be_bytes w16 sum ++ 0 ∷ 0 ∷ [])

-- the text of a header with a checksum
abbrev pub header_with : ℕ → TcpRepr → List ℕ
header_with sum r = words_text sum r ++ options_text r.options

-- its checksum, or 0 if that is off: that of pseudo-header and segment, with 0 in its place
abbrev pub sum_of : Bool → IpAddress → IpAddress → TcpRepr → List ℕ → ℕ
sum_of summed src dst r payload =
    if summed then checksum_of (pseudo src dst 6 (text_len r + length payload) ++ (header_with 0 r ++ payload)) else 0

-- the text of a segment
abbrev pub text : Bool → IpAddress → IpAddress → TcpRepr → List ℕ → List ℕ
text summed src dst r payload = header_with (sum_of summed src dst r payload) r ++ payload

-- a text with its checksum is parsed back as its values
abbrev pub ReadAgain : Type 0
ReadAgain = (checked : Bool) (src dst : IpAddress) (r : TcpRepr) (payload : List ℕ) →
    IsHeader (words_of r) → AreOptions r.options → text_len r + length payload < 2 ^ 16
    → IsTcp checked src dst (text true src dst r payload) × (tcp_in (text true src dst r payload) ≡ (r, payload))
