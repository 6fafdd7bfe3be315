-- IPv4 packets (RFC 791 3.1): a header of twenty octets, its options, the payload.
use Rattle.std.specs.Prelude.{◌≡◌, ℕ, ◌+◌, ◌-◌, ◌*◌, ◌/◌, ◌%◌, ◌<◌, ◌≤◌, ◌^◌, ◌==◌, ◌||◌, not, Bool, true, false}
use Rattle.std.specs.Prelude.{IsTrue, List, [], ◌∷◌, ◌++◌, length, take, drop, slice_index, slice_range, if◌then◌else◌}
use Rattle.std.specs.Borrow.{Bor}
use Rattle.std.specs.Int.{w16, w32, to_be_bytes}
use Rattle.ip_wire.specs.Checksum.{folded_sum, word_sum, checksum_of}
use Rattle.ip_wire.specs.Octets.{u16_at, u32_at}
use Rattle.ip_address.specs.Protocol.{protocol_of, number_of}
use Rattle.ip_wire.specs.declared.ipv4_packet.Ipv4Repr.{Ipv4Repr}
use Rattle.ip_wire.specs.declared.ipv4_packet.Ipv4Fragment.{Ipv4Fragment}

-- the length of the header with its options, in octets
abbrev pub header_len : List ℕ → ℕ
header_len octets = slice_index octets 0 % 16 * 4

abbrev pub total_len : List ℕ → ℕ
total_len octets = u16_at octets 2

-- the octets begin with a packet; its checksum is right if the sum of the whole header is all ones
pub record IsIpv4 (checked : Bool) (octets : List ℕ) : Type 0 where
  pub whole : 20 ≤ length octets
  pub version : slice_index octets 0 / 16 ≡ 4
  pub header : 20 ≤ header_len octets
  pub header_fits : header_len octets ≤ total_len octets
  pub total_fits : total_len octets ≤ length octets
  pub sum : IsTrue checked → folded_sum (word_sum (take (header_len octets) octets)) ≡ 65535

-- the values of its header
abbrev pub header_in : List ℕ → Ipv4Repr
header_in octets = record {
  src_addr = record { bits = u32_at octets 12 };
  dst_addr = record { bits = u32_at octets 16 };
  next_header = protocol_of (slice_index octets 9);
  payload_len = total_len octets - header_len octets;
  hop_limit = slice_index octets 8;
}

-- its fragmentation fields: bit 14 forbids fragmentation, bit 13 says that more fragments follow
abbrev pub fragment_in : List ℕ → Ipv4Fragment
fragment_in octets = record {
  identification = u16_at octets 4;
  dont_fragment = u16_at octets 6 / 0x4000 % 2 == 1;
  more_fragments = u16_at octets 6 / 0x2000 % 2 == 1;
  offset = u16_at octets 6 % 0x2000;
}

-- its values, and its payload, which ends at the total length
abbrev pub ipv4_in : List ℕ → Ipv4Repr × Ipv4Fragment × List ℕ
ipv4_in octets = (header_in octets, fragment_in octets, slice_range octets (header_len octets) (total_len octets))

-- values and a payload, apart from where that is in memory
abbrev pub parts : Ipv4Repr × Ipv4Fragment × Bor (List ℕ) → Ipv4Repr × Ipv4Fragment × List ℕ
parts p = (p.0, p.1, p.2.now)

-- the octets begin with a header that is quoted: neither its checksum nor its total length is verified
pub record IsQuoted (octets : List ℕ) : Type 0 where
  pub whole : 20 ≤ length octets
  pub version : slice_index octets 0 / 16 ≡ 4
  pub header : 20 ≤ header_len octets
  pub header_fits : header_len octets ≤ length octets

-- its values, and all octets after it
abbrev pub quoted_in : List ℕ → Ipv4Repr × List ℕ
quoted_in octets = (header_in octets, drop (header_len octets) octets)

abbrev pub quoted_parts : Ipv4Repr × Bor (List ℕ) → Ipv4Repr × List ℕ
quoted_parts p = (p.0, p.1.now)

-- a whole packet, which must not be fragmented
abbrev pub whole : Ipv4Fragment
whole = record { identification = 0; dont_fragment = true; more_fragments = false; offset = 0 }

-- it isn't a whole packet: more fragments follow, or some precede
abbrev pub is_fragment : Ipv4Fragment → Bool
is_fragment f = f.more_fragments || not (f.offset == 0)

-- flags and offset, in one word
abbrev pub fragment_word : Ipv4Fragment → ℕ
fragment_word f = (if f.dont_fragment then 0x4000 else 0) + (if f.more_fragments then 0x2000 else 0) + f.offset

-- the text of a header: before its checksum, with one, and after it
unfoldable pub front : Ipv4Repr → Ipv4Fragment → List ℕ
front r f =
    0x45 ∷ 0
    ∷ (to_be_bytes w16 (20 + r.payload_len) ++ to_be_bytes w16 f.identification ++ to_be_bytes w16 (fragment_word f)
    ++ r.hop_limit ∷ number_of r.next_header ∷ [])

unfoldable pub back : Ipv4Repr → List ℕ
back r = to_be_bytes w32 r.src_addr.bits ++ to_be_bytes w32 r.dst_addr.bits

unfoldable pub header_with : ℕ → Ipv4Repr → Ipv4Fragment → List ℕ
header_with sum r f = front r f ++ to_be_bytes w16 sum ++ back r

-- its checksum, or 0 if that is off: that of the header with 0 in its place
abbrev pub sum_of : Bool → Ipv4Repr → Ipv4Fragment → ℕ
sum_of summed r f = if summed then checksum_of (header_with 0 r f) else 0

-- the text of a header
abbrev pub header_text : Bool → Ipv4Repr → Ipv4Fragment → List ℕ
header_text summed r f = header_with (sum_of summed r f) r f

-- values that the header of a packet can have
pub record IsHeader (r : Ipv4Repr) (f : Ipv4Fragment) : Type 0 where
  pub source : r.src_addr.bits < 2 ^ 32
  pub destination : r.dst_addr.bits < 2 ^ 32
  pub protocol : protocol_of (number_of r.next_header) ≡ r.next_header
  pub payload_len : 20 + r.payload_len < 2 ^ 16
  pub identification : f.identification < 2 ^ 16
  pub offset : f.offset < 0x2000

-- a text is parsed back as its values, whatever follows it, if its checksum is there or isn't verified
abbrev pub ReadAgain : Type 0
ReadAgain = (checked summed : Bool) (r : Ipv4Repr) (f : Ipv4Fragment) (payload more : List ℕ) →
    IsHeader r f → length payload ≡ r.payload_len → (IsTrue checked → IsTrue summed)
    → IsIpv4 checked (header_text summed r f ++ payload ++ more)
    × (ipv4_in (header_text summed r f ++ payload ++ more) ≡ (r, f, payload))
