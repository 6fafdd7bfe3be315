-- IPv6 packets (RFC 8200 3): a header of forty octets, the payload.
use Rattle.std.specs.Prelude.{◌≡◌, ℕ, ◌+◌, ◌/◌, ◌<◌, ◌≤◌, ◌^◌, List, [], ◌∷◌}
use Rattle.std.specs.Prelude.{◌++◌, length, drop, slice_index, slice_range}
use Rattle.std.specs.Borrow.{Bor}
use Rattle.std.specs.Int.{w16, w128, to_be_bytes, from_be_bytes}
use Rattle.ip_wire.specs.Octets.{u16_at}
use Rattle.ip_address.specs.Protocol.{protocol_of, number_of}
use Rattle.ip_address.specs.declared.ipv6.Ipv6Address.{Ipv6Address}
use Rattle.ip_wire.specs.declared.ipv6_packet.Ipv6Repr.{Ipv6Repr}

-- the address in sixteen octets at an offset, the first one highest
unfoldable pub address_at : List ℕ → ℕ → Ipv6Address
address_at octets at = record { bits = from_be_bytes w128 (slice_range octets at (at + 16)) }

-- the end of the payload, by the length field
abbrev pub end : List ℕ → ℕ
end octets = 40 + u16_at octets 4

-- the octets begin with a packet, perhaps with more after it
pub record IsIpv6 (octets : List ℕ) : Type 0 where
  pub whole : 40 ≤ length octets
  pub version : slice_index octets 0 / 16 ≡ 6
  pub fits : end octets ≤ length octets

-- the values of its header
abbrev pub header_in : List ℕ → Ipv6Repr
header_in octets = record {
  src_addr = address_at octets 8;
  dst_addr = address_at octets 24;
  next_header = protocol_of (slice_index octets 6);
  payload_len = u16_at octets 4;
  hop_limit = slice_index octets 7;
}

-- its values, and its payload
abbrev pub ipv6_in : List ℕ → Ipv6Repr × List ℕ
ipv6_in octets = (header_in octets, slice_range octets 40 (end octets))

-- values and a payload, apart from where that is in memory
abbrev pub parts : Ipv6Repr × Bor (List ℕ) → Ipv6Repr × List ℕ
parts p = (p.0, p.1.now)

-- the octets begin with a header that is quoted: its length field isn't tested
pub record IsQuoted (octets : List ℕ) : Type 0 where
  pub whole : 40 ≤ length octets
  pub version : slice_index octets 0 / 16 ≡ 6

-- its values, and all octets after it
abbrev pub quoted_in : List ℕ → Ipv6Repr × List ℕ
quoted_in octets = (header_in octets, drop 40 octets)

abbrev pub quoted_parts : Ipv6Repr × Bor (List ℕ) → Ipv6Repr × List ℕ
quoted_parts p = (p.0, p.1.now)

-- the sixteen octets of an address
unfoldable pub address_text : Ipv6Address → List ℕ
address_text a = to_be_bytes w128 a.bits

-- the text of a header, with traffic class and flow label 0
unfoldable pub header_text : Ipv6Repr → List ℕ
header_text r =
    0x60 ∷ 0 ∷ 0 ∷ 0 ∷ (to_be_bytes w16 r.payload_len ++ number_of r.next_header ∷ r.hop_limit ∷ [])
    ++ address_text r.src_addr ++ address_text r.dst_addr

-- values that the header of a packet can have
pub record IsHeader (r : Ipv6Repr) : Type 0 where
  pub source : r.src_addr.bits < 2 ^ 128
  pub destination : r.dst_addr.bits < 2 ^ 128
  pub protocol : protocol_of (number_of r.next_header) ≡ r.next_header
  pub payload_len : r.payload_len < 2 ^ 16

-- a text is parsed back as its values, whatever follows it
abbrev pub ReadAgain : Type 0
ReadAgain = (r : Ipv6Repr) (payload more : List ℕ) → IsHeader r → length payload ≡ r.payload_len
    → IsIpv6 (header_text r ++ payload ++ more) × (ipv6_in (header_text r ++ payload ++ more) ≡ (r, payload))

-- a quoted header is parsed back as its values, and what follows it as that
abbrev pub QuotedAgain : Type 0
QuotedAgain = (r : Ipv6Repr) (octets : List ℕ) →
    IsHeader r → IsQuoted (header_text r ++ octets) × (quoted_in (header_text r ++ octets) ≡ (r, octets))
