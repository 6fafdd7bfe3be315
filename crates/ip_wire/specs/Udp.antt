-- UDP (RFC 768): ports, length, checksum, payload.
use Rattle.std.specs.Prelude.{◌≡◌, ◌≢◌, ℕ, ◌+◌, ◌<◌, ◌≤◌, ◌^◌, ◌==◌, ◌&&◌, Bool, true, false}
use Rattle.std.specs.Prelude.{IsTrue, List, ◌++◌, length, take, slice_range, if◌then◌else◌}
use Rattle.std.specs.Borrow.{Bor}
use Rattle.std.specs.Int.{w16, to_be_bytes}
use Rattle.ip_wire.specs.Checksum.{folded_sum, word_sum, checksum_of}
use Rattle.ip_wire.specs.Octets.{u16_at}
use Rattle.ip_address.specs.Protocol.{is_ipv4}
use Rattle.ip_wire.specs.Pseudo.{pseudo}
use Rattle.ip_address.specs.declared.ip.IpAddress.{IpAddress}
use Rattle.ip_wire.specs.declared.udp.UdpRepr.{UdpRepr}

-- the length of header and payload, in octets
abbrev pub udp_len : List ℕ → ℕ
udp_len octets = u16_at octets 4

-- over IPv4 a checksum of 0 means that there is none
abbrev pub is_unsummed : IpAddress → List ℕ → Bool
is_unsummed dst octets = is_ipv4 dst && (u16_at octets 6 == 0)

-- the octets begin with a datagram; its checksum is right if the sum with the pseudo-header is all ones
pub record IsUdp (checked : Bool) (src dst : IpAddress) (octets : List ℕ) : Type 0 where
  pub whole : 8 ≤ length octets
  pub header_fits : 8 ≤ udp_len octets
  pub fits : udp_len octets ≤ length octets
  pub port : u16_at octets 2 ≢ 0
  pub sum : IsTrue checked → is_unsummed dst octets ≡ false →
      folded_sum (word_sum (pseudo src dst 17 (udp_len octets) ++ take (udp_len octets) octets)) ≡ 65535

-- its ports, and its payload, which ends at its length
abbrev pub udp_in : List ℕ → UdpRepr × List ℕ
udp_in octets =
    (record { src_port = u16_at octets 0; dst_port = u16_at octets 2 }, slice_range octets 8 (udp_len octets))

-- ports and a payload, apart from where that is in memory
abbrev pub parts : UdpRepr × Bor (List ℕ) → UdpRepr × List ℕ
parts p = (p.0, p.1.now)

-- the text of a header with a checksum, before this many octets of payload
unfoldable pub header_with : ℕ → UdpRepr → ℕ → List ℕ
header_with sum r payload_len =
    to_be_bytes w16 r.src_port ++ to_be_bytes w16 r.dst_port ++ to_be_bytes w16 (8 + payload_len) ++ to_be_bytes w16 sum

-- a computed 0 is sent as all ones
abbrev pub not_zero : ℕ → ℕ
not_zero n = if n == 0 then 65535 else n

-- its checksum, or 0 if that is off: that of pseudo-header and datagram, with 0 in its place
abbrev pub sum_of : Bool → IpAddress → IpAddress → UdpRepr → List ℕ → ℕ
sum_of summed src dst r payload =
    if summed then not_zero
    (checksum_of (pseudo src dst 17 (8 + length payload) ++ (header_with 0 r (length payload) ++ payload))) else 0

-- the text of a datagram
abbrev pub text : Bool → IpAddress → IpAddress → UdpRepr → List ℕ → List ℕ
text summed src dst r payload = header_with (sum_of summed src dst r payload) r (length payload) ++ payload

-- ports that a datagram can have
pub record IsHeader (r : UdpRepr) : Type 0 where
  pub source : r.src_port < 2 ^ 16
  pub destination : r.dst_port < 2 ^ 16
  pub port : r.dst_port ≢ 0

-- a text with its checksum is parsed back as its values, whatever follows it
abbrev pub ReadAgain : Type 0
ReadAgain = (checked : Bool) (src dst : IpAddress) (r : UdpRepr) (payload more : List ℕ) →
    IsHeader r → 8 + length payload < 2 ^ 16
    → IsUdp checked src dst (text true src dst r payload ++ more)
    × (udp_in (text true src dst r payload ++ more) ≡ (r, payload))
