-- The pseudo-header that the checksums of UDP and TCP cover (RFC 768, RFC 9293 3.1; RFC 8200 8.1).
use Rattle.std.specs.Prelude.{ℕ, ◌+◌, ◌/◌, ◌%◌, ◌^◌, List, [], ◌∷◌, ◌++◌}
use Rattle.std.specs.Int.{w16, w32, w128, to_be_bytes}
use Rattle.ip_address.specs.declared.ip.IpAddress.{IpAddress}
use Rattle.ip_address.specs.declared.ip.IpAddress.TheVariants.{Ipv4, Ipv6}

-- the octets of an address
abbrev pub address_octets : IpAddress → List ℕ
address_octets (Ipv4 a) = to_be_bytes w32 a.bits
address_octets (Ipv6 a) = to_be_bytes w128 a.bits

-- what follows the addresses: protocol and length, in the order of the destination's family
abbrev pub ending : IpAddress → ℕ → ℕ → List ℕ
ending (Ipv4 a) protocol len = 0 ∷ protocol ∷ to_be_bytes w16 len
ending (Ipv6 a) protocol len = to_be_bytes w32 len ++ 0 ∷ 0 ∷ 0 ∷ protocol ∷ []

-- source, destination, protocol and length; 12 octets for IPv4, 40 for IPv6 (no packet is of both families)
unfoldable pub pseudo : IpAddress → IpAddress → ℕ → ℕ → List ℕ
pseudo src dst protocol len = address_octets src ++ address_octets dst ++ ending dst protocol len

-- the sum of the four 32-bit quarters of a 128-bit number
abbrev pub quarters : ℕ → ℕ
quarters n = n / 2 ^ 96 + n / 2 ^ 64 % 2 ^ 32 + n / 2 ^ 32 % 2 ^ 32 + n % 2 ^ 32
