-- IPv4 addresses (RFC 791, RFC 1112 4, RFC 1122 3.2.1.3), as the numbers of their octets.
use Rattle.std.specs.Prelude.{ℕ, ◌+◌, ◌*◌, ◌/◌, ◌^◌, ◌==◌, Bool, not, ◌||◌}
use Rattle.ip_address.specs.declared.ipv4.Ipv4Address.{Ipv4Address}

abbrev pub address_of : ℕ → ℕ → ℕ → ℕ → Ipv4Address
address_of a b c d = record { bits = a * 16777216 + b * 65536 + c * 256 + d }

-- 0.0.0.0
abbrev pub is_unspecified : Ipv4Address → Bool
is_unspecified a = a.bits == 0

-- 255.255.255.255
abbrev pub is_broadcast : Ipv4Address → Bool
is_broadcast a = a.bits == 0xffff_ffff

-- 224.0.0.0/4: the first four bits are 1110
abbrev pub is_multicast : Ipv4Address → Bool
is_multicast a = a.bits / 2 ^ 28 == 14

-- a unicast address: neither broadcast, multicast nor unspecified
abbrev pub is_unicast : Ipv4Address → Bool
is_unicast a = not (is_broadcast a || is_multicast a || is_unspecified a)

-- 224.0.0.1, the group of all hosts of a link (RFC 1112 4)
abbrev pub all_systems : Ipv4Address
all_systems = record { bits = 0xe000_0001 }
