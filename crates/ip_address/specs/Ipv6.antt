-- IPv6 addresses (RFC 4291), as the numbers of their octets.
use Rattle.std.specs.Prelude.{ℕ, ◌+◌, ◌*◌, ◌/◌, ◌%◌, ◌^◌, ◌==◌, Bool, not, ◌||◌, if◌then◌else◌}
use Rattle.ip_address.specs.declared.ipv6.Ipv6Address.{Ipv6Address}

-- eight groups of 16 bits, the first one highest (RFC 4291 2.2)
abbrev pub address_of : ℕ → ℕ → ℕ → ℕ → ℕ → ℕ → ℕ → ℕ → Ipv6Address
address_of a b c d e f g h = record {
  bits = a * 2 ^ 112 + b * 2 ^ 96 + c * 2 ^ 80 + d * 2 ^ 64 + e * 2 ^ 48 + f * 2 ^ 32 + g * 2 ^ 16 + h;
}

-- ::
abbrev pub is_unspecified : Ipv6Address → Bool
is_unspecified a = a.bits == 0

-- ::1
abbrev pub is_loopback : Ipv6Address → Bool
is_loopback a = a.bits == 1

-- ff00::/8: the first octet is ff
abbrev pub is_multicast : Ipv6Address → Bool
is_multicast a = a.bits / 2 ^ 120 == 0xff

-- fe80::/10: the first ten bits are 1111111010
abbrev pub is_link_local : Ipv6Address → Bool
is_link_local a = a.bits / 2 ^ 118 == 0x3fa

-- a unicast address: neither multicast nor unspecified
abbrev pub is_unicast : Ipv6Address → Bool
is_unicast a = not (is_multicast a || is_unspecified a)

-- the scope; for multicast the low four bits of its second octet; 2 is link-local, 14 global (RFC 6724 3.1)
abbrev pub scope_of : Ipv6Address → ℕ
scope_of a = if is_multicast a then a.bits / 2 ^ 112 % 16 else if is_loopback a || is_link_local a then 2 else 14

-- ff02::1
abbrev pub all_nodes : Ipv6Address
all_nodes = record { bits = 0xff02_0000_0000_0000_0000_0000_0000_0001 }

-- the solicited-node group of an address: in ff02::1:ff00:0/104, with the address's last 24 bits (RFC 4291 2.7.1)
abbrev pub solicited_node : Ipv6Address → Ipv6Address
solicited_node a = record { bits = 0xff02_0000_0000_0000_0000_0001_ff00_0000 + a.bits % 2 ^ 24 }
