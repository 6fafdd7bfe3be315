-- IP addresses of either family.
use Rattle.std.specs.Prelude.{ℕ, Bool, false, cond, ◌==◌, ◌≡◌, refl}
use Rattle.std.specs.Ordering.{nat_cmp, ordering_then}
use Rattle.std.specs.Coded.{Coded, code_by, coded×, coded_ℕ}
use Rattle.std.specs.declared.cmp.Ordering.{Ordering}
use Rattle.ip_address.specs.declared.ip.IpAddress.{IpAddress}
use Rattle.ip_address.specs.declared.ip.IpAddress.TheVariants.{Ipv4, Ipv6}
use Rattle.ip_address.specs.Ipv4 as ipv4
use Rattle.ip_address.specs.Ipv6 as ipv6

abbrev pub unspecified_address : IpAddress
unspecified_address = Ipv4 (record { bits = 0 })

abbrev pub is_unspecified : IpAddress → Bool
is_unspecified (Ipv4 a) = ipv4.is_unspecified a
is_unspecified (Ipv6 a) = ipv6.is_unspecified a

abbrev pub is_broadcast : IpAddress → Bool
is_broadcast (Ipv4 a) = ipv4.is_broadcast a
is_broadcast (Ipv6 a) = false

abbrev pub is_multicast : IpAddress → Bool
is_multicast (Ipv4 a) = ipv4.is_multicast a
is_multicast (Ipv6 a) = ipv6.is_multicast a

-- a unicast address: neither multicast, broadcast nor unspecified
abbrev pub is_unicast : IpAddress → Bool
is_unicast (Ipv4 a) = ipv4.is_unicast a
is_unicast (Ipv6 a) = ipv6.is_unicast a

-- the family and the number, by which addresses are compared and ordered
abbrev pub address_key : IpAddress → ℕ × ℕ
address_key (Ipv4 a) = (0, a.bits)
address_key (Ipv6 a) = (1, a.bits)

abbrev pub address_of_key : ℕ × ℕ → IpAddress
address_of_key k = cond (k.0 == 0) (Ipv4 (record { bits = k.1 })) (Ipv6 (record { bits = k.1 }))

pub address_of_key-address_key : (a : IpAddress) → address_of_key (address_key a) ≡ a
address_of_key-address_key (Ipv4 a) = refl
address_of_key-address_key (Ipv6 a) = refl

abbrev pub address_code : Coded IpAddress
address_code = code_by (ℕ × ℕ) (coded× coded_ℕ coded_ℕ) address_key address_of_key address_of_key-address_key

-- by family, and then by number
abbrev pub address_cmp : IpAddress → IpAddress → Ordering
address_cmp a b =
    ordering_then (nat_cmp (address_key a).0 (address_key b).0) (nat_cmp (address_key a).1 (address_key b).1)
