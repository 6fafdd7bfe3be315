-- Networks (RFC 4632, RFC 4291 2.3): an address is in one whose prefix it shares.
use Rattle.std.specs.Prelude.{ℕ, Bool, false, ◌==◌, ◌&&◌, nat_lt, if◌then◌else◌, Option, Some, None}
use Rattle.ip_address.specs.Prefixes.{agrees, last_of}
use Rattle.ip_address.specs.declared.ipv4.Ipv4Address.{Ipv4Address}
use Rattle.ip_address.specs.declared.ipv6.Ipv6Address.{Ipv6Address}
use Rattle.ip_address.specs.declared.ip.IpAddress.{IpAddress}
use Rattle.ip_address.specs.declared.ip.IpAddress.TheVariants.{Ipv4, Ipv6}
use Rattle.ip_address.specs.declared.cidr.Ipv4Cidr.{Ipv4Cidr}
use Rattle.ip_address.specs.declared.cidr.Ipv6Cidr.{Ipv6Cidr}
use Rattle.ip_address.specs.declared.cidr.IpCidr.{IpCidr}
use Rattle.ip_address.specs.declared.cidr.IpCidr.TheVariants as cidr

abbrev pub contains4 : Ipv4Cidr → Ipv4Address → Bool
contains4 n a = agrees 32 n.prefix_len n.address.bits a.bits

abbrev pub contains6 : Ipv6Cidr → Ipv6Address → Bool
contains6 n a = agrees 128 n.prefix_len n.address.bits a.bits

-- the address is of the same family, and the bits of the prefix agree
abbrev pub contains : IpCidr → IpAddress → Bool
contains (cidr.Ipv4 n) (Ipv4 a) = contains4 n a
contains (cidr.Ipv6 n) (Ipv6 a) = contains6 n a
contains (cidr.Ipv4 n) (Ipv6 a) = false
contains (cidr.Ipv6 n) (Ipv4 a) = false

-- the address that was given with the network
abbrev pub address_of : IpCidr → IpAddress
address_of (cidr.Ipv4 n) = Ipv4 n.address
address_of (cidr.Ipv6 n) = Ipv6 n.address

-- the number of bits that all its addresses share
abbrev pub prefix_len_of : IpCidr → ℕ
prefix_len_of (cidr.Ipv4 n) = n.prefix_len
prefix_len_of (cidr.Ipv6 n) = n.prefix_len

-- the broadcast address of the network, its last one (RFC 922); none for 31 or 32 bits, where that is a host (RFC 3021)
abbrev pub broadcast_of : Ipv4Cidr → Option Ipv4Address
broadcast_of n =
    if nat_lt n.prefix_len 31 then Some (record { bits = last_of 32 n.prefix_len n.address.bits }) else None

-- 0.0.0.0/0, the network of all IPv4 addresses
abbrev pub is_whole_ipv4 : IpCidr → Bool
is_whole_ipv4 (cidr.Ipv4 n) = (n.address.bits == 0) && (n.prefix_len == 0)
is_whole_ipv4 (cidr.Ipv6 n) = false
