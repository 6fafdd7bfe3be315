-- The addresses of a host, and those to which it listens (RFC 1122 3.2.1.3, RFC 922, RFC 1112, RFC 4291 2.8).
use Rattle.std.specs.Prelude.{Bool, false, not, ◌==◌, ◌||◌, ◌&&◌, List, [], ◌∷◌, Option, Some, None, if◌then◌else◌}
use Rattle.std.specs.List.{list_any}
use Rattle.std.specs.Option.{option_map}
use Rattle.ip_address.specs.declared.ipv4.Ipv4Address.{Ipv4Address}
use Rattle.ip_address.specs.declared.ip.IpAddress.{IpAddress}
use Rattle.ip_address.specs.declared.ip.IpAddress.TheVariants.{Ipv4, Ipv6}
use Rattle.ip_address.specs.declared.cidr.IpCidr.{IpCidr}
use Rattle.ip_address.specs.declared.cidr.IpCidr.TheVariants as cidr
use Rattle.ip_address.specs.Cidr.{broadcast_of, contains4}
use Rattle.ip_address.specs.Ipv4 as ipv4
use Rattle.ip_address.specs.Ipv6 as ipv6
use Rattle.ip_address.specs.Ipv6.{is_link_local}
use Rattle.ip_address.specs.declared.ipv6.Ipv6Address.{Ipv6Address}
use Rattle.ip_address.specs.AddressSelection.Ipv6.{source_v6}
use Rattle.iface_tables.specs.Groups.{is_member}
use Rattle.host_machine.specs.Context.Host.{Host, has_ip_addr}

-- whether an address equals another one, if there is one
abbrev pub is_that : Option Ipv4Address → Ipv4Address → Bool
is_that None a = false
is_that (Some b) a = b.bits == a.bits

-- the broadcast address of a network, if it has one
abbrev pub is_broadcast_of : IpCidr → Ipv4Address → Bool
is_broadcast_of (cidr.Ipv4 n) a = is_that (broadcast_of n) a
is_broadcast_of (cidr.Ipv6 n) a = false

-- a broadcast address: 255.255.255.255, or that of a network of the host
abbrev pub is_broadcast_v4 : List IpCidr → Ipv4Address → Bool
is_broadcast_v4 own a = ipv4.is_broadcast a || list_any (λ c. is_broadcast_of c a) own

-- a broadcast address of either family; IPv6 has none
abbrev pub is_broadcast : List IpCidr → IpAddress → Bool
is_broadcast own (Ipv4 a) = is_broadcast_v4 own a
is_broadcast own (Ipv6 a) = false

-- a unicast IPv4 address, as far as the host can know
abbrev pub is_unicast_v4 : List IpCidr → Ipv4Address → Bool
is_unicast_v4 own a = ipv4.is_unicast a && not (is_broadcast_v4 own a)

-- a valid source of a packet: a unicast address, or the unspecified one of a host without an address
abbrev pub may_be_source : List IpCidr → Ipv4Address → Bool
may_be_source own a = is_unicast_v4 own a || ipv4.is_unspecified a

-- a unicast address of either family, as far as the host can know
abbrev pub is_unicast : List IpCidr → IpAddress → Bool
is_unicast own (Ipv4 a) = is_unicast_v4 own a
is_unicast own (Ipv6 a) = ipv6.is_unicast a

-- the solicited-node group of a network's address, unless that is ::1
abbrev pub is_asked_by : Ipv6Address → IpCidr → Bool
is_asked_by a (cidr.Ipv4 n) = false
is_asked_by a (cidr.Ipv6 n) = not (ipv6.is_loopback n.address) && ((ipv6.solicited_node n.address).bits == a.bits)

-- the solicited-node group of an address of the host (RFC 4291 2.7.1)
abbrev pub has_solicited_node : List IpCidr → Ipv6Address → Bool
has_solicited_node own a = list_any (is_asked_by a) own

-- a group of which the host is a member: all-hosts (224.0.0.1) or all-nodes (ff02::1), one of its solicited-node
-- groups, or a group that it joined
abbrev pub has_multicast_group : Host → IpAddress → Bool
has_multicast_group H (Ipv4 a) = (a.bits == ipv4.all_systems.bits) || is_member H.groups (Ipv4 a)
has_multicast_group H (Ipv6 a) = (a.bits == ipv6.all_nodes.bits)
    || has_solicited_node H.ip_addrs a || is_member H.groups (Ipv6 a)

-- the loopback address ::1; over IPv4 there is none
abbrev pub is_loopback : IpAddress → Bool
is_loopback (Ipv4 a) = false
is_loopback (Ipv6 a) = ipv6.is_loopback a

-- a packet to this address is for the host: one of its own addresses, one of its groups, a broadcast address, or ::1
abbrev pub is_for_host : Host → IpAddress → Bool
is_for_host H a = has_ip_addr H a || has_multicast_group H a || is_broadcast H.ip_addrs a || is_loopback a

-- the first IPv4 address of the host
abbrev pub ipv4_addr : List IpCidr → Option Ipv4Address
ipv4_addr [] = None
ipv4_addr (cidr.Ipv4 n ∷ own) = Some n.address
ipv4_addr (cidr.Ipv6 n ∷ own) = ipv4_addr own

-- the first link-local address of the host (RFC 4291 2.5.6)
abbrev pub link_local_addr : List IpCidr → Option Ipv6Address
link_local_addr [] = None
link_local_addr (cidr.Ipv4 n ∷ own) = link_local_addr own
link_local_addr (cidr.Ipv6 n ∷ own) = if is_link_local n.address then Some n.address else link_local_addr own

-- the first IPv4 address of the host whose network contains another address
abbrev pub on_link_addr : List IpCidr → Ipv4Address → Option Ipv4Address
on_link_addr [] a = None
on_link_addr (cidr.Ipv4 n ∷ own) a = if contains4 n a then Some n.address else on_link_addr own a
on_link_addr (cidr.Ipv6 n ∷ own) a = on_link_addr own a

-- the first of two addresses that is there
abbrev pub or_else : Option Ipv4Address → Option Ipv4Address → Option Ipv4Address
or_else (Some a) other = Some a
or_else None other = other

-- the source address for a destination: the first address whose network contains it, otherwise the first IPv4 address
abbrev pub source_v4 : List IpCidr → Ipv4Address → Option Ipv4Address
source_v4 own a = or_else (on_link_addr own a) (ipv4_addr own)

-- the source address for a destination of either family; over IPv6 there is always one (RFC 6724)
abbrev pub source_for : List IpCidr → IpAddress → Option IpAddress
source_for own (Ipv4 a) = option_map (λ s. Ipv4 s) (source_v4 own a)
source_for own (Ipv6 a) = Some (Ipv6 (source_v6 own a))
