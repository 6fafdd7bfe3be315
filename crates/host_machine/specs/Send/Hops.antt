-- Where packets for an address go: the next hop (RFC 1122 3.3.1), and the hardware address of a group.
use Rattle.std.specs.Prelude.{◌≡◌, ◌/◌, ◌%◌, ◌^◌, Bool, true, false, List, [], ◌∷◌, Option, Some, None, if◌then◌else◌}
use Rattle.std.specs.Option.{option_and_then}
use Rattle.ip_address.specs.declared.ethernet_address.EthernetAddress.{EthernetAddress}
use Rattle.ip_address.specs.declared.ipv4.Ipv4Address.{Ipv4Address}
use Rattle.ip_address.specs.declared.ipv6.Ipv6Address.{Ipv6Address}
use Rattle.ip_address.specs.declared.ip.IpAddress.{IpAddress}
use Rattle.ip_address.specs.declared.ip.IpAddress.TheVariants.{Ipv4, Ipv6}
use Rattle.ip_address.specs.declared.cidr.IpCidr.{IpCidr}
use Rattle.ip_address.specs.EthernetAddress.{broadcast}
use Rattle.ip_address.specs.Ip.{is_unicast}
use Rattle.ip_address.specs.Ipv4 as ipv4
use Rattle.ip_address.specs.Ipv6 as ipv6
use Rattle.iface_tables.specs.Neighbor.{answer_of, is_found}
use Rattle.iface_tables.specs.Route.{IsRouter}
use Rattle.host_machine.specs.Context.Host.{Host, in_same_network}
use Rattle.host_machine.specs.Context.Addresses.{is_broadcast_v4}

-- the hardware address of an IPv4 group: 01:00:5e and the group's low 23 bits (RFC 1112 6.4)
abbrev pub group_address_v4 : Ipv4Address → EthernetAddress
group_address_v4 g = record { 0 = 0x01 ∷ 0 ∷ 0x5e ∷ g.bits / 2 ^ 16 % 128 ∷ g.bits / 2 ^ 8 % 256 ∷ g.bits % 256 ∷ [] }

-- the hardware address of an IPv6 group: 33:33 and the group's last four octets (RFC 2464 7)
abbrev pub group_address_v6 : Ipv6Address → EthernetAddress
group_address_v6 g = record {
  0 = 0x33 ∷ 0x33 ∷ g.bits / 2 ^ 24 % 256 ∷ g.bits / 2 ^ 16 % 256 ∷ g.bits / 2 ^ 8 % 256 ∷ g.bits % 256 ∷ [];
}

-- the hardware address for a broadcast or multicast destination, which needs no lookup
abbrev pub multicast_hardware_addr : List IpCidr → IpAddress → Option EthernetAddress
multicast_hardware_addr own (Ipv4 a) = if is_broadcast_v4 own a then Some broadcast else
    if ipv4.is_multicast a then Some (group_address_v4 a) else None
multicast_hardware_addr own (Ipv6 a) = if ipv6.is_multicast a then Some (group_address_v6 a) else None

-- a gateway, if its address is unicast
abbrev pub if_unicast : IpAddress → Option IpAddress
if_unicast a = if is_unicast a then Some a else None

-- the next hop to an address: itself in a network of the host, otherwise the gateway of the best route, if that is
-- unicast; a worse route isn't tried
pub data IsNextHop (H : Host) (a : IpAddress) (hop : Option IpAddress) : Type 0 where
  OnLink : in_same_network H.ip_addrs a ≡ true → hop ≡ Some a → IsNextHop H a hop
  ByRouter : (router : Option IpAddress) → in_same_network H.ip_addrs a ≡ false → IsRouter H.routes a H.moment router →
      hop ≡ option_and_then if_unicast router → IsNextHop H a hop

-- whether the hardware address of a hop is known
abbrev pub is_known_hop : Host → Option IpAddress → Bool
is_known_hop H None = false
is_known_hop H (Some hop) = is_found (answer_of H.neighbors hop H.moment)

-- whether the next hop to an address is a known neighbour; an address that isn't unicast has no next hop
pub data HasNeighbor (H : Host) (a : IpAddress) (known : Bool) : Type 0 where
  OfNoHost : is_unicast a ≡ false → known ≡ false → HasNeighbor H a known
  OfHost : (hop : Option IpAddress) → is_unicast a ≡ true → IsNextHop H a hop →
      known ≡ is_known_hop H hop → HasNeighbor H a known
