-- The host with other addresses, and with room for more.
use Rattle.std.specs.Prelude.{ℕ, List, length, min, max}
use Rattle.std.specs.FinMap as map
use Rattle.ip_address.specs.declared.cidr.IpCidr.{IpCidr}
use Rattle.iface_tables.specs.Neighbor.{Neighbors}
use Rattle.iface_tables.specs.Slaac.{with_room}
use Rattle.host_machine.specs.declared.capacities.Capacities.{Capacities}
use Rattle.host_machine.specs.Context.Host.{Host}
use Rattle.host_machine.specs.Context.Membership.{groups_for}

-- no neighbour is known; the silence stays unchanged
abbrev pub without_neighbors : Neighbors → Neighbors
without_neighbors n = record n { known = map.empty }

-- the host with other addresses: no neighbour is known, and its solicited-node groups are those of the addresses
abbrev pub after_address_change : Host → List IpCidr → Host
after_address_change H list = record H {
  ip_addrs = list;
  neighbors = without_neighbors H.neighbors;
  groups = groups_for H.hardware_addr list H.group_room H.groups;
}

-- for how many addresses there is room where a number is asked for: four at least, and those that it has, sixteen at most
abbrev pub addr_room_for : ℕ → List IpCidr → ℕ
addr_room_for n own = max (max 4 (min n 16)) (length own)

-- the host with room for as many addresses, groups, prefixes and routers as asked for, as far as it can have; what it
-- has stays
abbrev pub with_capacities : Host → Capacities → Host
with_capacities H c = record H {
  addr_room = addr_room_for c.addresses H.ip_addrs;
  group_room = min c.groups 16;
  slaac = with_room H.slaac c.prefixes c.routers;
}
