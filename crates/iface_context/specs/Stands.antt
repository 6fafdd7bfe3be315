-- Which host a context stands for.
use Rattle.arrayvec.specs.ArrayVec.{ArrayVec}
use Rattle.ip_address.specs.declared.cidr.IpCidr.{IpCidr}
use Rattle.iface_tables.specs.declared.route.Route.{Route}
use Rattle.iface_tables.specs.Store.{Stored}
use Rattle.fragmentation.specs.Slots.{Slots, free_slots}
use Rattle.host_machine.specs.Context.Host.{Host, SocketSet, with_slots}
use Rattle.iface_context.specs.declared.context.Context.{Context}

-- a list of addresses, as an interface keeps it
abbrev pub Addresses : Type 0
Addresses = ArrayVec IpCidr

-- a context with other routes
abbrev pub with_routes : Context → Stored Route → Context
with_routes c routes = record c { routes = routes }

-- the host of a context with these sockets; the slots for fragments are kept beside the context, so here they are a
-- new host's
abbrev pub host_of : Context → SocketSet → Host
host_of c sockets = record {
  capabilities = c.capabilities;
  hardware_addr = c.hardware_addr;
  moment = c.moment;
  ip_addrs = c.ip_addrs.items;
  addr_room = c.addr_room;
  any_ip = c.any_ip;
  routes = c.routes.items;
  route_room = c.routes.room;
  neighbors = c.neighbor_cache;
  ipv4_id = c.ipv4_id;
  reassembly_timeout = c.reassembly_timeout;
  slots = free_slots 2;
  left = c.fragmenter.pieces;
  groups = c.multicast.groups;
  group_room = c.multicast.room;
  igmp_report = c.multicast.igmp_report;
  mld_report = c.multicast.mld_report;
  slaac_enabled = c.slaac_enabled;
  slaac = c.slaac;
  slaac_updated_at = c.slaac_updated_at;
  random = c.rand;
  sockets = sockets;
}

-- the host of a context with these slots and these sockets
abbrev pub host_in : Context → Slots → SocketSet → Host
host_in c slots sockets = with_slots (host_of c sockets) slots
