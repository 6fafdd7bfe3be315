-- The state of a host (RFC 1122): what its interface and its sockets stand for.
use Rattle.std.specs.Prelude.{ℕ, ℤ, Bool, false, ◌&&◌, ◌||◌, List, [], Option, Some, None, ◌+◌, ◌%◌, ◌^◌}
use Rattle.std.specs.Borrow.{Bor}
use Rattle.std.specs.List.{list_any, list_all}
use Rattle.std.specs.FinMap as map
use Rattle.net_base.specs.declared.phy.DeviceCapabilities.{DeviceCapabilities}
use Rattle.ip_address.specs.declared.ip.IpAddress.{IpAddress}
use Rattle.ip_address.specs.declared.cidr.IpCidr.{IpCidr}
use Rattle.ip_address.specs.declared.hardware.HardwareAddress.{HardwareAddress}
use Rattle.ip_address.specs.Ip.{is_unicast, is_unspecified}
use Rattle.ip_address.specs.Cidr.{address_of, contains}
use Rattle.iface_tables.specs.Neighbor.{Neighbors}
use Rattle.fragmentation.specs.Slots.{Slots, free_slots, live_at}
use Rattle.iface_tables.specs.Slaac.{SlaacState}
use Rattle.fragmentation.specs.Cuts.{Piece}
use Rattle.iface_tables.specs.declared.route.Route.{Route}
use Rattle.iface_tables.specs.Route.{best, router_of}
use Rattle.iface_tables.specs.declared.groups.Group.{Group}
use Rattle.iface_tables.specs.declared.report.IgmpReportState.{IgmpReportState}
use Rattle.iface_tables.specs.declared.report.MldReportState.{MldReportState}
use Rattle.socket_set.specs.SocketSet.{Sockets}
use Rattle.socket_set.specs.SocketSet as table
use Rattle.sockets.specs.Source.{is_same}
use Rattle.sockets.specs.declared.socket.SocketOf.{SocketOf}

-- a socket of any kind
abbrev pub Socket : Type 0
Socket = SocketOf (Bor (Unit {0}))

-- an entry of a socket set: it holds a socket, or it is free
abbrev pub Storage : Type 0
Storage = Option Socket

-- the sockets that a host serves, by index, each with its wait
abbrev pub SocketSet : Type 0
SocketSet = Sockets (Bor (Unit {0}))

abbrev pub no_sockets : SocketSet
no_sockets = record { places = []; waits = []; grows = false; room = 0 }

pub record Host : Type 0 where
  pub capabilities : DeviceCapabilities  -- of its device, when the interface was created
  pub hardware_addr : HardwareAddress
  pub moment : ℤ  -- of the last call that gave one
  pub ip_addrs : List IpCidr  -- its addresses with their prefix lengths, in the order given
  pub addr_room : ℕ  -- for how many addresses there is room
  pub any_ip : Bool  -- whether addresses that are routed to it count as its own (AnyIP)
  pub routes : List Route  -- its routes, in the order in which they are stored
  pub route_room : ℕ  -- for how many routes there is room
  pub neighbors : Neighbors  -- the neighbours it knows, and until when it sends no discovery
  pub ipv4_id : ℕ  -- the next identification of a packet, 16 bits
  pub reassembly_timeout : ℕ  -- of slots that are taken from now on, in microseconds
  pub slots : Slots  -- the datagrams in reassembly: some fragments were received, others are missing
  pub left : List Piece  -- the pending fragments of the packet that was fragmented last, in order
  pub groups : List Group  -- the multicast groups that it is in or is leaving, in the order in which they are walked
  pub group_room : ℕ  -- for how many groups there is room
  pub igmp_report : IgmpReportState  -- the pending IGMP report, and when it is due
  pub mld_report : MldReportState  -- the pending MLD report, and when it is due
  pub slaac_enabled : Bool  -- whether it takes IPv6 addresses from router advertisements
  pub slaac : SlaacState  -- the prefixes and routers that it learnt, and the state of router discovery
  pub slaac_updated_at : ℤ  -- when its addresses and routes were last synchronized with those
  pub random : ℕ  -- the state of its source of random words
  pub sockets : SocketSet

-- the host at another moment
abbrev pub at : Host → ℤ → Host
at H t = record H { moment = t }

-- the host with other slots
abbrev pub with_slots : Host → Slots → Host
with_slots H slots = record H { slots = slots }

-- the host with so many slots, all free
abbrev pub with_slot_room : Host → ℕ → Host
with_slot_room H room = record H { slots = free_slots room }

-- the host at another moment, without the slots that have expired then
abbrev pub without_expired : Host → ℤ → Host
without_expired H t = record H { moment = t; slots = live_at t H.slots }

-- the host with other pending fragments
abbrev pub with_left : Host → List Piece → Host
with_left H left = record H { left = left }

-- the host with other neighbours
abbrev pub with_neighbors : Host → Neighbors → Host
with_neighbors H n = record H { neighbors = n }

-- the host with room for so many neighbours, none of which is known yet; a silence stays
abbrev pub with_neighbor_room : Host → ℕ → Host
with_neighbor_room H room = record H { neighbors = record H.neighbors { room = room; known = map.empty } }

-- the host without routes, and with room for so many
abbrev pub with_route_room : Host → ℕ → Host
with_route_room H room = record H { routes = []; route_room = room }

-- the host with other groups
abbrev pub with_groups : Host → List Group → Host
with_groups H groups = record H { groups = groups }

-- the host with other sockets at its indices; their waits stay unchanged
abbrev pub with_places : Host → List Storage → Host
with_places H places = record H { sockets = table.with_places H.sockets places }

-- an address that was assigned to the host
abbrev pub is_assigned : List IpCidr → IpAddress → Bool
is_assigned own a = list_any (λ c. is_same (address_of c) a) own

-- whether an address was assigned to the host, if there is one
abbrev pub is_one_assigned : List IpCidr → Option IpAddress → Bool
is_one_assigned own None = false
is_one_assigned own (Some a) = is_assigned own a

-- an address that is routed to the host: it is unicast, and the gateway of its best route is an
-- address assigned to the host
abbrev pub is_routed_here : Host → IpAddress → Bool
is_routed_here H a = is_unicast a && is_one_assigned H.ip_addrs (router_of (best H.routes a H.moment))

-- an own address of the host: one assigned to it or, with AnyIP, one routed to it
abbrev pub has_ip_addr : Host → IpAddress → Bool
has_ip_addr H a = is_assigned H.ip_addrs a || H.any_ip && is_routed_here H a

-- an address in a network of the host
abbrev pub in_same_network : List IpCidr → IpAddress → Bool
in_same_network own a = list_any (λ c. contains c a) own

-- addresses that an interface may have: each is unicast or unspecified
abbrev pub are_assignable : List IpCidr → Bool
are_assignable list = list_all (λ c. is_unicast (address_of c) || is_unspecified (address_of c)) list

-- a host after it used an identification (RFC 791 3.2)
abbrev pub with_next_id : Host → Host
with_next_id H = record H { ipv4_id = (H.ipv4_id + 1) % 2 ^ 16 }

abbrev pub with_igmp_report : Host → IgmpReportState → Host
with_igmp_report H report = record H { igmp_report = report }

abbrev pub with_mld_report : Host → MldReportState → Host
with_mld_report H report = record H { mld_report = report }

-- the host with another state of what it learnt
abbrev pub with_slaac : Host → SlaacState → Host
with_slaac H learnt = record H { slaac = learnt }
