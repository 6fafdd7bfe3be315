-- How a host begins, and which configurations are refused.
use Rattle.std.specs.Prelude.{ℕ, ◌/◌, ◌^◌, ◌==◌, ◌&&◌, ℤ, pos, Bool, true, false}
use Rattle.std.specs.Prelude.{not, [], Option, Some, None, nat_lt, if◌then◌else◌}
use Rattle.net_base.specs.declared.phy.DeviceCapabilities.{DeviceCapabilities}
use Rattle.net_base.specs.declared.phy.Medium.{Medium}
use Rattle.net_base.specs.declared.phy.Medium.TheVariants as medium
use Rattle.net_base.specs.Checksum.{ip_mtu_of}
use Rattle.net_base.specs.Rand.{next}
use Rattle.ip_address.specs.declared.hardware.HardwareAddress.{HardwareAddress}
use Rattle.ip_address.specs.declared.hardware.HardwareAddress.TheVariants as hardware
use Rattle.ip_address.specs.Hardware.{medium_of, is_unicast}
use Rattle.host_machine.specs.declared.results.HardwareError.{HardwareError}
use Rattle.host_machine.specs.declared.results.HardwareError.TheVariants.{WrongMedium}
use Rattle.host_machine.specs.declared.results.HardwareError.TheVariants as hardware_error
use Rattle.host_machine.specs.declared.results.NewError.{NewError}
use Rattle.host_machine.specs.declared.results.NewError.TheVariants.{MediumMismatch, NotUnicast}
use Rattle.host_machine.specs.declared.results.NewError.TheVariants.{MtuTooSmall, MtuTooLarge}
use Rattle.iface_tables.specs.declared.report.IgmpReportState.TheVariants as igmp
use Rattle.iface_tables.specs.declared.report.MldReportState.TheVariants as mld
use Rattle.iface_tables.specs.Neighbor.{first_neighbors}
use Rattle.fragmentation.specs.Slots.{free_slots}
use Rattle.iface_tables.specs.Slaac.{initial_state}
use Rattle.host_machine.specs.Context.Host.{Host, SocketSet}

abbrev pub same_medium : Medium → Medium → Bool
same_medium medium.Ethernet medium.Ethernet = true
same_medium medium.Ip medium.Ip = true
same_medium medium.Ethernet medium.Ip = false
same_medium medium.Ip medium.Ethernet = false

-- why no interface is created, the first reason that applies: the address doesn't match the medium, or isn't unicast;
-- the packets are shorter than the 576 octets that every host must accept (RFC 791), or the frames longer than the
-- buffer of 1,514 octets
abbrev pub refusal_of : DeviceCapabilities → HardwareAddress → Option NewError
refusal_of c h =
    if not (same_medium (medium_of h) c.medium) then Some MediumMismatch else
    if not (is_unicast h) then Some NotUnicast else
    if nat_lt (ip_mtu_of c) 576 then Some MtuTooSmall else
    if nat_lt 1514 c.max_transmission_unit then Some MtuTooLarge else None

-- the first identification: one draw from the seed, with 1 in place of 0
abbrev pub first_id : ℕ → ℕ
first_id seed = if next seed / 2 ^ 48 == 0 then 1 else next seed / 2 ^ 48

-- a host at first, with SLAAC or without: room for four addresses, four routes, four neighbours, eight groups and two
-- datagrams in reassembly, no address, route, neighbour, silence, fragment, pending fragment or group, and nothing
-- learnt from routers; the reassembly timeout is 60 s (RFC 1122 3.3.2), and one word was drawn from its source of
-- random words
abbrev pub first_host : DeviceCapabilities → HardwareAddress → ℕ → Bool → ℤ → SocketSet → Host
first_host c h seed slaac t sockets = record {
  capabilities = c;
  hardware_addr = h;
  moment = t;
  ip_addrs = [];
  addr_room = 4;
  any_ip = false;
  routes = [];
  route_room = 4;
  neighbors = first_neighbors 4;
  ipv4_id = first_id seed;
  reassembly_timeout = 60000000;
  slots = free_slots 2;
  left = [];
  groups = [];
  group_room = 8;
  igmp_report = igmp.Inactive;
  mld_report = mld.Inactive;
  slaac_enabled = slaac;
  slaac = initial_state;
  slaac_updated_at = pos 0;
  random = next seed;
  sockets = sockets;
}

-- an address of a medium with hardware addresses
abbrev pub is_ethernet : HardwareAddress → Bool
is_ethernet (hardware.Ethernet e) = true
is_ethernet hardware.Ip = false

-- a hardware address, on a medium with such addresses
abbrev pub if_ethernet : HardwareAddress → Option HardwareAddress
if_ethernet (hardware.Ethernet e) = Some (hardware.Ethernet e)
if_ethernet hardware.Ip = None

-- why a hardware address is refused, the first reason that applies: it isn't an Ethernet address, or the medium has
-- none; or it isn't unicast
abbrev pub hardware_refusal_of : DeviceCapabilities → HardwareAddress → Option HardwareError
hardware_refusal_of c h =
    if not (is_ethernet h && same_medium (medium_of h) c.medium) then Some WrongMedium else
    if not (is_unicast h) then Some hardware_error.NotUnicast else None
