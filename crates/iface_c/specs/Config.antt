-- The configuration of a host as C writes it.
use Rattle.std.specs.Prelude.{ℕ, ◌==◌, pos, not, replicate, Option, Some, None, if◌then◌else◌}
use Rattle.std.specs.Option.{option_and_then, option_map}
use Rattle.ip_address.specs.declared.hardware.HardwareAddress.{HardwareAddress}
use Rattle.ip_address.specs.declared.hardware.HardwareAddress.TheVariants.{Ethernet, Ip}
use Rattle.net_base.specs.declared.phy.Checksum.{Checksum}
use Rattle.net_base.specs.declared.phy.Checksum.TheVariants as checksum
use Rattle.net_base.specs.declared.phy.ChecksumCapabilities.{ChecksumCapabilities}
use Rattle.host_machine.specs.declared.capacities.Capacities.{Capacities}
use Rattle.iface_host.specs.declared.host.Settings.{Settings}
use Rattle.iface_c.specs.Guarding.{usual_guard, watch_in}
use Rattle.iface_c.specs.declared.hosts.IfaceChecksums.{IfaceChecksums}
use Rattle.iface_c.specs.declared.hosts.IfaceConfig.{IfaceConfig}

-- in which directions a checksum is computed
abbrev pub directions_in : ℕ → Option Checksum
directions_in n =
    if n == 0 then Some checksum.Both
    else (if n == 1 then Some checksum.Rx
    else (if n == 2 then Some checksum.Tx else (if n == 3 then Some checksum.None else None)))

-- those of all protocols
abbrev pub checksums_in : IfaceChecksums → Option ChecksumCapabilities
checksums_in c = option_and_then (λ (a : Checksum). option_and_then (λ (b : Checksum).
    option_and_then (λ (d : Checksum). option_and_then (λ (e : Checksum).
    option_map (λ (f : Checksum). record { ipv4 = a; udp = b; tcp = d; icmpv4 = e; icmpv6 = f })
    (directions_in c.icmpv6)) (directions_in c.icmpv4)) (directions_in c.tcp)) (directions_in c.udp))
    (directions_in c.ipv4)

-- how many frames the link takes one after the other: 0 sets no bound
abbrev pub burst_in : ℕ → Option ℕ
burst_in n = if n == 0 then None else Some n

-- for how many addresses, groups, prefixes and routers there is room
abbrev pub capacities_in : IfaceConfig → Capacities
capacities_in c = record { addresses = c.addresses; groups = c.groups; prefixes = c.prefixes; routers = c.routers }

-- its settings, with an address on its link and its checksums
abbrev pub settings_with : IfaceConfig → HardwareAddress → ChecksumCapabilities → Settings
settings_with c hardware checksums = record {
  random_seed = c.seed;
  hardware_addr = hardware;
  frame_len = c.frame_len;
  slaac = not (c.slaac == 0);
  sockets = c.sockets;
  neighbors = c.neighbors;
  capacities = capacities_in c;
  routes = c.routes;
  fragmented = c.fragmented;
  burst = burst_in c.burst;
  patience = c.patience;
  reassembly_timeout = c.reassembly_timeout;
  start = c.start;
  checksum = checksums;
  watch = watch_in c.guard;
}

-- what most programs want: on Ethernet eight sockets, 64 neighbours, eight addresses, eight routes, 16 groups, four prefixes
-- and four routers, eight datagrams in fragments, three seconds of patience, as three solicitations take (RFC 4861 10), ten for
-- fragments, moment 0 to begin at, and a guard by the usual rules
abbrev pub usual : IfaceConfig
usual = record {
  seed = 0;
  patience = 3000000;
  reassembly_timeout = 10000000;
  start = pos 0;
  frame_len = 1514;
  sockets = 8;
  neighbors = 128;
  addresses = 8;
  routes = 8;
  groups = 16;
  prefixes = 4;
  routers = 4;
  fragmented = 16;
  burst = 0;
  hardware_address = replicate 6 0;
  medium = 0;
  slaac = 0;
  checksums = record { ipv4 = 0; udp = 0; tcp = 0; icmpv4 = 0; icmpv6 = 0 };
  guard = usual_guard;
}

-- its address on its link, if its medium is 0 or 1
abbrev pub hardware_in : IfaceConfig → Option HardwareAddress
hardware_in c =
    if c.medium == 0 then Some (Ethernet (record { 0 = c.hardware_address }))
    else (if c.medium == 1 then Some Ip else None)

-- its settings, if these have a meaning
abbrev pub settings_in : IfaceConfig → Option Settings
settings_in c = option_and_then (λ (hardware : HardwareAddress).
    option_map (λ (checksums : ChecksumCapabilities). settings_with c hardware checksums) (checksums_in c.checksums))
    (hardware_in c)
