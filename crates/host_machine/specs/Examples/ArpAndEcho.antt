-- Worked examples: the frames of an ARP request and an echo request, and how the host of 192.168.69.1/24 at
-- 02:00:00:00:00:01 processes them.
use Rattle.std.specs.Prelude.{ℕ, ℤ, pos, false, List, [], ◌∷◌, drop, None}
use Rattle.std.specs.FinMap as map
use Rattle.std.proofs.Common.{lit≤}
use Rattle.net_base.specs.Device.{Received, Frame, Sent}
use Rattle.net_base.specs.declared.phy.DeviceCapabilities.{DeviceCapabilities}
use Rattle.net_base.specs.declared.phy.Medium.TheVariants as medium
use Rattle.net_base.specs.declared.phy.Checksum.TheVariants as checksum
use Rattle.ip_address.specs.declared.cidr.IpCidr.TheVariants as cidr
use Rattle.ip_address.specs.declared.hardware.HardwareAddress.TheVariants as hardware
use Rattle.ip_address.specs.declared.ip.IpAddress.TheVariants as ip
use Rattle.ip_address.specs.declared.hardware.HardwareAddress.{HardwareAddress}
use Rattle.ip_address.specs.declared.ip.IpAddress.{IpAddress}
use Rattle.iface_tables.specs.Neighbor.{Neighbors, after_renewal}
use Rattle.fragmentation.specs.Slots.{free_slots}
use Rattle.host_machine.specs.declared.results.PollIngressSingleResult.TheVariants as result
use Rattle.host_machine.specs.Context.Note.{Note, OfDiscovery, OfIdentification, Ask, Identify}
use Rattle.iface_tables.specs.declared.report.IgmpReportState.TheVariants as igmp
use Rattle.iface_tables.specs.declared.report.MldReportState.TheVariants as mld
use Rattle.iface_tables.specs.Slaac.{initial_state}
use Rattle.host_machine.specs.Context.Host.{Host, no_sockets}
use Rattle.host_machine.specs.Interface.Ingress.{Ingress}

-- a device with all checksums left to the stack
abbrev pub device : DeviceCapabilities
device = record {
  medium = medium.Ethernet;
  max_transmission_unit = 1514;
  max_burst_size = None;
  checksum = record {
    ipv4 = checksum.Both;
    udp = checksum.Both;
    tcp = checksum.Both;
    icmpv4 = checksum.Both;
    icmpv6 = checksum.Both;
  };
}

-- who has 192.168.69.1? Tell 192.168.69.100 at 02:00:00:00:00:02
abbrev pub request : List ℕ
request =
    0xff ∷ 0xff ∷ 0xff ∷ 0xff ∷ 0xff ∷ 0xff ∷ 0x02 ∷ 0 ∷ 0 ∷ 0 ∷ 0 ∷ 0x02 ∷ 0x08 ∷ 0x06
    ∷ 0 ∷ 1 ∷ 0x08 ∷ 0 ∷ 6 ∷ 4 ∷ 0 ∷ 1
    ∷ 0x02 ∷ 0 ∷ 0 ∷ 0 ∷ 0 ∷ 0x02 ∷ 192 ∷ 168 ∷ 69 ∷ 100
    ∷ 0 ∷ 0 ∷ 0 ∷ 0 ∷ 0 ∷ 0 ∷ 192 ∷ 168 ∷ 69 ∷ 1 ∷ []

-- 192.168.69.1 is at 02:00:00:00:00:01
abbrev pub reply : List ℕ
reply =
    0x02 ∷ 0 ∷ 0 ∷ 0 ∷ 0 ∷ 0x02 ∷ 0x02 ∷ 0 ∷ 0 ∷ 0 ∷ 0 ∷ 0x01 ∷ 0x08 ∷ 0x06
    ∷ 0 ∷ 1 ∷ 0x08 ∷ 0 ∷ 6 ∷ 4 ∷ 0 ∷ 2
    ∷ 0x02 ∷ 0 ∷ 0 ∷ 0 ∷ 0 ∷ 0x01 ∷ 192 ∷ 168 ∷ 69 ∷ 1
    ∷ 0x02 ∷ 0 ∷ 0 ∷ 0 ∷ 0 ∷ 0x02 ∷ 192 ∷ 168 ∷ 69 ∷ 100 ∷ []

-- the sender of the request, as a neighbour
abbrev pub sender : IpAddress
sender = ip.Ipv4 (record { bits = 0xc0a84564 })

abbrev pub sender_hardware : HardwareAddress
sender_hardware = hardware.Ethernet (record { 0 = 2 ∷ 0 ∷ 0 ∷ 0 ∷ 0 ∷ 2 ∷ [] })

abbrev pub neighbors_with_sender : Neighbors
neighbors_with_sender = record {
  room = 4;
  known = map.insert map.empty sender (record { hardware_addr = sender_hardware; expires_at = pos 60000000 });
  silent_until = pos 0;
}

-- the same neighbour after another packet from it
abbrev pub neighbors_after_renewal : Neighbors
neighbors_after_renewal = after_renewal neighbors_with_sender sender sender_hardware (pos 60000000)

-- no neighbour is known, and discovery is silent until a moment
abbrev pub no_neighbors : ℤ → Neighbors
no_neighbors silent_until = record { room = 4; known = map.empty; silent_until = silent_until }

abbrev pub host : ℕ → Neighbors → Host
host ipv4_id neighbors = record {
  capabilities = device;
  hardware_addr = hardware.Ethernet (record { 0 = 2 ∷ 0 ∷ 0 ∷ 0 ∷ 0 ∷ 1 ∷ [] });
  moment = pos 0;
  ip_addrs = cidr.Ipv4 (record { address = record { bits = 0xc0a84501 }; prefix_len = 24; in_range = lit≤ tt }) ∷ [];
  addr_room = 4;
  any_ip = false;
  routes = [];
  route_room = 4;
  neighbors = neighbors;
  ipv4_id = ipv4_id;
  reassembly_timeout = 60000000;
  slots = free_slots 2;
  left = [];
  groups = [];
  group_room = 8;
  igmp_report = igmp.Inactive;
  mld_report = mld.Inactive;
  slaac_enabled = false;
  slaac = initial_state;
  slaac_updated_at = pos 0;
  random = 0;
  sockets = no_sockets;
}

-- the next dispatch uses this identification
abbrev pub identify : Note
identify = OfIdentification (Identify 0x1405)

-- 192.168.69.100 sends an echo request with `abcd` to 192.168.69.1
abbrev pub echo_request : List ℕ
echo_request =
    0x02 ∷ 0 ∷ 0 ∷ 0 ∷ 0 ∷ 0x01 ∷ 0x02 ∷ 0 ∷ 0 ∷ 0 ∷ 0 ∷ 0x02 ∷ 0x08 ∷ 0
    ∷ 0x45 ∷ 0 ∷ 0 ∷ 0x20 ∷ 0 ∷ 0 ∷ 0x40 ∷ 0 ∷ 0x40 ∷ 0x01 ∷ 0x2f ∷ 0x27 ∷ 192 ∷ 168 ∷ 69 ∷ 100 ∷ 192 ∷ 168 ∷ 69 ∷ 1
    ∷ 0x08 ∷ 0 ∷ 0x21 ∷ 0x04 ∷ 0x12 ∷ 0x34 ∷ 0 ∷ 0x01 ∷ 0x61 ∷ 0x62 ∷ 0x63 ∷ 0x64 ∷ []

-- the reply of 192.168.69.1
abbrev pub echo_reply : List ℕ
echo_reply =
    0x02 ∷ 0 ∷ 0 ∷ 0 ∷ 0 ∷ 0x02 ∷ 0x02 ∷ 0 ∷ 0 ∷ 0 ∷ 0 ∷ 0x01 ∷ 0x08 ∷ 0
    ∷ 0x45 ∷ 0 ∷ 0 ∷ 0x20 ∷ 0 ∷ 0 ∷ 0x40 ∷ 0 ∷ 0x40 ∷ 0x01 ∷ 0x2f ∷ 0x27 ∷ 192 ∷ 168 ∷ 69 ∷ 1 ∷ 192 ∷ 168 ∷ 69 ∷ 100
    ∷ 0 ∷ 0 ∷ 0x29 ∷ 0x04 ∷ 0x12 ∷ 0x34 ∷ 0 ∷ 0x01 ∷ 0x61 ∷ 0x62 ∷ 0x63 ∷ 0x64 ∷ []

-- who has 192.168.69.100? Tell 192.168.69.1
abbrev pub discovery : List ℕ
discovery =
    0xff ∷ 0xff ∷ 0xff ∷ 0xff ∷ 0xff ∷ 0xff ∷ 0x02 ∷ 0 ∷ 0 ∷ 0 ∷ 0 ∷ 0x01 ∷ 0x08 ∷ 0x06
    ∷ 0 ∷ 1 ∷ 0x08 ∷ 0 ∷ 6 ∷ 4 ∷ 0 ∷ 1
    ∷ 0x02 ∷ 0 ∷ 0 ∷ 0 ∷ 0 ∷ 0x01 ∷ 192 ∷ 168 ∷ 69 ∷ 1
    ∷ 0xff ∷ 0xff ∷ 0xff ∷ 0xff ∷ 0xff ∷ 0xff ∷ 192 ∷ 168 ∷ 69 ∷ 100 ∷ []

-- the ARP request is answered, and its sender known from then on
abbrev pub RequestIsAnswered : Type 0
RequestIsAnswered =
    Ingress (pos 0) result.SocketStateChanged (host 0x1405 (no_neighbors (pos 0)))
    (Received (pos 0) (Frame request) ∷ Sent 0 reply ∷ []) [] (host 0x1405 neighbors_with_sender)

-- an echo request of a known sender is answered, and uses an identification
abbrev pub EchoIsAnswered : Type 0
EchoIsAnswered =
    Ingress (pos 0) result.SocketStateChanged (host 0x1405 neighbors_with_sender)
    (Received (pos 0) (Frame echo_request) ∷ Sent 0 echo_reply ∷ []) (identify ∷ [])
    (host 0x1406 neighbors_after_renewal)

-- in place of the reply to an unknown sender a discovery request is sent, and the silence begins
abbrev pub SenderIsDiscovered : Type 0
SenderIsDiscovered =
    Ingress (pos 0) result.SocketStateChanged (host 0x1405 (no_neighbors (pos 0)))
    (Received (pos 0) (Frame echo_request) ∷ Sent 0 discovery ∷ []) (identify ∷ OfDiscovery (Ask (pos 0)) ∷ [])
    (host 0x1406 (no_neighbors (pos 1000000)))

-- the host on a medium without hardware addresses
abbrev pub without_hardware : ℕ → Host
without_hardware ipv4_id = record (host ipv4_id (no_neighbors (pos 0))) {
  capabilities = record device { medium = medium.Ip; max_transmission_unit = 1500 };
  hardware_addr = hardware.Ip;
}

-- there the packet of the request is answered by that of the reply, and no neighbour need be known
abbrev pub PacketIsAnswered : Type 0
PacketIsAnswered =
    Ingress (pos 0) result.SocketStateChanged (without_hardware 0x1405)
    (Received (pos 0) (Frame (drop 14 echo_request)) ∷ Sent 0 (drop 14 echo_reply) ∷ [])
    (identify ∷ []) (without_hardware 0x1406)
