-- A neighbour from which packets are received stays known (RFC 1122 2.3.2.1).
use Rattle.std.specs.Prelude.{if◌then◌else◌}
use Rattle.ip_address.specs.declared.hardware.HardwareAddress.{HardwareAddress}
use Rattle.ip_wire.specs.declared.ip_packet.IpRepr.{IpRepr}
use Rattle.ip_wire.specs.IpPacket.{src_addr, dst_addr}
use Rattle.iface_tables.specs.Neighbor.{after_renewal, expiry_from}
use Rattle.host_machine.specs.Context.Host.{Host, with_neighbors}
use Rattle.host_machine.specs.Context.Addresses.{is_unicast}

-- a neighbour that sends a packet to the host alone, from the hardware address at which it is known, is kept
-- for another 60 seconds
abbrev pub sender_renewed : HardwareAddress → IpRepr → Host → Host
sender_renewed source r H =
    if is_unicast H.ip_addrs (dst_addr r)
    then with_neighbors H (after_renewal H.neighbors (src_addr r) source (expiry_from H.moment)) else H
