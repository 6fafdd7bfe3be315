-- A packet as it is fragmented (RFC 791 3.2).
use Rattle.std.specs.Prelude.{ℕ, ◌-◌, ◌*◌, ◌/◌}
use Rattle.net_base.specs.declared.phy.DeviceCapabilities.{DeviceCapabilities}
use Rattle.net_base.specs.Checksum.{ip_mtu_of}
use Rattle.ip_address.specs.declared.hardware.HardwareAddress.{HardwareAddress}
use Rattle.fragmentation.specs.Cuts.{Datagram}
use Rattle.ip_wire.specs.declared.ip_packet.IpRepr.TheVariants as repr
use Rattle.host_machine.specs.Context.Host.{Host}
use Rattle.host_machine.specs.Packet.Packet.{PacketV4, header_v4}
use Rattle.host_machine.specs.Packet.Frame.{payload_text}

-- the size of a fragment: what fits into the device's IP MTU after the header, in units of eight octets (RFC 791 3.2)
abbrev pub piece_size : DeviceCapabilities → ℕ
piece_size c = (ip_mtu_of c - 20) / 8 * 8

-- a packet as it is fragmented: its payload is the text of the whole, including the checksum
abbrev pub datagram_of : Host → HardwareAddress → ℕ → PacketV4 → Datagram
datagram_of H h id p = record {
  destination = h;
  header = header_v4 p;
  identification = id;
  payload = payload_text H.capabilities (repr.Ipv4 (header_v4 p)) p.payload;
  size = piece_size H.capabilities;
}
