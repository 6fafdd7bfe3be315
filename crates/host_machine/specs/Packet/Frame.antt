-- The octets of the frames that a host sends.
use Rattle.std.specs.Prelude.{ℕ, ◌+◌, ◌-◌, ◌*◌, nat_le, List, [], ◌∷◌, ◌++◌, map, Option, Some, None, if◌then◌else◌}
use Rattle.net_base.specs.declared.phy.DeviceCapabilities.{DeviceCapabilities}
use Rattle.net_base.specs.Checksum.{is_tx}
use Rattle.net_base.specs.Device.{Event, Sent}
use Rattle.ip_wire.specs.declared.arp.ArpRepr.{ArpRepr}
use Rattle.ip_wire.specs.declared.ethernet.EthernetProtocol.{EthernetProtocol}
use Rattle.ip_wire.specs.declared.ethernet.EthernetProtocol.TheVariants as protocol
use Rattle.ip_address.specs.declared.hardware.HardwareAddress.{HardwareAddress}
use Rattle.ip_address.specs.declared.hardware.HardwareAddress.TheVariants as hardware
use Rattle.ip_wire.specs.Ethernet.{header_text}
use Rattle.ip_wire.specs.Arp.{text}
use Rattle.ip_wire.specs.Ipv4Packet as ipv4
use Rattle.ip_wire.specs.Tcp as tcp
use Rattle.ip_wire.specs.Udp as udp
use Rattle.ip_wire.specs.declared.tcp.TcpRepr.{TcpRepr}
use Rattle.control_wire.specs.Icmpv4 as icmpv4
use Rattle.control_wire.specs.Icmpv6 as icmpv6
use Rattle.control_wire.specs.declared.icmpv6.Icmpv6Repr.TheVariants.{Mld as MldMessage}
use Rattle.control_wire.specs.Igmp as igmp
use Rattle.control_wire.specs.declared.mld.MldRepr.TheVariants.{Report}
use Rattle.ip_wire.specs.HopByHop as hop_by_hop
use Rattle.ip_wire.specs.declared.hop_by_hop.Ipv6HopByHopRepr.{Ipv6HopByHopRepr}
use Rattle.ip_wire.specs.declared.hop_by_hop.Ipv6OptionRepr.TheVariants.{RouterAlert, PadN}
use Rattle.ip_address.specs.declared.protocol.IpProtocol.TheVariants as ip_protocol
use Rattle.fragmentation.specs.Cuts.{Piece, piece_header, piece_fragment}
use Rattle.host_machine.specs.Context.Host.{Host}
use Rattle.ip_wire.specs.declared.ip_packet.IpRepr.{IpRepr}
use Rattle.ip_wire.specs.IpPacket.{src_addr, dst_addr, header_len}
use Rattle.ip_wire.specs.IpPacket as ip
use Rattle.host_machine.specs.Packet.Packet.{IpPayload, Icmpv4, Icmpv6, Udp, Tcp, Raw, Igmp}
use Rattle.host_machine.specs.Packet.Packet.{Mld, Packet, Ipv4, Ipv6, header_of, payload_of}

-- an ARP packet is sent from its sender's hardware address to its target's
abbrev pub arp_frame : ArpRepr → List ℕ
arp_frame r = header_text (record {
  src_addr = r.source_hardware_addr;
  dst_addr = r.target_hardware_addr;
  ethertype = protocol.Arp;
}) ++ text r

-- a window within the bursts that a device can take: at most that many segments, each as long as its packets allow
abbrev pub window_within : Option ℕ → ℕ → ℕ → ℕ
window_within None segment window = window
window_within (Some burst) segment window = if nat_le window (burst * segment) then window else burst * segment

-- a segment's header after an IP header of this many octets: its window is within the device's bursts
abbrev pub with_limited_window : DeviceCapabilities → ℕ → TcpRepr → TcpRepr
with_limited_window c ip_header_len r = record r {
  window_len = window_within c.max_burst_size (c.max_transmission_unit - (ip_header_len + 20)) r.window_len;
}

-- options that ask routers to examine a packet (RFC 2711), padded to eight octets
abbrev pub mld_options : Ipv6HopByHopRepr
mld_options = record { next_header = ip_protocol.Icmpv6; options = record { items = RouterAlert 0 ∷ PadN 0 ∷ [] } }

-- a payload, each form with its checksum if the device leaves that to the stack. A checksum covers the pseudo-header,
-- if there is one, and the payload, and no octet after it
abbrev pub payload_text : DeviceCapabilities → IpRepr → IpPayload → List ℕ
payload_text c r (Icmpv4 message octets) = icmpv4.text (is_tx c.checksum.icmpv4) (is_tx c.checksum.ipv4) message octets
payload_text c r (Icmpv6 message octets) =
    icmpv6.text (is_tx c.checksum.icmpv6) (src_addr r) (dst_addr r) message octets
payload_text c r (Udp header octets) = udp.text (is_tx c.checksum.udp) (src_addr r) (dst_addr r) header octets
payload_text c r (Tcp header octets) =
    tcp.text (is_tx c.checksum.tcp) (src_addr r) (dst_addr r) (with_limited_window c (header_len r) header) octets
payload_text c r (Raw number octets) = octets
payload_text c r (Igmp message) = igmp.text message
payload_text c r (Mld count records) =
    hop_by_hop.text mld_options
    ++ icmpv6.text (is_tx c.checksum.icmpv6) (src_addr r) (dst_addr r) (MldMessage (Report count)) records

-- a packet: its header, and its payload
abbrev pub packet_text : DeviceCapabilities → Packet → List ℕ
packet_text c p = ip.header_text (is_tx c.checksum.ipv4) (header_of p) ++ payload_text c (header_of p) (payload_of p)

abbrev pub ethertype_of : Packet → EthernetProtocol
ethertype_of (Ipv4 p) = protocol.Ipv4
ethertype_of (Ipv6 p) = protocol.Ipv6

-- the link-layer header of a packet, on a link with hardware addresses
abbrev pub link_header : HardwareAddress → HardwareAddress → EthernetProtocol → List ℕ
link_header (hardware.Ethernet source) (hardware.Ethernet destination) type =
    header_text (record { src_addr = source; dst_addr = destination; ethertype = type })
link_header (hardware.Ethernet source) hardware.Ip type = []
link_header hardware.Ip (hardware.Ethernet destination) type = []
link_header hardware.Ip hardware.Ip type = []

-- the frame of a packet from the host's hardware address to another
abbrev pub ip_frame : Host → HardwareAddress → Packet → List ℕ
ip_frame H destination p = link_header H.hardware_addr destination (ethertype_of p) ++ packet_text H.capabilities p

-- a fragment: the header of its packet, and its octets (RFC 791 3.2)
abbrev pub piece_text : DeviceCapabilities → Piece → List ℕ
piece_text c p = ipv4.header_text (is_tx c.checksum.ipv4) (piece_header p) (piece_fragment p) ++ p.fragment.octets

-- the frame of a fragment from the host's hardware address to that of its packet
abbrev pub piece_frame : Host → Piece → List ℕ
piece_frame H p = link_header H.hardware_addr p.destination protocol.Ipv4 ++ piece_text H.capabilities p

-- frames that are sent, each with metadata 0
abbrev pub sends : List (List ℕ) → List Event
sends frames = map (Sent 0) frames

-- the frame in a buffer, unless it is empty
abbrev pub frames_in : List ℕ → List (List ℕ)
frames_in [] = []
frames_in (octet ∷ octets) = (octet ∷ octets) ∷ []
