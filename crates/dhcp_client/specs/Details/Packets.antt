-- A client's messages as octets (RFC 2131 4.1): UDP from port 68 to port 67.
use Rattle.std.specs.Prelude.{ℕ, ◌+◌, Bool, true, false, List, [], ◌++◌, length, if◌then◌else◌}
use Rattle.ip_address.specs.declared.ipv4.Ipv4Address.{Ipv4Address}
use Rattle.ip_address.specs.declared.ip.IpAddress.TheVariants.{Ipv4}
use Rattle.ip_address.specs.declared.protocol.IpProtocol.TheVariants as protocol
use Rattle.ip_wire.specs.declared.ipv4_packet.Ipv4Repr.{Ipv4Repr}
use Rattle.ip_wire.specs.declared.udp.UdpRepr.{UdpRepr}
use Rattle.ip_wire.specs.Ipv4Packet as ipv4
use Rattle.ip_wire.specs.Udp as udp
use Rattle.dhcp_client.specs.Details.Message as dhcp
use Rattle.dhcp_client.specs.declared.message.DhcpMessageType.{DhcpMessageType}
use Rattle.dhcp_client.specs.declared.message.DhcpMessageType.TheVariants.{Discover, Offer, Request, Decline, Ack, Nak, Release, Inform}
use Rattle.dhcp_client.specs.declared.messages.DhcpMessage.{DhcpMessage}
use Rattle.dhcp_client.specs.declared.wishes.DhcpWishes.{DhcpWishes}
use Rattle.dhcp_client.specs.Details.Wishes.{parameters_of}

-- a DECLINE and a RELEASE ask for nothing, and tell no name (RFC 2131 table 5)
abbrev pub asks : DhcpMessageType → Bool
asks Discover = true
asks Offer = true
asks Request = true
asks Decline = false
asks Ack = true
asks Nak = true
asks Release = false
asks Inform = true

-- a message, with what it asks for (RFC 2132 9.8), and the host's name
abbrev pub message_text : DhcpWishes → DhcpMessage → List ℕ
message_text w m =
    if asks m.repr.message_type then dhcp.text m.repr (parameters_of w) w.host_name.items else dhcp.text m.repr [] []

abbrev pub header_of : Ipv4Address → Ipv4Address → ℕ → Ipv4Repr
header_of src dst len = record { src_addr = src; dst_addr = dst; next_header = protocol.Udp; payload_len = 8 + len; hop_limit = 64 }

abbrev pub ports : UdpRepr
ports = record { src_port = 68; dst_port = 67 }

-- a packet with the checksums of both headers
abbrev pub packet_text : Ipv4Address → Ipv4Address → List ℕ → List ℕ
packet_text src dst payload =
    ipv4.header_text true (header_of src dst (length payload)) ipv4.whole ++ udp.text true (Ipv4 src) (Ipv4 dst) ports payload

-- a message as a packet, from the client's address; that is 0.0.0.0 as long as it has none
abbrev pub packet_of : DhcpWishes → DhcpMessage → List ℕ
packet_of w m = packet_text m.repr.client_ip m.dst (message_text w m)
