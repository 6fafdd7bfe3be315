-- The packet that a socket offers.
use Rattle.std.specs.Prelude.{ℕ, Option, Some, None}
use Rattle.std.specs.Option.{option_and_then}
use Rattle.ip_address.specs.declared.ip.IpAddress.{IpAddress}
use Rattle.ip_address.specs.declared.ip.IpAddress.TheVariants as address
use Rattle.ip_wire.specs.IpPacket.{next_header}
use Rattle.sockets.specs.Kinds.{Offered, RawOffer, IcmpOffer, UdpOffer, TcpOffer, offered_packet, socket_after_offer}
use Rattle.host_machine.specs.Context.Host.{Host, Socket}
use Rattle.host_machine.specs.Context.Addresses.{source_for}
use Rattle.host_machine.specs.Packet.Packet.{IpPayload, Udp, Tcp, Raw, Packet, Ipv4, Ipv6, packet_with}
use Rattle.host_machine.specs.Sockets.Icmp.{echo_payload}

-- a packet between two addresses of the same family
abbrev pub packet_between : IpAddress → IpAddress → ℕ → IpPayload → Option Packet
packet_between (address.Ipv4 src) (address.Ipv4 dst) hop_limit payload =
    Some (Ipv4 (record { src_addr = src; dst_addr = dst; hop_limit = hop_limit; payload = payload }))
packet_between (address.Ipv4 src) (address.Ipv6 dst) hop_limit payload = None
packet_between (address.Ipv6 src) (address.Ipv4 dst) hop_limit payload = None
packet_between (address.Ipv6 src) (address.Ipv6 dst) hop_limit payload =
    Some (Ipv6 (record { src_addr = src; dst_addr = dst; hop_limit = hop_limit; payload = payload }))

-- the packet that a socket offers; a raw socket's header is written anew from its addresses, its
-- protocol and its hop limit
abbrev pub packet_of : Offered → Option Packet
packet_of (RawOffer s) = Some (packet_with s.header (Raw (next_header s.header) s.payload))
packet_of (IcmpOffer m) =
    option_and_then (packet_between m.src_addr m.dst_addr m.hop_limit) (echo_payload m.repr m.payload)
packet_of (UdpOffer d) = packet_between d.src.addr d.dst.addr d.hop_limit
    (Udp (record { src_port = d.src.port; dst_port = d.dst.port }) d.payload)
packet_of (TcpOffer s) = packet_between s.src_addr s.dst_addr s.hop_limit (Tcp s.repr s.payload)

-- the first packet that a socket has to send, and the socket after it was asked for it
abbrev pub packet_from : Host → Socket → Option Packet
packet_from H s = option_and_then packet_of (offered_packet H.moment (source_for H.ip_addrs) s)

abbrev pub socket_after_asking : Host → Socket → Socket
socket_after_asking H s = socket_after_offer H.moment (source_for H.ip_addrs) s
