-- Packets as values, apart from where their octets are in memory.
use Rattle.std.specs.Prelude.{ℕ, ◌%◌, ◌^◌, List, [], Some, drop}
use Rattle.control_wire.specs.declared.icmpv4.Icmpv4Repr.TheVariants as icmpv4
use Rattle.control_wire.specs.declared.icmpv6.Icmpv6Repr.TheVariants as icmpv6
use Rattle.control_wire.specs.declared.ndisc.NdiscRepr.TheVariants as ndisc
use Rattle.control_wire.specs.Icmpv4.{echo_reply_to}
use Rattle.control_wire.specs.Icmpv6 as v6
use Rattle.ip_wire.specs.declared.ip_packet.IpRepr.{IpRepr}
use Rattle.ip_wire.specs.declared.ip_packet.IpRepr.TheVariants as repr
use Rattle.host_machine.specs.Packet.Packet as value
use Rattle.iface_context.specs.declared.payload.IpPayload.{IpPayload}
use Rattle.iface_context.specs.declared.payload.IpPayload.TheVariants.{Icmpv4, Icmpv6, Udp, Tcp, Raw, Igmp, Mld}
use Rattle.iface_context.specs.declared.payload.IpPayload.TheVariants as any
use Rattle.iface_context.specs.declared.payload.EchoReplyV4.{EchoReplyV4}
use Rattle.iface_context.specs.declared.payload.EchoReplyV6.{EchoReplyV6}
use Rattle.iface_context.specs.declared.payload.Unreachable.{Unreachable}
use Rattle.iface_context.specs.declared.payload.UnreachableV6.{UnreachableV6}
use Rattle.iface_context.specs.declared.payload.NeighborAdvert.{NeighborAdvert}
use Rattle.iface_context.specs.declared.payload.Datagram.{Datagram}
use Rattle.iface_context.specs.declared.payload.Segment.{Segment}
use Rattle.iface_context.specs.declared.packet.PacketV4.{PacketV4}
use Rattle.iface_context.specs.declared.packet.PacketV6.{PacketV6}
use Rattle.iface_context.specs.declared.packet.Packet.{Packet}
use Rattle.iface_context.specs.declared.packet.Packet.TheVariants.{Ipv4, Ipv6}

abbrev pub payload : IpPayload → value.IpPayload
payload (Icmpv4 message octets) = value.Icmpv4 message octets.now
payload (Icmpv6 message octets) = value.Icmpv6 message octets.now
payload (any.EchoReplyV4 request) = value.Icmpv4 (echo_reply_to request.octets.now) (drop 8 request.octets.now)
payload (any.EchoReplyV6 request) = value.Icmpv6 (v6.echo_reply_to request.octets.now) (drop 8 request.octets.now)
payload (Udp header octets) = value.Udp header octets.now
payload (Tcp header octets) = value.Tcp header octets.now
payload (Raw number octets) = value.Raw number octets.now
payload (Igmp message) = value.Igmp message
payload (Mld count records) = value.Mld count records.now

-- payloads of one kind
abbrev pub echo_reply_v4 : EchoReplyV4 → value.IpPayload
echo_reply_v4 p = value.Icmpv4 (echo_reply_to p.request.octets.now) (drop 8 p.request.octets.now)

abbrev pub echo_reply_v6 : EchoReplyV6 → value.IpPayload
echo_reply_v6 p = value.Icmpv6 (v6.echo_reply_to p.request.octets.now) (drop 8 p.request.octets.now)

abbrev pub unreachable : Unreachable → value.IpPayload
unreachable p = value.Icmpv4 (icmpv4.DstUnreachable p.reason p.header) p.octets.now

abbrev pub unreachable_v6 : UnreachableV6 → value.IpPayload
unreachable_v6 p = value.Icmpv6 (icmpv6.DstUnreachable p.reason p.header) p.octets.now

abbrev pub neighbor_advert : NeighborAdvert → value.IpPayload
neighbor_advert p = value.Icmpv6 (icmpv6.Ndisc (ndisc.NeighborAdvert p.flags p.target_addr (Some p.lladdr))) []

abbrev pub datagram : Datagram → value.IpPayload
datagram p = value.Udp p.header p.octets.now

abbrev pub segment : Segment → value.IpPayload
segment p = value.Tcp p.header p.octets.now

-- the octets after its protocol's header
abbrev pub octets_after : IpPayload → List ℕ
octets_after (Icmpv4 message octets) = octets.now
octets_after (Icmpv6 message octets) = octets.now
octets_after (any.EchoReplyV4 request) = drop 8 request.octets.now
octets_after (any.EchoReplyV6 request) = drop 8 request.octets.now
octets_after (Udp header octets) = octets.now
octets_after (Tcp header octets) = octets.now
octets_after (Raw number octets) = octets.now
octets_after (Igmp message) = []
octets_after (Mld count records) = records.now

-- packets, given the values of their payloads
abbrev pub packet_v4 : {P : Type 0} → (P → value.IpPayload) → PacketV4 P → value.PacketV4
packet_v4 carried p =
    record { src_addr = p.src_addr; dst_addr = p.dst_addr; hop_limit = p.hop_limit; payload = carried p.payload }

abbrev pub packet_v6 : {P : Type 0} → (P → value.IpPayload) → PacketV6 P → value.PacketV6
packet_v6 carried p =
    record { src_addr = p.src_addr; dst_addr = p.dst_addr; hop_limit = p.hop_limit; payload = carried p.payload }

abbrev pub packet : Packet → value.Packet
packet (Ipv4 p) = value.Ipv4 (packet_v4 payload p)
packet (Ipv6 p) = value.Ipv6 (packet_v6 payload p)

-- a header whose payload's length is as the field of 16 bits has it
abbrev pub with_field_len : IpRepr → IpRepr
with_field_len (repr.Ipv4 r) = repr.Ipv4 (record r { payload_len = r.payload_len % 2 ^ 16 })
with_field_len (repr.Ipv6 r) = repr.Ipv6 (record r { payload_len = r.payload_len % 2 ^ 16 })
