-- A ping from an ICMP socket of one host to another host on its Ethernet, and back (RFC 792, RFC 1122 3.2.2.6): if each
-- frame is received, the reply is in the queue of a socket with the identifier.
use Rattle.std.specs.Prelude.{◌≡◌, ℕ, ◌+◌, ◌<◌, ◌≤◌, ◌^◌, ℤ, true, List, [], ◌∷◌, ◌++◌, length, slice_get, Some}
use Rattle.net_base.specs.Checksum.{is_tx, ip_mtu_of}
use Rattle.net_base.specs.Device.{Event, sent_frames}
use Rattle.ip_address.specs.declared.ethernet_address.EthernetAddress.{EthernetAddress}
use Rattle.ip_address.specs.declared.hardware.HardwareAddress.TheVariants as hardware
use Rattle.ip_address.specs.declared.ip.IpAddress.TheVariants.{Ipv4}
use Rattle.ip_address.specs.declared.ipv4.Ipv4Address.{Ipv4Address}
use Rattle.control_wire.specs.declared.icmpv4.Icmpv4Repr.{Icmpv4Repr}
use Rattle.control_wire.specs.declared.icmpv4.Icmpv4Repr.TheVariants.{EchoRequest, EchoReply}
use Rattle.control_wire.specs.Icmpv4.{icmpv4_in}
use Rattle.sockets.specs.Queue.{is_room}
use Rattle.sockets.specs.Icmp.{IcmpSocket}
use Rattle.sockets.specs.declared.icmp.Endpoint.TheVariants.{Ident}
use Rattle.sockets.specs.declared.socket.SocketOf.TheVariants.{Icmp}
use Rattle.host_machine.specs.declared.results.PollResult.{PollResult}
use Rattle.host_machine.specs.Context.Note.{Note}
use Rattle.host_machine.specs.Context.Host.{Host, at, is_assigned}
use Rattle.host_machine.specs.Context.Addresses.{is_unicast_v4}
use Rattle.host_machine.specs.Packet.Packet.{PacketV4, Icmpv4}
use Rattle.host_machine.specs.Packet.Packet as packet
use Rattle.host_machine.specs.Packet.Frame.{ip_frame}
use Rattle.host_machine.specs.Interface.Egress.{Egress}
use Rattle.host_laws.specs.Laws.Service.{HasFirstEcho, IsOfLink, IsReached, MayBeAsked, Takes, all_granted}

-- a host, as another one on its Ethernet knows it
pub record End : Type 0 where
  pub hardware_addr : EthernetAddress
  pub addr : Ipv4Address

-- what an echo request carries, and its reply returns (RFC 792)
pub record Echo : Type 0 where
  pub ident : ℕ
  pub seq_no : ℕ
  pub octets : List ℕ

-- a call of a host: when, the host before it, what the device was told, and the host after it
pub record Call : Type 0 where
  pub moment : ℤ
  pub before : Host
  pub told : List Event
  pub after : Host

abbrev pub echo_packet : (source destination : End) → ℕ → Icmpv4Repr → Echo → PacketV4
echo_packet source destination hop_limit message e = record {
  src_addr = source.addr;
  dst_addr = destination.addr;
  hop_limit = hop_limit;
  payload = Icmpv4 message e.octets;
}

-- the request, and the reply, whose hop limit is 64
abbrev pub request_packet : (source destination : End) → ℕ → Echo → PacketV4
request_packet source destination hop_limit e =
    echo_packet source destination hop_limit (EchoRequest e.ident e.seq_no) e

abbrev pub reply_packet : (source destination : End) → Echo → PacketV4
reply_packet source destination e = echo_packet source destination 64 (EchoReply e.ident e.seq_no) e

-- the frame in which a host sends a packet to an end
abbrev pub frame_to : Host → End → PacketV4 → List ℕ
frame_to H end p = ip_frame H (hardware.Ethernet end.hardware_addr) (packet.Ipv4 p)

-- a host is at an end on Ethernet, computes the checksums of IPv4 and of ICMP, and knows a peer's address as that of
-- one host, at the peer's hardware address
pub record Knows (H : Host) (own peer : End) : Type 0 where
  pub on_ethernet : H.hardware_addr ≡ hardware.Ethernet own.hardware_addr
  pub octets : length own.hardware_addr.0 ≡ 6
  pub bits : own.addr.bits < 2 ^ 32
  pub given : is_assigned H.ip_addrs (Ipv4 own.addr) ≡ true
  pub one : is_unicast_v4 H.ip_addrs own.addr ≡ true
  pub of_link : IsOfLink own.addr
  pub peer_is_one : is_unicast_v4 H.ip_addrs peer.addr ≡ true
  pub reached : IsReached H (Ipv4 peer.addr) (hardware.Ethernet peer.hardware_addr)
  pub headers_summed : is_tx H.capabilities.checksum.ipv4 ≡ true
  pub messages_summed : is_tx H.capabilities.checksum.icmpv4 ≡ true

-- a request and its reply fit the packets that two hosts may send
pub record FitsBoth (e : Echo) (A B : Host) : Type 0 where
  pub ident : e.ident < 2 ^ 16
  pub seq_no : e.seq_no < 2 ^ 16
  pub a : 28 + length e.octets ≤ ip_mtu_of A.capabilities
  pub b : 28 + length e.octets ≤ ip_mtu_of B.capabilities
  pub short : 28 + length e.octets < 2 ^ 16

-- a call sends, with every transmit token granted; an ICMP socket at an index has the request first in its queue, with
-- a source for the peer, and may be asked
pub record SendsPing (i : ℕ) (own peer : End) (e : Echo) (c : Call) : Type 0 where
  pub answer : PollResult
  pub notes : List Note
  pub call : Egress c.moment answer c.before c.told notes c.after
  pub granted : all_granted c.told ≡ true
  pub socket : IcmpSocket
  pub first : HasFirstEcho (at c.before c.moment) i socket own.addr peer.addr e.ident e.seq_no e.octets
  pub may : MayBeAsked (at c.before c.moment) i

-- an ICMP socket at an index has the identifier, and room for the reply
pub record AwaitsReply (k : ℕ) (e : Echo) (H : Host) : Type 0 where
  pub socket : IcmpSocket
  pub here : slice_get H.sockets.places k ≡ Some (Some (Icmp socket))
  pub endpoint : socket.endpoint ≡ Ident e.ident
  pub room : is_room socket.rx (8 + length e.octets) ≡ true

-- a ping of A, at the end a, to B, at the end b: what A sends in a call, B receives in a call, and what B sends there,
-- A receives in another call, where socket k awaits it
pub record Pings (a b : End) (e : Echo) (i k : ℕ) (asks answers hears : Call) : Type 0 where
  pub a_knows : Knows (at asks.before asks.moment) a b
  pub b_knows : Knows (at answers.before answers.moment) b a
  pub c_knows : Knows (at hears.before hears.moment) a b
  pub fits : FitsBoth e asks.before answers.before
  pub sends : SendsPing i a b e asks
  pub b_takes : Takes (hardware.Ethernet b.hardware_addr) answers.moment
      (frame_to asks.before b (request_packet a b sends.socket.hop_limit e)) answers.before answers.told answers.after
  pub a_takes : Takes (hardware.Ethernet a.hardware_addr) hears.moment
      (frame_to answers.before a (reply_packet b a e)) hears.before hears.told hears.after
  pub awaits : AwaitsReply k e hears.before

-- A sends the request, B answers it by the reply alone, and the reply, with its identifier, its sequence number and its
-- data, is last in the queue of A's socket, as from B
pub record ComesBack (a b : End) (hop_limit : ℕ) (e : Echo) (k : ℕ) (asks answers hears : Call)
    (socket : IcmpSocket) : Type 0 where
  pub front : List (List ℕ)
  pub back : List (List ℕ)
  pub request : sent_frames asks.told
      ≡ front ++ (frame_to asks.before b (request_packet a b hop_limit e) ∷ back)
  pub reply : sent_frames answers.told ≡ frame_to answers.before a (reply_packet b a e) ∷ []
  pub message : List ℕ
  pub queued : slice_get hears.after.sockets.places k ≡ Some (Some (Icmp (record socket {
    rx = record socket.rx { packets = socket.rx.packets ++ (Ipv4 b.addr, message) ∷ [] };
  })))
  pub values : icmpv4_in message ≡ (EchoReply e.ident e.seq_no, e.octets)

abbrev pub PingsComeBack : Type 0
PingsComeBack =
    (a b : End) (e : Echo) (i k : ℕ) (asks answers hears : Call) → (p : Pings a b e i k asks answers hears) →
    ComesBack a b p.sends.socket.hop_limit e k asks answers hears p.awaits.socket
