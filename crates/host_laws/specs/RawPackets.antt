-- Several hosts on one medium, each of which may get frames of any: what a raw socket of one gets of a protocol that
-- only raw sockets speak there was sent by a raw socket of one of them.
use Rattle.std.specs.Prelude.{◌≡◌, ◌≢◌, ◌⊎◌, ◌++◌, ℕ, true, false, List, [], Option, Some, None}
use Rattle.std.specs.Option.{option_and_then, option_map}
use Rattle.std.specs.List.{AllByRecursion, Contains, slice_get}
use Rattle.net_base.specs.Checksum.{is_tx}
use Rattle.net_base.specs.Device.{handed_frames, sent_frames}
use Rattle.net_base.specs.declared.phy.Medium.{Medium}
use Rattle.ip_address.specs.declared.hardware.HardwareAddress.{HardwareAddress}
use Rattle.ip_address.specs.declared.ip.IpAddress.{IpAddress}
use Rattle.ip_address.specs.declared.protocol.IpProtocol.TheVariants as protocol
use Rattle.ip_address.specs.declared.protocol.IpVersion.{IpVersion}
use Rattle.ip_address.specs.declared.protocol.IpVersion.TheVariants.{Ipv4, Ipv6}
use Rattle.ip_address.specs.Protocol.{number_of, protocol_of}
use Rattle.ip_wire.specs.IpPacket.{next_header, src_addr}
use Rattle.ip_wire.specs.Ipv4Packet.{IsHeader, is_fragment}
use Rattle.ip_wire.specs.Ipv6Packet.{ipv6_in}
use Rattle.ip_wire.specs.HopByHop.{hop_by_hop_in}
use Rattle.sockets.specs.Raw.{RawSocket, packet_to_send}
use Rattle.sockets.specs.Tcp.{TcpSocket}
use Rattle.sockets.specs.Kinds.{down_tcp}
use Rattle.socket_set.specs.SocketSet.{socket_at}
use Rattle.fragmentation.specs.Cuts.{Piece, piece_header, piece_fragment}
use Rattle.host_machine.specs.Context.Note.{slot_notes}
use Rattle.host_machine.specs.Context.Host.{Host, SocketSet}
use Rattle.host_machine.specs.Context.Real.{IsReal, IsRegular}
use Rattle.host_machine.specs.Interface.Run.{Transition, Run}
use Rattle.host_laws.specs.Deliveries.{CarriesIpv6}
use Rattle.host_laws.specs.Datagrams.{host_at_command}
use Rattle.host_laws.specs.Network.{Runs, IsHost, WereSentBySome}
use Rattle.host_laws.specs.RawArrivals.{RawArrival, Arrive, BringsRaw, raw_at, receiver_at, with_arrivals}

-- Who speaks a protocol

-- a protocol, by its number, in which no interface sends anything of its own but resets, and no socket but raw ones and
-- those for TCP: neither hop-by-hop options, ICMP, IGMP, UDP nor ICMPv6
pub record IsLeftToSockets (n : ℕ) : Type 0 where
  pub no_options : n ≢ 0
  pub no_icmp : n ≢ 1
  pub no_igmp : n ≢ 2
  pub no_udp : n ≢ 17
  pub no_icmpv6 : n ≢ 58

-- the TCP socket at an index, if there is one
abbrev pub tcp_at : SocketSet → ℕ → Option TcpSocket
tcp_at sockets i = option_and_then down_tcp (socket_at sockets i)

-- there is a raw socket for a version of IP and a protocol
pub record HasRaw (version : IpVersion) (n : ℕ) (sockets : SocketSet) : Type 0 where
  pub index : ℕ
  pub socket : RawSocket
  pub there : raw_at sockets index ≡ Some socket
  pub version_is : socket.version ≡ version
  pub protocol_is : number_of socket.protocol ≡ n

-- a frame carries no segment after hop-by-hop options
abbrev pub HasNoSegmentAfterOptions : HardwareAddress → List ℕ → Type 0
HasNoSegmentAfterOptions h frame = (packet : List ℕ) → CarriesIpv6 h frame packet →
    number_of (ipv6_in packet).0.next_header ≡ 0 → (hop_by_hop_in (ipv6_in packet).1).0.next_header ≡ protocol.Tcp → ⊥

-- A raw socket takes each packet with a segment that a host may get in these frames, so its interface answers none by a
-- reset (RFC 9293 3.5.2). A packet whose segment is after hop-by-hop options is one of the protocol 0: a raw socket
-- takes those, too, or none arrives.
pub record TakesSegments (H : Host) (frames : List (List ℕ)) : Type 0 where
  pub over_ipv4 : HasRaw Ipv4 6 H.sockets
  pub over_ipv6 : HasRaw Ipv6 6 H.sockets
  pub after_options : HasRaw Ipv6 0 H.sockets ⊎ AllByRecursion (HasNoSegmentAfterOptions H.hardware_addr) frames

-- a host that gets these frames leaves TCP to raw sockets: it has no TCP socket, and if there is a frame, raw sockets
-- take each segment
pub record LeavesSegments (H : Host) (frames : List (List ℕ)) : Type 0 where
  pub no_socket : (i : ℕ) → tcp_at H.sockets i ≡ None
  pub taken : (frames ≡ []) ⊎ TakesSegments H frames

-- only raw sockets speak the protocol in a transition
abbrev pub OnlyRawSpeak : ℕ → Transition → Type 0
OnlyRawSpeak n p = n ≡ 6 → LeavesSegments p.before (handed_frames p.told)

-- A pending fragment, if it is of the protocol, is a part of a packet: more fragments follow, or some precede, and its
-- values fit the fields of a header (RFC 791 3.1).
pub record IsPartIf (n : ℕ) (p : Piece) : Type 0 where
  pub part : number_of p.header.next_header ≡ n → is_fragment (piece_fragment p) ≡ true
  pub header : number_of p.header.next_header ≡ n →
      IsHeader (record (piece_header p) { next_header = protocol_of n }) (piece_fragment p)

-- a host's run on a medium, in which only raw sockets speak the protocol
pub record SendsByRaw (n : ℕ) (m : Medium) (first : Host) (ps : List Transition) : Type 0 where
  pub last : Host
  pub run : Run first ps last
  pub regular : IsRegular first
  pub one_medium : first.capabilities.medium ≡ m
  pub pending : AllByRecursion (IsPartIf n) first.left
  pub only : AllByRecursion (OnlyRawSpeak n) ps

-- What was sent

-- what a raw socket has to send after a transition: what it had, less what left the front of its transmit queue
pub record LosesFront (after : SocketSet) (index : ℕ) (s : RawSocket) : Type 0 where
  pub socket : RawSocket
  pub there : raw_at after index ≡ Some socket
  pub left : List (Unit {0} × List ℕ)
  pub front : left ++ socket.tx.packets ≡ s.tx.packets

-- A packet that arrived at a host was sent in a transition by a raw socket: among what left the front of the socket's
-- transmit queue there are octets that are read as this header and this payload; and a frame was sent there that brings
-- the packet.
pub record WasSentRawAt (K : Host) (p : Transition) (a : RawArrival) : Type 0 where
  pub index : ℕ
  pub socket : RawSocket
  pub there : raw_at p.before.sockets index ≡ Some socket
  pub fronts : LosesFront p.after.sockets index socket
  pub octets : List ℕ
  pub has_left : Contains fronts.left (tt, octets)
  pub is_read : packet_to_send socket octets ≡ Some (record { header = a.header; payload = a.payload })
  pub frame : List ℕ
  pub went : Contains (sent_frames p.told) frame
  pub brings : BringsRaw K frame [] a

-- that, in some transition of the run
abbrev pub WasSentRaw : Host → List Transition → RawArrival → Type 0
WasSentRaw K ps a = (p : Transition) × Contains ps p × WasSentRawAt K p a

-- no other host's raw socket sends from this address
abbrev pub IsRawAddressOf : Host → List Host → Runs → IpAddress → ℕ → Type 0
IsRawAddressOf K hosts runs address j = (k : ℕ) (a : RawArrival) →
    IsHost hosts k → WasSentRaw K (runs k) a → src_addr a.header ≡ address → k ≡ j

-- A packet was sent by a raw socket of one of the hosts; and if no other host's raw socket sends from its source
-- address than one, by that one's.
pub record WasSentRawBySome (K : Host) (hosts : List Host) (runs : Runs) (a : RawArrival) : Type 0 where
  pub sender : ℕ
  pub is_host : IsHost hosts sender
  pub sent : WasSentRaw K (runs sender) a
  pub by_owner : (j : ℕ) → IsRawAddressOf K hosts runs (src_addr a.header) j → WasSentRaw K (runs j) a

-- if it is of the protocol and arrived in one packet; of one that arrived in fragments nothing is said
abbrev pub WasSentIf : ℕ → Host → List Host → Runs → RawArrival → Type 0
WasSentIf n K hosts runs a =
    a.is_reassembled ≡ false → number_of (next_header a.header) ≡ n → WasSentRawBySome K hosts runs a

-- What raw sockets get in a transition. Unless its owner acts, each raw socket is, apart from what it has to send, as
-- it was, with the packets that arrived appended to its receive queue; and it has to send what it had, less the front.
-- Each packet arrived in a frame received there. If it is of the protocol, and came in one packet, a raw socket of one
-- of the hosts sent it.
pub record GetsRaw (n : ℕ) (hosts : List Host) (runs : Runs) (q : Transition) : Type 0 where
  pub arrivals : List RawArrival
  pub came : Arrive (host_at_command q.command q.before) (handed_frames q.told) (slot_notes q.notes) arrivals
  pub queues : q.acts ≡ [] → (i : ℕ) → receiver_at q.after.sockets i
      ≡ option_map (with_arrivals (is_tx q.before.capabilities.checksum.ipv4) arrivals) (receiver_at q.before.sockets i)
  pub fronts : q.acts ≡ [] → (i : ℕ) (s : RawSocket) →
      raw_at q.before.sockets i ≡ Some s → LosesFront q.after.sockets i s
  pub sent : AllByRecursion (WasSentIf n (host_at_command q.command q.before) hosts runs) arrivals

-- If a host receives only frames that hosts on its medium sent, each packet of a protocol that one of its raw sockets
-- gets in one packet was sent by a raw socket of one of them, with that header and that payload. Only raw sockets
-- of these hosts speak the protocol.
abbrev pub RunsGetRawPacketsSent : Type 0
RunsGetRawPacketsSent =
    (n : ℕ) (hosts : List Host) (runs : Runs) (b b' : Host) (qs : List Transition) → IsLeftToSockets n →
    Run b qs b' → IsReal b →
    ((j : ℕ) (a : Host) → slice_get hosts j ≡ Some a → SendsByRaw n b.capabilities.medium a (runs j)) →
    WereSentBySome hosts runs qs → AllByRecursion (GetsRaw n hosts runs) qs
