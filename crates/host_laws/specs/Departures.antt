-- What leaves the transmit queues of UDP sockets, and in which frames it is sent (RFC 768, RFC 791 3.2).
use Rattle.std.specs.Prelude.{◌≡◌, ℕ, ◌==◌, ◌<◌, ◌≤◌, true, false, List, [], ◌∷◌, Option, Some, None, if◌then◌else◌}
use Rattle.net_base.specs.Checksum.{ip_mtu_of}
use Rattle.ip_address.specs.declared.ip.IpAddress.{IpAddress}
use Rattle.ip_address.specs.declared.hardware.HardwareAddress.{HardwareAddress}
use Rattle.ip_address.specs.Ip.{is_unspecified}
use Rattle.sockets.specs.declared.endpoint.IpEndpoint.{IpEndpoint}
use Rattle.sockets.specs.Source.{source_of}
use Rattle.sockets.specs.Udp.{UdpSocket, without_first_to_send}
use Rattle.fragmentation.specs.Cuts.{Datagram, Piece, pieces_of}
use Rattle.host_machine.specs.Context.Host.{Host}
use Rattle.host_machine.specs.Context.Addresses.{source_for}
use Rattle.host_machine.specs.Packet.Packet.{Packet, PacketV4, IsFormed, Udp, total_len}
use Rattle.host_machine.specs.Packet.Packet as packet
use Rattle.host_machine.specs.Packet.Frame.{ip_frame, piece_frame}
use Rattle.host_machine.specs.Context.Pieces.{datagram_of}
use Rattle.host_machine.specs.Send.Dispatch.{may_be_cut}
use Rattle.host_machine.specs.Sockets.Offers.{packet_between}
use Rattle.host_laws.specs.Deliveries.{udp_at}

-- how a datagram left: it was dropped; it was sent to a hardware address in a frame; or it was fragmented, and its
-- first fragment sent in a frame
pub data Way : Type 0 where
  Dropped : Way
  InOneFrame : (to : HardwareAddress) (frame : List ℕ) → Way
  InPieces : (cut : Datagram) → (first : List ℕ) → Way

-- a datagram that left a socket's transmit queue: the socket's index, its destination, its payload, and how it left
pub record Departure : Type 0 where
  pub index : ℕ
  pub destination : IpEndpoint
  pub payload : List ℕ
  pub way : Way

-- its packet, from a source address: with the socket's port and hop limit, and its own destination and payload
abbrev pub packet_of : UdpSocket → Departure → IpAddress → Option Packet
packet_of s d src = packet_between src d.destination.addr s.hop_limit
    (Udp (record { src_port = s.endpoint.port; dst_port = d.destination.port }) d.payload)

-- the source address with which it is sent: the socket's own, or the one that the host has for its destination
abbrev pub departs_from : Host → UdpSocket → Departure → Option IpAddress
departs_from H s d = source_of (source_for H.ip_addrs) s.endpoint.addr d.destination.addr

-- How a datagram leaves its socket's queue. It is sent in one packet, whose values fit the fields of its forms:
-- whole, if it fits the device's IP MTU, or else fragmented, by its first fragment. Or it is dropped: because
-- there is no source for it; because its destination is unspecified (0.0.0.0 or ::); or because it is longer and
-- may not be fragmented.
pub data Departs (H : Host) (s : UdpSocket) (d : Departure) : Type 0 where
  GoesWhole : (src : IpAddress) (p : Packet) (h : HardwareAddress) →
      departs_from H s d ≡ Some src → packet_of s d src ≡ Some p →
      total_len p ≤ ip_mtu_of H.capabilities → IsFormed p → d.way ≡ InOneFrame h (ip_frame H h p) → Departs H s d
  GoesInPieces : (src : IpAddress) (q : PacketV4) (h : HardwareAddress) (identification : ℕ)
      (first : Piece) (rest : List Piece) →
      departs_from H s d ≡ Some src → packet_of s d src ≡ Some (packet.Ipv4 q) →
      ip_mtu_of H.capabilities < total_len (packet.Ipv4 q) →
      may_be_cut (packet.Ipv4 q) ≡ true →
      pieces_of (datagram_of H h identification q) ≡ first ∷ rest → IsFormed (packet.Ipv4 q) →
      d.way ≡ InPieces (datagram_of H h identification q) (piece_frame H first) → Departs H s d
  NoSource : departs_from H s d ≡ None → d.way ≡ Dropped → Departs H s d
  ToUnspecified : is_unspecified d.destination.addr ≡ true → d.way ≡ Dropped → Departs H s d
  TooLong : (src : IpAddress) (p : Packet) → departs_from H s d ≡ Some src → packet_of s d src ≡ Some p →
      ip_mtu_of H.capabilities < total_len p →
      may_be_cut p ≡ false → d.way ≡ Dropped → Departs H s d

-- the socket that it left is there, and it left the socket in this way
pub record HasDeparted (H : Host) (d : Departure) : Type 0 where
  pub socket : UdpSocket
  pub there : udp_at H.sockets d.index ≡ Some socket
  pub leaves : Departs H socket d

-- the frames of them that were sent immediately, and the packets that were fragmented, in order
abbrev pub frames_by : Way → List (List ℕ) → List (List ℕ)
frames_by Dropped frames = frames
frames_by (InOneFrame to frame) frames = frame ∷ frames
frames_by (InPieces cut first) frames = first ∷ frames

abbrev pub frames_of : List Departure → List (List ℕ)
frames_of [] = []
frames_of (d ∷ ds) = frames_by d.way (frames_of ds)

abbrev pub cuts_by : Way → List Datagram → List Datagram
cuts_by Dropped cuts = cuts
cuts_by (InOneFrame to frame) cuts = cuts
cuts_by (InPieces cut first) cuts = cut ∷ cuts

abbrev pub cuts_of : List Departure → List Datagram
cuts_of [] = []
cuts_of (d ∷ ds) = cuts_by d.way (cuts_of ds)

-- the departures from the socket at an index, in order
abbrev pub from_index : ℕ → List Departure → List Departure
from_index i [] = []
from_index i (d ∷ ds) = if d.index == i then d ∷ from_index i ds else from_index i ds

-- the departures as entries of the queue
abbrev pub entries : List Departure → List (IpEndpoint × List ℕ)
entries [] = []
entries (d ∷ ds) = (d.destination, d.payload) ∷ entries ds

-- the socket without this many at the front of its transmit queue
abbrev pub without : List Departure → UdpSocket → UdpSocket
without [] s = s
without (d ∷ ds) s = without ds (without_first_to_send s)
