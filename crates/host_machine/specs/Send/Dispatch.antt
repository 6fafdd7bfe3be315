-- Dispatch of one IP packet, with a transmit token (RFC 1122 3.3.1, RFC 826): the next hop, its
-- hardware address, the frame.
use Rattle.std.specs.Prelude.{◌≡◌, ℕ, ◌≤◌, ◌<◌, nat_le, Bool, true, false, List, [], ◌∷◌, Some, None, Ok, Err}
use Rattle.net_base.specs.Checksum.{ip_mtu_of}
use Rattle.ip_address.specs.declared.ethernet_address.EthernetAddress.{EthernetAddress}
use Rattle.ip_address.specs.declared.hardware.HardwareAddress.{HardwareAddress}
use Rattle.ip_address.specs.declared.hardware.HardwareAddress.TheVariants as hardware
use Rattle.ip_address.specs.declared.ip.IpAddress.{IpAddress}
use Rattle.ip_address.specs.Ip.{is_unspecified}
use Rattle.iface_tables.specs.declared.neighbor.Answer.TheVariants.{Found, NotFound, RateLimited}
use Rattle.iface_tables.specs.Neighbor.{answer_of}
use Rattle.fragmentation.specs.Cuts.{Piece, pieces_of, HasForm}
use Rattle.ip_wire.specs.IpPacket.{dst_addr}
use Rattle.host_machine.specs.declared.results.DispatchError.TheVariants.{NoRoute, NeighborPending}
use Rattle.host_machine.specs.Context.Note.{Note, OfIdentification, OfCuts, Identify, Cut, PieceSent}
use Rattle.host_machine.specs.Context.Host.{Host, with_left, with_next_id}
use Rattle.host_machine.specs.Packet.Packet.{Packet, PacketV4, IsFormed, total_len, header_of}
use Rattle.host_machine.specs.Packet.Packet as packet
use Rattle.host_machine.specs.Packet.Frame.{ip_frame, piece_frame}
use Rattle.host_machine.specs.Send.Outcome.{Outcome, IsUnsent}
use Rattle.host_machine.specs.Context.Pieces.{datagram_of}
use Rattle.host_machine.specs.Send.Requests.{Discovers}
use Rattle.host_machine.specs.Send.Hops.{multicast_hardware_addr, IsNextHop}

abbrev pub destination_of : Packet → IpAddress
destination_of p = dst_addr (header_of p)

-- a packet may be fragmented: over IPv4, if it has at most 4,096 octets; over IPv6 it isn't
-- fragmented here (RFC 8200 5)
abbrev pub may_be_cut : Packet → Bool
may_be_cut (packet.Ipv4 p) = nat_le (total_len (packet.Ipv4 p)) 4096
may_be_cut (packet.Ipv6 p) = false

-- the packet is sent to a hardware address, or dropped: whole, if it fits the device's IP MTU; otherwise, if it may be
-- fragmented, its first fragment is sent and the others become pending, in place of what was; otherwise it is dropped
-- (RFC 791 3.2). The values of a packet that is sent fit the fields of its forms
pub data Emits (id : ℕ) (p : Packet) (h : HardwareAddress) (outcome : Outcome) (H : Host) (frames : List (List ℕ))
    (notes : List Note) (new : Host) : Type 0 where
  Whole : total_len p ≤ ip_mtu_of H.capabilities → (formed : IsFormed p) →
      outcome ≡ Ok tt → frames ≡ ip_frame H h p ∷ [] → notes ≡ [] → new ≡ H →
      Emits id p h outcome H frames notes new
  InPieces : (q : PacketV4) (first : Piece) (rest : List Piece) →
      p ≡ packet.Ipv4 q → ip_mtu_of H.capabilities < total_len p →
      may_be_cut p ≡ true → pieces_of (datagram_of H h id q) ≡ first ∷ rest →
      (fits : HasForm (datagram_of H h id q)) → (formed : IsFormed p) →
      outcome ≡ Ok tt → frames ≡ piece_frame H first ∷ [] →
      notes ≡ OfCuts (Cut (datagram_of H h id q)) ∷ OfCuts (PieceSent first) ∷ [] →
      new ≡ with_left H rest → Emits id p h outcome H frames notes new
  TooLong : ip_mtu_of H.capabilities < total_len p → may_be_cut p ≡ false →
      outcome ≡ Ok tt → IsUnsent H frames notes new →
      Emits id p h outcome H frames notes new

-- by the lookup of the hop: its address is known; it is unknown during the silence; or it is unknown,
-- and a request is sent
pub data DispatchesByHop (id : ℕ) (own : EthernetAddress) (p : Packet) (hop : IpAddress) (outcome : Outcome) (H : Host)
    (frames : List (List ℕ)) (notes : List Note) (new : Host) : Type 0 where
  Known : (h : HardwareAddress) → answer_of H.neighbors hop H.moment ≡ Found h →
      Emits id p h outcome H frames notes new →
      DispatchesByHop id own p hop outcome H frames notes new
  Silent : answer_of H.neighbors hop H.moment ≡ RateLimited → outcome ≡ Err NeighborPending → IsUnsent H frames notes new →
      DispatchesByHop id own p hop outcome H frames notes new
  Unknown : answer_of H.neighbors hop H.moment ≡ NotFound → Discovers own hop outcome H frames notes new →
      DispatchesByHop id own p hop outcome H frames notes new

-- over Ethernet: directly to a broadcast or multicast destination, otherwise by the next hop
pub data DispatchesEthernet (id : ℕ) (own : EthernetAddress) (p : Packet) (outcome : Outcome)
    (H : Host) (frames : List (List ℕ))
    (notes : List Note) (new : Host) : Type 0 where
  ToMulticast : (h : EthernetAddress) → multicast_hardware_addr H.ip_addrs (destination_of p) ≡ Some h →
      Emits id p (hardware.Ethernet h) outcome H frames notes new →
      DispatchesEthernet id own p outcome H frames notes new
  NoHop : multicast_hardware_addr H.ip_addrs (destination_of p) ≡ None → IsNextHop H (destination_of p) None →
      outcome ≡ Err NoRoute → IsUnsent H frames notes new →
      DispatchesEthernet id own p outcome H frames notes new
  ByHop : (hop : IpAddress) → multicast_hardware_addr H.ip_addrs (destination_of p) ≡ None →
      IsNextHop H (destination_of p) (Some hop) →
      DispatchesByHop id own p hop outcome H frames notes new → DispatchesEthernet id own p outcome H frames notes new

-- by the medium: one without hardware addresses needs no discovery
abbrev pub SendsOver : ℕ → HardwareAddress → Packet → Outcome → Host → List (List ℕ) → List Note → Host → Type 0
SendsOver id (hardware.Ethernet own) p outcome H frames notes new =
    DispatchesEthernet id own p outcome H frames notes new
SendsOver id hardware.Ip p outcome H frames notes new = Emits id p hardware.Ip outcome H frames notes new

-- each dispatch uses an identification, whatever the outcome, unless the destination is unspecified (0.0.0.0 or ::):
-- then the packet is dropped
pub data Dispatches (p : Packet) (outcome : Outcome) (H : Host) (frames : List (List ℕ))
    (notes : List Note) (new : Host) : Type 0 where
  ToUnspecified : is_unspecified (destination_of p) ≡ true → outcome ≡ Ok tt → IsUnsent H frames notes new →
      Dispatches p outcome H frames notes new
  ToSpecified : (more : List Note) → is_unspecified (destination_of p) ≡ false →
      SendsOver H.ipv4_id H.hardware_addr p outcome (with_next_id H) frames more new →
      notes ≡ OfIdentification (Identify H.ipv4_id) ∷ more → Dispatches p outcome H frames notes new
