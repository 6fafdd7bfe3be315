-- Who sends UDP: no frame of a host carries a datagram except those of its UDP sockets, unless a raw
-- socket sends one (RFC 768).
use Rattle.std.specs.Prelude.{◌≡◌, ◌⊎◌, ℕ, ◌==◌, ◌||◌, Bool, false, List, [], ◌∷◌}
use Rattle.std.specs.List.{AllByRecursion, Contains}
use Rattle.net_base.specs.declared.phy.Medium.{Medium}
use Rattle.ip_address.specs.declared.hardware.HardwareAddress.{HardwareAddress}
use Rattle.ip_address.specs.Hardware.{IsOf}
use Rattle.ip_address.specs.Protocol.{number_of}
use Rattle.ip_wire.specs.declared.ip_packet.IpRepr.{IpRepr}
use Rattle.sockets.specs.Kinds.{down_raw}
use Rattle.fragmentation.specs.Cuts.{Datagram}
use Rattle.host_machine.specs.Context.Host.{Host, Storage}
use Rattle.host_machine.specs.Sockets.Delivery.{holds}
use Rattle.host_laws.specs.Deliveries.{BringsPacket}
use Rattle.host_laws.specs.Departures.{Way, InOneFrame, Departure, cuts_of}

-- a raw socket whose owner may send datagrams: one for UDP, or for hop-by-hop options, after which UDP may follow
abbrev pub may_be_udp : ℕ → Bool
may_be_udp number = number == 17 || number == 0

abbrev pub writes_udp : Storage → Bool
writes_udp place = holds down_raw (λ s. may_be_udp (number_of s.protocol)) place

-- a host has no such socket
abbrev pub NoSocketWritesUdp : Host → Type 0
NoSocketWritesUdp H = AllByRecursion (λ place. writes_udp place ≡ false) H.sockets.places

-- no host on the medium reads a frame as a packet for UDP; it may read a fragment of one
abbrev pub CarriesNoUdp : Medium → List ℕ → Type 0
CarriesNoUdp m frame = (K : Host) (r : IpRepr) (octets : List ℕ) →
    IsOf m K.hardware_addr → BringsPacket K frame r octets → ⊥

-- the ways in which these departures left
abbrev pub ways : List Departure → List Way
ways [] = []
ways (d ∷ ds) = d.way ∷ ways ds

-- a departure was sent in a frame, to a hardware address of the medium
abbrev pub WentIn : Medium → List Departure → List ℕ → Type 0
WentIn m departures frame = (h : HardwareAddress) × IsOf m h × Contains (ways departures) (InOneFrame h frame)

-- no other of these frames and fragmented packets carries UDP. Each frame that a host on the medium reads as a packet
-- for UDP is that of a departure, and so is each fragmented packet for UDP
pub record CarryOnly (m : Medium) (departures : List Departure) (frames : List (List ℕ))
    (cut : List Datagram) : Type 0 where
  pub frames_are : AllByRecursion (λ frame. CarriesNoUdp m frame ⊎ WentIn m departures frame) frames
  pub cuts_are : AllByRecursion (λ c. number_of c.header.next_header ≡ 17 → Contains (cuts_of departures) c) cut
