-- Laws that follow from the definitions.
use Rattle.std.specs.Prelude.{◌≡◌, ℕ, ℤ, ◌≤◌, ◌≤ℤ◌, true, List, [], ◌∷◌, ◌++◌, length, drop, Ok, Err}
use Rattle.std.specs.List.{AllByRecursion}
use Rattle.net_base.specs.declared.phy.ChecksumCapabilities.{ChecksumCapabilities}
use Rattle.net_base.specs.Checksum.{is_rx}
use Rattle.net_base.specs.Device.{Event, handed_frames, sent_frames}
use Rattle.ip_address.specs.declared.hardware.HardwareAddress.{HardwareAddress}
use Rattle.ip_address.specs.declared.hardware.HardwareAddress.TheVariants as hardware
use Rattle.ip_wire.specs.declared.ethernet.EthernetProtocol.TheVariants as protocol
use Rattle.ip_wire.specs.Ethernet.{header_in}
use Rattle.ip_wire.specs.Arp.{IsArp}
use Rattle.ip_wire.specs.Ipv4Packet.{IsIpv4}
use Rattle.ip_wire.specs.Ipv6Packet.{IsIpv6}
use Rattle.host_machine.specs.declared.results.PollIngressSingleResult.{PollIngressSingleResult}
use Rattle.host_machine.specs.declared.results.DispatchError.TheVariants.{NeighborPending}
use Rattle.fragmentation.specs.Cuts.{Piece, pieces_of}
use Rattle.host_machine.specs.Context.Note.{Note, Cut, PieceSent, asks, cut_notes}
use Rattle.host_machine.specs.Context.Host.{Host, without_expired}
use Rattle.ip_address.specs.Hardware.{IsOf}
use Rattle.host_machine.specs.Packet.Packet.{Packet, PacketV4}
use Rattle.host_machine.specs.Packet.Packet as packet
use Rattle.host_machine.specs.Packet.Frame.{ip_frame, piece_frame}
use Rattle.host_machine.specs.Send.Outcome.{Outcome}
use Rattle.host_machine.specs.Send.Dispatch.{Dispatches}
use Rattle.host_machine.specs.Context.Pieces.{datagram_of}
use Rattle.host_machine.specs.Interface.Ingress.{Ingress}
use Rattle.host_laws.specs.Laws.Frames.{ArrivesInFrames}
use Rattle.host_machine.specs.Context.Real.{IsReal, IsRegular}
use Rattle.host_laws.specs.Laws.Requests.{NoSocketSpeaks, is_request, requests_in}
use Rattle.host_machine.specs.Interface.Run.{Transition, Run, notes_in}
use Rattle.host_laws.specs.Laws.Ran.{Laws}

-- a frame with a malformed header of Ethernet, ARP, IPv4 or IPv6
pub data IsMalformedFrame (checksum : ChecksumCapabilities) (frame : List ℕ) : Type 0 where
  Ethernet : ¬ (14 ≤ length frame) → IsMalformedFrame checksum frame
  Arp : (header_in frame).ethertype ≡ protocol.Arp → ¬ IsArp (drop 14 frame) → IsMalformedFrame checksum frame
  Ipv4 : (header_in frame).ethertype ≡ protocol.Ipv4 → ¬ IsIpv4 (is_rx checksum.ipv4) (drop 14 frame) →
      IsMalformedFrame checksum frame
  Ipv6 : (header_in frame).ethertype ≡ protocol.Ipv6 → ¬ IsIpv6 (drop 14 frame) → IsMalformedFrame checksum frame

-- by the medium: on one without hardware addresses, what begins with neither an IPv4 nor an IPv6 packet
abbrev pub IsMalformed : HardwareAddress → ChecksumCapabilities → List ℕ → Type 0
IsMalformed (hardware.Ethernet own) checksum frame = IsMalformedFrame checksum frame
IsMalformed hardware.Ip checksum frame = (¬ IsIpv4 (is_rx checksum.ipv4) frame) × (¬ IsIpv6 frame)

-- if such a frame is received, nothing is sent, and the host is as after the same call without a frame,
-- which drops expired slots
abbrev pub MalformedIsDropped : Type 0
MalformedIsDropped =
    (t : ℤ) (answer : PollIngressSingleResult) (old new : Host) (told : List Event)
    (notes : List Note) (frame : List ℕ) →
    Ingress t answer old told notes new → handed_frames told ≡ frame ∷ [] →
    IsMalformed old.hardware_addr old.capabilities.checksum frame →
    (sent_frames told ≡ []) × (notes ≡ []) × (new ≡ without_expired old t)

-- one ingress call receives at most one frame, and sends at most one
abbrev pub IngressIsSingle : Type 0
IngressIsSingle =
    (t : ℤ) (answer : PollIngressSingleResult) (old new : Host) (told : List Event) (notes : List Note) →
    Ingress t answer old told notes new → (length (handed_frames told) ≤ 1) × (length (sent_frames told) ≤ 1)

-- what a dispatch sends: nothing; the packet, or its first fragment, and then its outcome is `Ok`; or, while
-- discovery is not silent, one request for the hardware address of its next hop, which is noted, and then the
-- packet waits for that
pub data SendsOneThing (p : Packet) (outcome : Outcome) (H : Host) (frames : List (List ℕ))
    (notes : List Note) : Type 0 where
  Nothing : frames ≡ [] → asks notes ≡ [] → cut_notes notes ≡ [] → SendsOneThing p outcome H frames notes
  ThePacket : (h : HardwareAddress) → IsOf H.capabilities.medium h → outcome ≡ Ok tt → frames ≡ ip_frame H h p ∷ [] →
      asks notes ≡ [] → cut_notes notes ≡ [] →
      SendsOneThing p outcome H frames notes
  ItsFirstPiece : (h : HardwareAddress) (q : PacketV4) (first : Piece) (rest : List Piece) →
      IsOf H.capabilities.medium h → p ≡ packet.Ipv4 q →
      pieces_of (datagram_of H h H.ipv4_id q) ≡ first ∷ rest → outcome ≡ Ok tt →
      frames ≡ piece_frame H first ∷ [] → asks notes ≡ [] →
      cut_notes notes ≡ Cut (datagram_of H h H.ipv4_id q) ∷ PieceSent first ∷ [] →
      SendsOneThing p outcome H frames notes
  ARequest : (frame : List ℕ) → is_request H.capabilities.medium frame ≡ true →
      H.neighbors.silent_until ≤ℤ H.moment → outcome ≡ Err NeighborPending →
      frames ≡ frame ∷ [] → asks notes ≡ H.moment ∷ [] → cut_notes notes ≡ [] → SendsOneThing p outcome H frames notes

-- every dispatch does so, whatever its packet
abbrev pub DispatchesSendOneThing : Type 0
DispatchesSendOneThing =
    (p : Packet) (outcome : Outcome) (H new : Host) (frames : List (List ℕ)) (notes : List Note) →
    IsReal H → Dispatches p outcome H frames notes new → SendsOneThing p outcome H frames notes

-- the ARP requests and neighbour solicitations among the frames that a run sends are the discovery requests that it
-- notes: each one sent is noted, and each one noted is sent, at its moment
abbrev pub DiscoveriesAreNoted : Type 0
DiscoveriesAreNoted =
    (first last : Host) (transitions : List Transition) →
    Run first transitions last → IsRegular first → AllByRecursion (λ p. NoSocketSpeaks p.before) transitions →
    requests_in first.capabilities.medium transitions ≡ asks (notes_in transitions)

-- the transitions of one run followed by those of another are one run
abbrev pub RunsJoin : Type 0
RunsJoin = (first mid last : Host) (ps qs : List Transition) →
    Run first ps mid → Run mid qs last → Run first (ps ++ qs) last

-- every run satisfies the laws
abbrev pub RunsKeepLaws : Type 0
RunsKeepLaws = (first last : Host) (transitions : List Transition) → Run first transitions last → Laws first transitions

-- in each transition of every run fragments arrive in frames
abbrev pub FragmentsArriveInFrames : Type 0
FragmentsArriveInFrames = (first last : Host) (transitions : List Transition) →
    Run first transitions last → AllByRecursion ArrivesInFrames transitions
