-- What the laws of restraint read of a call that receives a frame: the frame's octets (RFC 894, RFC 791 3.1, RFC 8200
-- 3), and what of the host may be other than after the same call without it.
use Rattle.std.specs.Prelude.{◌≡◌, ◌⊎◌, ℕ, ◌/◌, ℤ, pos, ◌+ℤ◌, List, [], ◌∷◌, drop, slice_index, Some, None}
use Rattle.std.specs.FinMap as map
use Rattle.net_base.specs.Device.{Event, handed_frames}
use Rattle.ip_address.specs.declared.hardware.HardwareAddress.{HardwareAddress}
use Rattle.ip_address.specs.declared.hardware.HardwareAddress.TheVariants as hardware
use Rattle.ip_address.specs.declared.ip.IpAddress.{IpAddress}
use Rattle.ip_wire.specs.declared.ethernet.EthernetProtocol.TheVariants as protocol
use Rattle.ip_address.specs.declared.ip.IpAddress.TheVariants.{Ipv4, Ipv6}
use Rattle.ip_wire.specs.Ethernet.{header_in}
use Rattle.ip_wire.specs.Ipv4Packet.{ipv4_in}
use Rattle.ip_wire.specs.Ipv6Packet.{ipv6_in}
use Rattle.sockets.specs.Queue.{Queued}
use Rattle.sockets.specs.declared.socket.SocketOf.TheVariants.{Raw, Icmp, Udp, Tcp}
use Rattle.iface_tables.specs.declared.neighbor.Neighbor.{Neighbor}
use Rattle.iface_tables.specs.Neighbor.{Neighbors}
use Rattle.host_machine.specs.declared.results.PollIngressSingleResult.{PollIngressSingleResult}
use Rattle.host_machine.specs.Context.Note.{Note}
use Rattle.host_machine.specs.Context.Host.{Host, Storage}
use Rattle.host_machine.specs.Interface.Ingress.{Ingress}

-- a call at t that received this frame
pub record Receives (t : ℤ) (frame : List ℕ) (old : Host) (told : List Event)
    (notes : List Note) (new : Host) : Type 0 where
  pub answer : PollIngressSingleResult
  pub call : Ingress t answer old told notes new
  pub took : handed_frames told ≡ frame ∷ []

-- the IPv4 packet in a frame: on Ethernet what follows the header, if the type is 0x0800; on a medium without hardware
-- addresses the whole frame, if the version is 4
abbrev pub CarriesV4 : HardwareAddress → List ℕ → List ℕ → Type 0
CarriesV4 (hardware.Ethernet own) frame packet =
    ((header_in frame).ethertype ≡ protocol.Ipv4) × (packet ≡ drop 14 frame)
CarriesV4 hardware.Ip frame packet = (slice_index frame 0 / 16 ≡ 4) × (packet ≡ frame)

-- the IPv6 packet in a frame, by the type 0x86dd or the version 6
abbrev pub CarriesV6 : HardwareAddress → List ℕ → List ℕ → Type 0
CarriesV6 (hardware.Ethernet own) frame packet =
    ((header_in frame).ethertype ≡ protocol.Ipv6) × (packet ≡ drop 14 frame)
CarriesV6 hardware.Ip frame packet = (slice_index frame 0 / 16 ≡ 6) × (packet ≡ frame)

-- the source and the destination of an IPv4 packet, and of an IPv6 packet
abbrev pub sender_v4 : List ℕ → IpAddress
sender_v4 packet = Ipv4 (ipv4_in packet).0.src_addr

abbrev pub receiver_v4 : List ℕ → IpAddress
receiver_v4 packet = Ipv4 (ipv4_in packet).0.dst_addr

abbrev pub sender_v6 : List ℕ → IpAddress
sender_v6 packet = Ipv6 (ipv6_in packet).0.src_addr

abbrev pub receiver_v6 : List ℕ → IpAddress
receiver_v6 packet = Ipv6 (ipv6_in packet).0.dst_addr

-- a raw socket that may have received more, and nothing else of it changed; any other entry stays
abbrev pub IsSameButRaw : Storage → Storage → Type 0
IsSameButRaw None new = new ≡ None
IsSameButRaw (Some (Raw s)) new = (rx : Queued (Unit {0})) × (new ≡ Some (Raw (record s { rx = rx })))
IsSameButRaw (Some (Icmp s)) new = new ≡ Some (Icmp s)
IsSameButRaw (Some (Udp s)) new = new ≡ Some (Udp s)
IsSameButRaw (Some (Tcp s)) new = new ≡ Some (Tcp s)

-- the same sockets at the same indices, but for what raw sockets received
abbrev pub AreSameButRaw : List Storage → List Storage → Type 0
AreSameButRaw [] [] = Unit {0}
AreSameButRaw [] (q ∷ qs) = ⊥
AreSameButRaw (p ∷ ps) [] = ⊥
AreSameButRaw (p ∷ ps) (q ∷ qs) = IsSameButRaw p q × AreSameButRaw ps qs

-- the neighbours are the same; or that of one address, which was known, is known until 60 s after t (RFC 1122 2.3.2.1)
abbrev pub IsRenewed : IpAddress → ℤ → Neighbors → Neighbors → Type 0
IsRenewed a t old new = (new ≡ old) ⊎ (
    (n : Neighbor) × (map.get old.known a ≡ Some n)
    × (new ≡ record old { known = map.insert old.known a (record n { expires_at = t +ℤ pos 60000000 }) })
    )
