-- What holds of each host that an interface stands for.
use Rattle.std.specs.Prelude.{◌≡◌, ◌≤◌, true, List, length}
use Rattle.std.specs.List.{AllByRecursion, AllByRecursion-prop}
use Rattle.std.proofs.Props.{props}
use Rattle.net_base.specs.declared.phy.Medium.{Medium}
use Rattle.net_base.specs.Checksum.{ip_mtu_of}
use Rattle.ip_address.specs.Hardware.{IsOf, IsOf-prop}
use Rattle.ip_address.specs.Protocol.{number_of}
use Rattle.ip_address.specs.declared.protocol.IpProtocol.TheVariants as protocol
use Rattle.ip_wire.specs.Ipv4Packet.{IsHeader, is_fragment}
use Rattle.iface_tables.specs.Neighbor.{AreOf}
use Rattle.fragmentation.specs.Cuts.{Piece, piece_header, piece_fragment}
use Rattle.host_machine.specs.Context.Host.{Host}

-- its hardware addresses are of its medium: six octets on Ethernet (RFC 894), and none on an IP medium
pub record IsReal (H : Host) : Type 0 where
  pub own : IsOf H.capabilities.medium H.hardware_addr
  pub neighbors : AreOf H.capabilities.medium H.neighbors

-- a fragment is for an address of the medium; and if it is of UDP, more fragments follow or some precede, and its
-- values fit the fields of a header (RFC 791 3.1)
pub record IsPart (m : Medium) (p : Piece) : Type 0 where
  pub destination : IsOf m p.destination
  pub part : number_of p.header.next_header ≡ 17 → is_fragment (piece_fragment p) ≡ true
  pub header : number_of p.header.next_header ≡ 17 →
      IsHeader (record (piece_header p) { next_header = protocol.Udp }) (piece_fragment p)

pub are_parts-prop : (m : Medium) (ps : List Piece) → IsProp (AllByRecursion (IsPart m) ps)
are_parts-prop m ps = AllByRecursion-prop (IsPart m) (λ p. Prim.hlevel (props, IsOf-prop)) ps

-- besides, its packets may have 576 octets (RFC 791 3.2), and its pending fragments are parts of
-- packets, if there are any
pub record IsRegular (H : Host) : Type 0 where
  pub real : IsReal H
  pub mtu : 576 ≤ ip_mtu_of H.capabilities
  pub left : AllByRecursion (IsPart H.capabilities.medium) H.left

-- each interface has a wait for each entry of its socket set, too
pub record IsSound (H : Host) : Type 0 where
  pub waits : length H.sockets.waits ≡ length H.sockets.places
  pub mtu : 576 ≤ ip_mtu_of H.capabilities
