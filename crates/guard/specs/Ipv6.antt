-- Frames with packets of IPv6, by their octets: 14 of Ethernet, 40 of the header (RFC 8200 3), then the payload.
use Rattle.std.specs.Prelude.{◌≡◌, ◌≤◌, ◌<◌, ◌⊎◌, ◌+◌, ◌*◌, ℕ, List, length, slice_get, Some}
use Rattle.ip_wire.specs.Octets.{u16_at}
use Rattle.ip_address.specs.Cidr.{address_of}
use Rattle.ip_address.specs.declared.cidr.IpCidr.{IpCidr}
use Rattle.ip_address.specs.declared.ethernet_address.EthernetAddress.{EthernetAddress}
use Rattle.ip_address.specs.declared.ip.IpAddress.{IpAddress}
use Rattle.ip_address.specs.declared.ip.IpAddress.TheVariants.{Ipv6}
use Rattle.ip_wire.specs.Ipv6Packet.{address_at}
use Rattle.guard.specs.Kind.{octet_at}
use Rattle.guard.specs.Claim.{hardware_at}

-- the type number of IPv6 (RFC 2464 3), and a whole header
pub record IsIpv6 (frame : List ℕ) : Type 0 where
  pub whole : 54 ≤ length frame
  pub type : u16_at frame 12 ≡ 0x86dd

abbrev pub source_of : List ℕ → IpAddress
source_of frame = Ipv6 (address_at frame 22)

-- a message of ICMPv6 is at an offset: behind the header, or behind a header of hop-by-hop options (RFC 8200 4.3)
pub data HasMessage (frame : List ℕ) (at : ℕ) : Type 0 where
  Behind : octet_at frame 20 ≡ 58 → at ≡ 54 → HasMessage frame at
  BehindOptions : octet_at frame 20 ≡ 0 → octet_at frame 54 ≡ 58 → at ≡ 62 + octet_at frame 55 * 8 → HasMessage frame at

-- it is a solicitation or an advertisement (RFC 4861 4.3, 4.4)
pub record IsNeighborMessage (frame : List ℕ) (at : ℕ) : Type 0 where
  pub header : IsIpv6 frame
  pub message : HasMessage frame at
  pub type : (octet_at frame at ≡ 135) ⊎ (octet_at frame at ≡ 136)

-- an address is one of a host's
pub record IsAmong (own : List IpCidr) (a : IpAddress) : Type 0 where
  pub place : ℕ
  pub cidr : IpCidr
  pub is_there : slice_get own place ≡ Some cidr
  pub is : address_of cidr ≡ a

-- such a message claims an address of a host: as its source, or as what it advertises
pub data ClaimsOwn (own : List IpCidr) (frame : List ℕ) (at : ℕ) : Type 0 where
  AsSource : IsAmong own (source_of frame) → ClaimsOwn own frame at
  AsTarget : octet_at frame at ≡ 136 → at + 24 ≤ length frame → IsAmong own (Ipv6 (address_at frame (at + 8))) → ClaimsOwn own frame at

-- the source of a frame: octets 6 to 11 (RFC 894)
abbrev pub IsSentBy : EthernetAddress → List ℕ → Type 0
IsSentBy h frame = hardware_at frame 6 ≡ h

-- a message tells no hardware address, as it ends behind its target; or it has no more than the option of one, which is this one
-- (RFC 4861 4.6.1)
abbrev pub TellsNoOther : EthernetAddress → List ℕ → (at : ℕ) → Type 0
TellsNoOther h frame at = (length frame ≤ at + 24) ⊎ ((length frame ≤ at + 32) × (hardware_at frame (at + 26) ≡ h))

-- a datagram of UDP goes from port 7, 13, 17 or 19 to a port below 1,024 (RFC 768)
pub record GoesToAndFro (frame : List ℕ) : Type 0 where
  pub is_udp : octet_at frame 20 ≡ 17
  pub high : octet_at frame 54 ≡ 0
  pub low : (octet_at frame 55 ≡ 7) ⊎ (octet_at frame 55 ≡ 13) ⊎ (octet_at frame 55 ≡ 17) ⊎ (octet_at frame 55 ≡ 19)
  pub to : octet_at frame 56 < 4
