-- The key under which a host adds a frame's fragment to others (RFC 791 3.2).
use Rattle.std.specs.Prelude.{◌≡◌, ◌≤◌, ◌==◌, ◌+◌, ◌%◌, ◌&&◌, not, nat_le, ℕ, Bool, true, List, drop, length, Option, Some, None}
use Rattle.ip_wire.specs.Ipv4Packet.{IsIpv4, ipv4_in, is_fragment}
use Rattle.ip_wire.specs.Octets.{u16_at}
use Rattle.ip_wire.specs.Ethernet.{header_in}
use Rattle.ip_wire.specs.declared.ethernet.EthernetProtocol.TheVariants as protocol
use Rattle.ip_address.specs.declared.ethernet_address.EthernetAddress.{EthernetAddress}
use Rattle.ip_address.specs.declared.hardware.HardwareAddress.{HardwareAddress}
use Rattle.ip_address.specs.declared.hardware.HardwareAddress.TheVariants.{Ethernet, Ip}
use Rattle.net_base.specs.Checksum.{is_rx}
use Rattle.fragmentation.specs.declared.key.FragKey.{FragKey}
use Rattle.host_machine.specs.Context.Addresses.{may_be_source}
use Rattle.host_machine.specs.Context.Host.{Host}
use Rattle.host_machine.specs.Receive.Ethernet.{is_for}
use Rattle.host_machine.specs.Receive.Ipv4.{key_in}

-- octets begin with a fragment of the datagram of a key, from an address that may be a source
pub record IsFragmentOf (key : FragKey) (H : Host) (octets : List ℕ) : Type 0 where
  pub packet : IsIpv4 (is_rx H.capabilities.checksum.ipv4) octets
  pub source : may_be_source H.ip_addrs (ipv4_in octets).0.src_addr ≡ true
  pub fragment : is_fragment (ipv4_in octets).1 ≡ true
  pub key_is : key ≡ key_in (ipv4_in octets).0 (ipv4_in octets).1

-- a frame of Ethernet for a host with this address carries such a fragment
pub record IsFramed (own : EthernetAddress) (key : FragKey) (H : Host) (frame : List ℕ) : Type 0 where
  pub whole : 14 ≤ length frame
  pub for_us : is_for own (header_in frame).dst_addr ≡ true
  pub ipv4 : (header_in frame).ethertype ≡ protocol.Ipv4
  pub fragment : IsFragmentOf key H (drop 14 frame)

-- a frame carries such a fragment, on the host's medium
abbrev pub CarriesOn : HardwareAddress → FragKey → Host → List ℕ → Type 0
CarriesOn (Ethernet own) key H frame = IsFramed own key H frame
CarriesOn Ip key H frame = IsFragmentOf key H frame

abbrev pub CarriesFragment : FragKey → Host → List ℕ → Type 0
CarriesFragment key H frame = CarriesOn H.hardware_addr key H frame

-- octets from one on may begin with a fragment: there are enough for a header, and MF is set, or the offset isn't 0 (RFC 791 3.1)
abbrev pub may_be_part : ℕ → List ℕ → Bool
may_be_part at frame = nat_le (at + 20) (length frame) && not (u16_at frame (at + 6) % 0x4000 == 0)

-- those of a frame of Ethernet, if its type is IPv4's (RFC 894)
abbrev pub may_be_framed : List ℕ → Bool
may_be_framed frame = may_be_part 14 frame && (u16_at frame 12 == 0x0800)

-- it is found under which key, if under one
abbrev pub IsFound : (FragKey → Type 0) → Option FragKey → Type 0
IsFound Carries None = (key : FragKey) → Carries key → ⊥
IsFound Carries (Some key) = Carries key
