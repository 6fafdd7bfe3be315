-- Ethernet II (IEEE 802.3, RFC 894): destination, source, type, payload.
use Rattle.std.specs.Prelude.{◌≡◌, ℕ, ◌+◌, ◌<◌, ◌≤◌, ◌^◌, ◌==◌, Bool, List}
use Rattle.std.specs.Prelude.{◌++◌, length, drop, slice_range, if◌then◌else◌}
use Rattle.std.specs.Borrow.{Bor}
use Rattle.ip_wire.specs.Octets.{u16_at, AreOctets}
use Rattle.std.specs.Int.{w16, to_be_bytes}
use Rattle.ip_address.specs.declared.ethernet_address.EthernetAddress.{EthernetAddress}
use Rattle.ip_wire.specs.declared.ethernet.EthernetProtocol.{EthernetProtocol}
use Rattle.ip_wire.specs.declared.ethernet.EthernetProtocol.TheVariants.{Ipv4, Arp, Ipv6, Unknown}
use Rattle.ip_wire.specs.declared.ethernet.EthernetRepr.{EthernetRepr}

-- the address in six octets at an offset
abbrev pub address_at : List ℕ → ℕ → EthernetAddress
address_at octets at = record { 0 = slice_range octets at (at + 6) }

-- the protocols by their type numbers
abbrev pub number_of : EthernetProtocol → ℕ
number_of Ipv4 = 0x0800
number_of Arp = 0x0806
number_of Ipv6 = 0x86dd
number_of (Unknown n) = n

abbrev pub protocol_of : ℕ → EthernetProtocol
protocol_of n = if n == 0x0800 then Ipv4 else if n == 0x0806 then Arp else if n == 0x86dd then Ipv6 else Unknown n

-- protocols are equal if their type numbers are
abbrev pub is_same : EthernetProtocol → EthernetProtocol → Bool
is_same p q = number_of p == number_of q

-- a header and a payload, apart from where that is in memory
abbrev pub parts : EthernetRepr × Bor (List ℕ) → EthernetRepr × List ℕ
parts p = (p.0, p.1.now)

-- the header of a frame that is long enough
abbrev pub header_in : List ℕ → EthernetRepr
header_in frame = record {
  dst_addr = address_at frame 0;
  src_addr = address_at frame 6;
  ethertype = protocol_of (u16_at frame 12);
}

-- its header, and what follows it
abbrev pub ethernet_in : List ℕ → EthernetRepr × List ℕ
ethernet_in frame = (header_in frame, drop 14 frame)

-- the text of a header
abbrev pub header_text : EthernetRepr → List ℕ
header_text r = r.dst_addr.0 ++ r.src_addr.0 ++ to_be_bytes w16 (number_of r.ethertype)

-- values that the header of a frame can have
pub record IsHeader (r : EthernetRepr) : Type 0 where
  pub destination : length r.dst_addr.0 ≡ 6
  pub source : length r.src_addr.0 ≡ 6
  pub number : number_of r.ethertype < 2 ^ 16
  pub protocol : protocol_of (number_of r.ethertype) ≡ r.ethertype

-- a text is parsed back as its values, whatever follows it
abbrev pub ReadAgain : Type 0
ReadAgain = (r : EthernetRepr) (payload : List ℕ) → IsHeader r → ethernet_in (header_text r ++ payload) ≡ (r, payload)

-- a frame is the text of its header, and what follows it
abbrev pub WrittenAgain : Type 0
WrittenAgain = (frame : List ℕ) → AreOctets frame → 14 ≤ length frame →
    header_text (header_in frame) ++ drop 14 frame ≡ frame
