-- The octets of two replies on Ethernet: to an echo request over IPv4 (RFC 792), and to an ARP request (RFC 826).
use Rattle.std.specs.Prelude.{◌≡◌, ℕ, ◌+◌, ◌/◌, ◌%◌, ◌*◌, ◌^◌, ◌<◌, ◌≤◌, ℤ, true, List, [], ◌∷◌, length, drop, take}
use Rattle.std.specs.Prelude.{slice_index, slice_range}
use Rattle.net_base.specs.Checksum.{is_tx, ip_mtu_of}
use Rattle.net_base.specs.Device.{Event, sent_frames}
use Rattle.ip_wire.specs.Checksum.{folded_sum, word_sum}
use Rattle.ip_wire.specs.Octets.{u16_at, u32_at}
use Rattle.ip_address.specs.declared.ethernet_address.EthernetAddress.{EthernetAddress}
use Rattle.ip_address.specs.declared.hardware.HardwareAddress.TheVariants as hardware
use Rattle.ip_address.specs.declared.ip.IpAddress.TheVariants.{Ipv4}
use Rattle.ip_wire.specs.declared.arp.ArpRepr.{ArpRepr}
use Rattle.ip_wire.specs.declared.ethernet.EthernetProtocol.{EthernetProtocol}
use Rattle.ip_wire.specs.declared.ethernet.EthernetProtocol.TheVariants as protocol
use Rattle.ip_wire.specs.declared.ipv4_packet.Ipv4Repr.{Ipv4Repr}
use Rattle.ip_wire.specs.Arp.{IsPacket}
use Rattle.ip_wire.specs.Ethernet.{header_in}
use Rattle.host_machine.specs.Context.Host.{Host, at}
use Rattle.host_laws.specs.Laws.Service.{AsksByArp, IsReached, IsToItself, Pings, Takes}

-- a frame from one hardware address to another, with a type
pub record IsBetweenHosts (source destination : List ℕ) (type : EthernetProtocol) (frame : List ℕ) : Type 0 where
  pub to : slice_range frame 0 6 ≡ destination
  pub from : slice_range frame 6 12 ≡ source
  pub of_type : (header_in frame).ethertype ≡ type

-- a header of IPv4 without options (RFC 791 3.1), for a message of ICMP, from the destination of another packet to its
-- source, whole and not to be fragmented, with its length, TTL 64 and a right checksum
pub record IsPacketBack (packet reply : List ℕ) : Type 0 where
  pub version : slice_index reply 0 / 16 ≡ 4
  pub header_len : slice_index reply 0 % 16 * 4 ≡ 20
  pub total_len : u16_at reply 2 ≡ length reply
  pub fragment : u16_at reply 6 ≡ 0x4000
  pub hop_limit : slice_index reply 8 ≡ 64
  pub protocol_is : slice_index reply 9 ≡ 1
  pub from : u32_at reply 12 ≡ u32_at packet 16
  pub to : u32_at reply 16 ≡ u32_at packet 12
  pub sum : folded_sum (word_sum (take 20 reply)) ≡ 65535

-- an echo reply with the identifier, the sequence number and the data of another message, and a right checksum
pub record IsMessageBack (message reply : List ℕ) : Type 0 where
  pub type : slice_index reply 0 ≡ 0
  pub code : slice_index reply 1 ≡ 0
  pub identifier : u16_at reply 4 ≡ u16_at message 4
  pub sequence_number : u16_at reply 6 ≡ u16_at message 6
  pub data_are : drop 8 reply ≡ drop 8 message
  pub sum : folded_sum (word_sum reply) ≡ 65535

-- what follows the header of an IPv4 packet, up to its total length
abbrev pub behind_header : List ℕ → List ℕ
behind_header packet = slice_range packet (slice_index packet 0 % 16 * 4) (u16_at packet 2)

-- the frame of the echo reply to the request in another frame
pub record IsEchoReplyTo (own h : EthernetAddress) (frame reply : List ℕ) : Type 0 where
  pub link : IsBetweenHosts own.0 h.0 protocol.Ipv4 reply
  pub packet : IsPacketBack (drop 14 frame) (drop 14 reply)
  pub message : IsMessageBack (behind_header (drop 14 frame)) (drop 20 (drop 14 reply))

-- the values of a request are within their fields, as all octets that are read are
pub record IsWithinFields (own h : EthernetAddress) (r : Ipv4Repr) (ident seq_no : ℕ) : Type 0 where
  pub own_octets : length own.0 ≡ 6
  pub octets : length h.0 ≡ 6
  pub source : r.src_addr.bits < 2 ^ 32
  pub destination : r.dst_addr.bits < 2 ^ 32
  pub ident_fits : ident < 2 ^ 16
  pub seq_no_fits : seq_no < 2 ^ 16

-- the frame that answers a ping has these octets, if the host computes both checksums
abbrev pub AnswersPingsByOctets : ℤ → Host → List Event → Host → Type 0
AnswersPingsByOctets t old told new =
    (own h : EthernetAddress) (frame : List ℕ) (r : Ipv4Repr) (ident seq_no : ℕ) (octets : List ℕ) →
    Takes (hardware.Ethernet own) t frame old told new → IsToItself (hardware.Ethernet own) frame →
    Pings (hardware.Ethernet own) old frame r ident seq_no octets →
    IsReached (at old t) (Ipv4 r.src_addr) (hardware.Ethernet h) → IsWithinFields own h r ident seq_no →
    28 + length octets ≤ ip_mtu_of old.capabilities → 28 + length octets < 2 ^ 16 →
    is_tx old.capabilities.checksum.ipv4 ≡ true → is_tx old.capabilities.checksum.icmpv4 ≡ true →
    (reply : List ℕ) × (sent_frames told ≡ reply ∷ []) × IsEchoReplyTo own h frame reply

abbrev pub PingsAreAnsweredByOctets : Type 0
PingsAreAnsweredByOctets = (t : ℤ) (old new : Host) (told : List Event) → AnswersPingsByOctets t old told new

-- the frame of the ARP reply to the request in another frame: hardware of Ethernet, protocol IPv4, their lengths, and the host's
-- hardware address for the address that was asked for, to who asked
pub record IsArpReplyTo (own : EthernetAddress) (frame reply : List ℕ) : Type 0 where
  pub link : IsBetweenHosts own.0 (slice_range (drop 14 frame) 8 14) protocol.Arp reply
  pub hardware_is : u16_at (drop 14 reply) 0 ≡ 1
  pub protocol_is : u16_at (drop 14 reply) 2 ≡ 0x0800
  pub hardware_len : slice_index (drop 14 reply) 4 ≡ 6
  pub protocol_len : slice_index (drop 14 reply) 5 ≡ 4
  pub operation : u16_at (drop 14 reply) 6 ≡ 2
  pub source_hardware : slice_range (drop 14 reply) 8 14 ≡ own.0
  pub source : u32_at (drop 14 reply) 14 ≡ u32_at (drop 14 frame) 24
  pub target_hardware : slice_range (drop 14 reply) 18 24 ≡ slice_range (drop 14 frame) 8 14
  pub target : u32_at (drop 14 reply) 24 ≡ u32_at (drop 14 frame) 14

-- the frame that answers an ARP request has these octets
abbrev pub AnswersArpByOctets : ℤ → Host → List Event → Host → Type 0
AnswersArpByOctets t old told new =
    (own : EthernetAddress) (frame : List ℕ) (r : ArpRepr) →
    Takes (hardware.Ethernet own) t frame old told new → AsksByArp own old.ip_addrs frame r →
    length own.0 ≡ 6 → IsPacket r →
    (reply : List ℕ) × (sent_frames told ≡ reply ∷ []) × IsArpReplyTo own frame reply

abbrev pub ArpRequestsAreAnsweredByOctets : Type 0
ArpRequestsAreAnsweredByOctets = (t : ℤ) (old new : Host) (told : List Event) → AnswersArpByOctets t old told new
