-- What messages of ICMP say of packets that this host sent, by their octets (RFC 792; RFC 4443 2.1, 3; RFC 9293 3.9.2.2).
use Rattle.std.specs.Prelude.{ℕ, ◌≤◌, ◌+◌, ◌/◌, ◌%◌, ◌==◌, ◌&&◌, ◌||◌, not, nat_le, nat_lt, Bool, List, length, take, drop, slice_index, slice_range, Option, Some, None, if◌then◌else◌}
use Rattle.ip_address.specs.Protocol.{protocol_of}
use Rattle.ip_address.specs.declared.cidr.IpCidr.{IpCidr}
use Rattle.ip_address.specs.declared.ip.IpAddress.{IpAddress}
use Rattle.ip_address.specs.declared.ip.IpAddress.TheVariants.{Ipv4, Ipv6}
use Rattle.ip_address.specs.declared.ipv4.Ipv4Address.{Ipv4Address}
use Rattle.ip_address.specs.declared.ipv6.Ipv6Address.{Ipv6Address}
use Rattle.ip_wire.specs.Checksum.{folded_sum, word_sum}
use Rattle.ip_wire.specs.Ipv4Packet.{header_len, total_len}
use Rattle.ip_wire.specs.Ipv6Packet.{address_at, end}
use Rattle.ip_wire.specs.Octets.{u16_at, u32_at}
use Rattle.ip_wire.specs.Pseudo.{pseudo}
use Rattle.guard.specs.Kind.{is_transport}
use Rattle.tcp_sockets.specs.Arrivals.{is_own}
use Rattle.net_base.specs.Checksum.{is_rx}
use Rattle.net_base.specs.declared.phy.ChecksumCapabilities.{ChecksumCapabilities}
use Rattle.net_base.specs.declared.phy.DeviceCapabilities.{DeviceCapabilities}
use Rattle.net_base.specs.declared.phy.Medium.{Medium}
use Rattle.net_base.specs.declared.phy.Medium.TheVariants as medium
use Rattle.iface_host.specs.declared.errors.ErrorCause.{ErrorCause}
use Rattle.iface_host.specs.declared.errors.ErrorCause.TheVariants.{TooBig, Hard, Soft}
use Rattle.iface_host.specs.declared.errors.PacketError.{PacketError}

-- A message has its type in octet 0, its code in octet 1, and the packet that it quotes from octet 8 on (RFC 792, RFC 4443 2.1).

-- types 3, 11 and 12 tell of a packet (RFC 792)
abbrev pub is_error_ipv4 : List ℕ → Bool
is_error_ipv4 m = (slice_index m 0 == 3) || (slice_index m 0 == 11) || (slice_index m 0 == 12)

-- of type 3, code 4 says that it was too big, and octets 6 and 7 for how long a one there is room (RFC 1191 4); codes 2 and 3 are hard errors
-- (RFC 9293 3.9.2.2)
abbrev pub cause_in_ipv4 : List ℕ → ErrorCause
cause_in_ipv4 m =
    if not (slice_index m 0 == 3) then Soft
    else if slice_index m 1 == 4 then TooBig (u16_at m 6)
    else if (slice_index m 1 == 2) || (slice_index m 1 == 3) then Hard
    else Soft

-- types 1 to 4 do (RFC 4443 3)
abbrev pub is_error_ipv6 : List ℕ → Bool
is_error_ipv6 m = (slice_index m 0 == 1) || (slice_index m 0 == 2) || (slice_index m 0 == 3) || (slice_index m 0 == 4)

-- type 2 says that it was too big, and octets 4 to 7 for how long a one there is room (RFC 4443 3.2); of type 1, codes 1 and 4 are hard errors
abbrev pub cause_in_ipv6 : List ℕ → ErrorCause
cause_in_ipv6 m =
    if slice_index m 0 == 2 then TooBig (u32_at m 4)
    else if (slice_index m 0 == 1) && ((slice_index m 1 == 1) || (slice_index m 1 == 4)) then Hard
    else Soft

-- The packet that is quoted.

-- its ports, and the four octets behind them, stand at an offset (RFC 768, RFC 9293 3.1)
abbrev pub error_about : ErrorCause → (protocol : ℕ) → (local remote : IpAddress) → List ℕ → (at : ℕ) → PacketError
error_about cause protocol local remote q at = record {
  protocol = protocol_of protocol;
  local = record { addr = local; port = u16_at q at };
  remote = record { addr = remote; port = u16_at q (at + 2) };
  number = u32_at q (at + 4);
  cause = cause;
}

-- it was sent from an address by TCP or UDP, isn't a later fragment, and is quoted with eight octets behind its header (RFC 791 3.1)
abbrev pub quotes_ipv4 : Ipv4Address → List ℕ → Bool
quotes_ipv4 from q =
    nat_le 20 (length q) && (slice_index q 0 / 16 == 4) && nat_le 20 (header_len q) && nat_le (header_len q + 8) (length q)
    && (u16_at q 6 % 0x2000 == 0) && is_transport (slice_index q 9) && (u32_at q 12 == from.bits)

abbrev pub QuotesWhole : List ℕ → Type 0
QuotesWhole q = (20 ≤ length q) × (header_len q + 8 ≤ length q)

abbrev pub quoted_ipv4 : ErrorCause → Ipv4Address → List ℕ → PacketError
quoted_ipv4 cause from q =
    error_about cause (slice_index q 9) (Ipv4 from) (Ipv4 (record { bits = u32_at q 16 })) q (header_len q)

-- the same of IPv6, where TCP or UDP stands directly behind the header (RFC 8200 3)
abbrev pub quotes_ipv6 : Ipv6Address → List ℕ → Bool
quotes_ipv6 from q =
    nat_le 48 (length q) && (slice_index q 0 / 16 == 6) && is_transport (slice_index q 6) && ((address_at q 8).bits == from.bits)

abbrev pub quoted_ipv6 : ErrorCause → Ipv6Address → List ℕ → PacketError
quoted_ipv6 cause from q = error_about cause (slice_index q 6) (Ipv6 from) (Ipv6 (address_at q 24)) q 40

-- The packet that brings the message.

-- a sum over octets is right, if it is verified (RFC 1071)
abbrev pub is_summed : (checked : Bool) → List ℕ → Bool
is_summed checked octets = not checked || (folded_sum (word_sum octets) == 65535)

-- it is of IPv4, its protocol is 1, it is whole and no fragment (RFC 791 3.1)
abbrev pub brings_ipv4 : List ℕ → Bool
brings_ipv4 p =
    nat_le 20 (length p) && (slice_index p 9 == 1) && (slice_index p 0 / 16 == 4) && (u16_at p 6 % 0x4000 == 0) && nat_le 20 (header_len p)
    && nat_le (header_len p + 8) (total_len p) && nat_le (total_len p) (length p)

abbrev pub FitsIpv4 : List ℕ → Type 0
FitsIpv4 p = (20 ≤ header_len p) × (header_len p + 8 ≤ total_len p) × (total_len p ≤ length p)

abbrev pub message_in_ipv4 : List ℕ → List ℕ
message_in_ipv4 p = slice_range p (header_len p) (total_len p)

abbrev pub destination_ipv4 : List ℕ → Ipv4Address
destination_ipv4 p = record { bits = u32_at p 16 }

-- its message quotes a packet from its destination, and the sums of its header and of its message are right, where they are verified
abbrev pub tells_ipv4 : ChecksumCapabilities → List ℕ → Bool
tells_ipv4 c p =
    quotes_ipv4 (destination_ipv4 p) (drop 8 (message_in_ipv4 p)) && is_summed (is_rx c.ipv4) (take (header_len p) p)
    && is_summed (is_rx c.icmpv4) (message_in_ipv4 p)

-- its message tells of a packet from an own address
abbrev pub error_in_ipv4 : ChecksumCapabilities → List IpCidr → List ℕ → Option PacketError
error_in_ipv4 c own p =
    if brings_ipv4 p && is_error_ipv4 (message_in_ipv4 p) && is_own own (Ipv4 (destination_ipv4 p)) && tells_ipv4 c p
    then Some (quoted_ipv4 (cause_in_ipv4 (message_in_ipv4 p)) (destination_ipv4 p) (drop 8 (message_in_ipv4 p)))
    else None

-- it is of IPv6, its next header is 58, and it is whole (RFC 8200 3)
abbrev pub brings_ipv6 : List ℕ → Bool
brings_ipv6 p =
    nat_le 40 (length p) && (slice_index p 6 == 58) && (slice_index p 0 / 16 == 6) && nat_le 8 (u16_at p 4) && nat_le (end p) (length p)

abbrev pub FitsIpv6 : List ℕ → Type 0
FitsIpv6 p = (8 ≤ u16_at p 4) × (end p ≤ length p)

abbrev pub message_in_ipv6 : List ℕ → List ℕ
message_in_ipv6 p = slice_range p 40 (end p)

-- the sum of its message and of the pseudo-header is right (RFC 4443 2.3)
abbrev pub is_summed_ipv6 : List ℕ → Bool
is_summed_ipv6 p =
    folded_sum (word_sum (message_in_ipv6 p) + word_sum (pseudo (Ipv6 (address_at p 8)) (Ipv6 (address_at p 24)) 58 (u16_at p 4))) == 65535

abbrev pub tells_ipv6 : (checked : Bool) → List ℕ → Bool
tells_ipv6 checked p =
    quotes_ipv6 (address_at p 24) (drop 8 (message_in_ipv6 p)) && (not checked || is_summed_ipv6 p)

abbrev pub error_in_ipv6 : ChecksumCapabilities → List IpCidr → List ℕ → Option PacketError
error_in_ipv6 c own p =
    if brings_ipv6 p && is_error_ipv6 (message_in_ipv6 p) && is_own own (Ipv6 (address_at p 24)) && tells_ipv6 (is_rx c.icmpv6) p
    then Some (quoted_ipv6 (cause_in_ipv6 (message_in_ipv6 p)) (address_at p 24) (drop 8 (message_in_ipv6 p)))
    else None

-- The frame.

-- a packet of either version
abbrev pub error_in_packet : ChecksumCapabilities → List IpCidr → List ℕ → Option PacketError
error_in_packet c own p =
    if nat_lt (length p) 20 then None
    else if slice_index p 0 / 16 == 6 then error_in_ipv6 c own p
    else error_in_ipv4 c own p

-- one behind a header of Ethernet, by its type (RFC 894, RFC 2464 3)
abbrev pub error_in_ethernet : ChecksumCapabilities → List IpCidr → List ℕ → Option PacketError
error_in_ethernet c own frame =
    if nat_lt (length frame) 14 then None
    else if u16_at frame 12 == 0x0800 then error_in_ipv4 c own (drop 14 frame)
    else if u16_at frame 12 == 0x86dd then error_in_ipv6 c own (drop 14 frame)
    else None

abbrev pub error_on : Medium → ChecksumCapabilities → List IpCidr → List ℕ → Option PacketError
error_on medium.Ethernet c own frame = error_in_ethernet c own frame
error_on medium.Ip c own frame = error_in_packet c own frame

-- one without ICMP at its place tells nothing
abbrev pub packet_at : Medium → ℕ
packet_at medium.Ethernet = 14
packet_at medium.Ip = 0

abbrev pub may_tell_at : ℕ → List ℕ → Bool
may_tell_at at frame = nat_le (at + 20) (length frame) && ((slice_index frame (at + 9) == 1) || (slice_index frame (at + 6) == 58))

-- what a frame says of a packet of a host with these addresses, over a device
unfoldable pub error_in : DeviceCapabilities → List IpCidr → List ℕ → Option PacketError
error_in d own frame = error_on d.medium d.checksum own frame
