-- IP packets of either family, by the values of their headers (RFC 791 3.1, RFC 8200 3).
use Rattle.std.specs.Prelude.{ℕ, ◌+◌, ◌<◌, ◌^◌, Bool, List}
use Rattle.ip_address.specs.declared.ip.IpAddress.{IpAddress}
use Rattle.ip_address.specs.declared.ip.IpAddress.TheVariants as address
use Rattle.ip_address.specs.declared.protocol.IpProtocol.{IpProtocol}
use Rattle.ip_address.specs.declared.protocol.IpVersion.{IpVersion}
use Rattle.ip_address.specs.declared.protocol.IpVersion.TheVariants as version
use Rattle.ip_wire.specs.Ipv6Packet as ipv6
use Rattle.ip_wire.specs.Ipv4Packet as ipv4
use Rattle.ip_wire.specs.declared.ip_packet.IpRepr.{IpRepr}
use Rattle.ip_wire.specs.declared.ip_packet.IpRepr.TheVariants.{Ipv4, Ipv6}

abbrev pub version_of : IpRepr → IpVersion
version_of (Ipv4 r) = version.Ipv4
version_of (Ipv6 r) = version.Ipv6

abbrev pub src_addr : IpRepr → IpAddress
src_addr (Ipv4 r) = address.Ipv4 r.src_addr
src_addr (Ipv6 r) = address.Ipv6 r.src_addr

abbrev pub dst_addr : IpRepr → IpAddress
dst_addr (Ipv4 r) = address.Ipv4 r.dst_addr
dst_addr (Ipv6 r) = address.Ipv6 r.dst_addr

-- the protocol of what follows the header, as the header says
abbrev pub next_header : IpRepr → IpProtocol
next_header (Ipv4 r) = r.next_header
next_header (Ipv6 r) = r.next_header

-- the payload length, in octets
abbrev pub payload_len : IpRepr → ℕ
payload_len (Ipv4 r) = r.payload_len
payload_len (Ipv6 r) = r.payload_len

abbrev pub hop_limit : IpRepr → ℕ
hop_limit (Ipv4 r) = r.hop_limit
hop_limit (Ipv6 r) = r.hop_limit

-- the length of a header that is emitted, in octets
abbrev pub header_len : IpRepr → ℕ
header_len (Ipv4 r) = 20
header_len (Ipv6 r) = 40

-- its text; for IPv4 that of a whole packet; IPv6 has no header checksum
abbrev pub header_text : Bool → IpRepr → List ℕ
header_text summed (Ipv4 r) = ipv4.header_text summed r ipv4.whole
header_text summed (Ipv6 r) = ipv6.header_text r

-- the header's length field is wide enough: for IPv4 it counts the whole packet, for IPv6 the payload
abbrev pub TellsLength : IpRepr → Type 0
TellsLength (Ipv4 r) = 20 + r.payload_len < 2 ^ 16
TellsLength (Ipv6 r) = r.payload_len < 2 ^ 16
