-- Worked examples of messages about a segment that 192.168.69.1 sent, octet by octet, and of those that tell nothing.
use Rattle.std.proofs.Common.{lit≤}
use Rattle.std.specs.Prelude.{ℕ, ◌≡◌, List, [], ◌∷◌, ◌++◌, take, Option, Some, None}
use Rattle.ip_address.specs.declared.cidr.IpCidr.{IpCidr}
use Rattle.ip_address.specs.declared.cidr.IpCidr.TheVariants as cidr
use Rattle.ip_address.specs.declared.ip.IpAddress.TheVariants.{Ipv4, Ipv6}
use Rattle.ip_address.specs.declared.protocol.IpProtocol.TheVariants.{Tcp}
use Rattle.net_base.specs.declared.phy.Checksum.{Checksum}
use Rattle.net_base.specs.declared.phy.Checksum.TheVariants as checksum
use Rattle.net_base.specs.declared.phy.DeviceCapabilities.{DeviceCapabilities}
use Rattle.net_base.specs.declared.phy.Medium.{Medium}
use Rattle.net_base.specs.declared.phy.Medium.TheVariants as medium
use Rattle.iface_host.specs.Errors.{error_in}
use Rattle.iface_host.specs.declared.errors.ErrorCause.{ErrorCause}
use Rattle.iface_host.specs.declared.errors.ErrorCause.TheVariants.{TooBig, Hard, Soft}
use Rattle.iface_host.specs.declared.errors.PacketError.{PacketError}

-- devices that leave all checksums to the host, or none
abbrev pub device : Medium → Checksum → DeviceCapabilities
device m c = record {
  medium = m;
  max_transmission_unit = 1500;
  max_burst_size = None;
  checksum = record { ipv4 = c; udp = c; tcp = c; icmpv4 = c; icmpv6 = c };
}

abbrev pub verified : DeviceCapabilities
verified = device medium.Ip checksum.Both

abbrev pub unverified : DeviceCapabilities
unverified = device medium.Ip checksum.None

-- the host has 192.168.69.1 and 2001:db8::1
abbrev pub own : List IpCidr
own =
    cidr.Ipv4 (record { address = record { bits = 0xc0a84501 }; prefix_len = 24; in_range = lit≤ tt })
    ∷ cidr.Ipv6 (record { address = record { bits = 0x20010db8000000000000000000000001 }; prefix_len = 64; in_range = lit≤ tt })
    ∷ []

-- the header of a packet of 56 octets from 192.168.69.254 to 192.168.69.1 (RFC 791 3.1)
abbrev pub header : List ℕ
header = 0x45 ∷ 0 ∷ 0 ∷ 0x38 ∷ 0 ∷ 0 ∷ 0 ∷ 0 ∷ 0x40 ∷ 0x01 ∷ 0x6e ∷ 0x75 ∷ 192 ∷ 168 ∷ 69 ∷ 254 ∷ 192 ∷ 168 ∷ 69 ∷ 1 ∷ []

-- the same with another octet 6, which says that more fragments follow; or of another protocol; or to another address
abbrev pub header_with : (flags protocol last : ℕ) → List ℕ
header_with flags protocol last =
    0x45 ∷ 0 ∷ 0 ∷ 0x38 ∷ 0 ∷ 0 ∷ flags ∷ 0 ∷ 0x40 ∷ protocol ∷ 0 ∷ 0 ∷ 192 ∷ 168 ∷ 69 ∷ 254 ∷ 192 ∷ 168 ∷ 69 ∷ last ∷ []

-- a segment from there to 192.0.2.9, by its first 28 octets: from port 49152 to port 80, with number 0x01020304 (RFC 9293 3.1)
abbrev pub quoted : List ℕ
quoted =
    0x45 ∷ 0 ∷ 0 ∷ 0x28 ∷ 0 ∷ 0 ∷ 0x40 ∷ 0 ∷ 0x40 ∷ 0x06 ∷ 0x73 ∷ 0x1d ∷ 192 ∷ 168 ∷ 69 ∷ 1 ∷ 192 ∷ 0 ∷ 2 ∷ 9
    ∷ 0xc0 ∷ 0 ∷ 0 ∷ 0x50 ∷ 0x01 ∷ 0x02 ∷ 0x03 ∷ 0x04 ∷ []

-- the same with other octets 6 and 7, which say where in a datagram it is; or of another protocol; or from another address
abbrev pub quoted_with : (place protocol last : ℕ) → List ℕ
quoted_with place protocol last =
    0x45 ∷ 0 ∷ 0 ∷ 0x28 ∷ 0 ∷ 0 ∷ 0 ∷ place ∷ 0x40 ∷ protocol ∷ 0x73 ∷ 0x1d ∷ 192 ∷ 168 ∷ 69 ∷ last ∷ 192 ∷ 0 ∷ 2 ∷ 9
    ∷ 0xc0 ∷ 0 ∷ 0 ∷ 0x50 ∷ 0x01 ∷ 0x02 ∷ 0x03 ∷ 0x04 ∷ []

-- the first eight octets of a message: its type, its code, its checksum, and octets 6 and 7 (RFC 792, RFC 1191 4)
abbrev pub message : (type code high low mtu_high mtu_low : ℕ) → List ℕ
message type code high low mtu_high mtu_low = type ∷ code ∷ high ∷ low ∷ 0 ∷ 0 ∷ mtu_high ∷ mtu_low ∷ []

-- what is told of that segment
abbrev pub about : ErrorCause → Option PacketError
about cause = Some (record {
  protocol = Tcp;
  local = record { addr = Ipv4 (record { bits = 0xc0a84501 }); port = 49152 };
  remote = record { addr = Ipv4 (record { bits = 0xc0000209 }); port = 80 };
  number = 0x01020304;
  cause = cause;
})

-- by types and codes (RFC 792)
pub record ErrorsAreTold : Type 0 where
  pub port_closed : error_in verified own (header ++ message 3 3 0x38 0xa6 0 0 ++ quoted) ≡ about Hard
  pub no_protocol : error_in verified own (header ++ message 3 2 0x38 0xa7 0 0 ++ quoted) ≡ about Hard
  -- there is room for 1,400 octets; or a router tells nothing (RFC 1191 5)
  pub too_big : error_in verified own (header ++ message 3 4 0x33 0x2d 0x05 0x78 ++ quoted) ≡ about (TooBig 1400)
  pub too_big_for_unknown : error_in verified own (header ++ message 3 4 0x38 0xa5 0 0 ++ quoted) ≡ about (TooBig 0)
  pub no_host : error_in verified own (header ++ message 3 1 0x38 0xa8 0 0 ++ quoted) ≡ about Soft
  pub time_exceeded : error_in verified own (header ++ message 11 0 0x30 0xa9 0 0 ++ quoted) ≡ about Soft
  pub bad_header : error_in verified own (header ++ message 12 0 0x2f 0xa9 0 0 ++ quoted) ≡ about Soft
  -- behind a header of Ethernet
  pub of_frame : error_in (device medium.Ethernet checksum.Both) own
      (0x02 ∷ 0 ∷ 0 ∷ 0 ∷ 0 ∷ 0x01 ∷ 0x02 ∷ 0 ∷ 0 ∷ 0 ∷ 0 ∷ 0x02 ∷ 0x08 ∷ 0 ∷ header ++ message 3 3 0x38 0xa6 0 0 ++ quoted) ≡ about Hard
  -- where the device verifies, it is believed
  pub believed : error_in unverified own (header ++ message 3 3 0 0 0 0 ++ quoted) ≡ about Hard
  pub of_first_fragment : error_in unverified own (header ++ message 3 3 0 0 0 0 ++ quoted_with 0 6 1) ≡ about Hard

-- what tells nothing
pub record OthersTellNothing : Type 0 where
  -- an echo reply, of type 0; and a redirect, of type 5
  pub echo_reply : error_in unverified own (header ++ message 0 3 0 0 0 0 ++ quoted) ≡ None
  pub redirect : error_in unverified own (header ++ message 5 3 0 0 0 0 ++ quoted) ≡ None
  -- a wrong checksum, of the message or of the header
  pub wrong_sum : error_in verified own (header ++ message 3 3 0x38 0xa7 0 0 ++ quoted) ≡ None
  pub wrong_header_sum : error_in verified own (header_with 0 1 1 ++ message 3 3 0x38 0xa6 0 0 ++ quoted) ≡ None
  -- a fragment; another protocol; another destination
  pub fragment : error_in unverified own (header_with 0x20 1 1 ++ message 3 3 0 0 0 0 ++ quoted) ≡ None
  pub of_udp : error_in unverified own (header_with 0 17 1 ++ message 3 3 0 0 0 0 ++ quoted) ≡ None
  pub to_another : error_in unverified own (header_with 0 1 2 ++ message 3 3 0 0 0 0 ++ quoted) ≡ None
  -- a packet that another sent is quoted; or one of ICMP; or a later fragment, which has no ports
  pub from_another : error_in unverified own (header ++ message 3 3 0 0 0 0 ++ quoted_with 0 6 2) ≡ None
  pub about_icmp : error_in unverified own (header ++ message 3 3 0 0 0 0 ++ quoted_with 0 1 1) ≡ None
  pub later_fragment : error_in unverified own (header ++ message 3 3 0 0 0 0 ++ quoted_with 1 6 1) ≡ None
  -- an octet less than the header says
  pub cut_off : error_in unverified own (take 55 (header ++ message 3 3 0 0 0 0 ++ quoted)) ≡ None
  -- seven octets behind the quoted header
  pub short_quote : error_in unverified own
      (0x45 ∷ 0 ∷ 0 ∷ 0x37 ∷ 0 ∷ 0 ∷ 0 ∷ 0 ∷ 0x40 ∷ 0x01 ∷ 0 ∷ 0 ∷ 192 ∷ 168 ∷ 69 ∷ 254 ∷ 192 ∷ 168 ∷ 69 ∷ 1
      ∷ message 3 3 0 0 0 0 ++ take 27 quoted) ≡ None

-- The same over IPv6 (RFC 4443 3).

-- the header of a packet with 56 octets of a message from fe80::fe to 2001:db8::1 (RFC 8200 3)
abbrev pub header_v6 : (next : ℕ) → List ℕ
header_v6 next =
    0x60 ∷ 0 ∷ 0 ∷ 0 ∷ 0 ∷ 0x38 ∷ next ∷ 0xff
    ∷ 0xfe ∷ 0x80 ∷ 0 ∷ 0 ∷ 0 ∷ 0 ∷ 0 ∷ 0 ∷ 0 ∷ 0 ∷ 0 ∷ 0 ∷ 0 ∷ 0 ∷ 0 ∷ 0xfe
    ∷ 0x20 ∷ 0x01 ∷ 0x0d ∷ 0xb8 ∷ 0 ∷ 0 ∷ 0 ∷ 0 ∷ 0 ∷ 0 ∷ 0 ∷ 0 ∷ 0 ∷ 0 ∷ 0 ∷ 0x01 ∷ []

-- a segment from there to 2001:db8:9::2, with the same ports and number, by what follows its header
abbrev pub quoted_v6 : (next last : ℕ) → List ℕ
quoted_v6 next last =
    0x60 ∷ 0 ∷ 0 ∷ 0 ∷ 0 ∷ 0x14 ∷ next ∷ 0x40
    ∷ 0x20 ∷ 0x01 ∷ 0x0d ∷ 0xb8 ∷ 0 ∷ 0 ∷ 0 ∷ 0 ∷ 0 ∷ 0 ∷ 0 ∷ 0 ∷ 0 ∷ 0 ∷ 0 ∷ last
    ∷ 0x20 ∷ 0x01 ∷ 0x0d ∷ 0xb8 ∷ 0 ∷ 0x09 ∷ 0 ∷ 0 ∷ 0 ∷ 0 ∷ 0 ∷ 0 ∷ 0 ∷ 0 ∷ 0 ∷ 0x02
    ∷ 0xc0 ∷ 0 ∷ 0 ∷ 0x50 ∷ 0x01 ∷ 0x02 ∷ 0x03 ∷ 0x04 ∷ []

abbrev pub about_v6 : ErrorCause → Option PacketError
about_v6 cause = Some (record {
  protocol = Tcp;
  local = record { addr = Ipv6 (record { bits = 0x20010db8000000000000000000000001 }); port = 49152 };
  remote = record { addr = Ipv6 (record { bits = 0x20010db8000900000000000000000002 }); port = 80 };
  number = 0x01020304;
  cause = cause;
})

pub record ErrorsAreToldV6 : Type 0 where
  pub port_closed : error_in verified own (header_v6 58 ++ message 1 4 0x4b 0x27 0 0 ++ quoted_v6 6 1) ≡ about_v6 Hard
  pub too_big : error_in verified own (header_v6 58 ++ message 2 0 0x45 0x2b 0x05 0 ++ quoted_v6 6 1) ≡ about_v6 (TooBig 1280)
  pub no_route : error_in verified own (header_v6 58 ++ message 1 0 0x4b 0x2b 0 0 ++ quoted_v6 6 1) ≡ about_v6 Soft
  pub time_exceeded : error_in verified own (header_v6 58 ++ message 3 0 0x49 0x2b 0 0 ++ quoted_v6 6 1) ≡ about_v6 Soft

pub record OthersTellNothingV6 : Type 0 where
  pub echo_reply : error_in unverified own (header_v6 58 ++ message 129 0 0 0 0 0 ++ quoted_v6 6 1) ≡ None
  pub wrong_sum : error_in verified own (header_v6 58 ++ message 1 4 0x4b 0x28 0 0 ++ quoted_v6 6 1) ≡ None
  -- behind a header of a fragment (RFC 8200 4.5)
  pub fragment : error_in unverified own (header_v6 44 ++ message 1 4 0 0 0 0 ++ quoted_v6 6 1) ≡ None
  pub from_another : error_in unverified own (header_v6 58 ++ message 1 4 0 0 0 0 ++ quoted_v6 6 2) ≡ None
  pub about_fragment : error_in unverified own (header_v6 58 ++ message 1 4 0 0 0 0 ++ quoted_v6 44 1) ≡ None
