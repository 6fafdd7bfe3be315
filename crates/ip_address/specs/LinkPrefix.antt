-- The address that a host forms from a prefix of its link (RFC 4862 5.5.3): the prefix, and an interface
-- identifier (RFC 4291 2.5.1).
use Rattle.std.specs.Prelude.{ℕ, ◌+◌, ◌*◌, ◌/◌, ◌^◌, ◌==◌, List, [], ◌∷◌}
use Rattle.std.specs.Prelude.{slice_index, Option, Some, None, if◌then◌else◌}
use Rattle.std.specs.Int.{w64, from_be_bytes}
use Rattle.std.specs.Int.RustNames.{bit_xor}
use Rattle.std.proofs.Common.{lit≤}
use Rattle.ip_address.specs.declared.cidr.Ipv6Cidr.{Ipv6Cidr}
use Rattle.ip_address.specs.declared.ethernet_address.EthernetAddress.{EthernetAddress}
use Rattle.ip_address.specs.declared.hardware.HardwareAddress.{HardwareAddress}
use Rattle.ip_address.specs.declared.hardware.HardwareAddress.TheVariants.{Ethernet, Ip}

-- the interface identifier from an Ethernet address (RFC 2464 4): ff:fe in its middle, and the universal/local bit of
-- its first octet inverted
unfoldable pub identifier : EthernetAddress → List ℕ
identifier e =
    bit_xor (slice_index e.0 0) 2 ∷ slice_index e.0 1 ∷ slice_index e.0 2 ∷ 0xff ∷ 0xfe ∷ slice_index e.0 3
    ∷ slice_index e.0 4 ∷ slice_index e.0 5 ∷ []

-- the first 64 bits of the prefix, and then the identifier
abbrev pub cidr_with_identifier : Ipv6Cidr → EthernetAddress → Ipv6Cidr
cidr_with_identifier c e = record {
  address = record { bits = c.address.bits / 2 ^ 64 * 2 ^ 64 + from_be_bytes w64 (identifier e) };
  prefix_len = 64;
  in_range = lit≤ tt;
}

-- an address is formed from a prefix of 64 bits, on a medium with hardware addresses
abbrev pub from_link_prefix : Ipv6Cidr → HardwareAddress → Option Ipv6Cidr
from_link_prefix c (Ethernet e) = if c.prefix_len == 64 then Some (cidr_with_identifier c e) else None
from_link_prefix c Ip = None
