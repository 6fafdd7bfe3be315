-- Who a frame comes from on its link, and which hardware address it tells.
use Rattle.std.specs.Prelude.{ℕ, ◌+◌, ◌==◌, ◌&&◌, ◌||◌, nat_lt, nat_le, Bool, true, false, List, [], ◌∷◌, length, Option, Some, None, if◌then◌else◌}
use Rattle.ip_wire.specs.Octets.{u16_at}
use Rattle.ip_address.specs.EthernetAddress.{is_same}
use Rattle.ip_address.specs.declared.ethernet_address.EthernetAddress.{EthernetAddress}
use Rattle.ip_address.specs.declared.hardware.HardwareAddress.{HardwareAddress}
use Rattle.ip_address.specs.declared.hardware.HardwareAddress.TheVariants.{Ip, Ethernet}
use Rattle.guard.specs.Kind.{octet_at, message_of}

-- the hardware address in six octets at an offset
abbrev pub hardware_at : List ℕ → ℕ → EthernetAddress
hardware_at frame at = record {
  0 = octet_at frame at ∷ octet_at frame (at + 1) ∷ octet_at frame (at + 2) ∷ octet_at frame (at + 3) ∷ octet_at frame (at + 4)
      ∷ octet_at frame (at + 5) ∷ [];
}

-- a hardware address is the source of a frame: octets 6 to 11 (RFC 894)
abbrev pub is_from : EthernetAddress → List ℕ → Bool
is_from h frame = is_same (hardware_at frame 6) h

-- a neighbour message ends behind its target, 24 octets after its begin, and tells none; or it has 8 octets more, one option, which
-- can't tell another one (RFC 4861 4.3, 4.4, 4.6.1)
abbrev pub message_tells : EthernetAddress → List ℕ → Option ℕ → Bool
message_tells h frame None = true
message_tells h frame (Some at) =
    nat_le (length frame) (at + 24) || (nat_le (length frame) (at + 32) && is_same (hardware_at frame (at + 26)) h)

-- what a frame tells is no other hardware address than this one: an ARP packet that of its sender, octets 22 to 27 (RFC 826)
abbrev pub tells_only : EthernetAddress → List ℕ → Bool
tells_only h frame =
    if nat_lt (length frame) 42 then true
    else if u16_at frame 12 == 0x0806 then is_same (hardware_at frame 22) h
    else message_tells h frame (message_of frame)

-- a frame comes from the own hardware address, if the medium has such
abbrev pub comes_back : Option HardwareAddress → List ℕ → Bool
comes_back None frame = false
comes_back (Some Ip) frame = false
comes_back (Some (Ethernet own)) frame = is_from own frame

-- and tells no other one
abbrev pub is_from_host : Option HardwareAddress → List ℕ → Bool
is_from_host None frame = false
is_from_host (Some Ip) frame = false
is_from_host (Some (Ethernet own)) frame = is_from own frame && tells_only own frame
