-- Ethernet addresses (IEEE 802.3): six octets.
use Rattle.std.specs.Prelude.{◌%◌, ◌==◌, Bool, not, ◌||◌, [], ◌∷◌, slice_index}
use Rattle.std.specs.Str.{bytes_eq}
use Rattle.ip_address.specs.declared.ethernet_address.EthernetAddress.{EthernetAddress}

-- the broadcast address is all ones
abbrev pub broadcast : EthernetAddress
broadcast = record { 0 = 255 ∷ 255 ∷ 255 ∷ 255 ∷ 255 ∷ 255 ∷ [] }

-- two addresses are equal exactly if all octets are
abbrev pub is_same : EthernetAddress → EthernetAddress → Bool
is_same a b = bytes_eq a.0 b.0

abbrev pub is_broadcast : EthernetAddress → Bool
is_broadcast a = bytes_eq a.0 broadcast.0

-- a multicast address has the lowest bit of its first octet set
abbrev pub is_multicast : EthernetAddress → Bool
is_multicast a = slice_index a.0 0 % 2 == 1

-- a unicast address is neither broadcast nor multicast
abbrev pub is_unicast : EthernetAddress → Bool
is_unicast a = not (is_broadcast a || is_multicast a)
