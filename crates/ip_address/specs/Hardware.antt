-- Hardware addresses.
use Rattle.std.specs.Prelude.{◌≡◌, ℕ, Bool, true, List, length, Option, Some, None, refl}
use native.Mathlib.Nat.{ℕ_set}
use Rattle.std.specs.Coded.{Coded, code_by, coded_ℕ, coded_list, coded_option}
use Rattle.net_base.specs.declared.phy.Medium.{Medium}
use Rattle.net_base.specs.declared.phy.Medium.TheVariants as medium
use Rattle.ip_address.specs.declared.hardware.HardwareAddress.{HardwareAddress}
use Rattle.ip_address.specs.declared.hardware.HardwareAddress.TheVariants.{Ip, Ethernet}
use Rattle.ip_address.specs.EthernetAddress as ethernet

-- the medium of this kind of address
abbrev pub medium_of : HardwareAddress → Medium
medium_of Ip = medium.Ip
medium_of (Ethernet e) = medium.Ethernet

-- an address of a medium, as a program holds it: six octets on Ethernet (RFC 894), and none on an IP medium
abbrev pub IsOf : Medium → HardwareAddress → Type 0
IsOf medium.Ethernet (Ethernet e) = length e.0 ≡ 6
IsOf medium.Ethernet Ip = ⊥
IsOf medium.Ip (Ethernet e) = ⊥
IsOf medium.Ip Ip = Unit {0}

pub IsOf-prop : (m : Medium) (h : HardwareAddress) → IsProp (IsOf m h)
IsOf-prop medium.Ethernet (Ethernet e) p q = ℕ_set _ _ p q
IsOf-prop medium.Ethernet Ip p q = absurd p
IsOf-prop medium.Ip (Ethernet e) p q = absurd p
IsOf-prop medium.Ip Ip p q = refl

-- a unicast address; `Ip`, on a medium without hardware addresses, counts as one
abbrev pub is_unicast : HardwareAddress → Bool
is_unicast Ip = true
is_unicast (Ethernet e) = ethernet.is_unicast e

-- its octets, if it has any, by which it is stored
abbrev pub octets_of : HardwareAddress → Option (List ℕ)
octets_of Ip = None
octets_of (Ethernet e) = Some e.0

abbrev pub hardware_of : Option (List ℕ) → HardwareAddress
hardware_of None = Ip
hardware_of (Some e) = Ethernet (record { 0 = e })

pub hardware_of-octets_of : (h : HardwareAddress) → hardware_of (octets_of h) ≡ h
hardware_of-octets_of Ip = refl
hardware_of-octets_of (Ethernet e) = refl

abbrev pub hardware_code : Coded HardwareAddress
hardware_code =
    code_by (Option (List ℕ)) (coded_option (coded_list coded_ℕ)) octets_of hardware_of hardware_of-octets_of
