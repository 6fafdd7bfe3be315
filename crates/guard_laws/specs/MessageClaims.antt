-- What a host behind a guard never learns over IPv6, from neighbour messages (RFC 4861 7.2).
use Rattle.std.specs.Prelude.{◌≡◌, ℕ, true, List, slice_get, Some}
use Rattle.net_base.specs.Device.{Event}
use Rattle.ip_address.specs.declared.ethernet_address.EthernetAddress.{EthernetAddress}
use Rattle.ip_address.specs.declared.hardware.HardwareAddress.TheVariants.{Ethernet}
use Rattle.ip_address.specs.declared.ip.IpAddress.TheVariants.{Ipv6}
use Rattle.ip_address.specs.declared.ipv6.Ipv6Address.{Ipv6Address}
use Rattle.host_machine.specs.Context.Host.{Host}
use Rattle.host_machine.specs.Context.Note.{Note}
use Rattle.guard.specs.Guard.{is_own}
use Rattle.guard.specs.declared.watch.Watch.{Watch}
use Rattle.guard_laws.specs.Claims.{IsKnownOnlyAt, ReceivesAdmitted}

-- An own address that is known at no other hardware address than the own one stays so, behind a guard that keeps own addresses
abbrev pub NobodyClaimsAnOwnIpv6Address : Type 0
NobodyClaimsAnOwnIpv6Address =
    (at : ℕ) (frame : List ℕ) (w : Watch) (old new : Host) (told : List Event) (notes : List Note) (a : Ipv6Address) (own : EthernetAddress) →
    ReceivesAdmitted at frame w old told notes new → w.guard.keeps_own_addresses ≡ true →
    old.hardware_addr ≡ Ethernet own → is_own old.ip_addrs (Ipv6 a) ≡ true → IsKnownOnlyAt old (Ipv6 a) own → IsKnownOnlyAt new (Ipv6 a) own

-- So does a pinned address at no other than the pinned one
abbrev pub PinnedIpv6NeighborsStay : Type 0
PinnedIpv6NeighborsStay =
    (at : ℕ) (frame : List ℕ) (w : Watch) (old new : Host) (told : List Event) (notes : List Note) (a : Ipv6Address) (h : EthernetAddress)
    (k : ℕ) → ReceivesAdmitted at frame w old told notes new →
    slice_get w.guard.pins.pairs k ≡ Some (Some (record { address = Ipv6 a; hardware = h })) → IsKnownOnlyAt old (Ipv6 a) h →
    IsKnownOnlyAt new (Ipv6 a) h
