-- What a host behind a guard never learns. Over IPv4 it learns hardware addresses from ARP alone (RFC 826).
use Rattle.std.specs.Prelude.{◌≡◌, ℕ, pos, true, List, slice_get, Some}
use Rattle.std.specs.FinMap as map
use Rattle.net_base.specs.Device.{Event}
use Rattle.ip_address.specs.declared.ethernet_address.EthernetAddress.{EthernetAddress}
use Rattle.ip_address.specs.declared.hardware.HardwareAddress.TheVariants.{Ethernet}
use Rattle.ip_address.specs.declared.ip.IpAddress.{IpAddress}
use Rattle.ip_address.specs.declared.ip.IpAddress.TheVariants.{Ipv4}
use Rattle.ip_address.specs.declared.ipv4.Ipv4Address.{Ipv4Address}
use Rattle.iface_tables.specs.declared.neighbor.Neighbor.{Neighbor}
use Rattle.host_machine.specs.Interface.Config.{if_ethernet}
use Rattle.host_machine.specs.Context.Host.{Host}
use Rattle.host_machine.specs.Context.Note.{Note}
use Rattle.host_laws.specs.Laws.Restraint.Readings.{Receives}
use Rattle.guard.specs.Guard.{is_own}
use Rattle.guard.specs.Watch.{admits}
use Rattle.guard.specs.declared.watch.Watch.{Watch}

-- a call at a moment received a frame that the guard of the host admits
pub record ReceivesAdmitted (at : ℕ) (frame : List ℕ) (w : Watch) (old : Host) (told : List Event) (notes : List Note)
    (new : Host) : Type 0 where
  pub receives : Receives (pos at) frame old told notes new
  pub is_on : w.is_on ≡ true
  pub admitted : admits (pos at) frame (if_ethernet old.hardware_addr) old.ip_addrs w ≡ true

-- who is known at an address is known at this hardware address
abbrev pub IsKnownOnlyAt : Host → IpAddress → EthernetAddress → Type 0
IsKnownOnlyAt H a h = (n : Neighbor) → map.get H.neighbors.known a ≡ Some n → n.hardware_addr ≡ Ethernet h

-- An own address that is known at no other hardware address than the own one stays so, behind a guard that keeps own addresses
abbrev pub NobodyClaimsAnOwnAddress : Type 0
NobodyClaimsAnOwnAddress =
    (at : ℕ) (frame : List ℕ) (w : Watch) (old new : Host) (told : List Event) (notes : List Note) (a : Ipv4Address) (own : EthernetAddress) →
    ReceivesAdmitted at frame w old told notes new → w.guard.keeps_own_addresses ≡ true → old.hardware_addr ≡ Ethernet own →
    is_own old.ip_addrs (Ipv4 a) ≡ true → IsKnownOnlyAt old (Ipv4 a) own → IsKnownOnlyAt new (Ipv4 a) own

-- So does a pinned address at no other than the pinned one
abbrev pub PinnedNeighborsStay : Type 0
PinnedNeighborsStay =
    (at : ℕ) (frame : List ℕ) (w : Watch) (old new : Host) (told : List Event) (notes : List Note) (a : Ipv4Address) (h : EthernetAddress)
    (k : ℕ) → ReceivesAdmitted at frame w old told notes new →
    slice_get w.guard.pins.pairs k ≡ Some (Some (record { address = Ipv4 a; hardware = h })) → IsKnownOnlyAt old (Ipv4 a) h →
    IsKnownOnlyAt new (Ipv4 a) h
