-- Hardware addresses of a medium stay such.
use Rattle.std.proofs.Common.{◌≡◌, ℕ, ◌+◌, ◌<◌, ◌≤◌, List, length, refl, sym, ◌∙◌, subst, arith, Option, Some, None}
use Rattle.std.specs.Prelude.{ℤ, Bool, true, false, cond, is_some, nat_lt, IsTrue, if◌then◌else◌}
use Rattle.std.proofs.lemmas.Bool.Decides.{nat_tests}
use Rattle.std.specs.FinMap as map
use Rattle.std.specs.FinMap.{FinMap, get-insert, get-remove, get-empty}
use Rattle.std.specs.Ordering.{eq_by_cmp}
use Rattle.ip_address.specs.declared.hardware.HardwareAddress.{HardwareAddress}
use Rattle.ip_address.specs.declared.ip.IpAddress.{IpAddress}
use Rattle.ip_address.specs.Ip.{address_cmp}
use Rattle.ip_wire.specs.Ethernet.{address_at}
use Rattle.ip_wire.specs.Arp.{IsArp, arp_in}
use Rattle.std.proofs.lemmas.List.{length-take, length-drop}
use Rattle.iface_tables.specs.declared.neighbor.Neighbor.{Neighbor}
use Rattle.iface_tables.specs.Neighbor.{Neighbors, Puts, Fills, is_same, after_renewal, renewed_from}
use Rattle.iface_tables.proofs.NeighborLemmas.{address_total}
use Rattle.ip_address.specs.Hardware.{IsOf}
use Rattle.iface_tables.specs.Neighbor.{AreOf}
use Rattle.net_base.specs.declared.phy.Medium.{Medium}
use Rattle.net_base.specs.declared.phy.Medium.TheVariants as medium
use Rattle.ip_address.specs.declared.ethernet_address.EthernetAddress.{EthernetAddress}
use Rattle.ip_address.specs.declared.hardware.HardwareAddress.TheVariants as hardware

-- the entries of a map
abbrev Have : Medium → FinMap address_cmp Neighbor → Type 0
Have kind m = (a : IpAddress) (e : Neighbor) → map.get m a ≡ Some e → IsOf kind e.hardware_addr

inserted : (kind : Medium) (m : FinMap address_cmp Neighbor) (a : IpAddress) (n : Neighbor) →
    IsOf kind n.hardware_addr → Have kind m → Have kind (map.insert m a n)
inserted kind m a n of all b e is = by (eq_by_cmp address_cmp b a) (sym (get-insert address_total m a n b) ∙ is) where
  by : (t : Bool) → cond t (Some n) (map.get m b) ≡ Some e → IsOf kind e.hardware_addr
  by true h = let same : n ≡ e = cc in subst (λ (x : Neighbor). IsOf kind x.hardware_addr) same of
  by false h = all b e h

removed : (kind : Medium) (m : FinMap address_cmp Neighbor) (a : IpAddress) → Have kind m → Have kind (map.remove m a)
removed kind m a all b e is = by (eq_by_cmp address_cmp b a) (sym (get-remove address_total m a b) ∙ is) where
  by : (t : Bool) → cond t None (map.get m b) ≡ Some e → IsOf kind e.hardware_addr
  by true h = absurd cc
  by false h = all b e h

put : (kind : Medium) (most : ℕ) (old new : FinMap address_cmp Neighbor) (a : IpAddress) (n : Neighbor) →
    IsOf kind n.hardware_addr → Puts most old new a n → Have kind old → Have kind new
put kind most old new a n of p all = by (map.get old a) refl where
  room : (k : ℕ) → map.len old ≡ k → map.get old a ≡ None → Have kind new
  room k is none = elim (nat_lt k most) as (λ b. nat_lt k most ≡ b → Have kind new) [
    | true ↦ λ t. let h : map.len old < most = grind (arith, nat_tests) in rw (p.room h) (inserted kind old a n of all)
    | false ↦ λ t. let h : most ≤ map.len old = grind (arith, nat_tests) in let f = p.full none h in
        rw f.2 (inserted kind (map.remove old f.0) a n of (removed kind old f.0 all))
  ] refl

  by : (o : Option Neighbor) → map.get old a ≡ o → Have kind new
  by None is = room (map.len old) refl is
  by (Some x) is = let t : IsTrue (is_some (map.get old a)) = rw is refl in rw (p.there t) (inserted kind old a n of all)

pub filled_of : (kind : Medium) (old new : Neighbors) (a : IpAddress) (n : Neighbor) →
    IsOf kind n.hardware_addr → Fills old new a n → AreOf kind old → AreOf kind new
filled_of kind old new a n of f all = put kind old.room old.known new.known a n of f.puts all

pub renewed_of : (kind : Medium) (n : Neighbors) (a : IpAddress) (h : HardwareAddress) (end : ℤ) → AreOf kind n → AreOf kind (after_renewal n a h end)
renewed_of kind n a h end all = by (map.get n.known a) refl where
  by : (o : Option Neighbor) → map.get n.known a ≡ o → Have kind (renewed_from o n.known a h end)
  by None is = all
  by (Some e) is = here (is_same e.hardware_addr h) where
    here : (b : Bool) → Have kind (if b then map.insert n.known a (record e { expires_at = end }) else n.known)
    here true = inserted kind n.known a (record e { expires_at = end }) (all a e is) all
    here false = all

pub none_of : (kind : Medium) (n : Neighbors) → AreOf kind (record n { known = map.empty })
none_of kind n a e is = let bad : None ≡ Some e = rw get-empty at is in absurd cc

pub address_six : (octets : List ℕ) (at : ℕ) → at + 6 ≤ length octets → length (address_at octets at).0 ≡ 6
address_six octets at l = search (arith, length-take, length-drop)

pub arp_source_six : (octets : List ℕ) → IsArp octets → length (arp_in octets).source_hardware_addr.0 ≡ 6
arp_source_six octets a = address_six octets 8 (omega (arith, a.whole))

-- where the host's own address is one of Ethernet, another of six octets is one of the same medium
pub of_six : (kind : Medium) (own h : EthernetAddress) → IsOf kind (hardware.Ethernet own) → length h.0 ≡ 6 → IsOf kind (hardware.Ethernet h)
of_six medium.Ethernet own h six is = is
of_six medium.Ip own h six is = absurd six

-- so is the sender's of an ARP packet
pub arp_source_of : (kind : Medium) (own : EthernetAddress) (octets : List ℕ) →
    IsOf kind (hardware.Ethernet own) → IsArp octets → IsOf kind (hardware.Ethernet (arp_in octets).source_hardware_addr)
arp_source_of kind own octets six a = of_six kind own (arp_in octets).source_hardware_addr six (arp_source_six octets a)
