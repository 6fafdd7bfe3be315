-- How the hardware address of a frame was found, and that it is of the medium.
use Rattle.std.proofs.Common.{◌≡◌, List, [], ◌∷◌, ◌++◌, refl, subst, Option, Some, None, arith}
use Rattle.std.proofs.lemmas.Bool.Decides.{nat_tests}
use Rattle.std.specs.Prelude.{ℤ, Bool, true, false, if◌then◌else◌}
use Rattle.ip_address.specs.declared.cidr.IpCidr.{IpCidr}
use Rattle.ip_address.specs.declared.ethernet_address.EthernetAddress.{EthernetAddress}
use Rattle.ip_address.specs.declared.hardware.HardwareAddress.{HardwareAddress}
use Rattle.ip_address.specs.declared.hardware.HardwareAddress.TheVariants as hardware
use Rattle.ip_address.specs.declared.ip.IpAddress.{IpAddress}
use Rattle.iface_tables.specs.declared.neighbor.Answer.TheVariants.{Found, NotFound}
use Rattle.ip_address.specs.declared.ip.IpAddress.TheVariants.{Ipv6}
use Rattle.iface_tables.specs.Neighbor.{answer_of}
use Rattle.ip_address.specs.Hardware.{IsOf}
use Rattle.host_machine.specs.Context.Host.{Host, at}
use Rattle.host_machine.specs.Receive.Reply.{Ip}
use Rattle.host_machine.specs.Send.Hops.{multicast_hardware_addr}
use Rattle.std.proofs.Common.{length, ◌∙◌}
use Rattle.std.specs.Prelude.{◌/◌, ◌%◌, ◌^◌}
use Rattle.std.specs.FinMap as map
use Rattle.ip_address.specs.declared.ip.IpAddress.TheVariants as ip
use Rattle.ip_address.specs.Ipv4 as ipv4_address
use Rattle.ip_address.specs.Ipv6 as ipv6_address
use Rattle.iface_tables.specs.declared.neighbor.Neighbor.{Neighbor}
use Rattle.iface_tables.specs.declared.neighbor.Answer.TheVariants.{RateLimited}
use Rattle.iface_tables.specs.Neighbor.{answer_from, answer_without_entry, is_before}
use Rattle.net_base.specs.declared.phy.Medium.{Medium}
use Rattle.net_base.specs.declared.phy.Medium.TheVariants as medium
use Rattle.host_machine.specs.Context.Addresses.{is_broadcast_v4}
use Rattle.host_machine.specs.Send.Hops.{group_address_v4}
use Rattle.host_machine.specs.Context.Real.{IsReal}

-- how the hardware address of a frame was found
pub data Reached (H : Host) (h : HardwareAddress) : Type 0 where
  ByNeighbor : (hop : IpAddress) → answer_of H.neighbors hop H.moment ≡ Found h → Reached H h
  ByGroup : (own : EthernetAddress) (a : IpAddress) (e : EthernetAddress) →
      H.hardware_addr ≡ hardware.Ethernet own → multicast_hardware_addr H.ip_addrs a ≡ Some e → h ≡ hardware.Ethernet e → Reached H h
  WithoutAddresses : H.hardware_addr ≡ hardware.Ip → h ≡ hardware.Ip → Reached H h

-- where a frame goes is an address of the medium
found_of : (m : Medium) (o : Option Neighbor) (silent t : ℤ) (h : HardwareAddress) →
    ((e : Neighbor) → o ≡ Some e → IsOf m e.hardware_addr) → answer_from o silent t ≡ Found h → IsOf m h
found_of m None silent t h all e = by (is_before t silent) e where
  by : (b : Bool) → (if b then RateLimited else NotFound) ≡ Found h → IsOf m h
  by true q = absurd cc
  by false q = absurd cc
found_of m (Some n) silent t h all e = by (is_before t n.expires_at) e where
  later : (b : Bool) → (if b then RateLimited else NotFound) ≡ Found h → IsOf m h
  later true q = absurd cc
  later false q = absurd cc

  by : (b : Bool) → (if b then Found n.hardware_addr else answer_without_entry silent t) ≡ Found h → IsOf m h
  by true q = let same : n.hardware_addr ≡ h = cc in subst (IsOf m) same (all n refl)
  by false q = later (is_before t silent) q

group_six : (own : List IpCidr) (a : IpAddress) (e : EthernetAddress) → multicast_hardware_addr own a ≡ Some e → length e.0 ≡ 6
group_six own (ip.Ipv4 a) e is = by (is_broadcast_v4 own a) (ipv4_address.is_multicast a) is where
  by : (b c : Bool) → (if b then Some (record { 0 = 255 ∷ 255 ∷ 255 ∷ 255 ∷ 255 ∷ 255 ∷ [] }) else if c then Some (group_address_v4 a) else None)
      ≡ Some e → length e.0 ≡ 6
  by true c q = let same : ◌≡◌ {A = EthernetAddress} (record { 0 = 255 ∷ 255 ∷ 255 ∷ 255 ∷ 255 ∷ 255 ∷ [] }) e = cc in
      subst (λ (x : EthernetAddress). length x.0 ≡ 6) same refl
  by false true q = let same : group_address_v4 a ≡ e = cc in subst (λ (x : EthernetAddress). length x.0 ≡ 6) same refl
  by false false q = absurd cc
group_six own (ip.Ipv6 a) e is = by (ipv6_address.is_multicast a) is where
  by : (c : Bool) → (if c then Some (record {
    0 = 0x33 ∷ 0x33 ∷ a.bits / 2 ^ 24 % 256 ∷ a.bits / 2 ^ 16 % 256 ∷ a.bits / 2 ^ 8 % 256 ∷ a.bits % 256 ∷ [];
  }) else None) ≡ Some e → length e.0 ≡ 6
  by true q = let same : ◌≡◌ {A = EthernetAddress}
      (record { 0 = 0x33 ∷ 0x33 ∷ a.bits / 2 ^ 24 % 256 ∷ a.bits / 2 ^ 16 % 256 ∷ a.bits / 2 ^ 8 % 256 ∷ a.bits % 256 ∷ [] }) e = cc in
      subst (λ (x : EthernetAddress). length x.0 ≡ 6) same refl
  by false q = absurd cc

group_of : (m : Medium) (own : EthernetAddress) (list : List IpCidr) (a : IpAddress) (e : EthernetAddress) →
    IsOf m (hardware.Ethernet own) → multicast_hardware_addr list a ≡ Some e → IsOf m (hardware.Ethernet e)
group_of medium.Ethernet own list a e of is = group_six list a e is
group_of medium.Ip own list a e of is = absurd of

pub reached_of : (H : Host) (h : HardwareAddress) → IsReal H → Reached H h → IsOf H.capabilities.medium h
reached_of H h r (ByNeighbor hop k) =
    found_of H.capabilities.medium (map.get H.neighbors.known hop) H.neighbors.silent_until H.moment h (λ e is. r.neighbors hop e is) k
reached_of H h r (ByGroup own a e mine many is) = rw is (group_of H.capabilities.medium own H.ip_addrs a e (rw mine at r.own) many)
reached_of H h r (WithoutAddresses mine is) = rw is (rw mine at r.own)
