-- A network whose prefix is in range, whatever shows that.
use Rattle.std.proofs.Common.{◌≡◌, ◌≤◌, ℕ, Bool, true, false, Option, Some, ap, lit≤}
use Rattle.std.proofs.Math.Bridge.{le_prop}
use Rattle.std.proofs.lemmas.Bool.{le-leb}
use Rattle.std.specs.Prelude.{T, nat_le}
use Rattle.ip_address.specs.declared.cidr.IpCidr.{IpCidr}
use Rattle.ip_address.specs.declared.cidr.IpCidr.TheVariants as cidr
use Rattle.ip_address.specs.declared.ip.IpAddress.TheVariants.{Ipv4, Ipv6}
use Rattle.ip_address.specs.declared.ipv4.Ipv4Address.{Ipv4Address}
use Rattle.ip_address.specs.declared.ipv6.Ipv6Address.{Ipv6Address}
use Rattle.iface_c.specs.Addresses.{ipv4_by, ipv6_by, network_of}

pub ipv4_network : (a : Ipv4Address) (n : ℕ) (p : n ≤ 32) →
    Some (cidr.Ipv4 (record { address = a; prefix_len = n; in_range = p })) ≡ network_of (Ipv4 a) n
ipv4_network a n p = by (nat_le n 32) lit≤ (le-leb n 32 p) where
  of : n ≤ 32 → Option IpCidr
  of q = Some (cidr.Ipv4 (record { address = a; prefix_len = n; in_range = q }))

  by : (b : Bool) (h : T b → n ≤ 32) → b ≡ true → of p ≡ ipv4_by a n b h
  by true h e = ap of (le_prop p (h tt))
  by false h e = absurd cc

pub ipv6_network : (a : Ipv6Address) (n : ℕ) (p : n ≤ 128) →
    Some (cidr.Ipv6 (record { address = a; prefix_len = n; in_range = p })) ≡ network_of (Ipv6 a) n
ipv6_network a n p = by (nat_le n 128) lit≤ (le-leb n 128 p) where
  of : n ≤ 128 → Option IpCidr
  of q = Some (cidr.Ipv6 (record { address = a; prefix_len = n; in_range = q }))

  by : (b : Bool) (h : T b → n ≤ 128) → b ≡ true → of p ≡ ipv6_by a n b h
  by true h e = ap of (le_prop p (h tt))
  by false h e = absurd cc
