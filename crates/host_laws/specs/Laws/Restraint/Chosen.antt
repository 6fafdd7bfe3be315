-- The source that a host chooses for a destination (RFC 1122 3.3.4.3, RFC 6724 4).
use Rattle.std.specs.Prelude.{◌≡◌, ◌≢◌, ◌⊎◌, List}
use Rattle.std.specs.List.{AllByRecursion}
use Rattle.ip_address.specs.declared.cidr.IpCidr.{IpCidr}
use Rattle.ip_address.specs.declared.cidr.IpCidr.TheVariants as cidr
use Rattle.ip_address.specs.declared.cidr.Ipv6Cidr.{Ipv6Cidr}
use Rattle.ip_address.specs.declared.ip.IpAddress.{IpAddress}
use Rattle.ip_address.specs.declared.ip.IpAddress.TheVariants.{Ipv6}
use Rattle.host_laws.specs.Laws.Restraint.Neighbors.{IsAssigned}

-- no address of a list is of IPv6
abbrev pub HasNoIpv6 : List IpCidr → Type 0
HasNoIpv6 own = AllByRecursion (λ c. (n : Ipv6Cidr) → c ≢ cidr.Ipv6 n) own

-- An address that was assigned to the host; or ::1, for ::1 as destination or where it has no address of IPv6: kept,
-- against RFC 4291 2.5.3, by which nothing is sent from ::1
pub data IsChosenFor (own : List IpCidr) (destination source : IpAddress) : Type 0 where
  Given : IsAssigned own source → IsChosenFor own destination source
  Loopback : source ≡ Ipv6 (record { bits = 1 }) →
      (destination ≡ Ipv6 (record { bits = 1 })) ⊎ HasNoIpv6 own → IsChosenFor own destination source
