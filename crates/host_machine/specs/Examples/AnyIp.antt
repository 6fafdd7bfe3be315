-- A worked example, computed from the definitions: which addresses 192.168.69.1/24 counts as its own with AnyIP.
use Rattle.std.specs.Prelude.{◌≡◌, ℕ, ℤ, pos, Bool, true, false, List, [], ◌∷◌, Option, Some, None}
use Rattle.std.proofs.Common.{lit≤}
use Rattle.ip_address.specs.declared.cidr.IpCidr.{IpCidr}
use Rattle.ip_address.specs.declared.cidr.IpCidr.TheVariants as cidr
use Rattle.ip_address.specs.declared.ip.IpAddress.TheVariants.{Ipv4}
use Rattle.iface_tables.specs.declared.route.Route.{Route}
use Rattle.host_machine.specs.Context.Host.{has_ip_addr}
use Rattle.host_machine.specs.Examples.ArpAndEcho as example

-- 10.5.0.0/16, 10.5.2.0/24
abbrev pub network : IpCidr
network = cidr.Ipv4 (record { address = record { bits = 0x0a050000 }; prefix_len = 16; in_range = lit≤ tt })

abbrev pub part : IpCidr
part = cidr.Ipv4 (record { address = record { bits = 0x0a050200 }; prefix_len = 24; in_range = lit≤ tt })

abbrev pub route : IpCidr → ℕ → Option ℤ → Route
route destination router expires_at =
    record {
      cidr = destination;
      via_router = Ipv4 (record { bits = router });
      preferred_until = None;
      expires_at = expires_at;
    }

-- the first network via 192.168.69.1 itself until ten seconds, the part of it via 192.168.69.9
abbrev pub routes : List Route
routes = route network 0xc0a84501 (Some (pos 10000000)) ∷ route part 0xc0a84509 None ∷ []

-- whether an address is the host's own at a moment
abbrev pub is_own_at : Bool → ℤ → ℕ → Bool
is_own_at any_ip t a = has_ip_addr
    (record (example.host 0x1405 (example.no_neighbors (pos 0))) { any_ip = any_ip; moment = t; routes = routes })
    (Ipv4 (record { bits = a }))

-- 10.5.1.1 is its own until the route expires, and only with AnyIP; 10.5.2.1 is reached via another host; 10.6.0.1 and
-- a group have no such route
pub record AddressesAreRoutedHere : Type 0 where
  pub given : is_own_at false (pos 0) 0xc0a84501 ≡ true
  pub without : is_own_at false (pos 0) 0x0a050101 ≡ false
  pub routed : is_own_at true (pos 10000000) 0x0a050101 ≡ true
  pub ended : is_own_at true (pos 10000001) 0x0a050101 ≡ false
  pub elsewhere : is_own_at true (pos 0) 0x0a050201 ≡ false
  pub unrouted : is_own_at true (pos 0) 0x0a060001 ≡ false
  pub group : is_own_at true (pos 0) 0xe0000005 ≡ false
