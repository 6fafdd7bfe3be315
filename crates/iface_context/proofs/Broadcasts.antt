-- Which addresses can be broadcast addresses.
use Rattle.std.proofs.Common.{◌≡◌, ◌%◌, ◌==◌, Bool, true, false, List, [], ◌∷◌, refl, arith}
use Rattle.std.specs.Prelude.{nat_lt, if◌then◌else◌, Some, None}
use Rattle.std.specs.List.{list_any}
use Rattle.std.proofs.lemmas.Bool.Decides.{nat_tests}
use Rattle.ip_address.specs.declared.ipv4.Ipv4Address.{Ipv4Address}
use Rattle.ip_address.specs.declared.cidr.Ipv4Cidr.{Ipv4Cidr}
use Rattle.ip_address.specs.declared.cidr.IpCidr.{IpCidr}
use Rattle.ip_address.specs.declared.cidr.IpCidr.TheVariants as cidr
use Rattle.ip_address.specs.Prefixes.{last_of}
use Rattle.ip_address.proofs.LastAddress.{ends_in_ones}
use Rattle.host_machine.specs.Context.Addresses.{is_broadcast_of, is_broadcast_v4, is_that}

-- a number that doesn't end in two ones isn't the last of a network
unlike : (n : Ipv4Cidr) (a : Ipv4Address) → (a.bits % 4 == 3) ≡ false → is_broadcast_of (cidr.Ipv4 n) a ≡ false
unlike n a other = by (nat_lt n.prefix_len 31) refl where
  by : (b : Bool) → nat_lt n.prefix_len 31 ≡ b →
      is_that (if b then Some (record { bits = last_of 32 n.prefix_len n.address.bits }) else None) a ≡ false
  by false is = refl
  by true is = grind (arith, nat_tests, ends_in_ones n.address.bits n.prefix_len (grind (arith, nat_tests, is)), other)

none_of : (own : List IpCidr) (a : Ipv4Address) → (a.bits % 4 == 3) ≡ false → list_any (λ c. is_broadcast_of c a) own ≡ false
none_of [] a other = refl
none_of (cidr.Ipv4 n ∷ own) a other = rw (unlike n a other) (none_of own a other)
none_of (cidr.Ipv6 n ∷ own) a other = none_of own a other

-- such an address is no broadcast address
pub no_broadcast : (own : List IpCidr) (a : Ipv4Address) → (a.bits % 4 == 3) ≡ false → is_broadcast_v4 own a ≡ false
no_broadcast own a other = rw (none_of own a other) (grind (arith, nat_tests, other))

pub ruleset broadcasts = (no_broadcast)
