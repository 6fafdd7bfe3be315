use Rattle.std.proofs.Common.{◌≡◌, drop}
use Rattle.ip_address.specs.AddressSelection.Ipv6.{ipv6_addr}
use Rattle.ip_address.proofs.address_selection.ipv6.ipv6_addr.Given as goal

abbrev pub invariant-loop-cidr : goal.invariant-loop-cidr
invariant-loop-cidr l = ipv6_addr (drop l.cidr-index l.own) ≡ ipv6_addr l.own
