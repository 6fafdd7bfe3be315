use Rattle.std.proofs.Common.{◌≡◌, drop}
use Rattle.ip_address.specs.AddressSelection.Ipv6.{first_best}
use Rattle.ip_address.proofs.address_selection.ipv6.first_best.Given as goal

abbrev pub invariant-loop-cidr : goal.invariant-loop-cidr
invariant-loop-cidr l = first_best l.own l.dst_addr (drop l.cidr-index l.own) ≡ first_best l.own l.dst_addr l.own
