use Rattle.std.proofs.Common.{◌≡◌, ◌++◌, List, drop, length}
use Rattle.std.specs.Option.{option_map}
use Rattle.ip_address.specs.declared.cidr.IpCidr.{IpCidr}
use Rattle.iface_c.specs.Lists.{cidrs_in}
use Rattle.iface_c.proofs.lists.networks.Given as goal

abbrev pub invariant-loop-one : goal.invariant-loop-one
invariant-loop-one l =
    (length l.networks.items ≡ l.one-index)
    × (option_map (λ (rest : List IpCidr). l.networks.items ++ rest) (cidrs_in (drop l.one-index l.list)) ≡ cidrs_in l.list)
