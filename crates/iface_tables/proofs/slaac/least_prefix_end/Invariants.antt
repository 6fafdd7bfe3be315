use Rattle.std.proofs.Common.{◌≡◌, drop}
use Rattle.net_base.specs.Instants.{earlier_of, earliest_of}
use Rattle.iface_tables.specs.Slaac.{prefix_ends}
use Rattle.iface_tables.proofs.slaac.least_prefix_end.Given as goal

abbrev pub invariant-loop-prefix : goal.invariant-loop-prefix
invariant-loop-prefix l =
    earlier_of l.least (earliest_of (prefix_ends (drop l.prefix-index l.prefixes) l.now)) ≡ earliest_of (prefix_ends l.prefixes l.now)
