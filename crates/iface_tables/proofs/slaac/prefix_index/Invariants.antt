use Rattle.std.proofs.Common.{◌≡◌, ◌+◌, drop}
use Rattle.iface_tables.specs.Slaac.{prefix_index}
use Rattle.iface_tables.proofs.slaac.prefix_index.Given as goal

abbrev pub invariant-loop-i : goal.invariant-loop-i
invariant-loop-i l = l.i + prefix_index (drop l.i l.prefixes) l.cidr ≡ prefix_index l.prefixes l.cidr
