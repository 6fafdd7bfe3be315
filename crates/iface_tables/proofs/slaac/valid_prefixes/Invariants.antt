use Rattle.std.proofs.Common.{◌≡◌, ◌≤◌, ◌++◌, drop, length}
use Rattle.std.specs.Prelude.{filter}
use Rattle.iface_tables.specs.Slaac.{is_prefix_valid}
use Rattle.iface_tables.proofs.slaac.valid_prefixes.Given as goal

abbrev pub invariant-loop-prefix : goal.invariant-loop-prefix
invariant-loop-prefix l =
    (l.valid.items ++ filter (is_prefix_valid l.now) (drop l.prefix-index l.prefixes) ≡ filter (is_prefix_valid l.now) l.prefixes)
    × (length l.valid.items ≤ l.prefix-index)
