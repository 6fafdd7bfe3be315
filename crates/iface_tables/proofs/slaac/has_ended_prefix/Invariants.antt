use Rattle.std.proofs.Common.{◌≡◌, drop}
use Rattle.std.specs.Prelude.{not}
use Rattle.std.specs.List.{list_any}
use Rattle.iface_tables.specs.Slaac.{is_prefix_valid}
use Rattle.iface_tables.proofs.slaac.has_ended_prefix.Given as goal

abbrev pub invariant-loop-prefix : goal.invariant-loop-prefix
invariant-loop-prefix l =
    list_any (λ p. not (is_prefix_valid l.now p)) (drop l.prefix-index l.prefixes) ≡ list_any (λ p. not (is_prefix_valid l.now p)) l.prefixes
