use Rattle.std.proofs.Common.{◌≡◌, ◌≤◌, ◌++◌, drop, length, map}
use Rattle.std.specs.Prelude.{filter}
use Rattle.iface_tables.specs.declared.groups.Group.{Group}
use Rattle.host_machine.specs.Context.Membership.{is_unneeded_group}
use Rattle.iface_context.proofs.membership.idle_groups.Given as goal

abbrev pub invariant-loop-group : goal.invariant-loop-group
invariant-loop-group l =
    (l.idle.items ++ filter (is_unneeded_group l.own) (map (λ (g : Group). g.addr) (drop l.group-index l.groups))
    ≡ filter (is_unneeded_group l.own) (map (λ (g : Group). g.addr) l.groups))
    × (length l.idle.items ≤ l.group-index)
