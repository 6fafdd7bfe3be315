use Rattle.std.proofs.Common.{List, ap, map, ◌∙◌}
use Rattle.std.specs.Prelude.{filter}
use Rattle.iface_tables.specs.declared.groups.Group.{Group}
use Rattle.host_machine.specs.Context.Membership.{groups_after_joins, groups_after_leaves, is_unneeded_group}
use Rattle.iface_context.proofs.membership.update_solicited_node_groups.Goals as goal

pub returns-in-Ethernet : goal.returns-in-Ethernet
returns-in-Ethernet c =
    let idle = c.as_slice-in-Ethernet.ensures.value ∙ c.idle_groups-idle.ensures
    ∙ ap (λ (gs : List Group). filter (is_unneeded_group c.args.own.now) (map (λ (g : Group). g.addr) gs)) c.as_slice.ensures.value in
    rw c.in-Ethernet.is (c.join_solicited.ensures
    ∙ ap (λ (gs : List Group). groups_after_joins c.args.room gs c.args.own.now) (c.leave_all.ensures ∙ ap (groups_after_leaves c.args.groups.now) idle))
