use Rattle.std.proofs.Common.{◌∙◌}
use Rattle.iface_tables.proofs.GroupsLemmas.{distinct_after-taken_out, taken_is}
use Rattle.iface_tables.proofs.groups.take_out.Goals as goal

pub returns-clause-distinct : goal.returns-clause-distinct
returns-clause-distinct c =
    rw (c.swap_remove.ensures.items ∙ taken_is _ c.args.group.now c.args.index _ c.requires.index c.requires.within)
    (distinct_after-taken_out c.args.entries.now.items c.args.group.now (rw c.requires.index at c.requires.within) c.requires.distinct)
