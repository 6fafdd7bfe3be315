use Rattle.iface_tables.proofs.GroupsLemmas.{distinct_after-state}
use Rattle.iface_tables.proofs.groups.set_state.Goals as goal

pub returns-in-Some-clause-distinct : goal.returns-in-Some-clause-distinct
returns-in-Some-clause-distinct c =
    rw c.requires.index
    (distinct_after-state c.args.entries.now.items c.args.group.now c.args.state (rw c.requires.index at c.requires.within) c.requires.distinct)
