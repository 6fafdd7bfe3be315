use Rattle.iface_tables.proofs.GroupsLemmas.{distinct_after-new}
use Rattle.iface_tables.proofs.groups.append.Goals as goal

pub returns-clause-distinct : goal.returns-clause-distinct
returns-clause-distinct c = rw (c.push.ensures.items, c.new.ensures) (distinct_after-new _ c.args.group c.requires.absent c.requires.distinct)
