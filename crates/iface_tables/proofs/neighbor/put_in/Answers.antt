use Rattle.std.proofs.Common.{length, ap, ◌∙◌}
use Rattle.iface_tables.proofs.NeighborLemmas.{PutsIn, put_over_place}
use Rattle.iface_tables.proofs.ListLemmas.{refilled}
use Rattle.std.specs.List.{refill}
use Rattle.iface_tables.proofs.neighbor.put_in.Goals as goal

put : (c : goal.After-entries-1) → PutsIn c.args.entries.now.room c.args.entries.now.items
    (refill (length c.index_for-place.new.entries.items) c.index_for-place.new.entries.items c.put_at.new.entries) c.args.address c.args.neighbor
put c =
    let mid = c.index_for-place.new.entries.items in
    rw (refilled mid c.put_at.new.entries (c.put_at.auto.entries ∙ ap length c.as_mut_slice.ensures.value))
    (rw (c.put_at.ensures, c.as_mut_slice.ensures.value) (put_over_place _ _ mid _ _ c.index_for-place.result c.index_for-place.ensures.place))

pub returns-clause-kept : goal.returns-clause-kept
returns-clause-kept c = record { distinct = (put c).distinct; some = rw c.index_for-place.ensures.room c.requires.some }

pub returns-clause-puts : goal.returns-clause-puts
returns-clause-puts c = (put c).puts
