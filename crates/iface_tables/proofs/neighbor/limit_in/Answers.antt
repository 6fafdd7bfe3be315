use Rattle.std.proofs.Common.{ap, length, ◌∙◌}
use Rattle.std.specs.List.{refill}
use Rattle.iface_tables.proofs.ListLemmas.{refilled}
use Rattle.iface_tables.proofs.NeighborLemmas.{LimitsIn, limited}
use Rattle.iface_tables.proofs.neighbor.limit_in.Goals as goal

done : (c : goal.After-entries-1) → LimitsIn c.args.entries.now.items
    (refill (length c.args.entries.now.items) c.args.entries.now.items c.limit.new.entries)
    c.args.address.now c.args.expires_at
done c =
    let es = c.args.entries.now.items in
    rw (refilled es c.limit.new.entries (c.limit.auto.entries ∙ ap length c.as_mut_slice.ensures.value), c.limit.ensures, c.as_mut_slice.ensures.value)
    (limited es c.args.address.now c.args.expires_at c.index_hinting-place.result c.requires.distinct
    c.index_hinting-place.ensures)

pub returns-clause-kept : goal.returns-clause-kept
returns-clause-kept c = record { distinct = (done c).distinct; some = c.requires.some }

pub returns-clause-limits : goal.returns-clause-limits
returns-clause-limits c = (done c).limits
