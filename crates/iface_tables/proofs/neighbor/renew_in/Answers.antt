use Rattle.std.proofs.Common.{ap, length, ◌∙◌}
use Rattle.std.specs.List.{refill}
use Rattle.iface_tables.proofs.ListLemmas.{refilled}
use Rattle.iface_tables.proofs.NeighborLemmas.{RenewsIn, renewed}
use Rattle.iface_tables.proofs.neighbor.renew_in.Goals as goal

done : (c : goal.After-entries-1) → RenewsIn c.args.entries.now.items
    (refill (length c.args.entries.now.items) c.args.entries.now.items c.renew.new.entries)
    c.args.address.now c.args.hardware_addr.now c.args.expires_at
done c =
    let es = c.args.entries.now.items in
    rw (refilled es c.renew.new.entries (c.renew.auto.entries ∙ ap length c.as_mut_slice.ensures.value), c.renew.ensures, c.as_mut_slice.ensures.value)
    (renewed es c.args.address.now c.args.hardware_addr.now c.args.expires_at c.index_hinting-place.result c.requires.distinct
    c.index_hinting-place.ensures)

pub returns-clause-kept : goal.returns-clause-kept
returns-clause-kept c = record { distinct = (done c).distinct; some = c.requires.some }

pub returns-clause-renews : goal.returns-clause-renews
returns-clause-renews c = (done c).renews
