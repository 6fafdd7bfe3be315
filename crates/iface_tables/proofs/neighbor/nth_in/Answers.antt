use Rattle.std.proofs.Common.{arith, sym, ap, ◌-◌, ◌∙◌}
use Rattle.std.proofs.lemmas.Option.{slice_get_past}
use Rattle.iface_tables.specs.Neighbor.{expiring_at, sorted}
use Rattle.iface_tables.proofs.SortedLemmas.{length-sorted, nth_found}
use Rattle.iface_tables.proofs.neighbor.nth_in.Goals as goal

pub returns-then-index-entries : goal.returns-then-index-entries
returns-then-index-entries c =
    let n = length-sorted c.args.entries.now in
    sym (slice_get_past (sorted c.args.entries.now) c.args.index (omega (arith, n, c.if-index-entries.true)))

pub returns : goal.returns
returns c =
    let es = c.args.entries.now in
    c.expiring_at.ensures ∙ ap (λ n. expiring_at c.end_at-end.result (c.args.index - n) es) c.count_before-before.ensures
    ∙ nth_found c.end_at-end.result c.args.index es c.end_at-end.ensures c.if-index-entries.false
