use Rattle.std.proofs.Common.{sym, ◌∙◌}
use Rattle.iface_tables.proofs.NeighborLemmas.{is_index}
use Rattle.iface_tables.proofs.neighbor.hinted.Goals as goal

pub returns-then-is_at : goal.returns-then-is_at
returns-then-is_at c = (
  c.if-index-entries.true,
  is_index c.args.entries.now c.args.address.now c.index-entries-index.result c.from-index.result c.requires c.if-index-entries.true
      (sym c.is_at.ensures ∙ c.if-is_at.true),
)
