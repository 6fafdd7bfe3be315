use Rattle.std.proofs.Common.{ap, ◌∙◌}
use Rattle.iface_tables.specs.Neighbor.{is_found}
use Rattle.iface_context.proofs.neighbors.is_known.Goals as goal

pub returns : goal.returns
returns c = c.found.ensures ∙ ap is_found c.lookup.ensures
