use Rattle.std.proofs.Common.{◌∙◌}
use Rattle.iface_tables.proofs.LaterLemmas.{counted}
use Rattle.iface_tables.proofs.neighbor.Cache.count_after.Goals as goal

pub returns : goal.returns
returns c =
    let es = c.self.inside.entries.items in
    rw (← c.self.view_is) (rw c.as_slice.ensures at c.count_after.ensures ∙ counted _ es c.self.invariant.distinct)
