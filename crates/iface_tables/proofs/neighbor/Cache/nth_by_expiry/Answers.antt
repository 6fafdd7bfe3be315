use Rattle.iface_tables.specs.Neighbor.{sorted}
use Rattle.iface_tables.proofs.SortedLemmas.{sorted_by_end, sorted_distinct, sorted_known}
use Rattle.iface_tables.proofs.neighbor.Cache.nth_by_expiry.Goals as goal

pub returns : goal.returns
returns c =
    let es = c.self.inside.entries.items in
    let distinct = c.self.invariant.distinct in
    rw (← c.self.view_is) (record {
      all = sorted es;
      pairs = sorted_known es distinct;
      once = sorted_distinct es distinct;
      order = sorted_by_end es;
      is = rw c.as_slice.ensures at c.nth_in.ensures;
    })
