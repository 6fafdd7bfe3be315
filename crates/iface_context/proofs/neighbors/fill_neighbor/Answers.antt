use Rattle.std.proofs.Common.{sym, subst}
use Rattle.iface_tables.specs.Neighbor.{AreOf}
use Rattle.iface_context.proofs.neighbors.fill_neighbor.Goals as goal

pub invariant_of-context : goal.invariant_of-context
invariant_of-context c =
    let k = c.args.context.now in
    record {
      few_addrs = k.few_addrs;
      four_addrs = k.four_addrs;
      room_for_addrs = k.room_for_addrs;
      timely = k.timely;
      short = k.short;
      long = k.long;
      within_a_day = k.within_a_day;
      cut_to_fit = k.cut_to_fit;
      of_medium = k.of_medium;
      own = k.own;
      neighbors = subst (λ m. AreOf m c.fill.new.self) c.requires.of_medium
          (c.fill.ensures.of (subst (λ m. AreOf m k.neighbor_cache) (sym c.requires.of_medium) k.neighbors));
      pending = k.pending;
    }
