use Rattle.iface_context.proofs.neighbors.limit_neighbor.Goals as goal

pub invariant_of-context : goal.invariant_of-context
invariant_of-context c =
    let k = c.args.context.now in
    record {
      few_addrs = k.few_addrs;
      four_addrs = k.four_addrs;
      room_for_addrs = k.room_for_addrs;
      timely = k.timely;
      short = k.short;
      long = k.long;
      within_a_day = k.within_a_day;
      cut_to_fit = k.cut_to_fit;
      of_medium = k.of_medium;
      own = k.own;
      neighbors = c.limit_expiry.ensures.of k.capabilities.medium k.neighbors;
      pending = k.pending;
    }
