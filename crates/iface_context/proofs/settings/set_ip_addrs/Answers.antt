use Rattle.iface_context.proofs.Extended.{extended}
use Rattle.iface_context.proofs.settings.set_ip_addrs.Goals as goal

pub invariant_of-context : goal.invariant_of-context
invariant_of-context c =
    let k = c.args.context.now in
    let put = extended c.try_extend_from_slice.result c.clear.new.self.items c.try_extend_from_slice.new.self.items c.args.list.now k.addr_room 16
    c.clear.ensures c.requires k.few_addrs c.try_extend_from_slice.ensures.variant c.try_extend_from_slice.ensures.ok in
    record {
      few_addrs = k.few_addrs;
      four_addrs = k.four_addrs;
      room_for_addrs = rw put c.requires;
      timely = k.timely;
      short = k.short;
      long = k.long;
      within_a_day = k.within_a_day;
      cut_to_fit = k.cut_to_fit;
      of_medium = k.of_medium;
      own = k.own;
      neighbors = k.neighbors;
      pending = k.pending;
    }

pub returns : goal.returns
returns c =
    let k = c.args.context.now in
    let put = extended c.try_extend_from_slice.result c.clear.new.self.items c.try_extend_from_slice.new.self.items c.args.list.now k.addr_room 16
    c.clear.ensures c.requires k.few_addrs c.try_extend_from_slice.ensures.variant c.try_extend_from_slice.ensures.ok in
    λ sockets. rw put at (c.follow_addrs.ensures sockets)
