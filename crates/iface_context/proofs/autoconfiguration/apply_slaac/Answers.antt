use Rattle.std.proofs.Common.{ap}
use Rattle.iface_tables.specs.declared.route.Route.{Route}
use Rattle.iface_tables.specs.Store.{Stored}
use Rattle.iface_context.specs.Stands.{host_of}
use Rattle.iface_context.proofs.Syncing.{in_line_by}
use Rattle.iface_context.proofs.autoconfiguration.apply_slaac.Goals as goal

pub invariant_of-context : goal.invariant_of-context
invariant_of-context c =
    let k = c.args.context.now in
    record {
      few_addrs = k.few_addrs;
      four_addrs = k.four_addrs;
      room_for_addrs = c.sync_addrs.ensures.fits;
      timely = k.timely;
      short = k.short;
      long = k.long;
      within_a_day = k.within_a_day;
      cut_to_fit = k.cut_to_fit;
      of_medium = k.of_medium;
      own = k.own;
      neighbors = k.neighbors;
      pending = k.pending;
    }

pub returns : goal.returns
returns c = λ sockets.
    in_line_by (host_of c.args.context.now sockets) (host_of c.follow_addrs.new.context sockets) (host_of c.finish_sync.new.context sockets)
    c.sync_addrs.new.own.items c.sync_routes.new.stored.items c.sync_routes.new.stored.room
    (rw c.prefix.ensures.value at c.sync_addrs.ensures.list)
    (c.follow_addrs.ensures sockets)
    (rw c.routes.ensures.value at (ap (λ (s : Stored Route). s.items) c.sync_routes.ensures))
    (ap (λ (s : Stored Route). s.room) c.sync_routes.ensures)
    (c.finish_sync.ensures sockets)
