use Rattle.std.proofs.Common.{◌≡◌, drop}
use Rattle.iface_tables.specs.Sync.{with_routes}
use Rattle.iface_tables.proofs.sync.add_routes.Given as goal

abbrev pub invariant-loop-route : goal.invariant-loop-route
invariant-loop-route l = record {
  room : l.stored.room ≡ l.fn.stored.room;
  items : with_routes l.stored.room l.now (drop l.route-index l.routes) l.stored.items
      ≡ with_routes l.fn.stored.room l.now l.routes l.fn.stored.items;
}
