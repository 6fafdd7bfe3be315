use Rattle.std.proofs.Common.{◌≡◌, take}
use Rattle.iface_tables.proofs.route.store_all.Given as goal

abbrev pub invariant-loop-route : goal.invariant-loop-route
invariant-loop-route l = record {
  items : l.storage.items ≡ take l.route-index l.routes;
  room : l.storage.room ≡ l.fn.storage.room;
}
