use Rattle.std.proofs.Common.{◌≡◌, ◌≤◌, take}
use Rattle.iface_tables.proofs.route.first_four.Given as goal

abbrev pub invariant-loop-route : goal.invariant-loop-route
invariant-loop-route l = record {
  items : l.first.items ≡ take l.route-index l.routes;
  few : l.route-index ≤ 4;
}
