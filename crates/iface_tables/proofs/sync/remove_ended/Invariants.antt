use Rattle.std.proofs.Common.{◌≡◌, ◌-◌, ◌++◌, drop, take}
use Rattle.std.specs.Prelude.{filter, not}
use Rattle.iface_tables.specs.declared.route.Route.{Route}
use Rattle.iface_tables.specs.Sync.{is_ended_route}
use Rattle.iface_tables.proofs.sync.remove_ended.Given as goal

abbrev pub invariant-loop-passed : goal.invariant-loop-passed
invariant-loop-passed l = record {
  room : l.stored.room ≡ l.fn.stored.room;
  items : l.stored.items ≡ take (l.len - l.passed) l.fn.stored.items
      ++ filter (λ (s : Route). not (is_ended_route l.now l.routes s)) (drop (l.len - l.passed) l.fn.stored.items);
}
