use Rattle.std.proofs.Common.{◌≡◌, ◌+◌, ◌≤◌, drop}
use Rattle.iface_tables.specs.Neighbor.{count_later}
use Rattle.iface_tables.proofs.neighbor.count_after.Given as goal

abbrev pub invariant-loop-e : goal.invariant-loop-e
invariant-loop-e l = record {
  few : l.count ≤ l.e-index;
  rest : l.count + count_later l.instant (drop l.e-index l.entries) ≡ count_later l.instant l.entries;
}
