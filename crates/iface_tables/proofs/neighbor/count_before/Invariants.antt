use Rattle.std.proofs.Common.{◌≡◌, ◌+◌, ◌≤◌, drop}
use Rattle.iface_tables.specs.Neighbor.{count_before}
use Rattle.iface_tables.proofs.neighbor.count_before.Given as goal

abbrev pub invariant-loop-e : goal.invariant-loop-e
invariant-loop-e l = record {
  few : l.count ≤ l.e-index;
  rest : l.count + count_before l.end (drop l.e-index l.entries) ≡ count_before l.end l.entries;
}
