use Rattle.std.proofs.Common.{◌≡◌, ◌≤◌, ◌-◌, length, vec_capacity}
use Rattle.iface_tables.proofs.route_nodes.filled.Given as goal

abbrev pub invariant-loop-storage : goal.invariant-loop-storage
invariant-loop-storage l = record {
  room : vec_capacity l.storage ≡ vec_capacity l.fn.storage;
  within : length l.storage.items ≤ l.count;
}

abbrev pub decreases-loop-storage : goal.decreases-loop-storage
decreases-loop-storage l = l.count - length l.storage.items
