use Rattle.std.proofs.Common.{◌<◌, ◌≤◌, ◌^◌}
use Rattle.std.specs.Prelude.{pos, ◌+ℤ◌, ◌<ℤ◌}
use Rattle.iface_tables.specs.Neighbor.{count_before}
use Rattle.iface_tables.proofs.neighbor.end_at.Given as goal

abbrev pub invariant-loop-width : goal.invariant-loop-width
invariant-loop-width l = record {
  top : (l.low +ℤ pos l.width) <ℤ pos (2 ^ 63);
  before : count_before l.low l.entries ≤ l.index;
  until : l.index < count_before (l.low +ℤ pos l.width +ℤ pos 1) l.entries;
}

abbrev pub decreases-loop-width : goal.decreases-loop-width
decreases-loop-width l = l.width
