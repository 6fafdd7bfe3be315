use Rattle.std.proofs.Common.{◌≡◌, ◌+◌, ◌≤◌, drop}
use Rattle.iface_tables.specs.Groups.{count_in}
use Rattle.iface_tables.proofs.groups.count_in.Given as goal

abbrev pub invariant-loop-group : goal.invariant-loop-group
invariant-loop-group l = record {
  counted : l.count + count_in l.state (drop l.group-index l.groups) ≡ count_in l.state l.groups;
  within : l.count ≤ l.group-index;
}
