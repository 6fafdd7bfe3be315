use Rattle.std.proofs.Common.{◌≡◌, ◌+◌, ◌≤◌, drop, length}
use Rattle.iface_tables.specs.Groups.{ipv6_groups}
use Rattle.iface_tables.proofs.groups.ipv6_count.Given as goal

abbrev pub invariant-loop-g : goal.invariant-loop-g
invariant-loop-g l = record {
  counted : l.count + length (ipv6_groups (drop l.g-index l.groups)) ≡ length (ipv6_groups l.groups);
  within : l.count ≤ l.g-index;
}
