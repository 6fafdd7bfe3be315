use Rattle.std.proofs.Common.{◌≡◌, ◌+◌, ◌≤◌, drop, slice_get}
use Rattle.iface_tables.specs.Groups.{ipv4_groups}
use Rattle.iface_tables.proofs.groups.nth_ipv4.Given as goal

abbrev pub invariant-loop-g : goal.invariant-loop-g
invariant-loop-g l = record {
  ahead : slice_get (ipv4_groups (drop l.g-index l.groups)) l.ahead ≡ slice_get (ipv4_groups l.groups) l.n;
  within : l.n ≤ l.ahead + l.g-index;
}
