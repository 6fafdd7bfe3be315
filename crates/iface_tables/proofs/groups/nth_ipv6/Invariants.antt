use Rattle.std.proofs.Common.{◌≡◌, drop, slice_get}
use Rattle.iface_tables.specs.Groups.{ipv6_groups}
use Rattle.iface_tables.proofs.groups.nth_ipv6.Given as goal

abbrev pub invariant-loop-g : goal.invariant-loop-g
invariant-loop-g l = slice_get (ipv6_groups (drop l.g-index l.groups)) l.ahead ≡ slice_get (ipv6_groups l.groups) l.n
