use Rattle.std.proofs.Common.{◌≡◌, ◌+◌, drop}
use Rattle.iface_tables.specs.Groups.{index_of}
use Rattle.iface_tables.proofs.groups.index_of.Given as goal

abbrev pub invariant-loop-i : goal.invariant-loop-i
invariant-loop-i l = l.i + index_of (drop l.i l.groups) l.group ≡ index_of l.groups l.group
