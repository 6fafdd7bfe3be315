use Rattle.std.proofs.Common.{◌≡◌, drop}
use Rattle.iface_tables.specs.Groups.{first_in}
use Rattle.iface_tables.proofs.groups.first_in.Given as goal

abbrev pub invariant-loop-g : goal.invariant-loop-g
invariant-loop-g l = first_in l.state (drop l.g-index l.groups) ≡ first_in l.state l.groups
