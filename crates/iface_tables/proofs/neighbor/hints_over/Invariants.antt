use Rattle.std.proofs.Common.{length, ◌-◌}
use Rattle.iface_tables.proofs.neighbor.hints_over.Given as goal

abbrev pub decreases-loop-hints : goal.decreases-loop-hints
decreases-loop-hints l = l.hints.room - length l.hints.items
