use Rattle.std.proofs.Common.{◌≡◌, ◌≤◌, drop}
use Rattle.tcp_machine.specs.Scoreboard as spec
use Rattle.tcp_machine.proofs.scoreboard.told_between.Given as goal

abbrev pub invariant-loop-range : goal.invariant-loop-range
invariant-loop-range l = (spec.counted l.total (spec.told_between l.from l.to (drop l.range-index l.ranges)) ≡ spec.told_between l.from l.to l.ranges) × (l.total ≤ 1073741824)
