use Rattle.std.proofs.Common.{◌≡◌, drop}
use Rattle.tcp_machine.specs.Scoreboard as spec
use Rattle.tcp_machine.proofs.scoreboard.hole_from.Given as goal

abbrev pub invariant-loop-range : goal.invariant-loop-range
invariant-loop-range l = spec.hole_from l.position (drop l.range-index l.ranges) ≡ spec.hole_from l.position l.ranges
