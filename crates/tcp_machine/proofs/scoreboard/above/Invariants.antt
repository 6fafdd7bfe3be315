use Rattle.std.proofs.Common.{◌≡◌, drop}
use Rattle.tcp_machine.specs.Scoreboard as spec
use Rattle.tcp_machine.proofs.scoreboard.above.Given as goal

abbrev pub invariant-loop-i : goal.invariant-loop-i
invariant-loop-i l = spec.above l.position (drop l.i l.ranges) ≡ spec.above l.position l.ranges
