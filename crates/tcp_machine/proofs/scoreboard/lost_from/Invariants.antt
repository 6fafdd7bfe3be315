use Rattle.std.proofs.Common.{◌≡◌, ◌≤◌, drop}
use Rattle.tcp_machine.specs.Scoreboard as spec
use Rattle.tcp_machine.proofs.scoreboard.lost_from.Given as goal

abbrev pub invariant-loop-i : goal.invariant-loop-i
invariant-loop-i l = (spec.counted l.total (spec.lost_from l.mss l.position (drop l.i l.ranges)) ≡ spec.lost_from l.mss l.position l.ranges) × (l.total ≤ 1073741824)
