use Rattle.std.proofs.Common.{◌≡◌, ◌≤◌, drop}
use Rattle.tcp_machine.specs.Scoreboard as spec
use Rattle.tcp_machine.proofs.scoreboard.octets_in.Given as goal

abbrev pub invariant-loop-range : goal.invariant-loop-range
invariant-loop-range l = (spec.counted l.total (spec.octets_in (drop l.range-index l.ranges)) ≡ spec.octets_in l.ranges) × (l.total ≤ 1073741824)
