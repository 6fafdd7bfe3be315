use Rattle.std.proofs.Common.{◌≡◌, length}
use Rattle.simulation_streams.specs.Pattern.{AreFrom}
use Rattle.simulation_streams.proofs.pattern.fill.Given as goal

abbrev pub invariant-loop-i : goal.invariant-loop-i
invariant-loop-i l = (length l.octets ≡ length l.initial.octets) × AreFrom l.port l.first l.i l.octets
