use Rattle.simulation_streams.specs.Pattern.{AreFrom}
use Rattle.simulation_streams.proofs.pattern.first_wrong.Given as goal

abbrev pub invariant-loop-i : goal.invariant-loop-i
invariant-loop-i l = AreFrom l.port l.first l.i l.octets
