use Rattle.std.proofs.Common.{length}
use Rattle.control_wire.specs.PrefixInformation.{prefix_at}
use Rattle.control_wire.proofs.NdiscOptions.{Rest}
use Rattle.control_wire.proofs.prefix_information.parse_prefix.Given as goal

abbrev pub invariant-loop-rest : goal.invariant-loop-rest
invariant-loop-rest l = Rest prefix_at 3 l.octets l.rest l.found

abbrev pub decreases-loop-rest : goal.decreases-loop-rest
decreases-loop-rest l = length l.rest
