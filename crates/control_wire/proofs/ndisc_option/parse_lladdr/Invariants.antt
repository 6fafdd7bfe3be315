use Rattle.std.proofs.Common.{length}
use Rattle.control_wire.specs.NdiscOption.{number_of, address_in}
use Rattle.control_wire.proofs.NdiscOptions.{Rest}
use Rattle.control_wire.proofs.ndisc_option.parse_lladdr.Given as goal

abbrev pub invariant-loop-rest : goal.invariant-loop-rest
invariant-loop-rest l = Rest address_in (number_of l.option_type) l.octets l.rest l.found

abbrev pub decreases-loop-rest : goal.decreases-loop-rest
decreases-loop-rest l = length l.rest
