use Rattle.std.proofs.Common.{◌-◌, length}
use Rattle.ip_wire.proofs.Options.{Reads}
use Rattle.ip_wire.proofs.hop_by_hop.options_of.Given as goal

abbrev pub invariant-loop-options : goal.invariant-loop-options
invariant-loop-options l = Reads l.octets l.options.items l.left

abbrev pub decreases-loop-options : goal.decreases-loop-options
decreases-loop-options l = 4 - length l.options.items
