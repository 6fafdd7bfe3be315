use Rattle.std.proofs.Common.{◌≡◌, ◌+◌, drop}
use Rattle.fragmentation.specs.Assembly.{free_slot}
use Rattle.fragmentation.proofs.reassembly.free_slot.Given as goal

abbrev pub invariant-loop-i : goal.invariant-loop-i
invariant-loop-i g l = l.i + free_slot (drop l.i l.assemblers) ≡ free_slot l.assemblers
