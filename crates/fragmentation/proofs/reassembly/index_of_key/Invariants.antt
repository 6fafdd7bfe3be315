use Rattle.std.proofs.Common.{◌≡◌, ◌+◌, drop}
use Rattle.fragmentation.specs.Assembly.{index_of_key}
use Rattle.fragmentation.proofs.reassembly.index_of_key.Given as goal

abbrev pub invariant-loop-i : goal.invariant-loop-i
invariant-loop-i g l = l.i + index_of_key g.K.PartialEq.eq l.key (drop l.i l.assemblers) ≡ index_of_key g.K.PartialEq.eq l.key l.assemblers
