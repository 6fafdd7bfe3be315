use Rattle.std.proofs.Common.{◌≡◌}
use Rattle.fragmentation.proofs.LoopLemmas.{left_to}
use Rattle.fragmentation.proofs.reassembly.drop_expired.Given as goal

abbrev pub invariant-loop-i : goal.invariant-loop-i
invariant-loop-i g l = l.assemblers ≡ left_to l.timestamp l.i l.keys l.initial.assemblers
