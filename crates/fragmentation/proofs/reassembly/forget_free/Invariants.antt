use Rattle.std.proofs.Common.{◌≡◌}
use Rattle.fragmentation.proofs.LoopLemmas.{keyed_to}
use Rattle.fragmentation.proofs.reassembly.forget_free.Given as goal

abbrev pub invariant-loop-i : goal.invariant-loop-i
invariant-loop-i g l = l.keys ≡ keyed_to l.i l.initial.keys l.assemblers
