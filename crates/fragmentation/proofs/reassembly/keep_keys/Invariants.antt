use Rattle.std.proofs.Common.{◌≡◌}
use Rattle.fragmentation.proofs.LoopLemmas.{kept_to, keyed_to}
use Rattle.fragmentation.proofs.reassembly.keep_keys.Given as goal

abbrev pub invariant-loop-i : goal.invariant-loop-i
invariant-loop-i g l =
    (l.assemblers ≡ kept_to l.i l.initial.keys l.initial.assemblers) × (l.keys ≡ keyed_to l.i l.initial.keys l.initial.assemblers)
