use Rattle.std.proofs.Common.{◌≡◌, drop}
use Rattle.fragmentation.specs.Assembly.{are_none}
use Rattle.fragmentation.proofs.reassembly.are_none.Given as goal

abbrev pub invariant-loop-key : goal.invariant-loop-key
invariant-loop-key g l = are_none (drop l.key-index l.keys) ≡ are_none l.keys
