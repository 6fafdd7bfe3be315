use Rattle.std.proofs.Common.{take}
use Rattle.fragmentation.specs.Assembly.{AllSound}
use Rattle.fragmentation.proofs.reassembly.are_sound.Given as goal

abbrev pub invariant-loop-assembler : goal.invariant-loop-assembler
invariant-loop-assembler g l = AllSound (take l.assembler-index l.assemblers)
