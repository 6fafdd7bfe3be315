use Rattle.fragmentation.proofs.LoopLemmas.{sound_more}
use Rattle.fragmentation.proofs.reassembly.are_sound.Goals as goal

pub loop-assembler-preserved : goal.loop-assembler-preserved
loop-assembler-preserved g c = sound_more c.args.assemblers.now c.loop-assembler.assembler-index c.assembler-item.result
    c.loop-assembler-test.true c.assembler-item.is c.is_sound.ensures c.loop-assembler.invariant
