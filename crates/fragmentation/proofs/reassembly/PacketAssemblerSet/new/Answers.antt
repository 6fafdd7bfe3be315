use Rattle.fragmentation.proofs.SlotsLemmas.{none_stand}
use Rattle.fragmentation.proofs.reassembly.PacketAssemblerSet.new.Goals as goal

pub returns-clause-stands : goal.returns-clause-stands
returns-clause-stands g c = λ key_of. record { room = c.new.ensures.two; held = none_stand key_of c.new.result c.new.ensures.free }
