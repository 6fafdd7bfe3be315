use Rattle.fragmentation.specs.Details.Place.{slots_at}
use Rattle.fragmentation.proofs.SlotsLemmas.{none_stand}
use Rattle.fragmentation.proofs.reassembly.PacketAssemblerSet.set_storage.Goals as goal

pub returns-clause-stands : goal.returns-clause-stands
returns-clause-stands g c = λ key_of. record { room = c.set_storage.ensures.room; held = none_stand key_of (slots_at c.set_storage.new.self) c.set_storage.ensures.free }
