use Rattle.fragmentation.specs.Details.Place.{slots_at}
use Rattle.fragmentation.proofs.SomeSlots.{some_slots}
use Rattle.fragmentation.proofs.reassembly.PacketAssemblerSet+FragKey.stands_for_slots.Goals as goal

pub returns : goal.returns
returns c = rw (← c.self.view_is) (some_slots (slots_at c.self.inside.place) c.are_kept.ensures.sound c.are_kept.ensures.apart)
