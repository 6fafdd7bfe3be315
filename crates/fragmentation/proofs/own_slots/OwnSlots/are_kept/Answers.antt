use Rattle.fragmentation.specs.Assembly.{AllSound}
use Rattle.fragmentation.proofs.KeptLemmas.{apart_with}
use Rattle.fragmentation.proofs.SomeSlots.{all_with}
use Rattle.fragmentation.proofs.own_slots.OwnSlots.are_kept.Goals as goal

pub returns-clause-apart : goal.returns-clause-apart
returns-clause-apart g c = rw (← c.self.view_is) (apart_with c.self.inside.keys.items c.self.inside.assemblers.items c.self.invariant.kept.apart)

pub returns-clause-sound : goal.returns-clause-sound
returns-clause-sound g c =
    let sound : AllSound c.self.inside.assemblers.items = rw (← c.as_slice.ensures.value) c.are_sound.ensures in
    rw (← c.self.view_is) (all_with c.self.inside.keys.items c.self.inside.assemblers.items sound)
