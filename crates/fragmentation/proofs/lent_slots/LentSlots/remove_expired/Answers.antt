use Rattle.fragmentation.proofs.KeptLemmas.{idle_live}
use Rattle.fragmentation.proofs.lent_slots.LentSlots.remove_expired.Goals as goal

pub returns-then-self : goal.returns-then-self
returns-then-self g c = rw (← c.self.view_is)
    (idle_live c.args.timestamp c.self.inside.keys.items c.self.inside.assemblers.items (c.self.invariant.idle c.if-self.true))
