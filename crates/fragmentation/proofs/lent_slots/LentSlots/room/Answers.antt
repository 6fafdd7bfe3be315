use Rattle.std.proofs.Common.{◌≡◌, length, ap, sym, ◌∙◌}
use Rattle.fragmentation.proofs.KeptLemmas.{length-with_keys}
use Rattle.fragmentation.proofs.lent_slots.LentSlots.room.Goals as goal

pub returns : goal.returns
returns g c = c.len.ensures ∙ c.self.inside.keys.ok.0 ∙ c.self.invariant.kept.as_many
    ∙ sym (length-with_keys c.self.inside.keys.items c.self.inside.assemblers.items c.self.invariant.kept.as_many) ∙ ap length c.self.view_is
