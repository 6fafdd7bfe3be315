use Rattle.std.proofs.Common.{◌≡◌, ◌∙◌, ap}
use Rattle.fragmentation.specs.Details.Holders.{taken_of}
use Rattle.fragmentation.proofs.HolderLemmas.{none_taken}
use Rattle.fragmentation.proofs.lent_slots.LentSlots.taken.Goals as goal

pub returns-then-self-clause-taken : goal.returns-then-self-clause-taken
returns-then-self-clause-taken g c =
    none_taken c.self.inside.keys.items c.self.inside.assemblers.items (c.self.invariant.idle c.if-self.true) ∙ ap taken_of c.self.view_is
