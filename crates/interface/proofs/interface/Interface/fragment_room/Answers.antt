use Rattle.std.proofs.Common.{ap, ◌∙◌, sym}
use Rattle.host_machine.specs.Context.Host.{Host}
use Rattle.interface.proofs.interface.Interface.fragment_room.Goals as goal

pub returns-clause-stands : goal.returns-clause-stands
returns-clause-stands c = λ sockets H h. c.room.ensures ∙ h.stand.room ∙ sym (ap (λ (K : Host). K.slots.room) h.same)
