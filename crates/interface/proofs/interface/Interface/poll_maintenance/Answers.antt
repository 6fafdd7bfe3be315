use Rattle.std.proofs.Common.{ap, sym, ◌∙◌}
use Rattle.host_machine.specs.Context.Autoconfiguration.{after_sync}
use Rattle.interface.proofs.interface.Interface.poll_maintenance.Goals as goal

pub returns : goal.returns
returns c = λ sockets H h.
    let swept = c.expire_slots.ensures sockets H h in record {
      slots = swept.slots;
      stand = swept.stand;
      same = ap after_sync swept.same ∙ sym (c.sync_slaac.ensures swept.slots sockets);
    }
