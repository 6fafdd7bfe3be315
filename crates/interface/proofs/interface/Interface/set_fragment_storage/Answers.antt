use Rattle.std.proofs.Common.{min, vec_capacity, ap}
use Rattle.fragmentation.specs.Slots.{free_slots, slot_room_over}
use Rattle.host_machine.specs.Context.Host.{Host, with_slot_room}
use Rattle.interface.proofs.interface.Interface.set_fragment_storage.Goals as goal

pub returns : goal.returns
returns c = λ sockets H h.
    let room = slot_room_over (min (vec_capacity c.args.keys) (vec_capacity c.args.slots)) in
    record { slots = free_slots room; stand = c.set_storage.ensures.stands (λ k. k); same = ap (λ (K : Host). with_slot_room K room) h.same }
