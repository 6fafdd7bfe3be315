use Rattle.std.proofs.Common.{◌≡◌, min, vec_capacity, ◌∙◌}
use Rattle.fragmentation.proofs.PlacesLemmas.{slot_room_over-some}
use Rattle.fragmentation.proofs.place.Place.set_storage.Goals as goal

pub returns-clause-room : goal.returns-clause-room
returns-clause-room g c =
    let room : c.min.result ≡ min (vec_capacity c.args.keys) (vec_capacity c.args.slots) =
    rw (c.capacity.ensures, c.capacity-2.ensures) at c.min.ensures in
    c.over.ensures.room ∙ slot_room_over-some (min (vec_capacity c.args.keys) (vec_capacity c.args.slots)) (λ e. c.if-min-eq0.false (room ∙ e))
