use Rattle.std.proofs.Common.{◌≡◌, map as each, length, sym, ap, ◌∙◌}
use Rattle.fragmentation.specs.Assembly.{live_at, with_keys}
use Rattle.fragmentation.proofs.PlacesLemmas.{refilled}
use Rattle.fragmentation.proofs.own_slots.OwnSlots.remove_expired.Goals as goal

pub invariant_of-self : goal.invariant_of-self
invariant_of-self g c =
    let places = c.drop_expired_of_two.ensures.places ∙ ap length c.as_mut_slice.ensures.value in
    rw (refilled c.self.inside.assemblers.items c.drop_expired_of_two.new.assemblers places)
    (record { two = places ∙ c.self.invariant.two; kept = record { as_many = c.self.invariant.kept.as_many ∙ sym places; apart = c.self.invariant.kept.apart } })

pub returns : goal.returns
returns g c =
    let long = c.drop_expired_of_two.ensures.places ∙ ap length c.as_mut_slice.ensures.value in
    let left : with_keys c.self.inside.keys.items c.drop_expired_of_two.new.assemblers
    ≡ each (live_at c.args.timestamp) (with_keys c.self.inside.keys.items c.self.inside.assemblers.items) =
    rw (c.as_slice.ensures.value, c.as_mut_slice.ensures.value) at c.drop_expired_of_two.ensures.left in
    ap (with_keys c.self.inside.keys.items) (refilled c.self.inside.assemblers.items c.drop_expired_of_two.new.assemblers long) ∙ left
    ∙ ap (each (live_at c.args.timestamp)) c.self.view_is
