use Rattle.std.proofs.Common.{◌≡◌, List, Option, length, ap, sym, ◌∙◌}
use Rattle.std.specs.List.{refill}
use Rattle.fragmentation.specs.Assembly.{Assembly}
use Rattle.fragmentation.proofs.PlacesLemmas.{refilled}
use Rattle.fragmentation.proofs.own_slots.OwnSlots.release.Goals as goal

pub invariant_of-self : goal.invariant_of-self
invariant_of-self g c =
    let os : List (Option g.row.K.Denot) = c.self.inside.keys.items in
    let ss : List (Assembly g.row.K.Denot) = c.self.inside.assemblers.items in
    let keys : refill (length os) os c.release_among.new.keys ≡ c.release_among.new.keys =
    refilled os c.release_among.new.keys (c.release_among.ensures.keys ∙ ap length c.as_mut_slice.ensures.value) in
    let places : refill (length ss) ss c.release_among.new.assemblers ≡ c.release_among.new.assemblers =
    refilled ss c.release_among.new.assemblers (c.release_among.ensures.places ∙ ap length c.as_mut_slice-2.ensures.value) in
    rw (keys, places) (record {
      two = c.release_among.ensures.places ∙ ap length c.as_mut_slice-2.ensures.value ∙ c.self.invariant.two;
      kept = c.release_among.ensures.kept (rw (c.as_mut_slice.ensures.value, c.as_mut_slice-2.ensures.value) c.self.invariant.kept);
    })
