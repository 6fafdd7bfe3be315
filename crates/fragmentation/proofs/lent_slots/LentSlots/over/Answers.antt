use Rattle.std.proofs.Common.{◌≡◌, List, [], ◌∷◌, Option, None, length, min, vec_capacity, length-append, refl, ◌∙◌, arith}
use Rattle.fragmentation.specs.Assembly.{Assembly}
use Rattle.fragmentation.proofs.KeptLemmas.{none_more, none_set, none_apart, free_more, free_with_keys, length-with_keys}
use Rattle.fragmentation.proofs.lent_slots.LentSlots.over.Goals as goal

pub loop-keys-preserved : goal.loop-keys-preserved
loop-keys-preserved g c =
    let os : List (Option g.row.K.Denot) = c.loop-keys.keys.items in
    let ss : List (Assembly g.row.K.Denot) = c.loop-keys.assemblers.items in
    let inv = c.loop-keys.invariant in
    let keys_more = length-append os (None ∷ []) in
    let slots_more = length-append ss (c.new.result ∷ []) in
    let counted = c.loop-keys.assemblers.ok.0 in
    let below = c.loop-keys-test.true in
    rw (
      c.push_reserved.ensures.items,
      c.push_reserved-in-loop-keys.ensures.items,
      c.push_reserved.ensures.capacity,
      c.push_reserved-in-loop-keys.ensures.capacity,
    ) (
      omega (arith, keys_more, slots_more, inv.0),
      omega (arith, slots_more, counted, below),
      inv.2,
      inv.3,
      none_more os None inv.4 refl,
      free_more ss c.new.result inv.5 c.new.ensures,
    )

pub invariant_of-result : goal.invariant_of-result
invariant_of-result g c = (record {
  kept = record { as_many = c.loop-keys.invariant.0; apart = none_apart c.loop-keys.keys.items c.loop-keys.invariant.4 };
  idle = λ _. none_set c.loop-keys.keys.items c.loop-keys.invariant.4;
})

pub returns-clause-room : goal.returns-clause-room
returns-clause-room g c =
    let inv = c.loop-keys.invariant in
    let counted = c.loop-keys.assemblers.ok.0 in
    let full : length c.loop-keys.assemblers.items ≡ c.min-room.result = omega (arith, counted, inv.1, c.loop-keys-test.false) in
    let room : c.min-room.result ≡ min (vec_capacity c.args.keys) (vec_capacity c.args.assemblers) =
    rw (c.capacity.ensures, c.capacity-2.ensures, c.clear.ensures.capacity, c.clear-2.ensures.capacity) at c.min-room.ensures in
    (length-with_keys c.loop-keys.keys.items c.loop-keys.assemblers.items inv.0 ∙ full ∙ room)

pub returns-clause-free : goal.returns-clause-free
returns-clause-free g c = (free_with_keys c.loop-keys.keys.items c.loop-keys.assemblers.items c.loop-keys.invariant.5)
