use Rattle.std.proofs.Common.{refl, None, [], ◌∷◌}
use Rattle.fragmentation.proofs.KeptLemmas.{none_apart, free_with_keys}
use Rattle.fragmentation.proofs.own_slots.OwnSlots.new.Goals as goal

pub invariant_of-result : goal.invariant_of-result
invariant_of-result g c =
    rw (c.push-2.ensures.items, c.push.ensures.items, c.new-keys.ensures, c.push-4.ensures.items, c.push-3.ensures.items, c.new-assemblers.ensures)
    (record { two = refl; kept = record { as_many = refl; apart = none_apart (None ∷ None ∷ []) (refl, (refl, tt)) } })

pub returns-clause-free : goal.returns-clause-free
returns-clause-free g c =
    rw (c.push-2.ensures.items, c.push.ensures.items, c.new-keys.ensures, c.push-4.ensures.items, c.push-3.ensures.items, c.new-assemblers.ensures)
    (free_with_keys (None ∷ None ∷ []) (c.new.result ∷ c.new-2.result ∷ []) (c.new.ensures, (c.new-2.ensures, tt)))
