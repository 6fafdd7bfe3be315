use Rattle.std.proofs.Common.{◌≡◌, ◌≤◌, ◌-◌, length, vec_capacity}
use Rattle.fragmentation.specs.Assembly.{AreFree}
use Rattle.fragmentation.proofs.KeptLemmas.{AreNone}
use Rattle.fragmentation.proofs.lent_slots.LentSlots.over.Given as goal

abbrev pub decreases-loop-keys : goal.decreases-loop-keys
decreases-loop-keys g l = l.room - length l.assemblers.items

-- as many keys as slots, none of them set, and room for the rest
abbrev pub invariant-loop-keys : goal.invariant-loop-keys
invariant-loop-keys g l =
    (length l.keys.items ≡ length l.assemblers.items) × (length l.assemblers.items ≤ l.room)
    × (l.room ≤ vec_capacity l.keys) × (l.room ≤ vec_capacity l.assemblers) × AreNone l.keys.items × AreFree l.assemblers.items
