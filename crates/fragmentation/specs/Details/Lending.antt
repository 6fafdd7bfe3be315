-- The value of a slot, and of a set of them, after a borrow ends.
use Rattle.std.specs.Prelude.{◌≡◌, ℕ, List, slice_set, Result, Ok, Err, Option, None, Some}
use Rattle.std.specs.Borrow.{LendsIfOk, Fml, RattleType, MutBor}
use Rattle.std.specs.Io.BufRead.{Rests}
use Rattle.fragmentation.specs.Assembly.{Assembly, slot_after_free, with_key}
use Rattle.fragmentation.specs.contracts.reassembly.PacketAssembler.{the_row}
use Rattle.fragmentation.specs.contracts.reassembly.PacketAssemblerSet as set

-- freed if a payload was lent, and unchanged if not
abbrev pub FreedIfLent : {K B : Type 0} → Assembly K → Option B → Assembly K → Type 0
FreedIfLent old None new = new ≡ old
FreedIfLent old (Some _) new = new ≡ slot_after_free old

module _ (K : RattleType) (s : MutBor (Assembly K.Denot)) where
  abbrev pub Frees : {B : Type 0} → Option B → Fml
  Frees r = Rests (the_row K) s (FreedIfLent s.now r)

-- the key for which the slot is taken to which the reference points
abbrev pub key_of : {K E : Type 0} → Result (MutBor (Assembly K)) E → Option K
key_of (Ok slot) = slot.now.key
key_of (Err e) = None

module _ (K : RattleType) (s : MutBor (List (Assembly K.Denot))) where
  -- the value of a slot after the borrow is what the reference had last, except that it keeps the key for which it was
  -- lent, or is free. A refusal changes nothing
  abbrev pub LendsPlace : {E : Type 0} → ℕ → Result (MutBor (Assembly K.Denot)) E → Fml
  LendsPlace i r = LendsIfOk (set.the_row K) (the_row K) s r (λ w. slice_set s.now i (with_key (key_of r) w)) s.now
