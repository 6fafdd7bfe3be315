-- What slots end as, where one is lent. No public clause cites this module.
use Rattle.std.specs.Prelude.{ℕ, List, Result, slice_set}
use Rattle.std.specs.Borrow.{LendsIfOk, Fml, RattleType, MutBor}
use Rattle.fragmentation.specs.Assembly.{Assembly, with_key}
use Rattle.fragmentation.specs.Details.Lending.{key_of}
use Rattle.fragmentation.specs.Details.Place.{with_slot_at}
use Rattle.fragmentation.specs.contracts.reassembly.PacketAssembler.{the_row}
use Rattle.fragmentation.specs.contracts.own_slots.OwnSlots as own
use Rattle.fragmentation.specs.contracts.lent_slots.LentSlots as lent
use Rattle.fragmentation.specs.contracts.place.Place as place

module _ (K : RattleType) (s : MutBor (List (Assembly K.Denot))) {E : Type 0} (i : ℕ) (r : Result (MutBor (Assembly K.Denot)) E) where
  abbrev pub own_lends_place : Fml
  own_lends_place = LendsIfOk (own.the_row K) (the_row K) s r (λ w. slice_set s.now i (with_key (key_of r) w)) s.now

  abbrev pub lent_lends_place : Fml
  lent_lends_place = LendsIfOk (lent.the_row K) (the_row K) s r (λ w. slice_set s.now i (with_key (key_of r) w)) s.now

abbrev pub lends_place : (K : RattleType) (p : MutBor (place.the_row K).Denot) {E : Type 0} (i : ℕ) (r : Result (MutBor (Assembly K.Denot)) E) → Fml
lends_place K p i r = LendsIfOk (place.the_row K) (the_row K) p r (λ w. with_slot_at p.now i (with_key (key_of r) w)) p.now
