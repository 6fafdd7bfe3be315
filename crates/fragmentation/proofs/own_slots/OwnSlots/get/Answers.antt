use Rattle.std.proofs.Common.{◌≡◌, ◌<◌, ◌≤◌, ℕ, true, false, List, Option, length, refl, ap, ◌∙◌, arith, inl, inr}
use Rattle.fragmentation.specs.Assembly.{Assembly, with_keys}
use Rattle.fragmentation.proofs.PlacesLemmas.{slot_for-le}
use Rattle.fragmentation.proofs.KeptLemmas.{Took, took_of, length-lent, two_then, two_lent, shown_place, lent_shown, none_shown}
use Rattle.fragmentation.proofs.own_slots.OwnSlots.get.Goals as goal

not_true : false ≡ true → ⊥
not_true f = cc

not_below : (p n m : ℕ) → (p < n → ⊥) → n ≡ m → m ≤ p
not_below p n m h e = omega arith

full : (p q n : ℕ) → p ≡ q → n ≤ p → q ≤ n → q ≡ n
full p q n e h k = omega arith

pub invariant_of-self-lent : goal.invariant_of-self-lent
invariant_of-self-lent g c =
    let took : Took g.K.PartialEq.eq c.args.key.now c.args.end c.self.inside.keys.items
    c.self.inside.assemblers.items c.take_of_two-slot.result c.take_of_two-slot.new.keys c.take_of_two-slot.new.assemblers =
    took_of c.as_mut_slice.ensures.value c.as_mut_slice-2.ensures.value c.take_of_two-slot.ensures.slot c.take_of_two-slot.ensures.taken c.take_of_two-slot.ensures.keys in
    two_lent g.K.PartialEq.eq g.met.K.Eq.laws.refl c.args.key.now c.args.end _ _ _ _ _ c.self.invariant.kept took c.self.invariant.two

pub invariant_of-self : goal.invariant_of-self
invariant_of-self g c =
    let took : Took g.K.PartialEq.eq c.args.key.now c.args.end c.self.inside.keys.items
    c.self.inside.assemblers.items c.take_of_two-slot.result c.take_of_two-slot.new.keys c.take_of_two-slot.new.assemblers =
    took_of c.as_mut_slice.ensures.value c.as_mut_slice-2.ensures.value c.take_of_two-slot.ensures.slot c.take_of_two-slot.ensures.taken c.take_of_two-slot.ensures.keys in
    two_then g.K.PartialEq.eq g.met.K.Eq.laws.refl c.args.key.now c.args.end _ _ _ _ _ c.self.invariant.kept took c.self.invariant.two

pub returns-in-Some : goal.returns-in-Some
returns-in-Some g c =
    let eq = g.K.PartialEq.eq in
    let k = c.args.key.now in
    let os : List (Option g.row.K.Denot) = c.self.inside.keys.items in
    let ss : List (Assembly g.row.K.Denot) = c.self.inside.assemblers.items in
    let ps : List (Assembly g.row.K.Denot) = c.take_of_two-slot.new.assemblers in
    let took : Took eq k c.args.end os ss c.take_of_two-slot.result c.take_of_two-slot.new.keys ps =
    took_of c.as_mut_slice.ensures.value c.as_mut_slice-2.ensures.value c.take_of_two-slot.ensures.slot c.take_of_two-slot.ensures.taken c.take_of_two-slot.ensures.keys in
    let reflexive = g.met.K.Eq.laws.refl in
    let long = length-lent eq reflexive k c.args.end os ss c.take_of_two-slot.result c.take_of_two-slot.new.keys ps c.self.invariant.kept took in
    let there = c.in-Some.ensures.variant.0 refl in
    let below : c.take_of_two-slot.result < length (with_keys os ss) = omega (arith, there, long) in
    let value = c.in-Some.ensures.value
    ∙ shown_place eq reflexive k c.args.end os ss c.take_of_two-slot.result c.take_of_two-slot.new.keys ps c.self.invariant.kept took c.in-Some.assembler.now below in
    let lent = lent_shown eq reflexive k c.args.end os ss c.take_of_two-slot.result c.take_of_two-slot.new.keys ps c.self.invariant.kept took c.in-Some.assembler.now.key
    c.in-Some.assembler.now below (ap (λ (x : Assembly g.row.K.Denot). x.key) value) in
    let slot = took.slot in
    rw (← c.self.view_is) (
      ap (λ (F : Assembly g.row.K.Denot → List (Assembly g.row.K.Denot)). inl (c.in-Some.assembler.ghost_name, F)) lent,
      record {
        lends = tt;
        value = value;
        refused = (λ f. absurd (not_true f), λ f. absurd (omega (arith, f, below, slot)));
        within = slot_for-le eq k (with_keys os ss);
      },
    )

pub returns-in-None : goal.returns-in-None
returns-in-None g c =
    let eq = g.K.PartialEq.eq in
    let k = c.args.key.now in
    let os : List (Option g.row.K.Denot) = c.self.inside.keys.items in
    let ss : List (Assembly g.row.K.Denot) = c.self.inside.assemblers.items in
    let ps : List (Assembly g.row.K.Denot) = c.take_of_two-slot.new.assemblers in
    let took : Took eq k c.args.end os ss c.take_of_two-slot.result c.take_of_two-slot.new.keys ps =
    took_of c.as_mut_slice.ensures.value c.as_mut_slice-2.ensures.value c.take_of_two-slot.ensures.slot c.take_of_two-slot.ensures.taken c.take_of_two-slot.ensures.keys in
    let reflexive = g.met.K.Eq.laws.refl in
    let long = length-lent eq reflexive k c.args.end os ss c.take_of_two-slot.result c.take_of_two-slot.new.keys ps c.self.invariant.kept took in
    let beyond : length (with_keys os ss) ≤ c.take_of_two-slot.result =
    not_below _ _ _ (λ h. not_true (c.in-None.ensures.variant.1 h)) long in
    let within = slot_for-le eq k (with_keys os ss) in
    rw (← c.self.view_is) (
      ap inr (none_shown eq reflexive k c.args.end os ss c.take_of_two-slot.result c.take_of_two-slot.new.keys ps c.self.invariant.kept took beyond),
      record { lends = tt; value = tt; refused = (λ _. full _ _ _ took.slot beyond within, λ f. refl); within = within },
    )
