use Rattle.std.proofs.Common.{◌≡◌, ◌<◌, ◌≤◌, ℕ, true, false, List, Option, length, refl, sym, ap, ◌∙◌, arith, inl, inr}
use Rattle.fragmentation.specs.Assembly.{Assembly, with_keys}
use Rattle.fragmentation.proofs.PlacesLemmas.{slot_for-le}
use Rattle.fragmentation.proofs.KeptLemmas.{Took, took_of, length-shown, kept_then, kept_lent, shown_place, lent_shown, none_shown}
use Rattle.fragmentation.proofs.lent_slots.LentSlots.get.Goals as goal

not_true : false ≡ true → ⊥
not_true f = cc

not_below : (p n m : ℕ) → (p < n → ⊥) → n ≡ m → m ≤ p
not_below p n m h e = omega arith

full : (p q n : ℕ) → p ≡ q → n ≤ p → q ≤ n → q ≡ n
full p q n e h k = omega arith

pub invariant_of-self-lent : goal.invariant_of-self-lent
invariant_of-self-lent g c =
    let took : Took g.K.PartialEq.eq c.args.key.now c.args.end c.self.inside.keys.items
    c.self.inside.assemblers.items c.take-slot.result c.take-slot.new.keys c.take-slot.new.assemblers =
    took_of c.as_mut_slice.ensures.value c.as_mut_slice-2.ensures.value c.take-slot.ensures.slot c.take-slot.ensures.taken c.take-slot.ensures.keys in
    rw (c.self.inside.keys.ok.0, c.self.inside.assemblers.ok.0) (λ w. record {
      kept = kept_lent g.K.PartialEq.eq g.met.K.Eq.laws.refl c.args.key.now c.args.end _ _ _ _ _ c.self.invariant.kept took w;
      idle = λ f. absurd (not_true f);
    })

pub invariant_of-self : goal.invariant_of-self
invariant_of-self g c =
    let took : Took g.K.PartialEq.eq c.args.key.now c.args.end c.self.inside.keys.items
    c.self.inside.assemblers.items c.take-slot.result c.take-slot.new.keys c.take-slot.new.assemblers =
    took_of c.as_mut_slice.ensures.value c.as_mut_slice-2.ensures.value c.take-slot.ensures.slot c.take-slot.ensures.taken c.take-slot.ensures.keys in
    rw (c.self.inside.keys.ok.0, c.self.inside.assemblers.ok.0) (record {
      kept = kept_then g.K.PartialEq.eq g.met.K.Eq.laws.refl c.args.key.now c.args.end _ _ _ _ _ c.self.invariant.kept took;
      idle = λ f. absurd (not_true f);
    })

pub returns-in-Some : goal.returns-in-Some
returns-in-Some g c =
    let eq = g.K.PartialEq.eq in
    let k = c.args.key.now in
    let os : List (Option g.row.K.Denot) = c.self.inside.keys.items in
    let ss : List (Assembly g.row.K.Denot) = c.self.inside.assemblers.items in
    let ps : List (Assembly g.row.K.Denot) = c.take-slot.new.assemblers in
    let took : Took eq k c.args.end os ss c.take-slot.result c.take-slot.new.keys ps =
    took_of c.as_mut_slice.ensures.value c.as_mut_slice-2.ensures.value c.take-slot.ensures.slot c.take-slot.ensures.taken c.take-slot.ensures.keys in
    let reflexive = g.met.K.Eq.laws.refl in
    let long = length-shown eq reflexive k c.args.end os ss c.take-slot.result c.take-slot.new.keys ps c.self.invariant.kept took in
    let counted = c.self.inside.assemblers.ok.0 in
    let there = c.in-Some.ensures.variant.0 refl in
    let below : c.take-slot.result < length (with_keys os ss) = omega (arith, there, counted, long) in
    let value = (rw counted at c.in-Some.ensures.value)
    ∙ shown_place eq reflexive k c.args.end os ss c.take-slot.result c.take-slot.new.keys ps c.self.invariant.kept took c.in-Some.assembler.now below in
    let lent = lent_shown eq reflexive k c.args.end os ss c.take-slot.result c.take-slot.new.keys ps c.self.invariant.kept took c.in-Some.assembler.now.key
    c.in-Some.assembler.now below (ap (λ (x : Assembly g.row.K.Denot). x.key) value) in
    let slot = took.slot in
    rw (c.self.inside.keys.ok.0, c.self.inside.assemblers.ok.0, ← c.self.view_is) (
      ap (λ (F : Assembly g.row.K.Denot → List (Assembly g.row.K.Denot)). inl (c.in-Some.assembler.ghost_name, F)) lent,
      record {
        lends = tt;
        value = value;
        refused = (λ f. absurd (not_true f), λ f. absurd (omega (arith, f, below, slot)));
        within = slot_for-le eq k (with_keys os ss);
      },
    )

pub returns-in-None : goal.returns-in-None
returns-in-None g c =
    let eq = g.K.PartialEq.eq in
    let k = c.args.key.now in
    let os : List (Option g.row.K.Denot) = c.self.inside.keys.items in
    let ss : List (Assembly g.row.K.Denot) = c.self.inside.assemblers.items in
    let ps : List (Assembly g.row.K.Denot) = c.take-slot.new.assemblers in
    let took : Took eq k c.args.end os ss c.take-slot.result c.take-slot.new.keys ps =
    took_of c.as_mut_slice.ensures.value c.as_mut_slice-2.ensures.value c.take-slot.ensures.slot c.take-slot.ensures.taken c.take-slot.ensures.keys in
    let reflexive = g.met.K.Eq.laws.refl in
    let long = length-shown eq reflexive k c.args.end os ss c.take-slot.result c.take-slot.new.keys ps c.self.invariant.kept took in
    let beyond : length (with_keys os ss) ≤ c.take-slot.result =
    not_below _ _ _ (λ h. not_true (c.in-None.ensures.variant.1 h)) (c.self.inside.assemblers.ok.0 ∙ sym long) in
    let within = slot_for-le eq k (with_keys os ss) in
    rw (c.self.inside.keys.ok.0, c.self.inside.assemblers.ok.0, ← c.self.view_is) (
      ap inr (none_shown eq reflexive k c.args.end os ss c.take-slot.result c.take-slot.new.keys ps c.self.invariant.kept took beyond),
      record { lends = tt; value = tt; refused = (λ _. full _ _ _ took.slot beyond within, λ f. refl); within = within },
    )
