use Rattle.std.proofs.Common.{◌≡◌, true, false, List, Option, Some, None, refl, sym, ap, ◌∙◌, subst}
use Rattle.std.specs.Prelude.{IfSome}
use Rattle.fragmentation.specs.Details.Holders.{holder_at}
use Rattle.fragmentation.specs.Slots.{without_slot}
use Rattle.host_machine.specs.Context.Host.{with_slots}
use Rattle.guard.specs.declared.watch.Watch.{Watch}
use Rattle.interface.specs.Stands.{Becomes}
use Rattle.iface_host.specs.Fragments.{Few, LetsGo, Makes, Placed, Served, place_for, slots_of}
use Rattle.iface_host.specs.Stands.{Follows}
use Rattle.iface_host.specs.declared.fragments.Place.{Place}
use Rattle.iface_host.specs.declared.fragments.Place.TheVariants.{Free, InPlaceOf, Nowhere, Refused}
use Rattle.iface_host.proofs.RuleCalls.{changed, with_interface}
use Rattle.iface_host.proofs.host.IfaceHost.makes_room_for.Goals as goal

pub returns-then-has_few-clause-room : goal.returns-then-has_few-clause-room
returns-then-has_few-clause-room c = λ frame carried. Few (sym c.has_few.ensures ∙ c.if-has_few.true) refl refl

pub returns-then-serves-clause-room : goal.returns-then-serves-clause-room
returns-then-serves-clause-room c = λ frame carried. Served c.args.key.now carried (sym c.serves.ensures ∙ c.if-serves.true) refl refl

pub returns-in-Free-clause-room : goal.returns-in-Free-clause-room
returns-in-Free-clause-room c = λ frame carried.
    let place : Free ≡ place_for c.args.now c.args.self.now c.args.key.now = sym c.in-Free.is ∙ c.place_for.ensures in
    Placed c.args.key.now carried (sym c.serves.ensures ∙ c.if-serves.false)
    (subst (λ (p : Place). Makes p true c.args.self.now c.args.self.now) place (refl, refl))

pub returns-in-Nowhere-clause-room : goal.returns-in-Nowhere-clause-room
returns-in-Nowhere-clause-room c = λ frame carried.
    let place : Nowhere ≡ place_for c.args.now c.args.self.now c.args.key.now = sym c.in-Nowhere.is ∙ c.place_for.ensures in
    Placed c.args.key.now carried (sym c.serves.ensures ∙ c.if-serves.false)
    (subst (λ (p : Place). Makes p true c.args.self.now c.args.self.now) place (refl, refl))

pub returns-in-InPlaceOf-clause-room : goal.returns-in-InPlaceOf-clause-room
returns-in-InPlaceOf-clause-room c = λ frame carried.
    let old = c.args.self.now in
    let new = with_interface old c.release_fragments.new.self in
    let index = c.in-InPlaceOf.index in
    let place : InPlaceOf index ≡ place_for c.args.now old c.args.key.now = sym c.in-InPlaceOf.is ∙ c.place_for.ensures in
    let released = rw c.deref_mut.ensures.value at c.release_fragments.ensures.released in
    let goes : LetsGo index old new = record {
      interface = c.release_fragments.new.self;
      slots = rw c.deref_mut.ensures.value at c.release_fragments.ensures.slots;
      same = refl;
      led = elim (holder_at index (slots_of old)) as (λ o.
          IfSome o (λ h. Becomes old.interface.value c.release_fragments.new.self (λ H. with_slots H (without_slot H.slots h.key))) →
          IfSome o (λ h. Follows (λ H H'. H' ≡ with_slots H (without_slot H.slots h.key)) old new)) [
            | None ↦ λ _. tt
            | Some h ↦ λ becomes. changed old c.release_fragments.new.self (λ H. with_slots H (without_slot H.slots h.key)) becomes
          ] released;
    } in
    Placed c.args.key.now carried (sym c.serves.ensures ∙ c.if-serves.false)
    (subst (λ (p : Place). Makes p true old new) place (refl, goes))

pub returns-in-Refused-clause-room : goal.returns-in-Refused-clause-room
returns-in-Refused-clause-room c = λ frame carried.
    let old = c.args.self.now in
    let new = record old { watch = c.refuse_fragment.new.self } in
    let place : Refused ≡ place_for c.args.now old c.args.key.now = sym c.in-Refused.is ∙ c.place_for.ensures in
    Placed c.args.key.now carried (sym c.serves.ensures ∙ c.if-serves.false)
    (subst (λ (p : Place). Makes p false old new) place (refl, ap (λ (w : Watch). record old { watch = w }) c.refuse_fragment.ensures))
