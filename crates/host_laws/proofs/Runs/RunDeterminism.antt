-- What a run does is determined by the host, the commands, what the device answers and what the owner does, but for which neighbour makes room.
use Rattle.std.proofs.Common.{◌≡◌, ◌⊎◌, List, ◌∷◌, ◌++◌, refl, sym, ◌∙◌, ap, inl, inr}
use Rattle.std.proofs.lemmas.List.{append_cancel_left}
use Rattle.std.specs.Prelude.{map}
use Rattle.net_base.specs.Device.{Event, grants}
use Rattle.host_machine.specs.declared.command.Command.{Command}
use Rattle.host_machine.specs.declared.command.Answer.{Answer}
use Rattle.host_machine.specs.Context.Note.{Note}
use Rattle.host_machine.specs.Context.Host.{Host}
use Rattle.host_machine.specs.Interface.Step.{Act}
use Rattle.host_machine.specs.Interface.Run.{Transition, Ends, Then, events_in, acts_in}
use Rattle.host_laws.specs.Laws.Determined.{TransitionsDiffer, Here, Behind, RunIsDetermined, receptions}
use Rattle.host_laws.proofs.Interface.EgressDeterminism.{grants-append}
use Rattle.host_laws.proofs.Interface.CallDeterminism.{receptions-append}
use Rattle.host_laws.proofs.Interface.StepDeterminism.{IsOneStep, step_on}

-- what is behind the same
same_after : {X Y : Type 0} (seen : List X → List Y) {t t' : List X} (rest rest' : List Y) → seen t ++ rest ≡ seen t' ++ rest' → t ≡ t' → rest ≡ rest'
same_after seen {t} {t'} rest rest' same one = append_cancel_left (seen t) rest rest' (same ∙ ap (λ z. seen z ++ rest') (sym one))

abbrev place : Command → Answer → List Event → List Act → List Note → Host → Host → Transition
place c a t d n x y = record { command = c; answer = a; told = t; acts = d; notes = n; before = x; after = y }

-- one place before places of two runs
onward : {old x x' last last' : Host} {c c' : Command} {a a' : Answer} {t t' : List Event} {d d' : List Act} {n n' : List Note}
    {ps qs : List Transition} → c ≡ c' → IsOneStep a a' t t' d d' n n' x x' →
    ((ps ≡ qs) × (last ≡ last')) ⊎ TransitionsDiffer ps qs → ((place c a t d n old x ∷ ps ≡ place c' a' t' d' n' old x' ∷ qs) × (last ≡ last'))
    ⊎ TransitionsDiffer (place c a t d n old x ∷ ps) (place c' a' t' d' n' old x' ∷ qs)
onward {old} {x} {x'} {last} {last'} {c} {c'} {a} {a'} {t} {t'} {d} {d'} {n} {n'} {ps} {qs} command_is one others = by others where
  here : place c a t d n old x ≡ place c' a' t' d' n' old x'
  here = rw (command_is, one.call_is.answer_is, one.call_is.told_is, one.acts_are, one.call_is.notes_are, one.call_is.host_is) refl

  by : ((ps ≡ qs) × (last ≡ last')) ⊎ TransitionsDiffer ps qs → ((place c a t d n old x ∷ ps ≡ place c' a' t' d' n' old x' ∷ qs) × (last ≡ last'))
      ⊎ TransitionsDiffer (place c a t d n old x ∷ ps) (place c' a' t' d' n' old x' ∷ qs)
  by (inl same) = inl (ap (λ p. p ∷ ps) here ∙ ap (λ rest. place c' a' t' d' n' old x' ∷ rest) same.0, same.1)
  by (inr differ) = inr (Behind here differ)

pub run_once : RunIsDetermined
run_once first last last' transitions transitions' Ends Ends commands given leave acts = inl (refl, refl)
run_once first last last' transitions transitions' Ends (Then s r) commands given leave acts = absurd cc
run_once first last last' transitions transitions' (Then s r) Ends commands given leave acts = absurd cc
run_once first last last' transitions transitions'
    (Then {old = old} {mid = x} {command = c} {answer = a} {told = t} {acts = d} {notes = n} {transitions = ps} s r)
    (Then {mid = x'} {command = c'} {answer = a'} {told = t'} {acts = d'} {notes = n'} {transitions = qs} s' r') commands given leave acts =
    elim (step_on c a a' old x x' t t' d d' n n' (receptions (events_in ps)) (receptions (events_in qs)) (grants (events_in ps))
    (grants (events_in qs)) (acts_in ps) (acts_in qs) s (rw command_is s') all_granted all_grants acts) [
      | inl one ↦ onward command_is one (run_once x last last' ps qs r (rw one.call_is.host_is r') others
          (same_after receptions (receptions (events_in ps)) (receptions (events_in qs)) all_granted one.call_is.told_is)
          (same_after grants (grants (events_in ps)) (grants (events_in qs)) all_grants one.call_is.told_is)
          (append_cancel_left d (acts_in ps) (acts_in qs) (acts ∙ ap (λ z. z ++ acts_in qs) (sym one.acts_are))))
      | inr differ ↦ inr (Here command_is refl differ)
    ] where
      command_is : c ≡ c'
      command_is = let lists : c ∷ map (λ (p : Transition). p.command) ps ≡ c' ∷ map (λ (p : Transition). p.command) qs = commands in cc

      others : map (λ (p : Transition). p.command) ps ≡ map (λ (p : Transition). p.command) qs
      others = let lists : c ∷ map (λ (p : Transition). p.command) ps ≡ c' ∷ map (λ (p : Transition). p.command) qs = commands in cc

      all_granted : receptions t ++ receptions (events_in ps) ≡ receptions t' ++ receptions (events_in qs)
      all_granted = sym (receptions-append t (events_in ps)) ∙ given ∙ receptions-append t' (events_in qs)

      all_grants : grants t ++ grants (events_in ps) ≡ grants t' ++ grants (events_in qs)
      all_grants = sym (grants-append t (events_in ps)) ∙ leave ∙ grants-append t' (events_in qs)
