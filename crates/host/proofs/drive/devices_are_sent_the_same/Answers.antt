use Rattle.std.proofs.Common.{sym, ap, ◌∙◌, inl, inr}
use Rattle.std.specs.Prelude.{map}
use Rattle.host_machine.specs.Interface.Run.{Transition, events_in}
use Rattle.host_laws.proofs.Runs.RunDeterminism.{run_once}
use Rattle.host.proofs.drive.devices_are_sent_the_same.Goals as goal

pub returns : goal.returns
returns g c = λ d f d' f' o p o' p' commands answers answers' H i j s t one other same.
    elim (run_once H one.ran.last other.ran.last one.ran.transitions other.ran.transitions one.ran.run other.ran.run
    (sym one.ran.commanded ∙ other.ran.commanded) same.received same.granted same.acted) [
      | inl equal ↦ inl (record {
        answers_are = one.ran.answered ∙ ap (map (λ (p : Transition). p.answer)) equal.0 ∙ sym other.ran.answered;
        events_are = ap events_in equal.0;
        last_is = equal.1;
      })
      | inr differ ↦ inr differ
    ]
