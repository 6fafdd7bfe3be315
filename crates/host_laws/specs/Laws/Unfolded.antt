-- A poll as the single calls that it makes.
use Rattle.std.specs.Prelude.{◌≡◌, List}
use Rattle.std.specs.List.{AllByRecursion}
use Rattle.host_machine.specs.declared.command.Command.{Command}
use Rattle.host_machine.specs.declared.command.Command.TheVariants.{Poll}
use Rattle.host_machine.specs.Context.Host.{Host}
use Rattle.host_machine.specs.Interface.Run.{Transition, Run, events_in, acts_in, notes_in}

-- a call that is not a poll, so that it receives at most one frame
abbrev pub IsSingle : Command → Type 0
IsSingle (Poll t budget) = ⊥
IsSingle other = Unit {0}

-- a run of single calls with the same events, actions and notes
pub record Unfolds (first : Host) (transitions : List Transition) (last : Host) : Type 0 where
  pub singles : List Transition
  pub run : Run first singles last
  pub are_single : AllByRecursion (λ p. IsSingle p.command) singles
  pub same_told : events_in singles ≡ events_in transitions
  pub same_acts : acts_in singles ≡ acts_in transitions
  pub same_notes : notes_in singles ≡ notes_in transitions

-- every run unfolds into one: a poll is maintenance, then calls that receive, then calls that send
abbrev pub RunsUnfold : Type 0
RunsUnfold = (first last : Host) (transitions : List Transition) →
    Run first transitions last → Unfolds first transitions last
