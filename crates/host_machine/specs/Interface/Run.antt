-- Runs of the host machine: steps one after another.
use Rattle.std.specs.Prelude.{◌≡◌, ℕ, ℤ, pos, ◌+ℤ◌, ◌≤ℤ◌, List, [], ◌∷◌, ◌++◌, map}
use Rattle.net_base.specs.Device.{Event}
use Rattle.host_machine.specs.declared.command.Command.{Command}
use Rattle.host_machine.specs.declared.command.Answer.{Answer}
use Rattle.host_machine.specs.Context.Note.{Note}
use Rattle.host_machine.specs.Context.Host.{Host, SocketSet}
use Rattle.host_machine.specs.Interface.Step.{Act, Step}

-- one transition of a run: the command with its answer, the device's events, what the owner did, the notes, and the
-- host before and after
pub record Transition : Type 0 where
  pub command : Command
  pub answer : Answer
  pub told : List Event
  pub acts : List Act
  pub notes : List Note
  pub before : Host
  pub after : Host

-- a run from a host to a host, by its transitions in order
pub data Run : Host → List Transition → Host → Type 0 where
  Ends : {H : Host} → Run H [] H
  Then : {old mid last : Host} {command : Command} {answer : Answer} {told : List Event} {acts : List Act}
      {notes : List Note} {transitions : List Transition} →
      Step command answer old told acts notes mid → Run mid transitions last →
      Run old (record {
        command = command;
        answer = answer;
        told = told;
        acts = acts;
        notes = notes;
        before = old;
        after = mid;
      } ∷ transitions) last

-- all events, actions and notes, in order
abbrev pub events_in : List Transition → List Event
events_in [] = []
events_in (p ∷ ps) = p.told ++ events_in ps

abbrev pub acts_in : List Transition → List Act
acts_in [] = []
acts_in (p ∷ ps) = p.acts ++ acts_in ps

abbrev pub notes_in : List Transition → List Note
notes_in [] = []
notes_in (p ∷ ps) = p.notes ++ notes_in ps

-- an owner that did these actions, one after another
pub data Did {O : Type 0} (did : O → ℕ → SocketSet → SocketSet → O → Type 0) : O → List Act → O → Type 0 where
  NoAct : {o : O} → Did did o [] o
  ThenAct : {o m p : O} {act : Act} {acts : List Act} →
      did o act.number act.before act.after m → Did did m acts p → Did did o (act ∷ acts) p

-- no moment is earlier than the end of the silence, and each is at least a second after the one before
abbrev pub AreSpaced : ℤ → List ℤ → Type 0
AreSpaced silence [] = Unit {0}
AreSpaced silence (t ∷ ts) = (silence ≤ℤ t) × AreSpaced (t +ℤ pos 1000000) ts

-- a list of commands was a run: from this host and through these devices and owners, with these answers, to a host
-- that satisfies `after`
pub record Ran {D O : Type 0} (tells : D → List Event → D → Type 0) (did : O → ℕ → SocketSet → SocketSet → O → Type 0)
    (device device' : D) (owner owner' : O) (commands : List Command) (answers : List Answer) (first : Host)
    (after : Host → Type 0) : Type 0 where
  pub transitions : List Transition
  pub last : Host
  pub run : Run first transitions last
  pub commanded : commands ≡ map (λ p. p.command) transitions
  pub answered : answers ≡ map (λ p. p.answer) transitions
  pub tells_it : tells device (events_in transitions) device'
  pub owner_did : Did did owner (acts_in transitions) owner'
  pub stands : after last
