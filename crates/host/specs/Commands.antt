-- A command as one step.
use Rattle.std.specs.Prelude.{ℕ, List}
use Rattle.net_base.specs.Device.{Event}
use Rattle.host_machine.specs.declared.command.Command.{Command}
use Rattle.host_machine.specs.declared.command.Answer.{Answer}
use Rattle.host_machine.specs.Context.Host.{Host, SocketSet}
use Rattle.host_machine.specs.Context.Note.{Note}
use Rattle.host_machine.specs.Interface.Step.{Act, Step}
use Rattle.host_machine.specs.Interface.Run.{Did}

-- what a command did: these are the device's events, the owner's actions and the notes, and this is the host afterwards
pub record RefinementOfCommand {D O : Type 0} (tells : D → List Event → D → Type 0)
    (did : O → ℕ → SocketSet → SocketSet → O → Type 0)
    (device device' : D) (owner owner' : O) (command : Command) (answer : Answer) (H : Host)
    (after : Host → Type 0) : Type 0 where
  pub told : List Event
  pub acts : List Act
  pub notes : List Note
  pub host : Host
  pub tells_it : tells device told device'
  pub owner_did : Did did owner acts owner'
  pub steps : Step command answer H told acts notes host
  pub stands : after host

-- from each host before, one step leads to a host afterwards
abbrev pub HostRefinesCommand : {D O : Type 0} →
    (D → List Event → D → Type 0) → (O → ℕ → SocketSet → SocketSet → O → Type 0) →
    D → D → O → O → Command → Answer → (Host → Type 0) → (Host → Type 0) → Type 0
HostRefinesCommand tells did device device' owner owner' command answer before after =
    (H : Host) → before H → RefinementOfCommand tells did device device' owner owner' command answer H after
