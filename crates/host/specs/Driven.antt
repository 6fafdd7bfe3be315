-- What a list of commands is: a run of the host machine.
use Rattle.std.specs.Prelude.{ℕ, List}
use Rattle.net_base.specs.Device.{Event}
use Rattle.host_machine.specs.declared.command.Command.{Command}
use Rattle.host_machine.specs.declared.command.Answer.{Answer}
use Rattle.host_machine.specs.Context.Host.{Host, SocketSet}
use Rattle.host_machine.specs.Context.Real.{IsRegular, IsSound}
use Rattle.host_machine.specs.Interface.Run.{Ran}

-- from this host and through these devices and owners, with these answers, to a host that satisfies `after`; and what the
-- laws of runs ask of the first host holds of it
pub record Driven {D O : Type 0} (tells : D → List Event → D → Type 0)
    (did : O → ℕ → SocketSet → SocketSet → O → Type 0)
    (device device' : D) (owner owner' : O) (commands : List Command) (answers : List Answer) (first : Host)
    (after : Host → Type 0) : Type 0 where
  pub regular : IsRegular first
  pub sound : IsSound first
  pub ran : Ran tells did device device' owner owner' commands answers first after
