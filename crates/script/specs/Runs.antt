-- What a script's host does: its calls are commands of the host machine, and its owner never acts.
use Rattle.std.specs.Prelude.{ℕ, ◌≡◌, [], ◌∷◌}
use Rattle.net_base.specs.MemoryDevice.{Tells}
use Rattle.interface.specs.Stands as interface
use Rattle.host_machine.specs.Context.Host.{Host as Machine, SocketSet}
use Rattle.host_machine.specs.declared.command.Answer.{Answer}
use Rattle.host.specs.Driven.{Driven}
use Rattle.script.specs.Commands.{command_of, moment_after}
use Rattle.script.specs.declared.line.Call.{Call}
use Rattle.script.specs.declared.script_host.ScriptHost.{ScriptHost}
use Rattle.script.specs.declared.script_host.Idle.{Idle}

-- a host of the machine that it stands for: its interface with its sockets does
abbrev pub StandsFor : ScriptHost → Machine → Type 0
StandsFor host H = interface.StandsFor host.interface host.sockets H

-- what an owner does that does nothing
abbrev pub DoesNothing : Idle → ℕ → SocketSet → SocketSet → Idle → Type 0
DoesNothing owner number before after owner' = after ≡ before

-- from each host that it stood for, it was driven by the command of a call, which had this answer
abbrev pub RunsCall : Call → Answer → ScriptHost → ScriptHost → Type 0
RunsCall call answer old new =
    (H : Machine) → StandsFor old H →
    Driven Tells DoesNothing old.device new.device old.owner new.owner
    (command_of (moment_after old.moment call) call ∷ []) (answer ∷ []) H (StandsFor new)
