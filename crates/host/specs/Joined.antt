-- Calls of `drive` one after another.
use Rattle.std.specs.Prelude.{ℕ, List, ◌++◌}
use Rattle.net_base.specs.Device.{Event}
use Rattle.host_machine.specs.declared.command.Command.{Command}
use Rattle.host_machine.specs.declared.command.Answer.{Answer}
use Rattle.host_machine.specs.Context.Host.{Host, SocketSet}
use Rattle.std.specs.Borrow.{Bor}
use Rattle.socket_set.specs.SocketSet.{Sockets}
use Rattle.interface.specs.declared.interface.Interface.{Interface}
use Rattle.interface.specs.Stands.{StandsFor}
use Rattle.host.specs.Driven.{Driven}

-- what two calls did one after another is what one call over both lists of commands may do
abbrev pub DrivesJoin : {D O : Type 0} →
    (D → List Event → D → Type 0) → (O → ℕ → SocketSet → SocketSet → O → Type 0) → Type 0
DrivesJoin {D} {O} tells did =
    (d e f : D) (o p q : O) (commands more_commands : List Command) (answers more_answers : List Answer) (H : Host)
    (i j : Interface) (s t : Sockets (Bor (Unit {0}))) →
    Driven tells did d e o p commands answers H (StandsFor i s) →
    ((K : Host) → StandsFor i s K → Driven tells did e f p q more_commands more_answers K (StandsFor j t)) →
    Driven tells did d f o q (commands ++ more_commands) (answers ++ more_answers) H (StandsFor j t)
