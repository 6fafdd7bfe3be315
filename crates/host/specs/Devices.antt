-- Calls over two devices that answer the same.
use Rattle.std.specs.Prelude.{◌≡◌, ◌⊎◌, ℕ, List}
use Rattle.std.specs.Borrow.{Bor}
use Rattle.net_base.specs.Device.{Event, grants}
use Rattle.socket_set.specs.SocketSet.{Sockets}
use Rattle.host_machine.specs.declared.command.Command.{Command}
use Rattle.host_machine.specs.declared.command.Answer.{Answer}
use Rattle.host_machine.specs.Context.Host.{Host, SocketSet}
use Rattle.host_machine.specs.Interface.Run.{Transition, events_in, acts_in}
use Rattle.host_laws.specs.Laws.Determined.{TransitionsDiffer, receptions}
use Rattle.interface.specs.declared.interface.Interface.{Interface}
use Rattle.interface.specs.Stands.{StandsFor}
use Rattle.host.specs.Driven.{Driven}

-- two runs in which the devices delivered the same frames and granted the same transmit tokens, and in which the owners
-- of the sockets did the same
pub record AreGivenTheSame (one other : List Transition) : Type 0 where
  pub received : receptions (events_in one) ≡ receptions (events_in other)
  pub granted : grants (events_in one) ≡ grants (events_in other)
  pub acted : acts_in one ≡ acts_in other

-- what came of them is the same: the answers, the frames sent with all other events, and the host in the end
pub record ComeToTheSame (answers answers' : List Answer) (one other : List Transition) (last last' : Host) : Type 0 where
  pub answers_are : answers ≡ answers'
  pub events_are : events_in one ≡ events_in other
  pub last_is : last ≡ last'

-- the same commands from one host over two devices, of any kinds, that answer the same: what comes of them is the same,
-- except for which of several neighbours with the earliest expiry made room for a new one
abbrev pub DevicesAreSentTheSame : {D E O : Type 0} → (D → List Event → D → Type 0) → (E → List Event → E → Type 0) →
    (O → ℕ → SocketSet → SocketSet → O → Type 0) → Type 0
DevicesAreSentTheSame {D} {E} {O} tells tells' did =
    (d f : D) (d' f' : E) (o p o' p' : O) (commands : List Command) (answers answers' : List Answer) (H : Host)
    (i j : Interface) (s t : Sockets (Bor (Unit {0})))
    (one : Driven tells did d f o p commands answers H (StandsFor i s))
    (other : Driven tells' did d' f' o' p' commands answers' H (StandsFor j t)) →
    AreGivenTheSame one.ran.transitions other.ran.transitions →
    ComeToTheSame answers answers' one.ran.transitions other.ran.transitions one.ran.last other.ran.last
    ⊎ TransitionsDiffer one.ran.transitions other.ran.transitions
