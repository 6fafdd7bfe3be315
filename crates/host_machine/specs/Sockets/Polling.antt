-- When a socket is due.
use Rattle.std.specs.Prelude.{◌≡◌, ℕ, ℤ, pos, Bool, slice_get, Option, Some, None}
use Rattle.sockets.specs.declared.poll_at.PollAt.{PollAt}
use Rattle.sockets.specs.declared.poll_at.PollAt.TheVariants.{Now, Time, Ingress}
use Rattle.sockets.specs.Kinds as kinds
use Rattle.socket_set.specs.SocketMeta.{IsAnswerFor, poll_at}
use Rattle.socket_set.specs.SocketSet.{wait_at}
use Rattle.host_machine.specs.Context.Host.{Host, Socket}
use Rattle.host_machine.specs.Send.Hops.{HasNeighbor}

-- the instant of an answer: for immediate work one that has passed at each moment; none for what waits for a frame
abbrev pub instant_of : PollAt → Option ℤ
instant_of Now = Some (pos 0)
instant_of (Time t) = Some t
instant_of Ingress = None

-- a socket is due at the instant of its own answer, or at the end of its wait if it has to wait
pub record SocketDue (H : Host) (i : ℕ) (x : ℤ) : Type 0 where
  pub socket : Socket
  pub known : Bool
  pub here : slice_get H.sockets.places i ≡ Some (Some socket)
  pub told : IsAnswerFor (HasNeighbor H) (wait_at H.sockets i) known
  pub instant : instant_of (poll_at (wait_at H.sockets i) known H.moment (kinds.poll_at socket)) ≡ Some x

-- some socket is due at an instant
abbrev pub SocketsDue : Host → ℤ → Type 0
SocketsDue H x = (i : ℕ) × SocketDue H i x
