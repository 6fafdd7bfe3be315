-- The turns of sockets, over a context.
use Rattle.std.specs.Prelude.{◌≡◌, ℕ, Bool, true, false, List, [], ◌∷◌, Option, Some, None, IfSome}
use Rattle.net_base.specs.Device.{Event, Asked}
use Rattle.host_machine.specs.declared.results.Turn.{Turn}
use Rattle.host_machine.specs.declared.results.Turn.TheVariants.{Idle, Done, Deferred, Exhausted}
use Rattle.host_machine.specs.Context.Note.{Note}
use Rattle.fragmentation.specs.Slots.{Slots}
use Rattle.socket_set.specs.SocketMeta.{IsAnswerFor, is_permitted, after_asking}
use Rattle.socket_set.specs.SocketSet.{socket_at, wait_at, wait_of, with_wait}
use Rattle.host_machine.specs.Context.Host.{Host, Socket, SocketSet}
use Rattle.host_machine.specs.Packet.Packet.{Packet}
use Rattle.host_machine.specs.Packet.Frame.{sends}
use Rattle.host_machine.specs.Send.Outcome.{Outcome}
use Rattle.host_machine.specs.Send.Dispatch.{Dispatches}
use Rattle.host_machine.specs.Send.Hops.{HasNeighbor}
use Rattle.host_machine.specs.Sockets.Turns.{SocketTurn, Serves, turn_of}
use Rattle.iface_context.specs.declared.context.Context.{Context}
use Rattle.iface_context.specs.Stands.{host_in}

-- a socket's turn, whatever the slots and the other sockets are
abbrev pub HasTurn : Socket → Turn → Socket → Context → List Event → List Note → Context → Type 0
HasTurn s turn s' old told notes new =
    (slots : Slots) (sockets : SocketSet) →
    SocketTurn s turn s' (host_in old slots sockets) told notes (host_in new slots sockets)

-- the turn of a packet that is offered, if there is one: without a transmit token nothing happens;
-- otherwise it is dispatched
pub data OfferTurn (packet : Option Packet) (turn : Turn) (H : Host) (told_it : List Event)
    (notes : List Note) (new : Host) : Type 0 where
  NoPacket : packet ≡ None → turn ≡ Idle → told_it ≡ [] → notes ≡ [] → new ≡ H →
      OfferTurn packet turn H told_it notes new
  NotGiven : (p : Packet) → packet ≡ Some p → turn ≡ Exhausted →
      told_it ≡ Asked H.moment false ∷ [] → notes ≡ [] → new ≡ H →
      OfferTurn packet turn H told_it notes new
  Given : (p : Packet) (outcome : Outcome) (frames : List (List ℕ)) →
      packet ≡ Some p → Dispatches p outcome H frames notes new →
      turn ≡ turn_of p outcome → told_it ≡ Asked H.moment true ∷ sends frames →
      OfferTurn packet turn H told_it notes new

-- that, whatever the slots and the sockets are
abbrev pub OfferHasTurn : Option Packet → Turn → Context → List Event → List Note → Context → Type 0
OfferHasTurn packet turn old told_it notes new =
    (slots : Slots) (sockets : SocketSet) →
    OfferTurn packet turn (host_in old slots sockets) told_it notes (host_in new slots sockets)

-- what is acknowledged to its socket: whether the packet was sent or dropped, if there was one and a
-- transmit token was granted
abbrev pub outcome_of : Turn → Option Bool
outcome_of Done = Some true
outcome_of (Deferred destination) = Some false
outcome_of Idle = None
outcome_of Exhausted = None

-- whether the socket at an index may be asked, and the sockets after that is decided: a known neighbour ends the
-- wait. Slots don't matter
pub data IsPermitted (c : Context) (sockets : SocketSet) (i : ℕ) (permitted : Bool) (new : SocketSet) : Type 0 where
  NoSocket : socket_at sockets i ≡ None → permitted ≡ false → new ≡ sockets → IsPermitted c sockets i permitted new
  OfSocket : (s : Socket) (known : Bool) → socket_at sockets i ≡ Some s →
      ((slots : Slots) → IsAnswerFor (HasNeighbor (host_in c slots sockets)) (wait_at sockets i) known) →
      permitted ≡ is_permitted (wait_at sockets i) known c.moment →
      new ≡ with_wait sockets i (after_asking (wait_at sockets i) known) →
      IsPermitted c sockets i permitted new

-- the turn of the socket at an index would come to nothing: nothing is sent, and all stays as it is
abbrev pub HasIdleTurn : Host → ℕ → Type 0
HasIdleTurn H i = Serves i Idle H [] [] H

-- the socket at an index doesn't wait, or the next hop that it waits for isn't known
abbrev pub WaitsInVain : Host → ℕ → Type 0
WaitsInVain H i = IfSome (wait_of H.sockets i) (λ wait. HasNeighbor H wait.0 false)
