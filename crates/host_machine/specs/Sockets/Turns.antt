-- The turns of sockets in one call that sends: each that isn't waiting is asked in order, and its packet sent, if the
-- device grants a transmit token.
use Rattle.std.specs.Prelude.{◌≡◌, ℕ, ◌+◌, ℤ, Bool, true, false, ◌||◌, is_ok, List, [], ◌∷◌, ◌++◌, length, slice_get}
use Rattle.std.specs.Prelude.{Some, None, Ok, Err}
use Rattle.net_base.specs.Device.{Event, Asked}
use Rattle.net_base.specs.Time.{silence_from}
use Rattle.sockets.specs.Kinds.{socket_after_told}
use Rattle.socket_set.specs.SocketMeta.{Wait, IsAnswerFor, is_permitted, after_asking}
use Rattle.socket_set.specs.SocketSet.{wait_at, with_place, with_wait}
use Rattle.host_machine.specs.declared.results.Turn.{Turn}
use Rattle.host_machine.specs.declared.results.Turn.TheVariants.{Idle, Done, Deferred, Exhausted}
use Rattle.host_machine.specs.Context.Note.{Note}
use Rattle.host_machine.specs.Context.Host.{Host, Socket}
use Rattle.host_machine.specs.Packet.Packet.{Packet}
use Rattle.host_machine.specs.Packet.Frame.{sends}
use Rattle.host_machine.specs.Send.Outcome.{Outcome}
use Rattle.host_machine.specs.Send.Dispatch.{Dispatches, destination_of}
use Rattle.host_machine.specs.Send.Hops.{HasNeighbor}
use Rattle.host_machine.specs.Sockets.Offers.{packet_from, socket_after_asking}

-- the host with a socket and its wait at an index
abbrev pub with_socket : Host → ℕ → Socket → Wait → Host
with_socket H i s wait = record H { sockets = with_wait (with_place H.sockets i (Some s)) i wait }

-- the turn of a packet by its outcome: sent or dropped, or deferred
abbrev pub turn_of : Packet → Outcome → Turn
turn_of p (Ok done) = Done
turn_of p (Err error) = Deferred (destination_of p)

-- the wait of a socket after its turn at t: if its packet was deferred, it waits for the destination until 1 s later
abbrev pub wait_after : Turn → ℤ → Wait → Wait
wait_after Idle t wait = wait
wait_after Done t wait = wait
wait_after (Deferred destination) t wait = Some (destination, silence_from t)
wait_after Exhausted t wait = wait

-- a socket's turn: without a packet it is only asked; for a packet the device is asked for a transmit token, once, and
-- then the packet is dispatched and its outcome reported to the socket
pub data SocketTurn (s : Socket) (turn : Turn) (s' : Socket) (H : Host) (told_it : List Event)
    (notes : List Note) (new : Host) : Type 0 where
  Silent : packet_from H s ≡ None → turn ≡ Idle → told_it ≡ [] → notes ≡ [] → new ≡ H → s' ≡ socket_after_asking H s →
      SocketTurn s turn s' H told_it notes new
  Refused : (p : Packet) → packet_from H s ≡ Some p → turn ≡ Exhausted → told_it ≡ Asked H.moment false ∷ [] →
      notes ≡ [] → new ≡ H → s' ≡ socket_after_asking H s →
      SocketTurn s turn s' H told_it notes new
  Sent : (p : Packet) (outcome : Outcome) (frames : List (List ℕ)) →
      packet_from H s ≡ Some p → Dispatches p outcome H frames notes new →
      turn ≡ turn_of p outcome → told_it ≡ Asked H.moment true ∷ sends frames →
      s' ≡ socket_after_told (is_ok outcome) (socket_after_asking H s) → SocketTurn s turn s' H told_it notes new

-- one socket's turn: a free index does nothing; a socket waiting for a neighbour is skipped until the next hop to its
-- destination is a known neighbour (which ends the wait) or the wait has timed out
pub data Serves (i : ℕ) (turn : Turn) (H : Host) (told_it : List Event) (notes : List Note) (new : Host) : Type 0 where
  Free : slice_get H.sockets.places i ≡ Some None → turn ≡ Idle → told_it ≡ [] → notes ≡ [] →
      new ≡ H → Serves i turn H told_it notes new
  Waits : (s : Socket) (known : Bool) → slice_get H.sockets.places i ≡ Some (Some s) →
      IsAnswerFor (HasNeighbor H) (wait_at H.sockets i) known →
      is_permitted (wait_at H.sockets i) known H.moment ≡ false → turn ≡ Idle → told_it ≡ [] → notes ≡ [] →
      new ≡ H → Serves i turn H told_it notes new
  Served : (s s' : Socket) (known : Bool) (mid : Host) →
      slice_get H.sockets.places i ≡ Some (Some s) → IsAnswerFor (HasNeighbor H) (wait_at H.sockets i) known →
      is_permitted (wait_at H.sockets i) known H.moment ≡ true → SocketTurn s turn s' H told_it notes mid →
      new ≡ with_socket mid i s' (wait_after turn H.moment (after_asking (wait_at H.sockets i) known)) →
      Serves i turn H told_it notes new

abbrev pub is_done : Turn → Bool
is_done Done = true
is_done Idle = false
is_done (Deferred destination) = false
is_done Exhausted = false

-- no transmit token was granted
abbrev pub is_exhausted : Turn → Bool
is_exhausted Exhausted = true
is_exhausted Idle = false
is_exhausted Done = false
is_exhausted (Deferred destination) = false

-- the turns of the first n sockets in order, and whether each transmit token was granted: a refused one ends them
pub data Walks (old : Host) : (n : ℕ) → (granted changed : Bool) → List Event → List Note → Host → Type 0 where
  Begins : Walks old 0 true false [] [] old
  Goes : {n : ℕ} {changed : Bool} {told_so : List Event} {notes_so : List Note} {mid : Host}
      (turn : Turn) (told_it : List Event) (notes : List Note) (new : Host) →
      Walks old n true changed told_so notes_so mid → Serves n turn mid told_it notes new → is_exhausted turn ≡ false →
      Walks old (n + 1) true (changed || is_done turn) (told_so ++ told_it) (notes_so ++ notes) new
  Stops : {n : ℕ} {changed : Bool} {told_so : List Event} {notes_so : List Note} {mid : Host}
      (turn : Turn) (told_it : List Event) (notes : List Note) (new : Host) →
      Walks old n true changed told_so notes_so mid → Serves n turn mid told_it notes new → is_exhausted turn ≡ true →
      Walks old (n + 1) false changed (told_so ++ told_it) (notes_so ++ notes) new

-- all sockets, or those up to a refused transmit token
pub data SocketEgress (old : Host) (changed : Bool) (told_it : List Event)
    (notes : List Note) (new : Host) : Type 0 where
  Whole : Walks old (length old.sockets.places) true changed told_it notes new →
      SocketEgress old changed told_it notes new
  Stopped : (n : ℕ) → Walks old n false changed told_it notes new → SocketEgress old changed told_it notes new
