-- A device in memory: its state, and what it may do at each event.
use Rattle.std.specs.Prelude.{ℕ, ◌≡◌, ◌≢◌, Bool, true, false, List, [], ◌∷◌, ◌++◌, drop}
use Rattle.net_base.specs.declared.phy.DeviceCapabilities.{DeviceCapabilities}
use Rattle.net_base.specs.Device.{Event, Received, Asked, Sent, Frame, Nothing, Withheld}
use Rattle.net_base.specs.Device.{count_after_refusal, handed_frames, sent_frames as frames_sent}

-- its capabilities, the frames queued, the frames sent, the answers to the next requests for a transmit token (true
-- refuses), the refusal count, and whether room for a frame to send is reserved
pub record Memory : Type 0 where
  pub capabilities : DeviceCapabilities
  pub queued : List (List ℕ)
  pub sent : List (List ℕ)
  pub refuse : List Bool
  pub refusals : ℕ
  pub has_room : Bool

-- whether the list refuses the next transmit token; an empty list refuses none
abbrev pub is_refused : List Bool → Bool
is_refused [] = false
is_refused (answer ∷ answers) = answer

-- the next answer is used up
abbrev pub without_first_answer : Memory → Memory
without_first_answer d = record d { refuse = drop 1 d.refuse }

-- a refused transmit token or a withheld frame is counted
abbrev pub with_refusal_counted : Memory → Memory
with_refusal_counted d = record d { refusals = count_after_refusal d.refusals }

-- room for a frame to send is reserved, or isn't
abbrev pub with_room : Bool → Memory → Memory
with_room b d = record d { has_room = b }

-- an attempt to reserve room changes nothing else, and room that was reserved stays so
pub record Reserves (old new : Memory) (has : Bool) : Type 0 where
  pub after : new ≡ with_room has old
  pub stays : old.has_room ≡ true → has ≡ true

-- the first frame queued is delivered, together with a transmit token
pub record HandsOver (frame : List ℕ) (old new : Memory) : Type 0 where
  pub first : old.queued ≡ frame ∷ new.queued
  pub after : new ≡ record old { queued = new.queued; has_room = true }

-- no frame is queued
pub record HasNothing (old new : Memory) : Type 0 where
  pub empty : old.queued ≡ []
  pub after : new ≡ old

-- a frame is queued, but there is no room for one to send, so it stays
pub record Withholds (old new : Memory) : Type 0 where
  pub waits : old.queued ≢ []
  pub no_room : old.has_room ≡ false
  pub after : new ≡ with_refusal_counted old

-- a transmit token is granted, with room: the list doesn't refuse it
pub record MayTransmit (old new : Memory) : Type 0 where
  pub allowed : is_refused old.refuse ≡ false
  pub after : new ≡ with_room true (without_first_answer old)

-- why a transmit token is refused: by the list, or for lack of room for a frame to send
pub data MayRefuse (old : Memory) : Type 0 where
  ByList : is_refused old.refuse ≡ true → MayRefuse old
  ForRoom : is_refused old.refuse ≡ false → old.has_room ≡ false → MayRefuse old

-- a transmit token is refused
pub record MayNotTransmit (old new : Memory) : Type 0 where
  pub cause : MayRefuse old
  pub after : new ≡ with_refusal_counted (without_first_answer old)

-- a frame is sent, in the room reserved for it
pub record Sends (frame : List ℕ) (old new : Memory) : Type 0 where
  pub room : old.has_room ≡ true
  pub after : new ≡ record old { sent = old.sent ++ frame ∷ []; has_room = false }

-- what it may do at one event
abbrev pub Moves : Event → Memory → Memory → Type 0
Moves (Received t (Frame frame)) old new = HandsOver frame old new
Moves (Received t Nothing) old new = HasNothing old new
Moves (Received t Withheld) old new = Withholds old new
Moves (Asked t true) old new = MayTransmit old new
Moves (Asked t false) old new = MayNotTransmit old new
Moves (Sent id frame) old new = Sends frame old new

-- what it may do at these events, one after another
pub data Tells : Memory → List Event → Memory → Type 0 where
  Stays : {d : Memory} → Tells d [] d
  Goes : {a b c : Memory} {event : Event} {events : List Event} →
      Moves event a b → Tells b events c → Tells a (event ∷ events) c

-- the frames that were queued are those delivered and those still queued, in order; those sent are listed
-- after those sent before
pub record KeepsFrames (old : Memory) (events : List Event) (new : Memory) : Type 0 where
  pub queue : old.queued ≡ handed_frames events ++ new.queued
  pub sent : new.sent ≡ old.sent ++ frames_sent events

-- no frame is lost or invented, whatever happens
abbrev pub FramesAreKept : Type 0
FramesAreKept = (old new : Memory) (events : List Event) → Tells old events new → KeepsFrames old events new
