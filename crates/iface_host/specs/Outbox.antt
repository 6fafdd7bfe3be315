-- The frames that were sent and wait to be handed over.
use Rattle.std.specs.Prelude.{ℕ, ◌≡◌, Bool, true, false, List, [], ◌∷◌, ◌++◌, length, take, drop, Option}
use Rattle.net_base.specs.declared.phy.DeviceCapabilities.{DeviceCapabilities}
use Rattle.net_base.specs.Device.{Event, count_after_refusal, handed_frames, refusals_after, sent_frames}
use Rattle.interface.specs.Details.Receives.{frames_shown}

-- what the device can do, the frames that wait, how often leave was refused, and whether room for one
-- more frame is reserved
pub record Waiting : Type 0 where
  pub capabilities : DeviceCapabilities
  pub frames : List (List ℕ)
  pub refusals : ℕ
  pub has_room : Bool

-- no frame waits in it, and no room is reserved
abbrev pub empty : DeviceCapabilities → Waiting
empty capabilities = record { capabilities = capabilities; frames = []; refusals = 0; has_room = false }

abbrev pub with_room : Bool → Waiting → Waiting
with_room room o = record o { has_room = room }

abbrev pub with_refusal_counted : Waiting → Waiting
with_refusal_counted o = record o { refusals = count_after_refusal o.refusals }

-- no frame was received; the frames sent come behind those that wait, but for the first one, where it was handed over; refused leaves
-- are counted
pub record Tells (handed : Option (List ℕ)) (old : Waiting) (events : List Event) (new : Waiting) : Type 0 where
  pub capabilities : new.capabilities ≡ old.capabilities
  pub frames : frames_shown handed ++ new.frames ≡ old.frames ++ sent_frames events
  pub refusals : new.refusals ≡ refusals_after old.refusals events
  pub no_frame : handed_frames events ≡ []

-- the first of some frames, of so many octets, was written to the front of a buffer, and the others are left; where
-- there is none, nothing
abbrev pub IsFirst : List (List ℕ) → ℕ → List ℕ → List ℕ → List (List ℕ) → Type 0
IsFirst [] n before after rest = (n ≡ 0) × (after ≡ before) × (rest ≡ [])
IsFirst (frame ∷ frames) n before after rest = (n ≡ length frame) × (take n after ≡ frame)
    × (drop n after ≡ drop n before) × (rest ≡ frames)

-- whether room is reserved once the first of some frames was handed over, whose room is free then
abbrev pub room_after : List (List ℕ) → Bool → Bool
room_after [] room = room
room_after (frame ∷ frames) room = true

-- the first frame that waits was handed over
pub record HandsFirst (old : Waiting) (n : ℕ) (before after : List ℕ) (new : Waiting) : Type 0 where
  pub first : IsFirst old.frames n before after new.frames
  pub rest : new ≡ record old { frames = new.frames; has_room = room_after old.frames old.has_room }
