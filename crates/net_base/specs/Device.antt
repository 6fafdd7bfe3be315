-- The events of a network device.
use Rattle.std.specs.Prelude.{ℕ, ℤ, ◌+◌, ◌-◌, ◌^◌, ◌==◌, Bool, true, false, List, [], ◌∷◌, if◌then◌else◌}

-- what a device delivered when it was asked for a frame: the octets of one, nothing since there was none, or nothing
-- although there was one
pub data Reception : Type 0 where
  Frame : (octets : List ℕ) → Reception
  Nothing : Reception
  Withheld : Reception

-- asked for a frame at a moment, it delivered this; asked for a transmit token at a moment, it granted or refused it; a
-- frame was sent, with its metadata
pub data Event : Type 0 where
  Received : (moment : ℤ) (reception : Reception) → Event
  Asked : (moment : ℤ) (given : Bool) → Event
  Sent : (id : ℕ) (frame : List ℕ) → Event

-- the frames received, in order
abbrev pub handed_frames : List Event → List (List ℕ)
handed_frames [] = []
handed_frames (Received t (Frame f) ∷ es) = f ∷ handed_frames es
handed_frames (Received t Nothing ∷ es) = handed_frames es
handed_frames (Received t Withheld ∷ es) = handed_frames es
handed_frames (Asked t b ∷ es) = handed_frames es
handed_frames (Sent id f ∷ es) = handed_frames es

-- the frames sent, in order
abbrev pub sent_frames : List Event → List (List ℕ)
sent_frames [] = []
sent_frames (Received t r ∷ es) = sent_frames es
sent_frames (Asked t b ∷ es) = sent_frames es
sent_frames (Sent id f ∷ es) = f ∷ sent_frames es

-- the answers to the requests for a transmit token, in order
abbrev pub grants : List Event → List Bool
grants [] = []
grants (Received t r ∷ es) = grants es
grants (Asked t b ∷ es) = b ∷ grants es
grants (Sent id f ∷ es) = grants es

-- a refusal count rises by one, up to the greatest number of 64 bits
abbrev pub count_after_refusal : ℕ → ℕ
count_after_refusal n = if n == 2 ^ 64 - 1 then n else n + 1

-- the refusal count after these events: it rises with each frame withheld and each transmit token refused
abbrev pub refusals_after : ℕ → List Event → ℕ
refusals_after n [] = n
refusals_after n (Received t (Frame f) ∷ es) = refusals_after n es
refusals_after n (Received t Nothing ∷ es) = refusals_after n es
refusals_after n (Received t Withheld ∷ es) = refusals_after (count_after_refusal n) es
refusals_after n (Asked t true ∷ es) = refusals_after n es
refusals_after n (Asked t false ∷ es) = refusals_after (count_after_refusal n) es
refusals_after n (Sent id f ∷ es) = refusals_after n es

-- a request for a frame at a moment that delivered none
pub data HandsNone {D : Type 0} (tells : D → List Event → D → Type 0) (t : ℤ) (old new : D) : Type 0 where
  WasEmpty : tells old (Received t Nothing ∷ []) new → HandsNone tells t old new
  WasWithheld : tells old (Received t Withheld ∷ []) new → HandsNone tells t old new
