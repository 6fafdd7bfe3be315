-- What hosts have sent, and which of it is kept.
use Rattle.std.specs.Prelude.{ℕ, ◌-◌, nat_lt, List, [], ◌∷◌, ◌++◌, map, Option, Some, None, if◌then◌else◌}
use Rattle.std.specs.List.{slice_get}
use Rattle.network.specs.declared.transmission.Kept.{Kept}
use Rattle.network.specs.declared.transmission.Transmission.{Transmission}

-- what a host sent in one call: the host's number from 0, and the frames in order
pub record Sent : Type 0 where
  pub from : ℕ
  pub frames : List (List ℕ)

abbrev pub sent_of : Transmission → Sent
sent_of t = record { from = t.from; frames = map (λ v. v.items) t.frames.items }

abbrev pub wire_of : Kept → List Sent
wire_of k = map sent_of k.transmissions.items

-- the transmission of a number, from 0, if this many were forgotten, and these are kept
abbrev pub kept_at : ℕ → List Sent → ℕ → Option Sent
kept_at forgotten wire number = if nat_lt number forgotten then None else slice_get wire (number - forgotten)

-- frame k of it, from 0
abbrev pub frame_of : Option Sent → ℕ → Option (List ℕ)
frame_of None k = None
frame_of (Some s) k = slice_get s.frames k

-- what a host sent is kept as a transmission, unless it is nothing
abbrev pub wire_with : ℕ → List (List ℕ) → List Sent → List Sent
wire_with i [] wire = wire
wire_with i frames wire = wire ++ record { from = i; frames = frames } ∷ []
