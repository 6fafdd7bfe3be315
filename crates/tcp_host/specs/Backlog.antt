-- The half-open connections of a listener.
use Rattle.std.specs.Prelude.{◌≡◌, ◌≢◌, ◌<◌, ◌==◌, ℕ, get_or, nat_lt, List, [], ◌∷◌, ◌++◌, length, drop, Option, Some, None, if◌then◌else◌}

pub record Waiting : Type 0 where
  -- their places, the oldest first, and how many there may be
  pub places : List ℕ
  pub most : ℕ

abbrev pub first_of : List ℕ → Option ℕ
first_of [] = None
first_of (p ∷ places) = Some p

-- the one that leaves where another one comes
abbrev pub evicted : Waiting → Option ℕ
evicted w = if nat_lt (length w.places) w.most then None else first_of w.places

abbrev pub after_adding : ℕ → Waiting → Waiting
after_adding place w =
    record w { places = (if nat_lt (length w.places) w.most then w.places else drop 1 w.places) ++ place ∷ [] }

-- the oldest one is half-open no more
abbrev pub after_evicting : Waiting → Waiting
after_evicting w = record w { places = drop 1 w.places }

-- a place is half-open no more
abbrev pub without : ℕ → List ℕ → List ℕ
without place [] = []
without place (p ∷ places) = if p == place then places else p ∷ without place places

abbrev pub after_removing : ℕ → Waiting → Waiting
after_removing place w = record w { places = without place w.places }

-- it stands at an index, and at none before
pub record IsFirst (place i : ℕ) (places : List ℕ) : Type 0 where
  pub within : i < length places
  pub at : get_or places i 0 ≡ place
  pub first : (k : ℕ) → k < i → get_or places k 0 ≢ place

abbrev pub IsNowhere : ℕ → List ℕ → Type 0
IsNowhere place places = (k : ℕ) → k < length places → get_or places k 0 ≢ place
