-- Delivery to sockets.
use Rattle.std.specs.Prelude.{◌≡◌, ℕ, ◌<◌, Bool, true, false, List, map}
use Rattle.std.specs.Prelude.{slice_get, slice_set, Option, Some, if◌then◌else◌}
use Rattle.std.specs.Option.{option_and_then, option_map_or}
use Rattle.std.specs.List.{list_any}
use Rattle.host_machine.specs.Context.Host.{Socket, Storage}

module _ {Kind : Type 0} (down : Socket → Option Kind) where
  -- an index with a socket of a kind that meets the test; `down` is the socket of that kind, if it is one
  abbrev pub holds : (Kind → Bool) → Storage → Bool
  holds test place = option_map_or test (option_and_then down place) false

  -- the entry with its socket of that kind changed; another kind stays unchanged
  abbrev pub changed : (Kind → Socket) → (Kind → Kind) → Storage → Storage
  changed up change place = option_map_or (λ s. Some (up (change s))) (option_and_then down place) place

-- the entry of this index is the first that meets the test
pub record IsFirst (test : Storage → Bool) (places : List Storage) (index : ℕ) (place : Storage) : Type 0 where
  pub is_there : slice_get places index ≡ Some place
  pub accepts : test place ≡ true
  pub none_before : (k : ℕ) (other : Storage) → k < index → slice_get places k ≡ Some other → test other ≡ false

-- no entry meets the test
abbrev pub NoneAccepts : (Storage → Bool) → List Storage → Type 0
NoneAccepts test places = (k : ℕ) (other : Storage) → slice_get places k ≡ Some other → test other ≡ false

-- the first one that accepts gets it, all others stay unchanged
pub record DeliversFirst (test : Storage → Bool) (deliver : Storage → Storage) (old new : List Storage) : Type 0 where
  pub index : ℕ
  pub place : Storage
  pub first : IsFirst test old index place
  pub changed : new ≡ slice_set old index (deliver place)

-- some entry meets the test
abbrev pub some_accepts : (Storage → Bool) → List Storage → Bool
some_accepts test places = list_any test places

-- an entry gets it if it accepts
abbrev pub to_this : (Storage → Bool) → (Storage → Storage) → Storage → Storage
to_this test deliver place = if test place then deliver place else place

-- each one that accepts gets it, all others stay unchanged
abbrev pub to_each : (Storage → Bool) → (Storage → Storage) → List Storage → List Storage
to_each test deliver places = map (to_this test deliver) places
