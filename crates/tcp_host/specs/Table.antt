-- Connections by their ends: at each place the ends of its connection, if there is one.
use Rattle.std.specs.Prelude.{◌≡◌, ◌≢◌, ℕ, ◌<◌, List, length, get_or, Option, Some, None}
use Rattle.tcp_host.specs.declared.iss.Endpoints.{Endpoints}

abbrev pub ends_at : List (Option Endpoints) → ℕ → Option Endpoints
ends_at table place = get_or table place None

-- a place has these ends, and no place has them
pub record IsPlaceOf (e : Endpoints) (table : List (Option Endpoints)) (place : ℕ) : Type 0 where
  pub within : place < length table
  pub has : ends_at table place ≡ Some e

abbrev pub IsNowhere : Endpoints → List (Option Endpoints) → Type 0
IsNowhere e table = (place : ℕ) → ends_at table place ≢ Some e

-- no ends are at two places
abbrev pub AreDistinct : List (Option Endpoints) → Type 0
AreDistinct table = (e : Endpoints) (p q : ℕ) → ends_at table p ≡ Some e → ends_at table q ≡ Some e → p ≡ q
