-- How a ring of octets, beside the set of offsets that are held, stands for cells: what code keeps in their place.
use Rattle.std.specs.Prelude.{◌≡◌, ℕ, zero, suc, ◌+◌, ◌<◌, ◌≤◌, ◌||◌, Bool, true, false, List, [], ◌∷◌, ◌++◌, length, take, drop}
use Rattle.std.specs.Prelude.{slice_get, slice_index, Option, Some, None, is_some, if◌then◌else◌, replicate}
use Rattle.tcp_machine.specs.Receiving.{in_order, filled}

-- the cells of octets in order, where these offsets are held
abbrev pub cells_from : (ℕ → Bool) → ℕ → List ℕ → List (Option ℕ)
cells_from held i [] = []
cells_from held i (x ∷ octets) = (if held i then Some x else None) ∷ cells_from held (i + 1) octets

abbrev pub cells_of : (ℕ → Bool) → List ℕ → List (Option ℕ)
cells_of held octets = cells_from held 0 octets

-- what octets that lie at a place have at offset i
abbrev pub octet_in : ℕ → List ℕ → ℕ → Option ℕ
octet_in zero octets i = slice_get octets i
octet_in (suc place) octets zero = None
octet_in (suc place) octets (suc i) = octet_in place octets i

-- n offsets from 0 on are held, and the next one isn't, if there is one
pub record IsFront (held : ℕ → Bool) (octets : List ℕ) (n : ℕ) : Type 0 where
  pub short : n ≤ length octets
  pub below : (k : ℕ) → k < n → held k ≡ true
  pub at : n < length octets → held n ≡ false

-- octets arrived at a place: each offset has the one that arrived there, or keeps its octet
pub record IsWritten (place : ℕ) (bytes old new : List ℕ) : Type 0 where
  pub same : length new ≡ length old
  pub kept : (k : ℕ) → k < length old → octet_in place bytes k ≡ None → slice_index new k ≡ slice_index old k
  pub written : (k x : ℕ) → k < length old → octet_in place bytes k ≡ Some x → slice_index new k ≡ x

pub record RingsStand : Type 0 where
  -- the octets in order are the first ones
  pub front : (held : ℕ → Bool) (octets : List ℕ) (n : ℕ) → IsFront held octets n → in_order (cells_of held octets) ≡ take n octets
  -- after an arrival, if the offsets that are held are those and the arrived ones
  pub filling : (held now : ℕ → Bool) (place : ℕ) (bytes old new : List ℕ) →
      ((k : ℕ) → k < length old → now k ≡ is_some (octet_in place bytes k) || held k) → IsWritten place bytes old new →
      cells_of now new ≡ filled place bytes (cells_of held old)
  -- after n octets were read, if the offsets that are held went back by n, and none was held beyond the ring
  pub reading : (held now : ℕ → Bool) (n : ℕ) (octets : List ℕ) → n ≤ length octets →
      ((k : ℕ) → now k ≡ held (n + k)) → ((k : ℕ) → length octets ≤ k → held k ≡ false) →
      cells_of now (drop n octets ++ take n octets) ≡ drop n (cells_of held octets) ++ replicate n None
