-- The value of a slot for a datagram in fragments.
use Rattle.std.specs.Prelude.{◌≡◌, ◌+◌, ◌<◌, [], ◌∷◌, ◌++◌, is_none, length, slice_get, take}
use Rattle.std.specs.Prelude.{drop, ℕ, zero, suc, ℤ, pos, ◌&&◌, ◌||◌, List, Option, None, Some}
use Rattle.std.specs.Prelude.{Bool, true, false, ◌==◌, not, nat_lt, nat_le, int_lt, if◌then◌else◌}
use Rattle.net_base.specs.declared.assembler.Range.{Range}
use Rattle.net_base.specs.Ranges.{front, covered, add_range, AreSeparate}

-- the key of its fragments, none if it is free; its expiry; the total length, once it is set; the offsets received, as
-- ranges; and the octets
pub record Assembly (K : Type 0) : Type 0 where
  pub key : Option K
  pub expires_at : ℤ
  pub total : Option ℕ
  pub ranges : List Range
  pub octets : List ℕ

-- the ranges are separate and within the buffer
pub record AreSound (rs : List Range) : Type 0 where
  pub separate : AreSeparate 0 rs
  pub within : (p : ℕ) → covered rs p ≡ true → p < 4096

-- whether the total is n
abbrev pub is_total : Option ℕ → ℕ → Bool
is_total None n = false
is_total (Some t) n = t == n

-- whether n may not be the total
abbrev pub is_refused : Option ℕ → ℕ → Bool
is_refused None n = nat_lt 4096 n
is_refused (Some t) n = not (t == n) || nat_lt 4096 n

-- whether an assembler's key, if it has one, equals this one
abbrev pub has_key : {K : Type 0} → (K → K → Bool) → K → Option K → Bool
has_key eq k None = false
has_key eq k (Some j) = eq j k

-- the octets of xs after these are written at an offset
abbrev pub octets_after_write : List ℕ → ℕ → List ℕ → List ℕ
octets_after_write xs offset bytes = take offset xs ++ (bytes ++ drop (offset + length bytes) xs)

module _ {K : Type 0} where
  -- the total is set, and it is the first offset that wasn't received
  abbrev pub is_complete : Assembly K → Bool
  is_complete s = is_total s.total (front s.ranges)

  -- the assembler after octets are written at an offset, if that makes at most four ranges
  abbrev pub with_octets : ℕ → List ℕ → Assembly K → Assembly K
  with_octets offset bytes s =
      let rs = add_range offset (offset + length bytes) s.ranges in
      if nat_le (length rs) 4 then record s { ranges = rs; octets = octets_after_write s.octets offset bytes } else s

  -- the assembler after it is freed
  abbrev pub slot_after_free : Assembly K → Assembly K
  slot_after_free s = record { key = None; expires_at = pos 0; total = None; ranges = []; octets = s.octets }

  abbrev pub IsFree : Assembly K → Type 0
  IsFree s = s ≡ slot_after_free s

  abbrev pub AreFree : List (Assembly K) → Type 0
  AreFree [] = Unit {0}
  AreFree (s ∷ ss) = IsFree s × AreFree ss

  -- whether it is taken and its expiry is before t
  abbrev pub is_expired : ℤ → Assembly K → Bool
  is_expired t s = not (is_none s.key) && int_lt s.expires_at t

  -- the assembler at t, which is freed if it has expired
  abbrev pub live_at : ℤ → Assembly K → Assembly K
  live_at t s = if is_expired t s then slot_after_free s else s

  -- if it is free, it is taken for a key with an expiry
  abbrev pub taken : K → ℤ → Assembly K → Assembly K
  taken k end s = if is_none s.key
      then record { key = Some k; expires_at = end; total = None; ranges = []; octets = s.octets } else s

  -- if it is taken, it gets this key, or is free without one
  abbrev pub with_key : Option K → Assembly K → Assembly K
  with_key o s = record s { key = if is_none s.key then None else o }

  -- each slot with its key
  abbrev pub with_keys : List (Option K) → List (Assembly K) → List (Assembly K)
  with_keys [] ss = []
  with_keys (o ∷ os) [] = []
  with_keys (o ∷ os) (s ∷ ss) = with_key o s ∷ with_keys os ss

  -- the key of each slot
  abbrev pub keys_of : List (Assembly K) → List (Option K)
  keys_of [] = []
  keys_of (s ∷ ss) = s.key ∷ keys_of ss

  -- the slot at index i is taken for a key with an expiry, if it is free
  abbrev pub taken_at : ℕ → K → ℤ → List (Assembly K) → List (Assembly K)
  taken_at i k end [] = []
  taken_at zero k end (s ∷ ss) = taken k end s ∷ ss
  taken_at (suc i) k end (s ∷ ss) = s ∷ taken_at i k end ss

  -- its ranges are separate and within its octets
  pub record IsSound (s : Assembly K) : Type 0 where
    pub ranges : AreSound s.ranges
    pub octets : length s.octets ≡ 4096

  abbrev pub AllSound : List (Assembly K) → Type 0
  AllSound [] = Unit {0}
  AllSound (s ∷ ss) = IsSound s × AllSound ss

  -- no key has two slots
  abbrev pub AreApart : List (Option K) → Type 0
  AreApart os = (i j : ℕ) (k : K) → slice_get os i ≡ Some (Some k) → slice_get os j ≡ Some (Some k) → i ≡ j

  -- a key or none for each slot, and no key for two
  pub record AreKept (os : List (Option K)) (ss : List (Assembly K)) : Type 0 where
    pub as_many : length os ≡ length ss
    pub apart : AreApart os

  -- the index of the slot with the key, or the length
  abbrev pub index_of_key : (K → K → Bool) → K → List (Assembly K) → ℕ
  index_of_key eq k [] = 0
  index_of_key eq k (s ∷ ss) = if has_key eq k s.key then 0 else index_of_key eq k ss + 1

  -- the index of the first free slot, or the length
  abbrev pub free_slot : List (Assembly K) → ℕ
  free_slot [] = 0
  free_slot (s ∷ ss) = if is_none s.key then 0 else free_slot ss + 1

  -- the index of the slot that serves a key: its own, otherwise the first free one
  abbrev pub slot_for : (K → K → Bool) → K → List (Assembly K) → ℕ
  slot_for eq k ss = if index_of_key eq k ss == length ss then free_slot ss else index_of_key eq k ss

  -- two of them
  pub record AreTwo (os : List (Option K)) (ss : List (Assembly K)) : Type 0 where
    pub two : length ss ≡ 2
    pub kept : AreKept os ss

  -- whether no key is set
  abbrev pub are_none : List (Option K) → Bool
  are_none [] = true
  are_none (o ∷ os) = is_none o && are_none os

  -- kept, and none is set if they are idle
  pub record AreLent (is_idle : Bool) (os : List (Option K)) (ss : List (Assembly K)) : Type 0 where
    pub kept : AreKept os ss
    pub idle : is_idle ≡ true → are_none os ≡ true
