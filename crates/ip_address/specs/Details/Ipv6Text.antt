-- The text of an IPv6 address: its groups, and which of them two colons stand for (RFC 4291 2.2, RFC 5952 4.2).
use Rattle.std.specs.Prelude.{◌≡◌, ℕ, ◌+◌, ◌/◌, ◌%◌, ◌^◌, ◌<◌, ◌≤◌, List, [], ◌∷◌, length, slice_index}
use Rattle.ip_address.specs.declared.ipv6.Ipv6Address.{Ipv6Address}

-- the group of 16 bits above the last n bits
abbrev group_above : ℕ → Ipv6Address → ℕ
group_above n a = a.bits / 2 ^ n % 2 ^ 16

-- its eight groups of 16 bits, the first one highest (RFC 4291 2.2)
abbrev pub groups_of : Ipv6Address → List ℕ
groups_of a =
    group_above 112 a ∷ group_above 96 a ∷ group_above 80 a ∷ group_above 64 a
    ∷ group_above 48 a ∷ group_above 32 a ∷ group_above 16 a ∷ group_above 0 a ∷ []

-- consecutive groups that are 0: so many, from the start on
pub record IsRun (groups : List ℕ) (start len : ℕ) : Type 0 where
  pub within : start + len ≤ length groups
  pub zero : (k : ℕ) → start ≤ k → k < start + len → slice_index groups k ≡ 0

-- the run that two colons stand for: not of one group alone (RFC 5952 4.2.2); none is longer; of those as long it is
-- the first one (4.2.3)
pub record IsShortened (groups : List ℕ) (start len : ℕ) : Type 0 where
  pub run : IsRun groups start len
  pub not_one : 2 ≤ len
  pub longest : (from n : ℕ) → IsRun groups from n → n ≤ len
  pub first : (from : ℕ) → IsRun groups from len → start ≤ from

-- no two groups in a row are 0
abbrev pub HasNoRun : List ℕ → Type 0
HasNoRun groups = (from n : ℕ) → IsRun groups from n → n < 2
