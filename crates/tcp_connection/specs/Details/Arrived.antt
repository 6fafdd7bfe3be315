-- What has arrived, as ranges of positions.
use Rattle.std.specs.Prelude.{◌≡◌, ℕ, ◌+◌, ◌≤◌, Bool, true, false, ◌-◌, max, List, [], ◌∷◌, take, drop, Option}
use Rattle.net_base.specs.declared.assembler.Range.{Range}
use Rattle.net_base.specs.Ranges.{AreSeparate, covered, front}
use Rattle.tcp_machine.specs.Receiving.{Receiver, filled, next}
use Rattle.tcp_machine.specs.Details.Ring.{cells_of}

-- at first SYN alone has arrived
abbrev pub syn : List Range
syn = record { start = 0; end = 1 } ∷ []

-- the octet at an offset after a base has arrived
abbrev pub has_arrived : ℕ → List Range → ℕ → Bool
has_arrived base ranges i = covered ranges (base + i)

-- The ranges of positions that have arrived: SYN, and all that was read, is in the first one, and none is beyond the room
pub record IsArrived (base room : ℕ) (ranges : List Range) : Type 0 where
  pub separate : AreSeparate 0 ranges
  pub begun : 1 ≤ base
  pub in_first : base ≤ front ranges
  pub within : (p : ℕ) → base + room ≤ p → covered ranges p ≡ false

-- the position after the last one that has arrived
pub record IsFurthest (furthest : ℕ) (ranges : List Range) : Type 0 where
  pub begun : 1 ≤ furthest
  pub reached : covered ranges (furthest - 1) ≡ true
  pub last : (p : ℕ) → furthest ≤ p → covered ranges p ≡ false

-- the receiver that these stand for: octets from a place on, with room for so many
abbrev pub receiver_of : (base : ℕ) → (items : List ℕ) → (start room : ℕ) → (ranges : List Range) → Option ℕ → Receiver
receiver_of base items start room ranges stop = record {
  base = base;
  cells = cells_of (has_arrived base ranges) (take room (drop start items));
  stop = stop;
}

-- octets from a position on arrived: those that aren't in order yet and have a place are kept
abbrev pub with_octets : ℕ → List ℕ → Receiver → Receiver
with_octets start octets r = record r {
  cells = filled (max start (next r) - r.base) (drop (max start (next r) - start) octets) r.cells;
}
