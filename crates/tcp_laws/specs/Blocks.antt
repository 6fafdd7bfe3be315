-- What the blocks of selective acknowledgements tell is true (RFC 2018 3, 4).
use Rattle.std.specs.Prelude.{◌≡◌, ℕ, ◌+◌, ◌<◌, ◌≤◌, ◌^◌, ◌⊎◌, ◌||◌, true, List, [], map, slice_get, Some}
use Rattle.std.specs.List.{All, Contains}
use Rattle.tcp_machine.specs.declared.settings.Settings.{Settings}
use Rattle.tcp_machine.specs.Positions.{number_at}
use Rattle.tcp_machine.specs.Pieces.{octet_at}
use Rattle.tcp_machine.specs.Sack.{Block}
use Rattle.tcp_laws.specs.Machines.{Sent, Side, unopened, Pair, Move, AreMoves, after_moves}

-- a side has an octet of the peer's stream: its program read it, or its ring holds it
abbrev pub HasOctet : Side → (position octet : ℕ) → Type 0
HasOctet x p o =
    (octet_at x.read p ≡ Some o)
    ⊎ ((i : ℕ) × (x.connection.reception.receiver.base + i ≡ p) × (slice_get x.connection.reception.receiver.cells i ≡ Some (Some o)))

-- What holds of a block that a side told in a segment
pub record BlockHolds (x peer : Side) (k : Sent) (b : Block) : Type 0 where
  pub some : b.left < b.right
  -- it lies beyond what the segment acknowledges
  pub beyond : k.acknowledged < b.left
  -- and each octet of it has arrived, as the peer's program wrote it
  pub arrived : (p : ℕ) → b.left ≤ p → p < b.right → (o : ℕ) × HasOctet x p o × (octet_at peer.written p ≡ Some o)

-- and of a segment that it sent; j is the peer's initial number
pub record BlocksOfSegment (j : ℕ) (x peer : Side) (k : Sent) : Type 0 where
  -- its blocks have the numbers of their positions
  pub numbers : k.segment.blocks ≡ map (λ (b : Block). record { left = number_at j b.left; right = number_at j b.right }) k.blocks
  pub blocks : All (BlockHolds x peer k) k.blocks
  -- they are in no segment with octets, and in no SYN or reset
  pub alone : (k.blocks ≡ []) ⊎ (k.segment.octets ≡ [])
  pub none : k.segment.syn || k.segment.rst ≡ true → k.blocks ≡ []

-- It holds of each that either side sent, at every point of a run
abbrev pub BlocksHold : Type 0
BlocksHold =
    (i j room_a size_a room_b size_b : ℕ) (settings_a settings_b : Settings) (ms : List Move) →
    room_a ≤ 2 ^ 30 → room_b ≤ 2 ^ 30 →
    let start : Pair = record { a = unopened room_a size_a settings_a; b = unopened room_b size_b settings_b } in
    AreMoves i j start ms →
    ((k : Sent) → Contains (after_moves i j start ms).a.sent k →
    BlocksOfSegment j (after_moves i j start ms).a (after_moves i j start ms).b k)
    × ((k : Sent) → Contains (after_moves i j start ms).b.sent k →
    BlocksOfSegment i (after_moves i j start ms).b (after_moves i j start ms).a k)
