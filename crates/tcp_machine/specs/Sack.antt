-- The blocks of a selective acknowledgement (RFC 2018 3, 4): what of the stream is held beyond a gap. A ring that keeps three parts beyond
-- gaps at most has three blocks at most, and an option has room for all of them.
use Rattle.std.specs.Prelude.{ℕ, ◌+◌, nat_lt, nat_le, ◌==◌, ◌&&◌, Bool, List, [], ◌∷◌, ◌++◌, reverse, Option, Some, None, if◌then◌else◌}
use Rattle.tcp_machine.specs.Receiving.{Receiver, expected}

-- a contiguous part of the stream: the position of its first octet, and the one after its last (3)
pub record Block : Type 0 where
  pub left : ℕ
  pub right : ℕ

abbrev pub block : ℕ → ℕ → Block
block left right = record { left = left; right = right }

-- an octet before blocks: it belongs to the first of these, if that begins right after it, and else is one by itself
abbrev pub with_octet : ℕ → List Block → List Block
with_octet p [] = block p (p + 1) ∷ []
with_octet p (b ∷ bs) = if b.left == p + 1 then block p b.right ∷ bs else block p (p + 1) ∷ b ∷ bs

-- the blocks of cells from a position on: each is contiguous, and the octets just below it and just above it aren't held (3)
abbrev pub blocks_from : ℕ → List (Option ℕ) → List Block
blocks_from p [] = []
blocks_from p (None ∷ cells) = blocks_from (p + 1) cells
blocks_from p (Some x ∷ cells) = with_octet p (blocks_from (p + 1) cells)

-- those beyond what is expected; what lies before that is acknowledged without them
abbrev pub beyond : ℕ → List Block → List Block
beyond expected [] = []
beyond expected (b ∷ bs) = if nat_lt expected b.left then b ∷ beyond expected bs else beyond expected bs

-- the block that contains a position, if there is one; and all others
abbrev pub contains : Block → ℕ → Bool
contains b p = nat_le b.left p && nat_lt p b.right

abbrev pub containing : ℕ → List Block → List Block
containing p [] = []
containing p (b ∷ bs) = if contains b p then b ∷ [] else containing p bs

abbrev pub others : ℕ → List Block → List Block
others p [] = []
others p (b ∷ bs) = if contains b p then bs else b ∷ others p bs

-- The first block contains the octets that arrived last (4 (a)). All others follow it (4 (b)), from the furthest one back: mostly that is
-- the order in which they were told last (4 (c))
abbrev pub blocks_of : (latest : ℕ) → Receiver → List Block
blocks_of latest r =
    let bs = reverse (beyond (expected r) (blocks_from r.base r.cells)) in
    containing latest bs ++ others latest bs
