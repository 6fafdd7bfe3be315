-- The parts of a stream beyond gaps, as code has them: at most three, in three places.
use Rattle.std.specs.Prelude.{ℕ, nat_lt, nat_le, ◌&&◌, Bool, false, List, [], ◌∷◌, ◌++◌, map, take, slice_get, Option, Some, None, if◌then◌else◌}
use Rattle.std.specs.List.{filter_map}
use Rattle.std.specs.Option.{option_map, option_and_then}
use Rattle.net_base.specs.declared.assembler.Range.{Range}
use Rattle.tcp_machine.specs.declared.sack.SackBlock.{SackBlock}
use Rattle.tcp_machine.specs.Outgoing.{block_on_wire}
use Rattle.tcp_machine.specs.Sack.{Block}

abbrev pub block_of : Range → Block
block_of r = record { left = r.start; right = r.end }

-- the blocks in some places
abbrev pub blocks_in : List (Option Range) → List Block
blocks_in places = map block_of (filter_map (λ p. p) places)

-- the part at an index, if it begins beyond what is expected
abbrev pub part_beyond : (expected : ℕ) → List Range → ℕ → Option Range
part_beyond expected ranges i =
    option_and_then (λ (r : Range). if nat_lt expected r.start then Some r else None) (slice_get ranges i)

abbrev pub is_in : Option Range → ℕ → Bool
is_in None p = false
is_in (Some r) p = nat_le r.start p && nat_lt p r.end

-- three parts from the furthest one back, but the one that contains a position first
abbrev pub newest_first : ℕ → (third second first : Option Range) → List (Option Range)
newest_first p third second first =
    if is_in third p then third ∷ second ∷ first ∷ [] else if is_in second p then second ∷ third ∷ first ∷ []
    else if is_in first p then first ∷ third ∷ second ∷ [] else third ∷ second ∷ first ∷ []

-- three places for blocks, the first of which have them
abbrev pub places_of : List SackBlock → List (Option SackBlock)
places_of bs = take 3 (map (λ (b : SackBlock). Some b) bs ++ None ∷ None ∷ None ∷ [])

-- a part by its numbers
abbrev pub on_wire : ℕ → Option Range → Option SackBlock
on_wire initial part = option_map (λ (r : Range). block_on_wire initial (block_of r)) part
