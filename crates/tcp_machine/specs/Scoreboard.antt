-- The scoreboard: what the peer's selective acknowledgements told (RFC 2018 5), and what it says of what is lost and of what is on its
-- way (RFC 6675 3, 4).
use Rattle.std.specs.Prelude.{ℕ, ◌+◌, ◌-◌, ◌*◌, min, max, nat_lt, nat_le, ◌&&◌, ◌||◌, Bool, true, false}
use Rattle.std.specs.Prelude.{List, [], ◌∷◌, length, Option, Some, None, if◌then◌else◌}
use Rattle.net_base.specs.declared.assembler.Range.{Range}
use Rattle.net_base.specs.Ranges.{add_range}
use Rattle.tcp_machine.specs.declared.sack.SackBlock.{SackBlock}
use Rattle.tcp_machine.specs.Positions.{position_near}

-- Ranges of positions that have arrived, in order and apart. Where a block is told, the first range has all before the first
-- unacknowledged position; and where none is told, there is no range
abbrev pub most_ranges : ℕ
most_ranges = 4

-- positions arrived; what would need a range more is left out, and the peer tells it again (RFC 2018 4)
abbrev pub with_arrived : (start end : ℕ) → List Range → List Range
with_arrived start end rs = if nat_lt most_ranges (length (add_range start end rs)) then rs else add_range start end rs

-- all before a position is acknowledged
abbrev pub if_beyond : List Range → List Range
if_beyond [] = []
if_beyond (r ∷ []) = []
if_beyond (r ∷ s ∷ rs) = r ∷ s ∷ rs

abbrev pub after_acknowledged : (a : ℕ) → List Range → List Range
after_acknowledged a [] = []
after_acknowledged a (r ∷ rs) = if_beyond (with_arrived 0 a (r ∷ rs))

-- A block is told. It counts where it lies within what was sent and isn't acknowledged; any other one tells of a duplicate (RFC 2883 4),
-- or isn't true
abbrev pub after_block : (una top : ℕ) → (left right : Option ℕ) → List Range → List Range
after_block una top None right rs = rs
after_block una top (Some left) None rs = rs
after_block una top (Some left) (Some right) rs =
    if nat_lt una left && nat_lt left right && nat_le right top then with_arrived left right (with_arrived 0 una rs) else rs

abbrev pub after_blocks : (initial una top : ℕ) → List SackBlock → List Range → List Range
after_blocks initial una top [] rs = rs
after_blocks initial una top (b ∷ bs) rs =
    after_blocks initial una top bs (after_block una top (position_near initial una b.left) (position_near initial una b.right) rs)

abbrev pub is_empty : List Range → Bool
is_empty [] = true
is_empty (r ∷ rs) = false

-- octets are counted up to here
abbrev pub most_counted : ℕ
most_counted = 1073741824

abbrev pub counted : ℕ → ℕ → ℕ
counted a b = min most_counted (a + b)

abbrev pub octets_in : List Range → ℕ
octets_in [] = 0
octets_in (r ∷ rs) = counted (r.end - r.start) (octets_in rs)

-- the octets of ranges between two positions
abbrev pub told_between : (from to : ℕ) → List Range → ℕ
told_between from to [] = 0
told_between from to (r ∷ rs) = counted (min r.end to - max r.start from) (told_between from to rs)

-- the ranges above a position
abbrev pub above : ℕ → List Range → List Range
above p [] = []
above p (r ∷ rs) = if nat_lt p r.start then r ∷ rs else above p rs

-- What isn't told is lost, where three separate ranges above it are told, or more octets than two segments have (RFC 6675 4, IsLost)
abbrev pub show_lost : (mss : ℕ) → List Range → Bool
show_lost mss rs = nat_le 3 (length rs) || nat_lt (2 * mss) (octets_in rs)

abbrev pub is_lost : (mss p : ℕ) → List Range → Bool
is_lost mss p rs = show_lost mss (above p rs)

-- the first position from p on that isn't told, and where such a hole ends: at the first of the ranges above it, if there is one
abbrev pub hole_from : ℕ → List Range → ℕ
hole_from p [] = p
hole_from p (r ∷ rs) = if nat_le r.start p && nat_lt p r.end then r.end else hole_from p rs

abbrev pub start_of : (otherwise : ℕ) → List Range → ℕ
start_of otherwise [] = otherwise
start_of otherwise (r ∷ rs) = r.start

-- the octets from p on that are lost: of each hole, if the ranges above it say so
abbrev pub lost_below : (mss p end : ℕ) → List Range → ℕ
lost_below mss p end rs = if show_lost mss rs then start_of 0 rs - max p end else 0

abbrev pub lost_from : (mss p : ℕ) → List Range → ℕ
lost_from mss p [] = 0
lost_from mss p (r ∷ rs) = counted (lost_below mss p r.end rs) (lost_from mss p rs)
