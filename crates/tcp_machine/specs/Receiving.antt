-- The receiving side of a direction (RFC 9293 3.4, 3.10.7.4).
use Rattle.std.specs.Prelude.{ℕ, zero, suc, ◌+◌, ◌-◌, max, nat_lt, nat_le, ◌&&◌, ◌||◌, ◌==◌, Bool, false}
use Rattle.std.specs.Prelude.{List, [], ◌∷◌, ◌++◌, length, drop, Option, Some, None, if◌then◌else◌, replicate}
use Rattle.tcp_machine.specs.Positions.{position_near}
use Rattle.tcp_machine.specs.Pieces.{Piece, after_octets, after_piece, PieceOnWire}

pub record Receiver : Type 0 where
  -- the position of the first octet that isn't read
  pub base : ℕ
  -- what the ring has from there on: at each place an octet, or none yet
  pub cells : List (Option ℕ)
  -- the position of the end, once it arrived
  pub stop : Option ℕ

-- after the handshake, with room for so many octets
abbrev pub open_receiver : ℕ → Receiver
open_receiver size = record { base = 1; cells = replicate size None; stop = None }

-- the octets up to the first place that has none
abbrev pub in_order : List (Option ℕ) → List ℕ
in_order [] = []
in_order (None ∷ cells) = []
in_order (Some x ∷ cells) = x ∷ in_order cells

-- the first position that has no octet (RCV.NXT, as long as the end isn't reached)
abbrev pub next : Receiver → ℕ
next r = r.base + length (in_order r.cells)

-- the first position beyond the ring
abbrev pub edge : Receiver → ℕ
edge r = r.base + length r.cells

abbrev pub is_at : Option ℕ → ℕ → Bool
is_at None p = false
is_at (Some q) p = q == p

-- RCV.NXT: the position that an acknowledgement tells
abbrev pub expected : Receiver → ℕ
expected r = next r + (if is_at r.stop (next r) then 1 else 0)

-- the cells after octets arrived at a place: what arrives last stays, and what has no place is dropped
abbrev pub filled : ℕ → List ℕ → List (Option ℕ) → List (Option ℕ)
filled place octets [] = []
filled (suc place) octets (c ∷ cells) = c ∷ filled place octets cells
filled zero [] (c ∷ cells) = c ∷ cells
filled zero (x ∷ octets) (c ∷ cells) = Some x ∷ filled zero octets cells

-- the end, once it arrived; the first one counts
abbrev pub stop_from : Option ℕ → Bool → ℕ → Option ℕ
stop_from (Some e) arrives p = Some e
stop_from None arrives p = if arrives then Some p else None

-- whether a position is in the window: RCV.NXT =< position < RCV.NXT + RCV.WND
abbrev pub is_in_window : Receiver → ℕ → Bool
is_in_window r p = nat_le (expected r) p && nat_lt p (edge r)

-- What is acceptable (RFC 9293 3.10.7.4, first check): an empty segment at RCV.NXT, in the window or at its edge; another
-- one, if its first or its last position is in the window. The RFC has the edge only where the window is closed. But a side
-- that has sent a whole window stands there, and what it acknowledges would stay unknown until a lost segment is sent again
abbrev pub is_acceptable : Receiver → Piece → Bool
is_acceptable r p =
    if nat_lt p.start (after_piece p)
    then is_in_window r p.start || is_in_window r (after_piece p - 1)
    else is_in_window r p.start || p.start == edge r || p.start == expected r

-- the first position of a piece that isn't in order yet
abbrev pub first_new : Piece → Receiver → ℕ
first_new p r = max p.start (next r)

-- Octets in order stay as they are. Those after them that have a place in the ring are kept there, and the end, if it lies
-- in the window
abbrev pub with_piece : Piece → Receiver → Receiver
with_piece p r = record r {
  cells = filled (first_new p r - r.base) (drop (first_new p r - p.start) p.octets) r.cells;
  stop = stop_from r.stop (p.ends && nat_le (after_octets p) (edge r)) (after_octets p);
}

abbrev pub piece_at : ℕ → PieceOnWire → Piece
piece_at p s = record { start = p; octets = s.octets; ends = s.fin }

abbrev pub after_piece_at : Option ℕ → PieceOnWire → Receiver → Receiver
after_piece_at None s r = r
after_piece_at (Some p) s r = if is_acceptable r (piece_at p s) then with_piece (piece_at p s) r else r

-- a segment arrives
abbrev pub after_segment : ℕ → PieceOnWire → Receiver → Receiver
after_segment initial s r = after_piece_at (position_near initial (next r) s.number) s r

-- the program takes so many octets
abbrev pub after_read : ℕ → Receiver → Receiver
after_read n r = record r { base = r.base + n; cells = drop n r.cells ++ replicate n None }
