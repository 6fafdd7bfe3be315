-- The pending fragments of a packet.
use Rattle.std.specs.Prelude.{◌≡◌, ℕ, Bool, true, false, List, [], ◌∷◌, Option, Some, None}
use Rattle.fragmentation.specs.Cuts.{Piece, piece_header, piece_fragment}
use Rattle.fragmentation.specs.declared.fragmenter.NextPiece.{NextPiece}

-- the pending fragments, in order, none of which has more octets than this
pub record Pending : Type 0 where
  pub pieces : List Piece
  pub size : ℕ

abbrev pub none_pending : Pending
none_pending = record { pieces = []; size = 0 }

abbrev pub is_nil : List Piece → Bool
is_nil [] = true
is_nil (piece ∷ pieces) = false

-- all but the first
abbrev pub rest_of : List Piece → List Piece
rest_of [] = []
rest_of (piece ∷ pieces) = pieces

abbrev pub without_first : Pending → Pending
without_first p = record p { pieces = rest_of p.pieces }

-- the values of a fragment, and its octets
pub record Shows (next : NextPiece) (piece : Piece) : Type 0 where
  pub destination : next.destination ≡ piece.destination
  pub header : next.header ≡ piece_header piece
  pub fragment : next.fragment ≡ piece_fragment piece
  pub octets : next.octets.now ≡ piece.fragment.octets

-- the first pending fragment, if any
pub data IsNext (pieces : List Piece) (next : Option NextPiece) : Type 0 where
  NoPiece : pieces ≡ [] → next ≡ None → IsNext pieces next
  First : (shown : NextPiece) (piece : Piece) (rest : List Piece) →
      pieces ≡ piece ∷ rest → next ≡ Some shown → Shows shown piece → IsNext pieces next
