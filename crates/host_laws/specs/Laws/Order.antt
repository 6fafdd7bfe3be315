-- What a run sends of fragmented packets, and which identifications its dispatches use (RFC 791 3.2).
use Rattle.std.specs.Prelude.{◌≡◌, ◌≢◌, ℕ, ◌+◌, ◌%◌, ◌^◌, ◌<◌, List, [], ◌∷◌, ◌++◌, length}
use Rattle.fragmentation.specs.Cuts.{Piece, pieces_of}
use Rattle.host_machine.specs.Context.Note.{CutNote, Cut, PieceSent}

-- the fragments that are sent up to the next fragmented packet, in order
abbrev pub sent_of_this : List CutNote → List Piece
sent_of_this [] = []
sent_of_this (Cut d ∷ notes) = []
sent_of_this (PieceSent p ∷ notes) = p ∷ sent_of_this notes

abbrev pub IsBeginning : {X : Type 0} → List X → List X → Type 0
IsBeginning {X} xs ys = (rest : List X) × (xs ++ rest ≡ ys)

-- what is sent after each packet is fragmented, up to the next one, is a prefix of its fragments;
-- and these have this size
abbrev pub AreBeginnings : ℕ → List CutNote → Type 0
AreBeginnings size [] = Unit {0}
AreBeginnings size (Cut d ∷ notes) = (d.size ≡ size)
    × IsBeginning (sent_of_this notes) (pieces_of d) × AreBeginnings size notes
AreBeginnings size (PieceSent p ∷ notes) = AreBeginnings size notes

-- each identification is the one before plus one, in 16 bits
abbrev pub AreCounted : ℕ → List ℕ → Type 0
AreCounted next [] = Unit {0}
AreCounted next (n ∷ ns) = (n ≡ next) × AreCounted ((next + 1) % 2 ^ 16) ns

-- none of them equals this; and no two are equal
abbrev pub HasNone : ℕ → List ℕ → Type 0
HasNone x [] = Unit {0}
HasNone x (y ∷ ys) = (x ≢ y) × HasNone x ys

abbrev pub AreDistinct : List ℕ → Type 0
AreDistinct [] = Unit {0}
AreDistinct (x ∷ xs) = HasNone x xs × AreDistinct xs

-- fewer than 65,536 dispatches use distinct identifications
abbrev pub AreDistinctIfFew : List ℕ → Type 0
AreDistinctIfFew ids = length ids < 2 ^ 16 → AreDistinct ids

-- the identifications of the fragmented packets, in order
abbrev pub cut_identifications : List CutNote → List ℕ
cut_identifications [] = []
cut_identifications (Cut d ∷ notes) = d.identification ∷ cut_identifications notes
cut_identifications (PieceSent p ∷ notes) = cut_identifications notes

-- a sublist, in the same order
pub data IsAmong {X : Type 0} : List X → List X → Type 0 where
  NoneOfNone : IsAmong [] []
  OneOf : {xs ys : List X} (x : X) → IsAmong xs ys → IsAmong (x ∷ xs) (x ∷ ys)
  NotThis : {xs ys : List X} (y : X) → IsAmong xs ys → IsAmong xs (y ∷ ys)
