-- The turn of the pending fragments.
use Rattle.std.specs.Prelude.{ℤ, pos, List, [], ◌∷◌, Option, Some, None, ◌≡◌, true, false}
use Rattle.net_base.specs.Device.{Event, Asked}
use Rattle.fragmentation.specs.Cuts.{Piece}
use Rattle.host_machine.specs.Context.Note.{Note, OfCuts, PieceSent}
use Rattle.host_machine.specs.Context.Host.{Host, with_left}
use Rattle.host_machine.specs.Packet.Frame.{sends, piece_frame}

-- immediately for a list with an element; never for the empty list
abbrev pub at_once : {A : Type 0} → List A → Option ℤ
at_once [] = None
at_once (first ∷ others) = Some (pos 0)

-- the next pending fragment is sent, if the device grants a transmit token, to the hardware address of the first one;
-- the others stay pending
pub data Ipv4Egress (H : Host) (told_it : List Event) (notes : List Note) (new : Host) : Type 0 where
  NoPiece : H.left ≡ [] → told_it ≡ [] → notes ≡ [] → new ≡ H → Ipv4Egress H told_it notes new
  NotGranted : (piece : Piece) (rest : List Piece) →
      H.left ≡ piece ∷ rest → told_it ≡ Asked H.moment false ∷ [] → notes ≡ [] → new ≡ H →
      Ipv4Egress H told_it notes new
  PieceGoes : (piece : Piece) (rest : List Piece) →
      H.left ≡ piece ∷ rest → told_it ≡ Asked H.moment true ∷ sends (piece_frame H piece ∷ []) →
      notes ≡ OfCuts (PieceSent piece) ∷ [] → new ≡ with_left H rest → Ipv4Egress H told_it notes new
