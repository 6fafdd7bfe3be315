-- The fragment that is sent next, and the turn of the pending fragments.
use Rattle.std.specs.Prelude.{◌≡◌, ℕ, List, [], ◌∷◌}
use Rattle.fragmentation.specs.Cuts.{Piece}
use Rattle.host_machine.specs.Context.Note.{Note, OfCuts, PieceSent}
use Rattle.host_machine.specs.Context.Host.{Host, with_left, SocketSet}
use Rattle.host_machine.specs.Packet.Frame.{piece_frame}
use Rattle.net_base.specs.Device.{Event}
use Rattle.fragmentation.specs.Slots.{Slots}
use Rattle.host_machine.specs.Send.Fragments.{Ipv4Egress}
use Rattle.iface_context.specs.declared.context.Context.{Context}
use Rattle.iface_context.specs.Stands.{host_in}

-- the first pending fragment is sent, and the others stay pending
pub record EmitsNextPiece (H : Host) (frames : List (List ℕ)) (notes : List Note) (new : Host) : Type 0 where
  pub piece : Piece
  pub rest : List Piece
  pub is_first : H.left ≡ piece ∷ rest
  pub sent : frames ≡ piece_frame H piece ∷ []
  pub noted : notes ≡ OfCuts (PieceSent piece) ∷ []
  pub others_left : new ≡ with_left H rest

-- the turn of the pending fragments, whatever the slots and the sockets are
abbrev pub PieceHasTurn : Context → List Event → List Note → Context → Type 0
PieceHasTurn old told notes new = (slots : Slots) (sockets : SocketSet) →
    Ipv4Egress (host_in old slots sockets) told notes (host_in new slots sockets)
