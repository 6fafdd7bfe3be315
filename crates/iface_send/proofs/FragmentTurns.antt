-- The turn of the pending fragments, from its parts.
use Rattle.std.proofs.Common.{◌≡◌, ℕ, ◌+◌, true, false, List, [], ◌∷◌, ◌++◌, refl, ap}
use Rattle.std.specs.Prelude.{not}
use Rattle.net_base.specs.Device.{Event, Asked}
use Rattle.fragmentation.specs.Slots.{Slots}
use Rattle.fragmentation.specs.Cuts.{Piece}
use Rattle.fragmentation.specs.Details.Pending.{is_nil}
use Rattle.host_machine.specs.Context.Host.{SocketSet}
use Rattle.host_machine.specs.Packet.Frame.{frames_in, sends}
use Rattle.host_machine.specs.Send.Fragments.{Ipv4Egress, NoPiece, NotGranted, PieceGoes}
use Rattle.iface_context.specs.declared.context.Context.{Context}
use Rattle.iface_context.specs.Refines.{RefinesBuilding, RefinesTelling}
use Rattle.iface_context.specs.Details.Pieces.{EmitsNextPiece, PieceHasTurn}
use Rattle.iface_context.specs.Stands.{host_in}

module _ {D : Type 0} {tells : D → List Event → D → Type 0} where
  pub no_piece : {d : D} (c : Context) → tells d [] d → not (is_nil c.fragmenter.pieces) ≡ false → RefinesTelling tells d d (PieceHasTurn c) c
  no_piece c quiet none =
      record { told = []; notes = []; tells_it = quiet; follows = λ slots sockets. NoPiece (empty c.fragmenter.pieces none) refl refl refl } where
        empty : (pieces : List Piece) → not (is_nil pieces) ≡ false → pieces ≡ []
        empty [] is = refl
        empty (piece ∷ pieces) is = absurd cc

  pub not_granted : {d e : D} (c : Context) → tells d (Asked c.moment false ∷ []) e → is_nil c.fragmenter.pieces ≡ false →
      RefinesTelling tells d e (PieceHasTurn c) c
  not_granted c asks some = record {
    told = Asked c.moment false ∷ [];
    notes = [];
    tells_it = asks;
    follows = λ slots sockets. by slots sockets c.fragmenter.pieces refl some;
  } where
    by : (slots : Slots) (sockets : SocketSet) (pieces : List Piece) → c.fragmenter.pieces ≡ pieces → is_nil pieces ≡ false →
        Ipv4Egress (host_in c slots sockets) (Asked c.moment false ∷ []) [] (host_in c slots sockets)
    by slots sockets [] is some = absurd cc
    by slots sockets (piece ∷ rest) is some = NotGranted piece rest is refl refl refl

  pub piece_goes : {d m e : D} {buffer : List ℕ} (c c' : Context) →
      ((a b c : D) (xs ys : List Event) → tells a xs b → tells b ys c → tells a (xs ++ ys) c) → tells d (Asked c.moment true ∷ []) m →
      RefinesBuilding buffer EmitsNextPiece c c' → tells m (sends (frames_in buffer)) e → RefinesTelling tells d e (PieceHasTurn c) c'
  piece_goes {d} {m} {e} {buffer} c c' tells_on asks built sends_it = record {
    told = Asked c.moment true ∷ sends (frames_in buffer);
    notes = built.notes;
    tells_it = tells_on d m e (Asked c.moment true ∷ []) (sends (frames_in buffer)) asks sends_it;
    follows = λ slots sockets. let goes = built.follows slots sockets in
        PieceGoes goes.piece goes.rest goes.is_first (ap (λ frames. Asked c.moment true ∷ sends frames) goes.sent) goes.noted goes.others_left;
  }
