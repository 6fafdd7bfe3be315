-- The pieces that a run sends of each cut, in order.
use Rattle.std.proofs.Common.{◌≡◌, ℕ, List, [], ◌∷◌, ◌++◌, refl, sym, ◌∙◌, ap, Option}
use Rattle.net_base.specs.declared.phy.DeviceCapabilities.{DeviceCapabilities}
use Rattle.fragmentation.specs.Fragments.{Fragment}
use Rattle.fragmentation.specs.declared.key.FragKey.{FragKey}
use Rattle.fragmentation.specs.Cuts.{Piece, pieces_of, HasForm}
use Rattle.host_machine.specs.Context.Note.{Note, CutNote, Cut, PieceSent, cut_notes}
use Rattle.host_machine.specs.Context.Host.{Host}
use Rattle.host_machine.specs.Packet.Packet.{PacketV4}
use Rattle.host_machine.specs.Context.Pieces.{datagram_of, piece_size}
use Rattle.ip_address.specs.declared.hardware.HardwareAddress.{HardwareAddress}
use Rattle.host_machine.specs.Receive.Reassembly.{TakesFragment}
use Rattle.host_laws.specs.Laws.Order.{sent_of_this, IsBeginning, AreBeginnings}
use Rattle.host_machine.specs.Interface.Run.{Transition, Run, notes_in}
use Rattle.host_laws.proofs.Context.NotesBySubject.{cut_notes-append, cut_notes-slots}
use Rattle.host_machine.proofs.Send.Reached.{Reached}
use Rattle.host_laws.proofs.Runs.Walk.{walk}

-- the next of what is left
abbrev IsNext : List Piece → Piece → Type 0
IsNext [] p = ⊥
IsNext (q ∷ left) p = q ≡ p

abbrev rest_of : List Piece → List Piece
rest_of [] = []
rest_of (q ∷ left) = left

-- each piece sent is the next that is left; a cut leaves its own
abbrev InOrder : ℕ → List Piece → List CutNote → Type 0
InOrder size left [] = Unit {0}
InOrder size left (Cut d ∷ notes) = (d.size ≡ size) × InOrder size (pieces_of d) notes
InOrder size left (PieceSent p ∷ notes) = IsNext left p × InOrder size (rest_of left) notes

abbrev left_after : List Piece → List CutNote → List Piece
left_after left [] = left
left_after left (Cut d ∷ notes) = left_after (pieces_of d) notes
left_after left (PieceSent p ∷ notes) = left_after (rest_of left) notes

record Goes (c : DeviceCapabilities) (left : List Piece) (notes : List CutNote) (c' : DeviceCapabilities) (left' : List Piece) : Type 0 where
  order : InOrder (piece_size c) left notes
  is_left : left' ≡ left_after left notes
  same : c' ≡ c

abbrev OrderedOver : Host → List (List ℕ) → List Note → Host → Type 0
OrderedOver old frames notes new = Goes old.capabilities old.left (cut_notes notes) new.capabilities new.left

order_on : (size : ℕ) (left : List Piece) (xs ys : List CutNote) →
    InOrder size left xs → InOrder size (left_after left xs) ys → InOrder size left (xs ++ ys)
order_on size left [] ys a b = b
order_on size left (Cut d ∷ xs) ys a b = (a.0, order_on size (pieces_of d) xs ys a.1 b)
order_on size left (PieceSent p ∷ xs) ys a b = (a.0, order_on size (rest_of left) xs ys a.1 b)

left_after-append : (left : List Piece) (xs ys : List CutNote) → left_after left (xs ++ ys) ≡ left_after (left_after left xs) ys
left_after-append left [] ys = refl
left_after-append left (Cut d ∷ xs) ys = left_after-append (pieces_of d) xs ys
left_after-append left (PieceSent p ∷ xs) ys = left_after-append (rest_of left) xs ys

goes_on : (c c' c'' : DeviceCapabilities) (l l' l'' : List Piece) (xs ys : List CutNote) →
    Goes c l xs c' l' → Goes c' l' ys c'' l'' → Goes c l (xs ++ ys) c'' l''
goes_on c c' c'' l l' l'' xs ys a b = record {
  order = order_on (piece_size c) l xs ys a.order (rw (← a.is_left, ← a.same) b.order);
  is_left = b.is_left ∙ ap (λ m. left_after m ys) a.is_left ∙ sym (left_after-append l xs ys);
  same = b.same ∙ a.same;
}

on : (a b c : Host) (fs gs : List (List ℕ)) (xs ys : List Note) →
    OrderedOver a fs xs b → OrderedOver b gs ys c → OrderedOver a (fs ++ gs) (xs ++ ys) c
on a b c fs gs xs ys one two =
    rw cut_notes-append (goes_on a.capabilities b.capabilities c.capabilities a.left b.left c.left (cut_notes xs) (cut_notes ys) one two)

fragments : (H : Host) (key : FragKey) (f : Fragment) (result : Option (List ℕ)) (notes : List Note) (new : Host) →
    TakesFragment key f result H notes new → OrderedOver H [] notes new
fragments H key f result notes new t = rw (t.noted, t.changed, cut_notes-slots t.slot_notes) (record { order = tt; is_left = refl; same = refl })

cuts : (H : Host) (h : HardwareAddress) (id : ℕ) (p : PacketV4) (first : Piece) (rest : List Piece) →
    pieces_of (datagram_of H h id p) ≡ first ∷ rest → HasForm (datagram_of H h id p) → Reached H h →
    Goes H.capabilities H.left (Cut (datagram_of H h id p) ∷ PieceSent first ∷ []) H.capabilities rest
cuts H h id p first rest e form reached = record {
  order = (refl, rw e (refl, tt));
  is_left = rw e refl;
  same = refl;
}

pieces : (H : Host) (p : Piece) (rest : List Piece) → H.left ≡ p ∷ rest → Goes H.capabilities H.left (PieceSent p ∷ []) H.capabilities rest
pieces H p rest e = rw e (record { order = (refl, tt); is_left = refl; same = refl })

record Begins (size : ℕ) (left : List Piece) (notes : List CutNote) : Type 0 where
  first : IsBeginning (sent_of_this notes) left
  all : AreBeginnings size notes

next_begins : (size : ℕ) (left : List Piece) (p : Piece) (notes : List CutNote) →
    IsNext left p → Begins size (rest_of left) notes → Begins size left (PieceSent p ∷ notes)
next_begins size [] p notes n b = absurd n
next_begins size (q ∷ left) p notes n b = record { first = (b.first.0, rw n (ap (λ ps. p ∷ ps) b.first.1)); all = b.all }

begins : (size : ℕ) (left : List Piece) (notes : List CutNote) → InOrder size left notes → Begins size left notes
begins size left [] o = record { first = (left, refl); all = tt }
begins size left (Cut d ∷ notes) o = let b = begins size (pieces_of d) notes o.1 in record { first = (left, refl); all = (o.0, b.first, b.all) }
begins size left (PieceSent p ∷ notes) o = next_begins size left p notes o.0 (begins size (rest_of left) notes o.1)

-- over a whole run
run_goes : {first last : Host} {transitions : List Transition} →
    Run first transitions last → Goes first.capabilities first.left (cut_notes (notes_in transitions)) last.capabilities last.left
run_goes r =
    walk OrderedOver
    (λ old new k. record { order = tt; is_left = ap (λ (K : Host). K.left) k.same; same = ap (λ (K : Host). K.capabilities) k.same }) on
    (λ H own source target mine. record { order = tt; is_left = refl; same = refl })
    (λ H hop unknown. record { order = tt; is_left = refl; same = refl })
    (λ H. record { order = tt; is_left = refl; same = refl })
    (λ H h p reached. record { order = tt; is_left = refl; same = refl })
    cuts
    (λ H t. record { order = tt; is_left = refl; same = refl })
    fragments
    pieces
    (λ H r'. record { order = tt; is_left = refl; same = refl })
    (λ H h. record { order = tt; is_left = refl; same = refl })
    (λ H list. record { order = tt; is_left = refl; same = refl })
    (λ H timeout. record { order = tt; is_left = refl; same = refl })
    r

pub run_first : {first last : Host} {transitions : List Transition} →
    Run first transitions last → IsBeginning (sent_of_this (cut_notes (notes_in transitions))) first.left
run_first {first} {last} {transitions} r =
    (begins (piece_size first.capabilities) first.left (cut_notes (notes_in transitions)) (run_goes r).order).first

pub run_ordered : {first last : Host} {transitions : List Transition} →
    Run first transitions last → AreBeginnings (piece_size first.capabilities) (cut_notes (notes_in transitions))
run_ordered {first} {last} {transitions} r =
    (begins (piece_size first.capabilities) first.left (cut_notes (notes_in transitions)) (run_goes r).order).all
