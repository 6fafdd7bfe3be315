-- Which frames of a run are fragments of packets.
use Rattle.std.specs.Prelude.{◌≡◌, ℕ, List, [], ◌∷◌}
use Rattle.net_base.specs.declared.phy.Medium.{Medium}
use Rattle.net_base.specs.Device.{sent_frames}
use Rattle.fragmentation.specs.declared.key.FragKey.{FragKey}
use Rattle.fragmentation.specs.Fragments.{Fragment}
use Rattle.fragmentation.specs.Cuts.{Datagram, Piece}
use Rattle.host_machine.specs.Context.Note.{CutNote, Cut, PieceSent, cut_notes}
use Rattle.host_machine.specs.Context.Host.{Host}
use Rattle.host_machine.specs.Packet.Frame.{piece_frame}
use Rattle.host_laws.specs.Laws.Frames.{Brings}
use Rattle.ip_address.specs.Hardware.{IsOf}
use Rattle.host_machine.specs.Context.Real.{IsReal}
use Rattle.host_machine.specs.Interface.Run.{Transition, Run, events_in, notes_in}

-- no host on the medium reads a frame as a fragment
abbrev pub BringsNone : Medium → List ℕ → Type 0
BringsNone m frame = (H : Host) (key : FragKey) (f : Fragment) → IsOf m H.hardware_addr → Brings H frame key f → ⊥

-- frames sent on a medium, and the notes about fragmented packets: each fragment noted is one frame, in
-- order, from an address of the medium; each fragmented packet is for one; and no host on the medium reads
-- any other frame as a fragment
pub data Shows (m : Medium) : List (List ℕ) → List CutNote → Type 0 where
  Nothing : Shows m [] []
  OnePiece : {frames : List (List ℕ)} {notes : List CutNote} (H : Host) (p : Piece) →
      IsOf m H.hardware_addr → Shows m frames notes →
      Shows m (piece_frame H p ∷ frames) (PieceSent p ∷ notes)
  OneCut : {frames : List (List ℕ)} {notes : List CutNote} (d : Datagram) →
      IsOf m d.destination → Shows m frames notes → Shows m frames (Cut d ∷ notes)
  OtherFrame : {frames : List (List ℕ)} {notes : List CutNote} (frame : List ℕ) →
      BringsNone m frame → Shows m frames notes → Shows m (frame ∷ frames) notes

-- the frames of a run that a host on the same medium reads as fragments are the noted fragments, in order
abbrev pub FragmentsArePieces : Type 0
FragmentsArePieces =
    (first last : Host) (transitions : List Transition) → Run first transitions last → IsReal first →
    Shows first.capabilities.medium (sent_frames (events_in transitions)) (cut_notes (notes_in transitions))

-- the device's capabilities stay the same, and hardware addresses stay those of its medium, so that a continued run
-- meets the same premises
abbrev pub StaysReal : Type 0
StaysReal =
    (first last : Host) (transitions : List Transition) → Run first transitions last → IsReal first →
    (last.capabilities ≡ first.capabilities) × IsReal last
