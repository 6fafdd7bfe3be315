-- What was built, from its parts.
use Rattle.std.proofs.Common.{◌≡◌, ℕ, ◌<◌, List, [], ◌∷◌, length, refl, arith}
use Rattle.fragmentation.specs.Slots.{Slots}
use Rattle.host_machine.specs.Context.Note.{Note}
use Rattle.host_machine.specs.Context.Host.{Host, SocketSet}
use Rattle.host_machine.specs.Packet.Frame.{frames_in}
use Rattle.host_machine.specs.Send.Outcome.{IsUnsent}
use Rattle.iface_context.specs.declared.context.Context.{Context}
use Rattle.iface_context.specs.Stands.{host_in}
use Rattle.iface_context.specs.Refines.{RefinesBuilding}

pub unsent : (H : Host) → IsUnsent H [] [] H
unsent H = record { silent = refl; unnoted = refl; unchanged = refl }

-- a buffer that isn't empty holds one frame
pub one_frame : (frame : List ℕ) → 0 < length frame → frames_in frame ≡ frame ∷ []
one_frame [] some = absurd (omega (arith, some))
one_frame (octet ∷ octets) some = refl

module _ {Rule : Host → List (List ℕ) → List Note → Host → Type 0} where
  -- nothing was built
  pub nothing : {buffer : List ℕ} {old new : Context} →
      buffer ≡ [] → ((slots : Slots) (sockets : SocketSet) → Rule (host_in old slots sockets) [] [] (host_in new slots sockets)) →
      RefinesBuilding buffer Rule old new
  nothing empty follows = record { notes = []; follows = λ slots sockets. rw empty (follows slots sockets) }

  -- one frame was built
  pub one : {buffer : List ℕ} {old new : Context} (frame : List ℕ) (notes : List Note) → buffer ≡ frame → 0 < length buffer →
      ((slots : Slots) (sockets : SocketSet) → Rule (host_in old slots sockets) (frame ∷ []) notes (host_in new slots sockets)) →
      RefinesBuilding buffer Rule old new
  one {buffer} frame notes is some follows =
      record { notes = notes; follows = λ slots sockets. rw (one_frame buffer some, is) (follows slots sockets) }

  -- what was built by another rule
  pub by_rule : {Other : Host → List (List ℕ) → List Note → Host → Type 0} {buffer : List ℕ} {first old new : Context} →
      RefinesBuilding buffer Other first new →
      ((slots : Slots) (sockets : SocketSet) (frames : List (List ℕ)) (notes : List Note) →
      Other (host_in first slots sockets) frames notes (host_in new slots sockets) →
      Rule (host_in old slots sockets) frames notes (host_in new slots sockets)) →
      RefinesBuilding buffer Rule old new
  by_rule {Other} {buffer} built follows =
      record { notes = built.notes; follows = λ slots sockets. follows slots sockets (frames_in buffer) built.notes (built.follows slots sockets) }

  -- what was built by another rule, with a note before its own
  pub noting : {Other : Host → List (List ℕ) → List Note → Host → Type 0} {buffer : List ℕ} {first old new : Context} (note : Note) →
      RefinesBuilding buffer Other first new →
      ((slots : Slots) (sockets : SocketSet) (frames : List (List ℕ)) (notes : List Note) →
      Other (host_in first slots sockets) frames notes (host_in new slots sockets) →
      Rule (host_in old slots sockets) frames (note ∷ notes) (host_in new slots sockets)) →
      RefinesBuilding buffer Rule old new
  noting {Other} {buffer} note built follows = record {
    notes = note ∷ built.notes;
    follows = λ slots sockets. follows slots sockets (frames_in buffer) built.notes (built.follows slots sockets);
  }
