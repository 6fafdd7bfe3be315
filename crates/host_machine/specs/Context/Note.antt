-- What a step notes besides the device's events, so that laws over runs can refer to it; the notes about slots
-- are beside their rule.
use Rattle.std.specs.Prelude.{ℕ, ℤ, List, [], ◌∷◌}
use Rattle.fragmentation.specs.Reassembly.{SlotNote}
use Rattle.fragmentation.specs.Cuts.{Datagram, Piece}

-- a discovery request was sent at this moment (RFC 1122 2.3.2.1)
pub data DiscoveryNote : Type 0 where
  Ask : (moment : ℤ) → DiscoveryNote

-- a dispatch used this identification (RFC 791 3.2)
pub data IdentificationNote : Type 0 where
  Identify : (identification : ℕ) → IdentificationNote

-- a packet was fragmented; a fragment was sent (RFC 791 3.2)
pub data CutNote : Type 0 where
  Cut : (datagram : Datagram) → CutNote
  PieceSent : (piece : Piece) → CutNote

-- a note, by its subject
pub data Note : Type 0 where
  OfDiscovery : (note : DiscoveryNote) → Note
  OfIdentification : (note : IdentificationNote) → Note
  OfSlots : (note : SlotNote) → Note
  OfCuts : (note : CutNote) → Note

-- the moments of the discovery requests, in order
abbrev pub asks : List Note → List ℤ
asks [] = []
asks (OfDiscovery (Ask t) ∷ notes) = t ∷ asks notes
asks (OfIdentification n ∷ notes) = asks notes
asks (OfSlots n ∷ notes) = asks notes
asks (OfCuts n ∷ notes) = asks notes

-- the identifications that dispatches used, in order
abbrev pub identifications : List Note → List ℕ
identifications [] = []
identifications (OfDiscovery n ∷ notes) = identifications notes
identifications (OfIdentification (Identify id) ∷ notes) = id ∷ identifications notes
identifications (OfSlots n ∷ notes) = identifications notes
identifications (OfCuts n ∷ notes) = identifications notes

-- the notes about slots, in order
abbrev pub slot_notes : List Note → List SlotNote
slot_notes [] = []
slot_notes (OfDiscovery n ∷ notes) = slot_notes notes
slot_notes (OfIdentification n ∷ notes) = slot_notes notes
slot_notes (OfSlots n ∷ notes) = n ∷ slot_notes notes
slot_notes (OfCuts n ∷ notes) = slot_notes notes

-- the notes about fragmented packets, in order
abbrev pub cut_notes : List Note → List CutNote
cut_notes [] = []
cut_notes (OfDiscovery n ∷ notes) = cut_notes notes
cut_notes (OfIdentification n ∷ notes) = cut_notes notes
cut_notes (OfSlots n ∷ notes) = cut_notes notes
cut_notes (OfCuts n ∷ notes) = n ∷ cut_notes notes
