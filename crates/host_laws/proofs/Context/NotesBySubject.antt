-- What is noted on each subject, of parts one after the other, and of notes on slots alone.
use Rattle.std.proofs.Common.{◌≡◌, List, [], ◌∷◌, ◌++◌, refl, ap}
use Rattle.std.specs.Prelude.{map}
use Rattle.fragmentation.specs.Reassembly.{SlotNote}
use Rattle.host_machine.specs.Context.Note.{Note, OfDiscovery, OfIdentification, OfSlots, OfCuts, Ask}
use Rattle.host_machine.specs.Context.Note.{Identify, asks, identifications, slot_notes, cut_notes}

pub asks-append : (xs ys : List Note) → asks (xs ++ ys) ≡ asks xs ++ asks ys
asks-append [] ys = refl
asks-append (OfDiscovery (Ask t) ∷ xs) ys = ap (λ ts. t ∷ ts) (asks-append xs ys)
asks-append (OfIdentification n ∷ xs) ys = asks-append xs ys
asks-append (OfSlots n ∷ xs) ys = asks-append xs ys
asks-append (OfCuts n ∷ xs) ys = asks-append xs ys

pub identifications-append : (xs ys : List Note) → identifications (xs ++ ys) ≡ identifications xs ++ identifications ys
identifications-append [] ys = refl
identifications-append (OfDiscovery n ∷ xs) ys = identifications-append xs ys
identifications-append (OfIdentification (Identify id) ∷ xs) ys = ap (λ ids. id ∷ ids) (identifications-append xs ys)
identifications-append (OfSlots n ∷ xs) ys = identifications-append xs ys
identifications-append (OfCuts n ∷ xs) ys = identifications-append xs ys

pub slot_notes-append : (xs ys : List Note) → slot_notes (xs ++ ys) ≡ slot_notes xs ++ slot_notes ys
slot_notes-append [] ys = refl
slot_notes-append (OfDiscovery n ∷ xs) ys = slot_notes-append xs ys
slot_notes-append (OfIdentification n ∷ xs) ys = slot_notes-append xs ys
slot_notes-append (OfSlots n ∷ xs) ys = ap (λ ns. n ∷ ns) (slot_notes-append xs ys)
slot_notes-append (OfCuts n ∷ xs) ys = slot_notes-append xs ys

pub cut_notes-append : (xs ys : List Note) → cut_notes (xs ++ ys) ≡ cut_notes xs ++ cut_notes ys
cut_notes-append [] ys = refl
cut_notes-append (OfDiscovery n ∷ xs) ys = cut_notes-append xs ys
cut_notes-append (OfIdentification n ∷ xs) ys = cut_notes-append xs ys
cut_notes-append (OfSlots n ∷ xs) ys = cut_notes-append xs ys
cut_notes-append (OfCuts n ∷ xs) ys = ap (λ ns. n ∷ ns) (cut_notes-append xs ys)

-- of notes on slots alone
pub asks-slots : (ns : List SlotNote) → asks (map OfSlots ns) ≡ []
asks-slots [] = refl
asks-slots (n ∷ ns) = asks-slots ns

pub identifications-slots : (ns : List SlotNote) → identifications (map OfSlots ns) ≡ []
identifications-slots [] = refl
identifications-slots (n ∷ ns) = identifications-slots ns

pub slot_notes-slots : (ns : List SlotNote) → slot_notes (map OfSlots ns) ≡ ns
slot_notes-slots [] = refl
slot_notes-slots (n ∷ ns) = ap (λ ms. n ∷ ms) (slot_notes-slots ns)

pub cut_notes-slots : (ns : List SlotNote) → cut_notes (map OfSlots ns) ≡ []
cut_notes-slots [] = refl
cut_notes-slots (n ∷ ns) = cut_notes-slots ns
