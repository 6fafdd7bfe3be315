-- What a fragment does to a set of assemblers, by the slots that they stand for.
use Rattle.std.specs.Prelude.{ℕ, ℤ, List, Option, option_map}
use Rattle.std.specs.Borrow.{Bor, MutBor, Fml}
use Rattle.std.specs.Io.BufRead.{Rests}
use Rattle.fragmentation.specs.declared.key.FragKey.{FragKey}
use Rattle.fragmentation.specs.contracts.key.FragKey as key
use Rattle.fragmentation.specs.contracts.reassembly.PacketAssemblerSet as set
use Rattle.fragmentation.specs.Fragments.{Fragment}
use Rattle.fragmentation.specs.Slots.{Slots}
use Rattle.fragmentation.specs.Reassembly.{SlotNote, Reassembles}
use Rattle.fragmentation.specs.Assembly.{Assembly}
use Rattle.fragmentation.specs.Stands.{StandForSlots}

-- the assemblers stand for slots to which the fragment leads
pub record Reassembled (ends : ℤ) (key : FragKey) (f : Fragment) (result : Option (List ℕ)) (slots : Slots)
    (places : List (Assembly FragKey)) : Type 0 where
  pub notes : List SlotNote
  pub new : Slots
  pub rule : Reassembles ends key f result slots notes new
  pub stands : StandForSlots places new

-- that, once the borrow of the octets has ended, whichever slots they stood for
abbrev pub RestsReassembled : MutBor (List (Assembly FragKey)) → ℤ → FragKey → Fragment → Option (Bor (List ℕ)) → Fml
RestsReassembled s ends k f r = Rests (set.the_row key.the_row) s (λ places. (slots : Slots) →
    StandForSlots s.now slots → Reassembled ends k f (option_map (λ b. b.now) r) slots places)
