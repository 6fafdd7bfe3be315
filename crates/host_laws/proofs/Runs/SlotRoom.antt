-- How many slots there are stays, from the leaves of a step to whole runs.
use Rattle.std.proofs.Common.{◌≡◌, ℕ, ℤ, List, [], refl, ap, ◌∙◌, Option}
use Rattle.fragmentation.specs.Fragments.{Fragment}
use Rattle.fragmentation.specs.declared.key.FragKey.{FragKey}
use Rattle.fragmentation.specs.Slots.{Slots}
use Rattle.fragmentation.specs.Reassembly.{SlotNote, Reassembles, NoSlot, Unfit, Waits, Rebuilt}
use Rattle.host_machine.specs.Context.Note.{Note}
use Rattle.host_machine.specs.Context.Host.{Host}
use Rattle.host_machine.specs.Receive.Reassembly.{TakesFragment}
use Rattle.host_laws.specs.Laws.Restraint.Settings.{SlotRoomStays}
use Rattle.host_laws.proofs.Runs.Walk.{walk}

abbrev RoomStays : Host → List (List ℕ) → List Note → Host → Type 0
RoomStays old frames notes new = new.slots.room ≡ old.slots.room

reassembled : {ends : ℤ} {key : FragKey} {f : Fragment} {result : Option (List ℕ)} {slots new : Slots} {notes : List SlotNote} →
    Reassembles ends key f result slots notes new → new.room ≡ slots.room
reassembled (NoSlot none full r n e) = ap (λ (s : Slots). s.room) e
reassembled (Unfit slot first enters u r n e) = ap (λ (s : Slots). s.room) e
reassembled (Waits slot first enters u w r n e) = ap (λ (s : Slots). s.room) e
reassembled (Rebuilt slot first octets enters u w r n e) = ap (λ (s : Slots). s.room) e

fragments : (H : Host) (key : FragKey) (f : Fragment) (result : Option (List ℕ)) (notes : List Note) (new : Host) →
    TakesFragment key f result H notes new → RoomStays H [] notes new
fragments H key f result notes new t = ap (λ (K : Host). K.slots.room) t.changed ∙ reassembled t.reassembles

pub room_stays : SlotRoomStays
room_stays first last transitions r =
    walk RoomStays (λ old new k. ap (λ (K : Host). K.slots.room) k.same)
    (λ a b c fs gs xs ys one two. two ∙ one)
    (λ H own source target mine. refl)
    (λ H hop unknown. refl)
    (λ H. refl)
    (λ H h p reached. refl)
    (λ H h id p first rest e form reached. refl)
    (λ H t. refl)
    fragments
    (λ H p rest e. refl)
    (λ H r'. refl)
    (λ H h. refl)
    (λ H list. refl)
    (λ H timeout. refl)
    r
