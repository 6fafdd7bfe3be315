-- How many neighbours there is room for stays, from the leaves of a step to whole runs.
use Rattle.std.proofs.Common.{◌≡◌, ℕ, List, [], refl, ap, ◌∙◌, Option}
use Rattle.fragmentation.specs.Fragments.{Fragment}
use Rattle.fragmentation.specs.declared.key.FragKey.{FragKey}
use Rattle.host_machine.specs.Context.Note.{Note}
use Rattle.host_machine.specs.Context.Host.{Host}
use Rattle.host_machine.specs.Receive.Reassembly.{TakesFragment}
use Rattle.host_laws.specs.Laws.Restraint.Settings.{NeighborRoomStays}
use Rattle.host_laws.proofs.Runs.Walk.{walk}

abbrev RoomStays : Host → List (List ℕ) → List Note → Host → Type 0
RoomStays old frames notes new = new.neighbors.room ≡ old.neighbors.room

fragments : (H : Host) (key : FragKey) (f : Fragment) (result : Option (List ℕ)) (notes : List Note) (new : Host) →
    TakesFragment key f result H notes new → RoomStays H [] notes new
fragments H key f result notes new t = ap (λ (K : Host). K.neighbors.room) t.changed

pub room_stays : NeighborRoomStays
room_stays first last transitions r =
    walk RoomStays (λ old new k. ap (λ (K : Host). K.neighbors.room) k.same)
    (λ a b c fs gs xs ys one two. two ∙ one)
    (λ H own source target mine. refl)
    (λ H hop unknown. refl)
    (λ H. refl)
    (λ H h p reached. refl)
    (λ H h id p first rest e form reached. refl)
    (λ H t. refl)
    fragments
    (λ H p rest e. refl)
    (λ H r'. refl)
    (λ H h. refl)
    (λ H list. refl)
    (λ H timeout. refl)
    r
