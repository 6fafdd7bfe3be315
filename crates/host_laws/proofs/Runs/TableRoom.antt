-- For how many addresses, routes and groups there is room stays, from the leaves of a step to whole runs.
use Rattle.std.proofs.Common.{◌≡◌, ℕ, List, [], refl, ap, ◌∙◌, Option}
use Rattle.fragmentation.specs.Fragments.{Fragment}
use Rattle.fragmentation.specs.declared.key.FragKey.{FragKey}
use Rattle.host_machine.specs.Context.Note.{Note}
use Rattle.host_machine.specs.Context.Host.{Host}
use Rattle.host_machine.specs.Receive.Reassembly.{TakesFragment}
use Rattle.host_laws.specs.Laws.Restraint.Settings.{TableRoomStays}
use Rattle.host_laws.proofs.Runs.Walk.{walk}

abbrev RoomStays : Host → List (List ℕ) → List Note → Host → Type 0
RoomStays old frames notes new = (new.addr_room ≡ old.addr_room) × (new.route_room ≡ old.route_room) × (new.group_room ≡ old.group_room)

abbrev Rooms : Host → ℕ × ℕ × ℕ
Rooms H = (H.addr_room, H.route_room, H.group_room)

each : (old new : Host) → Rooms new ≡ Rooms old → (new.addr_room ≡ old.addr_room) × (new.route_room ≡ old.route_room) × (new.group_room ≡ old.group_room)
each old new e = (ap (λ (p : ℕ × ℕ × ℕ). p.0) e, ap (λ (p : ℕ × ℕ × ℕ). p.1) e, ap (λ (p : ℕ × ℕ × ℕ). p.2) e)

fragments : (H : Host) (key : FragKey) (f : Fragment) (result : Option (List ℕ)) (notes : List Note) (new : Host) →
    TakesFragment key f result H notes new → RoomStays H [] notes new
fragments H key f result notes new t = each H new (ap Rooms t.changed)

pub room_stays : TableRoomStays
room_stays first last transitions r =
    walk RoomStays (λ old new k. each old new (ap Rooms k.same))
    (λ a b c fs gs xs ys one two. (two.0 ∙ one.0, two.1 ∙ one.1, two.2 ∙ one.2))
    (λ H own source target mine. (refl, refl, refl))
    (λ H hop unknown. (refl, refl, refl))
    (λ H. (refl, refl, refl))
    (λ H h p reached. (refl, refl, refl))
    (λ H h id p first rest e form reached. (refl, refl, refl))
    (λ H t. (refl, refl, refl))
    fragments
    (λ H p rest e. (refl, refl, refl))
    (λ H r'. (refl, refl, refl))
    (λ H h. (refl, refl, refl))
    (λ H list. (refl, refl, refl))
    (λ H timeout. (refl, refl, refl))
    r
