-- What passes a guard, passes unaltered and in order.
use Rattle.std.proofs.Common.{◌≡◌, ◌∙◌, ap, ℕ, true, false, refl, pos, List, ◌∷◌}
use Rattle.guard.specs.Laws.{Arrival}
use Rattle.guard.specs.Watch.{admits, after_arrival}
use Rattle.guard.specs.declared.watch.Watch.{Watch}
use Rattle.guard.specs.GuardedDevice.Laws.{Dropped, End, Kept, Left, None, OffChangesNothing, PassInOrder, Passed, Sees, frames_of}

pub pass_in_order : PassInOrder
pass_in_order w w' arrived seen (None v) = End
pass_in_order w w' arrived seen (Passed v v' a later rest admitted sees) =
    Kept a.frame rest (frames_of later) (pass_in_order (after_arrival (pos a.at) a.frame a.hardware a.own v) v' later rest sees)
pass_in_order w w' arrived seen (Dropped v v' a later rest dropped sees) =
    Left a.frame rest (frames_of later) (pass_in_order (after_arrival (pos a.at) a.frame a.hardware a.own v) v' later rest sees)

-- a guard that is off admits a frame, and stays
admits_off : (w : Watch) (a : Arrival) → w.is_on ≡ false → admits (pos a.at) a.frame a.hardware a.own w ≡ true
admits_off w a off = rw off refl

stays_off : (w : Watch) (a : Arrival) → w.is_on ≡ false → after_arrival (pos a.at) a.frame a.hardware a.own w ≡ w
stays_off w a off = rw off refl

off_by : (v w w' : Watch) (arrived : List Arrival) (seen : List (List ℕ)) → w.is_on ≡ false → v ≡ w → Sees v arrived seen w' →
    (seen ≡ frames_of arrived) × (w' ≡ w)
off_by v w w' arrived seen off same (None u) = (refl, same)
off_by v w w' arrived seen off same (Passed u u' a later rest admitted sees) =
    let is_off : u.is_on ≡ false = ap (λ (x : Watch). x.is_on) same ∙ off in
    let kept = off_by (after_arrival (pos a.at) a.frame a.hardware a.own u) w u' later rest off (stays_off u a is_off ∙ same) sees in
    (ap (λ (l : List (List ℕ)). a.frame ∷ l) kept.0, kept.1)
off_by v w w' arrived seen off same (Dropped u u' a later rest dropped sees) =
    let admitted = admits_off u a (ap (λ (x : Watch). x.is_on) same ∙ off) in absurd cc

pub off_changes_nothing : OffChangesNothing
off_changes_nothing w w' arrived seen off sees = off_by w w w' arrived seen off refl sees
