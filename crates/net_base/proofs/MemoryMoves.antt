-- What the calls of a device in memory tell.
use Rattle.std.specs.Prelude.{ℕ, ℤ, ◌≡◌, ◌≢◌, Bool, true, false, List, [], ◌∷◌, length, refl}
use Rattle.std.proofs.Common.{sym, ap, ◌∙◌}
use Rattle.std.proofs.lemmas.List.{nil_from_length}
use Rattle.net_base.specs.Device.{Event, Received, Asked, Frame, Nothing, Withheld, HandsNone, WasEmpty, WasWithheld}
use Rattle.net_base.specs.MemoryDevice.{Memory, Moves, Tells, Stays, Goes, is_refused, without_first_answer}
use Rattle.net_base.specs.MemoryDevice.{with_refusal_counted, with_room, Reserves, ByList, ForRoom}

-- one event
pub told_one : (event : Event) {a b : Memory} → Moves event a b → Tells a (event ∷ []) b
told_one event move = Goes move Stays

-- where an attempt brought no room, none was there before
had_none : (had has : Bool) → (had ≡ true → has ≡ true) → has ≡ false → had ≡ false
had_none true has stays none = sym (stays refl) ∙ none
had_none false has stays none = refl

had_no_room : {old new : Memory} {has : Bool} → Reserves old new has → has ≡ false → old.has_room ≡ false
had_no_room {old} {has = has} tried none = had_none old.has_room has tried.stays none

-- and it changed nothing
unchanged : {old new : Memory} {has : Bool} → Reserves old new has → has ≡ false → new ≡ old
unchanged {old} tried none = tried.after ∙ ap (λ (b : Bool). with_room b old) (none ∙ sym (had_no_room tried none))

-- an empty queue
pub tells_nothing : (t : ℤ) (d : Memory) → length d.queued ≡ 0 → HandsNone Tells t d d
tells_nothing t d none = WasEmpty (told_one (Received t Nothing) (record { empty = nil_from_length d.queued none; after = refl }))

-- a frame that waits, and no room
pub tells_withheld : {old mid new : Memory} {has : Bool} (t : ℤ) →
    length old.queued ≢ 0 → Reserves old mid has → has ≡ false → new ≡ with_refusal_counted mid → HandsNone Tells t old new
tells_withheld t waits tried none after = WasWithheld (told_one (Received t Withheld) (record {
  waits = λ e. waits (ap length e);
  no_room = had_no_room tried none;
  after = after ∙ ap with_refusal_counted (unchanged tried none);
}))

-- the first frame, with room
pub tells_frame : {old mid new : Memory} {has : Bool} {frame octets : List ℕ} (t : ℤ) → Reserves old mid has → has ≡ true →
    mid.queued ≡ frame ∷ new.queued → new ≡ record mid { queued = new.queued } → octets ≡ frame → Tells old (Received t (Frame octets) ∷ []) new
tells_frame {old} {mid} {new} {octets = octets} t tried there first after same = told_one (Received t (Frame octets)) (record {
  first = sym (ap (λ (d : Memory). d.queued) tried.after) ∙ first ∙ ap (λ (f : List ℕ). f ∷ new.queued) (sym same);
  after = after ∙ ap (λ (d : Memory). record d { queued = new.queued }) (tried.after ∙ ap (λ (b : Bool). with_room b old) there);
})

-- leave
pub tells_grant : {old mid new : Memory} {has : Bool} (t : ℤ) → is_refused old.refuse ≡ false → mid ≡ without_first_answer old →
    Reserves mid new has → has ≡ true → Tells old (Asked t true ∷ []) new
tells_grant {mid = mid} t allowed taken tried there = told_one (Asked t true) (record {
  allowed = allowed;
  after = tried.after ∙ ap (λ (b : Bool). with_room b mid) there ∙ ap (with_room true) taken;
})

-- no leave, by the list
pub tells_refused : {old mid new : Memory} (t : ℤ) → is_refused old.refuse ≡ true → mid ≡ without_first_answer old →
    new ≡ with_refusal_counted mid → Tells old (Asked t false ∷ []) new
tells_refused t refused taken after = told_one (Asked t false) (record {
  cause = ByList refused;
  after = after ∙ ap with_refusal_counted taken;
})

-- no leave, for want of room
pub tells_no_room : {old mid end new : Memory} {has : Bool} (t : ℤ) → is_refused old.refuse ≡ false → mid ≡ without_first_answer old →
    Reserves mid end has → has ≡ false → new ≡ with_refusal_counted end → Tells old (Asked t false ∷ []) new
tells_no_room t allowed taken tried none after = told_one (Asked t false) (record {
  cause = ForRoom allowed (sym (ap (λ (d : Memory). d.has_room) taken) ∙ had_no_room tried none);
  after = after ∙ ap with_refusal_counted (unchanged tried none ∙ taken);
})
