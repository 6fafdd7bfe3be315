-- The events of a device in memory follow one after another, and its refusal count follows them.
use Rattle.std.specs.Prelude.{ℕ, ◌≡◌, true, false, List, [], ◌∷◌, ◌++◌, refl}
use Rattle.std.proofs.Common.{sym, ap, ◌∙◌}
use Rattle.net_base.specs.Device.{Event, Received, Asked, Sent, Frame, Nothing, Withheld, refusals_after}
use Rattle.net_base.specs.MemoryDevice.{Memory, Moves, Tells, Stays, Goes}

-- one event after another
pub told_on : {a b c : Memory} {xs ys : List Event} → Tells a xs b → Tells b ys c → Tells a (xs ++ ys) c
told_on Stays second = second
told_on (Goes move rest) second = Goes move (told_on rest second)

-- the refusal count after one event
refusals_move : (event : Event) (a b : Memory) → Moves event a b → b.refusals ≡ refusals_after a.refusals (event ∷ [])
refusals_move (Received t (Frame frame)) a b move = ap (λ (d : Memory). d.refusals) move.after
refusals_move (Received t Nothing) a b move = ap (λ (d : Memory). d.refusals) move.after
refusals_move (Received t Withheld) a b move = ap (λ (d : Memory). d.refusals) move.after
refusals_move (Asked t true) a b move = ap (λ (d : Memory). d.refusals) move.after
refusals_move (Asked t false) a b move = ap (λ (d : Memory). d.refusals) move.after
refusals_move (Sent id frame) a b move = ap (λ (d : Memory). d.refusals) move.after

-- the refusal count after one event and more
refusals_first : (n : ℕ) (event : Event) (events : List Event) →
    refusals_after n (event ∷ events) ≡ refusals_after (refusals_after n (event ∷ [])) events
refusals_first n (Received t (Frame frame)) events = refl
refusals_first n (Received t Nothing) events = refl
refusals_first n (Received t Withheld) events = refl
refusals_first n (Asked t true) events = refl
refusals_first n (Asked t false) events = refl
refusals_first n (Sent id frame) events = refl

pub told_refusals : {a b : Memory} {xs : List Event} → Tells a xs b → b.refusals ≡ refusals_after a.refusals xs
told_refusals Stays = refl
told_refusals {a} (Goes {b = b} {event = event} {events = events} move rest) =
    told_refusals rest ∙ ap (λ (n : ℕ). refusals_after n events) (refusals_move event a b move)
    ∙ sym (refusals_first a.refusals event events)
