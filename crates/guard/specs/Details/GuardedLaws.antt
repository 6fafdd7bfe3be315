-- Events of a guarded device one after another.
use Rattle.std.specs.Prelude.{◌≡◌, ℕ, ℤ, List, [], ◌∷◌, ◌++◌, true, false, refl}
use Rattle.std.proofs.Common.{sym, ap, ◌∙◌, subst}
use Rattle.net_base.specs.Device.{Asked, Event, Frame, Nothing, Received, Sent, Withheld, count_after_refusal, refusals_after}
use Rattle.guard.specs.Watch.{after_sending}
use Rattle.guard.specs.declared.watch.Watch.{Watch}
use Rattle.guard.specs.Details.Guarded.{moment_after, passed_on, watch_after}

passed_append : (xs ys : List Event) → passed_on (xs ++ ys) ≡ passed_on xs ++ passed_on ys
passed_append [] ys = refl
passed_append (Received t (Frame f) ∷ es) ys = ap (λ (l : List Event). Received t (Frame f) ∷ l) (passed_append es ys)
passed_append (Received t Nothing ∷ es) ys = passed_append es ys
passed_append (Received t Withheld ∷ es) ys = ap (λ (l : List Event). Received t Withheld ∷ l) (passed_append es ys)
passed_append (Asked t b ∷ es) ys = ap (λ (l : List Event). Asked t b ∷ l) (passed_append es ys)
passed_append (Sent id f ∷ es) ys = ap (λ (l : List Event). Sent id f ∷ l) (passed_append es ys)

moment_append : (xs ys : List Event) (at : ℤ) → moment_after (xs ++ ys) at ≡ moment_after ys (moment_after xs at)
moment_append [] ys at = refl
moment_append (Received t r ∷ es) ys at = moment_append es ys at
moment_append (Asked t b ∷ es) ys at = moment_append es ys t
moment_append (Sent id f ∷ es) ys at = moment_append es ys at

watch_append : (xs ys : List Event) (at : ℤ) (w : Watch) →
    watch_after (xs ++ ys) at w ≡ watch_after ys (moment_after xs at) (watch_after xs at w)
watch_append [] ys at w = refl
watch_append (Received t r ∷ es) ys at w = watch_append es ys at w
watch_append (Asked t b ∷ es) ys at w = watch_append es ys t w
watch_append (Sent id f ∷ es) ys at w = watch_append es ys at (after_sending at f w)

-- what the device has of two lists of events it has one after another
pub passed_both : {D : Type 0} (tells : D → List Event → D → Type 0) →
    ((a b c : D) (xs ys : List Event) → tells a xs b → tells b ys c → tells a (xs ++ ys) c) → (a b c : D) (xs ys : List Event) →
    tells a (passed_on xs) b → tells b (passed_on ys) c → tells a (passed_on (xs ++ ys)) c
passed_both tells on a b c xs ys first second =
    subst (λ (l : List Event). tells a l c) (sym (passed_append xs ys)) (on a b c (passed_on xs) (passed_on ys) first second)

pub moment_on : (xs ys : List Event) (at at' at'' : ℤ) → at' ≡ moment_after xs at → at'' ≡ moment_after ys at' → at'' ≡ moment_after (xs ++ ys) at
moment_on xs ys at at' at'' first second = second ∙ ap (moment_after ys) first ∙ sym (moment_append xs ys at)

pub watch_on : (xs ys : List Event) (at at' : ℤ) (w w' w'' : Watch) → at' ≡ moment_after xs at → w' ≡ watch_after xs at w →
    w'' ≡ watch_after ys at' w' → w'' ≡ watch_after (xs ++ ys) at w
watch_on xs ys at at' w w' w'' moment first second =
    second ∙ ap (λ (t : ℤ). watch_after ys t w') moment ∙ ap (watch_after ys (moment_after xs at)) first ∙ sym (watch_append xs ys at w)

-- a refusal count follows the events, with or without requests that the device never got
same_count : (n : ℕ) (xs : List Event) → refusals_after n (passed_on xs) ≡ refusals_after n xs
same_count n [] = refl
same_count n (Received t (Frame f) ∷ es) = same_count n es
same_count n (Received t Nothing ∷ es) = same_count n es
same_count n (Received t Withheld ∷ es) = same_count (count_after_refusal n) es
same_count n (Asked t true ∷ es) = same_count n es
same_count n (Asked t false ∷ es) = same_count (count_after_refusal n) es
same_count n (Sent id f ∷ es) = same_count n es

pub told_count : (n m : ℕ) (xs : List Event) → m ≡ refusals_after n (passed_on xs) → m ≡ refusals_after n xs
told_count n m xs e = e ∙ same_count n xs
