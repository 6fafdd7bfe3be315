-- Events one after another: as a list to which they are appended, and as a refusal count that follows them.
use Rattle.std.specs.Prelude.{◌≡◌, ℕ, List, [], ◌∷◌, ◌++◌, true, false, refl}
use Rattle.std.proofs.Common.{sym, ap, ◌∙◌}
use Rattle.std.proofs.lemmas.List.{append_assoc, append-nil}
use Rattle.net_base.specs.Device.{Event, Received, Frame, Nothing, Withheld, Asked, Sent}
use Rattle.net_base.specs.Device.{refusals_after, count_after_refusal}

-- after no event a trace is as it was
pub none_appended : (events : List Event) → events ≡ events ++ []
none_appended events = sym (append-nil events)

-- what was appended in two parts was appended as one
pub appended_on : (a b c xs ys : List Event) → b ≡ a ++ xs → c ≡ b ++ ys → c ≡ a ++ (xs ++ ys)
appended_on a b c xs ys first second =
    second ∙ ap (λ (es : List Event). es ++ ys) first ∙ append_assoc a xs ys

-- the refusal count after two lists of events
after_both : (n : ℕ) (xs ys : List Event) → refusals_after n (xs ++ ys) ≡ refusals_after (refusals_after n xs) ys
after_both n [] ys = refl
after_both n (Received t (Frame f) ∷ es) ys = after_both n es ys
after_both n (Received t Nothing ∷ es) ys = after_both n es ys
after_both n (Received t Withheld ∷ es) ys = after_both (count_after_refusal n) es ys
after_both n (Asked t true ∷ es) ys = after_both n es ys
after_both n (Asked t false ∷ es) ys = after_both (count_after_refusal n) es ys
after_both n (Sent id f ∷ es) ys = after_both n es ys

-- counts that follow these events, and then those, follow all of them
pub counted_on : (a b c : ℕ) (xs ys : List Event) →
    b ≡ refusals_after a xs → c ≡ refusals_after b ys → c ≡ refusals_after a (xs ++ ys)
counted_on a b c xs ys first second =
    second ∙ ap (λ (n : ℕ). refusals_after n ys) first ∙ sym (after_both a xs ys)
