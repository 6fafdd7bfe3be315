-- Frames sent and refusals of one list of events after another.
use Rattle.std.specs.Prelude.{ℕ, ◌≡◌, true, false, List, [], ◌∷◌, ◌++◌, refl}
use Rattle.std.proofs.Common.{ap}
use Rattle.net_base.specs.Device.{Event, Received, Asked, Sent, Frame, Nothing, Withheld}
use Rattle.net_base.specs.Device.{count_after_refusal, handed_frames, refusals_after, sent_frames}

pub sent_join : (xs ys : List Event) → sent_frames (xs ++ ys) ≡ sent_frames xs ++ sent_frames ys
sent_join [] ys = refl
sent_join (Received t r ∷ xs) ys = sent_join xs ys
sent_join (Asked t b ∷ xs) ys = sent_join xs ys
sent_join (Sent id f ∷ xs) ys = ap (λ (fs : List (List ℕ)). f ∷ fs) (sent_join xs ys)

pub refusals_join : (n : ℕ) (xs ys : List Event) → refusals_after n (xs ++ ys) ≡ refusals_after (refusals_after n xs) ys
refusals_join n [] ys = refl
refusals_join n (Received t (Frame f) ∷ xs) ys = refusals_join n xs ys
refusals_join n (Received t Nothing ∷ xs) ys = refusals_join n xs ys
refusals_join n (Received t Withheld ∷ xs) ys = refusals_join (count_after_refusal n) xs ys
refusals_join n (Asked t true ∷ xs) ys = refusals_join n xs ys
refusals_join n (Asked t false ∷ xs) ys = refusals_join (count_after_refusal n) xs ys
refusals_join n (Sent id f ∷ xs) ys = refusals_join n xs ys

pub handed_join : (xs ys : List Event) → handed_frames (xs ++ ys) ≡ handed_frames xs ++ handed_frames ys
handed_join [] ys = refl
handed_join (Received t (Frame f) ∷ xs) ys = ap (λ (fs : List (List ℕ)). f ∷ fs) (handed_join xs ys)
handed_join (Received t Nothing ∷ xs) ys = handed_join xs ys
handed_join (Received t Withheld ∷ xs) ys = handed_join xs ys
handed_join (Asked t b ∷ xs) ys = handed_join xs ys
handed_join (Sent id f ∷ xs) ys = handed_join xs ys

-- nothing is received in two parts, one after another
pub none_handed : (xs ys : List Event) → handed_frames xs ≡ [] → handed_frames ys ≡ [] → handed_frames (xs ++ ys) ≡ []
none_handed xs ys first second = rw (handed_join xs ys, first) second
