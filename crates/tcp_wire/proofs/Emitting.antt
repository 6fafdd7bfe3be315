-- Ranges are emitted one after the other.
use Rattle.std.proofs.Common.{◌≡◌, ℕ, suc, ◌+◌, ◌-◌, ◌*◌, ◌<◌, ◌≤◌, Option, Some, None, List, [], ◌∷◌, ◌++◌}
use Rattle.std.proofs.Common.{length, take, drop, get_or, refl, sym, ap, ◌∙◌, add-one, drop-cons, append_assoc, append-nil, length-append, arith}
use Rattle.std.specs.List.{flat_map}
use Rattle.tcp_wire.specs.declared.options.SackRange.{SackRange}
use Rattle.tcp_wire.specs.Options.{ranges_of, range_text, sack_text}
use Rattle.tcp_wire.proofs.Lengths.{sack-none, sack-some, take-taken}

-- the text of the first ranges from a place on
abbrev pub left_text : ℕ → List (Option SackRange) → List ℕ
left_text left places = flat_map range_text (take left (ranges_of places))

split : (places : List (Option SackRange)) (i : ℕ) → i < length places → drop i places ≡ get_or places i None ∷ drop (i + 1) places
split places i lt = rw (add-one, drop-cons places i None lt) refl

none : (place : Option SackRange) (places : List (Option SackRange)) (left : ℕ) →
    place ≡ None → left_text left (place ∷ places) ≡ left_text left places
none place places left e = rw e refl

one : (place : Option SackRange) (r : SackRange) (places : List (Option SackRange)) (left after : ℕ) → place ≡ Some r → left ≡ suc after
    → left_text left (place ∷ places) ≡ range_text r ++ left_text after places
one place r places left after e el = rw (e, el) refl

-- a place without a range
pub past : (places : List (Option SackRange)) (i left : ℕ) → i < length places → get_or places i None ≡ None
    → left_text left (drop (i + 1) places) ≡ left_text left (drop i places)
past places i left lt e = sym (ap (left_text left) (split places i lt) ∙ none _ (drop (i + 1) places) left e)

-- no more ranges fit
pub full : (places : List (Option SackRange)) (i left : ℕ) → left ≡ 0 → left_text left (drop (i + 1) places) ≡ left_text left (drop i places)
full places i left e = rw e refl

-- one more range
pub more : (out : List ℕ) (r : SackRange) (places : List (Option SackRange)) (i left after : ℕ) → i < length places → get_or places i None ≡ Some r
    → left ≡ suc after → (out ++ range_text r) ++ left_text after (drop (i + 1) places) ≡ out ++ left_text left (drop i places)
more out r places i left after lt e el =
    append_assoc out (range_text r) (left_text after (drop (i + 1) places))
    ∙ sym (ap (λ (xs : List ℕ). out ++ xs) (ap (left_text left) (split places i lt) ∙ one _ r (drop (i + 1) places) left after e el))

pub none_there : (place : Option SackRange) → ((r : SackRange) → place ≡ Some r → ⊥) → place ≡ None
none_there None h = refl
none_there (Some r) h = absurd (h r refl)

-- room for one more range
pub room_for : (out : List ℕ) (r : SackRange) (left : ℕ) → 0 < left → length out + 8 * left ≤ 40 → length (out ++ range_text r) + 8 * (left - 1) ≤ 40
unfolding range_text
room_for out r left some h = omega (arith, length-append out (range_text r), some, h)

-- four octets, and the ranges that are sent
pub sack : (out : List ℕ) (count most : ℕ) (ranges : List SackRange) → count ≡ length (take most ranges) → 0 < count
    → (out ++ 1 ∷ 1 ∷ 5 ∷ (2 + 8 * count) ∷ []) ++ flat_map range_text (take count ranges) ≡ out ++ sack_text (take most ranges)
sack out count most ranges e some =
    let there : 0 < length (take most ranges) = omega (arith, e, some) in
    let cells : 1 ∷ 1 ∷ 5 ∷ (2 + 8 * count) ∷ flat_map range_text (take count ranges) ≡ sack_text (take most ranges)
    = rw (e, take-taken most ranges) (sym (sack-some (take most ranges) there)) in
    append_assoc out (1 ∷ 1 ∷ 5 ∷ (2 + 8 * count) ∷ []) (flat_map range_text (take count ranges)) ∙ ap (λ (xs : List ℕ). out ++ xs) cells

pub no_sack : (out : List ℕ) (count most : ℕ) (ranges : List SackRange) → count ≡ length (take most ranges) → count ≤ 0
    → out ≡ out ++ sack_text (take most ranges)
no_sack out count most ranges e none =
    let text : sack_text (take most ranges) ≡ [] = sack-none (take most ranges) (omega (arith, e, none)) in
    rw text (sym (append-nil out))
