-- A name is written label by label.
use Rattle.std.proofs.Common.{◌≡◌, ℕ, ◌+◌, ◌<◌, Bool, true, false, ◌&&◌, List, [], ◌∷◌, ◌++◌, Some, None, length, take, drop}
use Rattle.std.proofs.Common.{refl, sym, ap, ◌∙◌, length-append, append_assoc, arith}
use Rattle.std.specs.Prelude.{nat_le, nat_lt, if◌then◌else◌}
use Rattle.std.specs.List.{position, position_or_len, slice_split, onto_first}
use Rattle.std.proofs.lemmas.Bool.Decides.{nat_tests}
use Rattle.std.proofs.lemmas.List.Splits.{slice_split_first, slice_split-cons_no}
use Rattle.dns_client.specs.Details.Text.{is_dot, is_label, are_labels, octets_of, name_by}

-- there is room for a label behind a front
abbrev pub has_room : List ℕ → List ℕ → Bool
has_room front l = is_label l && nat_le (length front + 1 + length l) 255

pub len_of : (l : List ℕ) (ls : List (List ℕ)) → length (octets_of (l ∷ ls)) ≡ 1 + length l + length (octets_of ls)
unfolding octets_of
len_of l ls = omega (arith, length-append l (octets_of ls))

front_len : (front l : List ℕ) (ls : List (List ℕ)) →
    length (front ++ length l ∷ l) + length (octets_of ls) ≡ length front + length (octets_of (l ∷ ls))
front_len front l ls = omega (arith, length-append front (length l ∷ l), len_of l ls)

-- a label that was appended is the first of those that follow
pub label_appended : (front l : List ℕ) (ls : List (List ℕ)) → is_label l ≡ true →
    name_by (front ++ length l ∷ l) ls ≡ name_by front (l ∷ ls)
unfolding are_labels octets_of
label_appended front l ls h = rw (h, front_len front l ls, append_assoc front (length l ∷ l) (octets_of ls)) refl

-- one that isn't is the first of no name
too_long : (b : Bool) (front : List ℕ) (l : List ℕ) (ls : List (List ℕ)) → nat_le (length front + length (octets_of (l ∷ ls))) 255 ≡ false →
    None ≡ (if b && nat_le (length front + length (octets_of (l ∷ ls))) 255 then Some (front ++ octets_of (l ∷ ls)) else None)
too_long true front l ls h = rw h refl
too_long false front l ls h = refl

refused_by : (b : Bool) (front l : List ℕ) (ls : List (List ℕ)) → is_label l ≡ b → has_room front l ≡ false → None ≡ name_by front (l ∷ ls)
unfolding are_labels
refused_by false front l ls e h = rw e refl
refused_by true front l ls e h =
    let n = len_of l ls in
    let none : nat_le (length front + 1 + length l) 255 ≡ false = sym (ap (λ (b : Bool). b && nat_le (length front + 1 + length l) 255) e) ∙ h in
    let over : nat_le (length front + length (octets_of (l ∷ ls))) 255 ≡ false = grind (arith, nat_tests, none, n) in
    too_long (are_labels (l ∷ ls)) front l ls over

pub label_refused : (front l : List ℕ) (ls : List (List ℕ)) → has_room front l ≡ false → None ≡ name_by front (l ∷ ls)
label_refused front l ls h = refused_by (is_label l) front l ls refl h

-- the last one stands before the name's end, for which there has to be room too
end_len : (l : List ℕ) → length (octets_of (l ∷ [])) ≡ 2 + length l
unfolding octets_of
end_len l = omega (arith, length-append l (0 ∷ []))

pub last_label : (front l : List ℕ) → is_label l ≡ true → length (front ++ length l ∷ l) < 255 →
    Some ((front ++ length l ∷ l) ++ 0 ∷ []) ≡ name_by front (l ∷ [])
unfolding octets_of are_labels
last_label front l h few =
    let n = end_len l in
    let m = length-append front (length l ∷ l) in
    let room : nat_le (length front + length (octets_of (l ∷ []))) 255 ≡ true = grind (arith, nat_tests, few, n, m) in
    rw (h, room, append_assoc front (length l ∷ l) (0 ∷ [])) refl

pub no_end : (front l : List ℕ) → length (front ++ length l ∷ l) ≡ 255 → None ≡ name_by front (l ∷ [])
no_end front l full =
    let n = end_len l in
    let m = length-append front (length l ∷ l) in
    let over : nat_le (length front + length (octets_of (l ∷ []))) 255 ≡ false = grind (arith, nat_tests, full, n, m) in
    too_long (are_labels (l ∷ [])) front l [] over

-- where the first dot stands, the text is cut
first_is : (b : Bool) (k n : ℕ) → Some n ≡ (if b then Some k else None) → (b ≡ true) × (n ≡ k)
first_is true k n is = (refl, cc)
first_is false k n is = absurd cc

pub cut_at : (xs : List ℕ) (n : ℕ) → Some n ≡ position is_dot xs →
    (n < length xs) × (slice_split is_dot xs ≡ take n xs ∷ slice_split is_dot (drop (n + 1) xs))
cut_at xs n is =
    let first = first_is (nat_lt (position_or_len is_dot xs) (length xs)) (position_or_len is_dot xs) n is in
    let within : position_or_len is_dot xs < length xs = grind (arith, nat_tests, first.0) in
    rw first.1 (within, slice_split_first is_dot xs 0 within)

none_is : (b : Bool) (k : ℕ) → None ≡ (if b then Some k else None) → b ≡ false
none_is true k is = absurd cc
none_is false k is = refl

dot_by : (b : Bool) (x : ℕ) (xs : List ℕ) → is_dot x ≡ b → nat_lt (position_or_len is_dot (x ∷ xs)) (length (x ∷ xs)) ≡ false →
    (nat_lt (position_or_len is_dot xs) (length xs) ≡ false → slice_split is_dot xs ≡ xs ∷ []) → slice_split is_dot (x ∷ xs) ≡ (x ∷ xs) ∷ []
dot_by true x xs e h next = absurd (let none : nat_lt 0 (length (x ∷ xs)) ≡ false = rw e at h in grind (arith, nat_tests, none))
dot_by false x xs e h next =
    let rest : nat_lt (1 + position_or_len is_dot xs) (length (x ∷ xs)) ≡ false = rw e at h in
    let none : nat_lt (position_or_len is_dot xs) (length xs) ≡ false = grind (arith, nat_tests, rest) in
    slice_split-cons_no is_dot x xs e ∙ ap (onto_first x) (next none)

no_dot : (xs : List ℕ) → nat_lt (position_or_len is_dot xs) (length xs) ≡ false → slice_split is_dot xs ≡ xs ∷ []
no_dot [] h = refl
no_dot (x ∷ xs) h = dot_by (is_dot x) x xs refl h (no_dot xs)

pub not_cut : (xs : List ℕ) → None ≡ position is_dot xs → slice_split is_dot xs ≡ xs ∷ []
not_cut xs is = no_dot xs (none_is (nat_lt (position_or_len is_dot xs) (length xs)) (position_or_len is_dot xs) is)
