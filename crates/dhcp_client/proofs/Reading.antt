-- Options are read one after the other.
use Rattle.std.proofs.Common.{◌≡◌, ℕ, zero, suc, ◌+◌, ◌-◌, ◌≤◌, Bool, true, false, cond, List, [], ◌∷◌, ◌++◌}
use Rattle.std.proofs.Common.{length, take, drop, min, refl, sym, ap, ◌∙◌, append_assoc, append-nil, arith}
use Rattle.std.specs.Prelude.{IsTrue, ◌==◌, slice_index}
use Rattle.std.proofs.lemmas.Bool.{and_parts, leb-true, eqb-true, false_from_ne_true}
use Rattle.std.proofs.lemmas.List.{length-take-le}
use Rattle.dhcp_client.specs.Options.{option_len, begins_option, options_after, are_whole, joined, data_if, in_room}

-- what is cut off before isn't there after
take_over : (n : ℕ) (a b : List ℕ) → take n (take n a ++ b) ≡ take n (a ++ b)
take_over zero a b = refl
take_over (suc n) [] b = refl
take_over (suc n) (x ∷ xs) b = ap (λ (ys : List ℕ). x ∷ ys) (take_over n xs b)

take_all : (n : ℕ) (a : List ℕ) → length a ≤ n → take n a ≡ a
take_all zero [] h = refl
take_all zero (x ∷ xs) h = absurd (omega (arith, h))
take_all (suc n) [] h = refl
take_all (suc n) (x ∷ xs) h = ap (λ (ys : List ℕ). x ∷ ys) (take_all n xs (omega (arith, h)))

take_behind : (n : ℕ) (a b : List ℕ) → length a ≤ n → take n (a ++ b) ≡ a ++ take (n - length a) b
take_behind n [] b h = let is : n ≡ n - 0 = omega arith in ap (λ (k : ℕ). take k b) is
take_behind zero (x ∷ xs) b h = absurd (omega (arith, h))
take_behind (suc n) (x ∷ xs) b h =
    let is : n - length xs ≡ suc n - suc (length xs) = omega arith in
    ap (λ (ys : List ℕ). x ∷ ys) (take_behind n xs b (omega (arith, h))) ∙ ap (λ (k : ℕ). x ∷ (xs ++ take k b)) is

take_none : (m : ℕ) → ◌≡◌ {A = List ℕ} (take m []) []
take_none zero = refl
take_none (suc m) = refl

take_least : (n k : ℕ) (b : List ℕ) → k ≡ min (length b) n → take k b ≡ take n b
take_least n k [] e = take_none k ∙ sym (take_none n)
take_least zero k (x ∷ xs) e = let is : k ≡ 0 = omega (arith, e) in rw is refl
take_least (suc n) k (x ∷ xs) e =
    let is : min (suc (length xs)) (suc n) ≡ suc (min (length xs) n) = omega arith in
    rw (e, is) (ap (λ (ys : List ℕ). x ∷ ys) (take_least n (min (length xs) n) xs refl))

-- data of three fields, one after another
pub three : (a b c d1 d2 d3 : List ℕ) → d1 ≡ in_room a → d2 ≡ in_room (d1 ++ b) → d3 ≡ in_room (d2 ++ c) → d3 ≡ in_room (a ++ b ++ c)
three a b c d1 d2 d3 e1 e2 e3 =
    rw (e3, e2, e1)
    (take_over 256 (in_room a ++ b) c ∙ ap in_room (append_assoc (in_room a) b c) ∙ take_over 256 a (b ++ c)
    ∙ ap in_room (sym (append_assoc a b c)))

-- data that fit are there as they are
pub fit : (a : List ℕ) → length a ≤ 256 → a ≡ in_room (a ++ [])
fit a h = sym (ap in_room (append-nil a) ∙ take_all 256 a h)

-- data are appended as far as there is room
pub fill : (a b : List ℕ) (room len : ℕ) → room + length a ≡ 256 → len ≡ min (length b) room → a ++ take len b ≡ in_room (a ++ b)
fill a b room len e el =
    let le : length a ≤ 256 = omega (arith, e) in
    let is : room ≡ 256 - length a = omega (arith, e) in
    ap (λ (xs : List ℕ). a ++ xs) (take_least room len b el ∙ ap (λ (n : ℕ). take n b) is) ∙ sym (take_behind 256 a b le)

some : (b : Bool) (n : ℕ) → 1 ≤ cond b 1 (2 + n)
some true n = omega arith
some false n = omega arith

some_len : (octets : List ℕ) → 1 ≤ option_len octets
some_len octets = some (slice_index octets 0 == 0) (slice_index octets 1)

pub fits : (octets : List ℕ) → IsTrue (begins_option octets) → option_len octets ≤ length octets
fits octets h = leb-true _ _ (and_parts _ _ h).1

-- an option that is read has its code
pub has_code : (octets option : List ℕ) → IsTrue (begins_option octets) → option ≡ take (option_len octets) octets → 1 ≤ length option
has_code octets option h e =
    let few = some_len octets in
    let all = fits octets h in
    rw (e, length-take-le (option_len octets) octets all) few

skipped : (skip : ℕ) (octets : List ℕ) → options_after skip octets ≡ options_after 0 (drop skip octets)
unfolding options_after
skipped zero octets = refl
skipped (suc skip) [] = refl
skipped (suc skip) (x ∷ xs) = skipped skip xs

-- the first option, and those after it
pub first_option : (octets : List ℕ) → IsTrue (begins_option octets)
    → options_after 0 octets ≡ take (option_len octets) octets ∷ options_after 0 (drop (option_len octets) octets)
unfolding options_after
first_option [] h = absurd (cc)
first_option (x ∷ xs) h =
    let n = option_len (x ∷ xs) in
    let more = some_len (x ∷ xs) in
    let is : n ≡ suc (n - 1) = omega (arith, more) in
    let rest : drop (n - 1) xs ≡ drop n (x ∷ xs) = ap (λ (k : ℕ). drop k (x ∷ xs)) (sym is) in
    rw h (ap (λ (os : List (List ℕ)). take n (x ∷ xs) ∷ os) (skipped (n - 1) xs ∙ ap (options_after 0) rest))

pub ended : (octets : List ℕ) → begins_option octets ≡ false → options_after 0 octets ≡ []
unfolding options_after
ended [] h = refl
ended (x ∷ xs) h = rw h refl

-- an option is read
pub next_joined : (code : ℕ) (octets option rest before after : List ℕ) → IsTrue (begins_option octets) →
    option ≡ take (option_len octets) octets → rest ≡ drop (option_len octets) octets →
    after ≡ in_room (before ++ data_if code option) →
    in_room (after ++ joined code (options_after 0 rest)) ≡ in_room (before ++ joined code (options_after 0 octets))
unfolding joined
next_joined code octets option rest before after h eo er ea =
    rw (ea, eo, er)
    (take_over 256 (before ++ data_if code (take (option_len octets) octets)) (joined code (options_after 0 (drop (option_len octets) octets)))
    ∙ ap in_room (append_assoc before (data_if code (take (option_len octets) octets))
    (joined code (options_after 0 (drop (option_len octets) octets))))
    ∙ ap (λ (os : List (List ℕ)). in_room (before ++ joined code os)) (sym (first_option octets h)))

-- where none begins, all have been read
pub all_joined : (code : ℕ) (octets before : List ℕ) → ¬ (IsTrue (begins_option octets)) → length before ≤ 256 →
    before ≡ in_room (before ++ joined code (options_after 0 octets))
unfolding joined
all_joined code octets before h le = rw (ended octets (false_from_ne_true (begins_option octets) h)) (fit before le)

skipped_whole : (skip : ℕ) (octets : List ℕ) → are_whole skip octets ≡ are_whole 0 (drop skip octets)
unfolding are_whole
skipped_whole zero octets = refl
skipped_whole (suc skip) [] = refl
skipped_whole (suc skip) (x ∷ xs) = skipped_whole skip xs

-- the options are whole if those after the first one are
pub whole_next : (octets : List ℕ) → IsTrue (begins_option octets) → are_whole 0 octets ≡ are_whole 0 (drop (option_len octets) octets)
unfolding are_whole
whole_next [] h = absurd (cc)
whole_next (x ∷ xs) h =
    let n = option_len (x ∷ xs) in
    let more = some_len (x ∷ xs) in
    let is : n ≡ suc (n - 1) = omega (arith, more) in
    let rest : drop (n - 1) xs ≡ drop n (x ∷ xs) = ap (λ (k : ℕ). drop k (x ∷ xs)) (sym is) in
    rw h (skipped_whole (n - 1) xs ∙ ap (are_whole 0) rest)

pub whole_empty : (b : Bool) (octets : List ℕ) → b ≡ (length octets == 0) → b ≡ true → b ≡ are_whole 0 octets
unfolding are_whole
whole_empty b [] e last = e
whole_empty b (x ∷ xs) e last = let bad : suc (length xs) ≡ 0 = eqb-true (suc (length xs)) 0 (sym e ∙ last) in absurd (omega (arith, bad))

-- where none begins, the options end by their octet
pub whole_ended : (b : Bool) (octets : List ℕ) → b ≡ (length octets == 0) → b ≡ false → ¬ (IsTrue (begins_option octets)) →
    (slice_index octets 0 == 255) ≡ are_whole 0 octets
unfolding are_whole
whole_ended b [] e more h = let bad : true ≡ false = sym e ∙ more in absurd (cc)
whole_ended b (x ∷ xs) e more h = rw (false_from_ne_true (begins_option (x ∷ xs)) h) refl

-- the data of an option that has the code
pub data_there : (code : ℕ) (o a : List ℕ) → (slice_index o 0 == code) ≡ true → in_room (a ++ drop 2 o) ≡ in_room (a ++ data_if code o)
data_there code o a e = rw e refl

none_behind : (n : ℕ) (o : List ℕ) → length o ≤ n → drop n o ≡ []
none_behind zero [] h = refl
none_behind zero (x ∷ xs) h = absurd (omega (arith, h))
none_behind (suc n) [] h = refl
none_behind (suc n) (x ∷ xs) h = none_behind n xs (omega (arith, h))

no_data : (b : Bool) (o a : List ℕ) → length o ≤ 2 → length a ≤ 256 → a ≡ in_room (a ++ cond b (drop 2 o) [])
no_data true o a h le = fit a le ∙ ap (λ (xs : List ℕ). in_room (a ++ xs)) (sym (none_behind 2 o h))
no_data false o a h le = fit a le

pub data_short : (code : ℕ) (o a : List ℕ) → length o ≤ 2 → length a ≤ 256 → a ≡ in_room (a ++ data_if code o)
data_short code o a h le = no_data (slice_index o 0 == code) o a h le

pub data_other : (code : ℕ) (o a : List ℕ) → (slice_index o 0 == code) ≡ false → length a ≤ 256 → a ≡ in_room (a ++ data_if code o)
data_other code o a e le = rw e (fit a le)

-- two servers of names in two options, with another code between their octets, and one behind the end that doesn't count
joined_again :
    joined 6 (options_after 0 (6 ∷ 5 ∷ 10 ∷ 0 ∷ 0 ∷ 1 ∷ 10 ∷ 0 ∷ 3 ∷ 1 ∷ 7 ∷ 6 ∷ 3 ∷ 0 ∷ 0 ∷ 2 ∷ 255 ∷ 6 ∷ 1 ∷ 9 ∷ []))
    ≡ 10 ∷ 0 ∷ 0 ∷ 1 ∷ 10 ∷ 0 ∷ 0 ∷ 2 ∷ []
unfolding options_after joined
joined_again = refl
