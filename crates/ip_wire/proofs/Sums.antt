-- Sums of words, and folding.
use Rattle.std.proofs.Common.{◌≡◌, ℕ, zero, suc, ◌+◌, ◌-◌, ◌*◌, ◌/◌, ◌%◌, ◌<◌, ◌≤◌, ◌^◌, List, [], ◌∷◌, ◌++◌}
use Rattle.std.proofs.Common.{length, get_or, drop, refl, sym, ap, ◌∙◌, add-one, drop-cons, append_assoc, arith}
use Rattle.ip_wire.specs.Checksum.{folded_sum, word_sum, checksum_of, FoldsCarries}
use Rattle.std.specs.Int.{w16, to_be_bytes}
use Rattle.ip_wire.specs.Octets.{u32_le_at, u64_le_at}

-- 65535 of something more folds alike
pub folded_sum-more : (a b k : ℕ) → b ≡ a + 65535 * k → folded_sum (suc b) ≡ folded_sum (suc a)
folded_sum-more a b k e =
    let same : b % 65535 ≡ a % 65535 = omega (arith, e) in
    ap (λ (r : ℕ). r + 1) same

-- the sums fold alike where one is 65535 of something above the other, which is not 0
pub folded_shift : (m n k : ℕ) → m ≡ n + k + 65535 * k → folded_sum m ≡ folded_sum (n + k)
folded_shift m n zero e = ap folded_sum (omega (arith, e))
folded_shift zero n (suc k) e = absurd (omega (arith, e))
folded_shift (suc m) n (suc k) e =
    let here : n + suc k ≡ suc (n + k) = omega arith in
    folded_sum-more (n + k) m (suc k) (omega (arith, e)) ∙ ap folded_sum (sym here)

-- the list from a place on, by its first element
step : (xs : List ℕ) (i j : ℕ) → j ≡ i + 1 → i < length xs → drop i xs ≡ get_or xs i 0 ∷ drop j xs
step xs i j e h = rw (e, add-one, drop-cons xs i 0) refl

-- the words from a place on, by the first of them
pub word : (xs : List ℕ) (i j k : ℕ) → j ≡ i + 1 → k ≡ j + 1 → k ≤ length xs →
    word_sum (drop i xs) ≡ get_or xs i 0 * 256 + get_or xs j 0 + word_sum (drop k xs)
unfolding word_sum
word xs i j k ej ek h = ap word_sum (step xs i j ej (omega arith) ∙ ap (λ (t : List ℕ). get_or xs i 0 ∷ t) (step xs j k ek (omega arith)))

-- four octets as one little-endian number, times 256, fold as their two words
pub chunk_folds : (sum : ℕ) (xs : List ℕ) (i j : ℕ) →
    j ≡ i + 4 → j ≤ length xs → folded_sum (sum + 256 * u32_le_at xs i + word_sum (drop j xs)) ≡ folded_sum (sum + word_sum (drop i xs))
chunk_folds sum xs i j e h =
    let high = word xs i (i + 1) (i + 2) refl (omega arith) (omega arith) in
    let low = word xs (i + 2) (i + 3) j (omega arith) (omega arith) (omega arith) in
    let o0 = get_or xs i 0 in
    let o1 = get_or xs (i + 1) 0 in
    let o2 = get_or xs (i + 2) 0 in
    let o3 = get_or xs (i + 3) 0 in
    let rest = sum + 256 * o0 + word_sum (drop j xs) in
    let words : rest + o1 + 256 * o2 + o3 ≡ sum + word_sum (drop i xs) = omega (arith, high, low) in
    folded_shift _ rest (o1 + 256 * o2 + 65536 * o3) (omega arith)
    ∙ folded_shift (rest + (o1 + 256 * o2 + 65536 * o3)) (rest + o1 + 256 * o2) o3 (omega arith)
    ∙ ap folded_sum words

-- a part above 40 bits folds 32 bits lower
shift_by_32 : (sum high : ℕ) → folded_sum (sum + 1099511627776 * high) ≡ folded_sum (sum + 256 * high)
shift_by_32 sum high =
    folded_shift _ sum (16777216 * high) (omega arith)
    ∙ folded_shift (sum + 16777216 * high) sum (256 * high) (omega arith)

-- eight octets as one little-endian number, times 256, fold as their four words
pub octets_fold : (sum : ℕ) (xs : List ℕ) (i j : ℕ) →
    j ≡ i + 8 → j ≤ length xs → folded_sum (sum + 256 * u64_le_at xs i + word_sum (drop j xs)) ≡ folded_sum (sum + word_sum (drop i xs))
octets_fold sum xs i j e h =
    let low = u32_le_at xs i in
    let high = u32_le_at xs (i + 4) in
    let rest = sum + 256 * low + word_sum (drop j xs) in
    let parts : sum + 256 * u64_le_at xs i + word_sum (drop j xs) ≡ rest + 1099511627776 * high = omega arith in
    let turned : rest + 256 * high ≡ sum + 256 * low + 256 * high + word_sum (drop j xs) = omega arith in
    ap folded_sum parts ∙ shift_by_32 rest high ∙ ap folded_sum turned
    ∙ chunk_folds (sum + 256 * low) xs (i + 4) j (omega (arith, e)) h
    ∙ chunk_folds sum xs i (i + 4) refl (omega (arith, e, h))

-- the sum of the four numbers in 32 octets
abbrev pub block_sum : List ℕ → ℕ → ℕ
block_sum octets at = u64_le_at octets at + u64_le_at octets (at + 8) + u64_le_at octets (at + 16) + u64_le_at octets (at + 24)

-- times 256, it folds as their words
pub block_folds : (sum : ℕ) (xs : List ℕ) (i j : ℕ) →
    j ≡ i + 32 → j ≤ length xs → folded_sum (sum + 256 * block_sum xs i + word_sum (drop j xs)) ≡ folded_sum (sum + word_sum (drop i xs))
block_folds sum xs i j e h =
    let a = u64_le_at xs i in
    let b = u64_le_at xs (i + 8) in
    let c = u64_le_at xs (i + 16) in
    let d = u64_le_at xs (i + 24) in
    let parts : sum + 256 * block_sum xs i + word_sum (drop j xs) ≡ sum + 256 * a + 256 * b + 256 * c + 256 * d + word_sum (drop j xs) =
    omega arith in
    ap folded_sum parts
    ∙ octets_fold (sum + 256 * a + 256 * b + 256 * c) xs (i + 24) j (omega (arith, e)) h
    ∙ octets_fold (sum + 256 * a + 256 * b) xs (i + 16) (i + 24) (omega arith) (omega (arith, e, h))
    ∙ octets_fold (sum + 256 * a) xs (i + 8) (i + 16) (omega arith) (omega (arith, e, h))
    ∙ octets_fold sum xs i (i + 8) refl (omega (arith, e, h))

-- the parts of a number, times 256, fold as the number does
pub parts_fold : (sum number rest : ℕ) →
    folded_sum (sum + 256 * (number % 2 ^ 32 + number / 2 ^ 32) + rest) ≡ folded_sum (sum + 256 * number + rest)
parts_fold sum number rest =
    let others = sum + rest + 256 * (number % 2 ^ 32) in
    let upper = number / 2 ^ 32 in
    let here : sum + 256 * (number % 2 ^ 32 + upper) + rest ≡ others + 256 * upper = omega arith in
    let there : others + 1099511627776 * upper ≡ sum + 256 * number + rest = omega arith in
    ap folded_sum here ∙ sym (shift_by_32 others upper) ∙ ap folded_sum there

-- what a sum has above 64 bits, times 256, folds at its low end
pub carry_folds : (sum total number rest : ℕ) →
    folded_sum (sum + 256 * (total % 2 ^ 64 + number + total / 2 ^ 64) + rest) ≡ folded_sum (sum + 256 * (total + number) + rest)
carry_folds sum total number rest =
    let high = total / 2 ^ 64 in
    let others = sum + rest + 256 * (total % 2 ^ 64) + 256 * number in
    let here : sum + 256 * (total % 2 ^ 64 + number + high) + rest ≡ others + 256 * high = omega arith in
    let middle : others + 1099511627776 * high ≡ others + 256 * (4294967296 * high) = omega arith in
    let there : others + 1099511627776 * (4294967296 * high) ≡ sum + 256 * (total + number) + rest = omega arith in
    ap folded_sum here ∙ sym (shift_by_32 others high) ∙ ap folded_sum middle ∙ sym (shift_by_32 others (4294967296 * high))
    ∙ ap folded_sum there

pub carried_folds : (sum total rest : ℕ) →
    folded_sum (sum + 256 * (total % 2 ^ 64 + total / 2 ^ 64) + rest) ≡ folded_sum (sum + 256 * total + rest)
carried_folds sum total rest =
    let here : sum + 256 * (total % 2 ^ 64 + total / 2 ^ 64) + rest ≡ sum + 256 * (total % 2 ^ 64 + 0 + total / 2 ^ 64) + rest = omega arith in
    let there : sum + 256 * (total + 0) + rest ≡ sum + 256 * total + rest = omega arith in
    ap folded_sum here ∙ carry_folds sum total 0 rest ∙ ap folded_sum there

pub word_sum-none : (xs : List ℕ) → length xs ≡ 0 → word_sum xs ≡ 0
unfolding word_sum
word_sum-none [] e = refl
word_sum-none (a ∷ xs) e = absurd (omega arith)

pub word_sum-one : (xs : List ℕ) → length xs ≡ 1 → word_sum xs ≡ get_or xs 0 0 * 256
unfolding word_sum
word_sum-one [] e = absurd (omega arith)
word_sum-one (a ∷ []) e = refl
word_sum-one (a ∷ b ∷ xs) e = absurd (omega arith)

pub word_sum-two : (xs : List ℕ) → length xs ≡ 2 → word_sum xs ≡ get_or xs 0 0 * 256 + get_or xs 1 0
unfolding word_sum
word_sum-two [] e = absurd (omega arith)
word_sum-two (a ∷ []) e = absurd (omega arith)
word_sum-two (a ∷ b ∷ []) e = omega arith
word_sum-two (a ∷ b ∷ c ∷ xs) e = absurd (omega arith)

pub word_sum-three : (xs : List ℕ) → length xs ≡ 3 → word_sum xs ≡ get_or xs 0 0 * 256 + get_or xs 1 0 + get_or xs 2 0 * 256
unfolding word_sum
word_sum-three [] e = absurd (omega arith)
word_sum-three (a ∷ []) e = absurd (omega arith)
word_sum-three (a ∷ b ∷ []) e = absurd (omega arith)
word_sum-three (a ∷ b ∷ c ∷ []) e = refl
word_sum-three (a ∷ b ∷ c ∷ d ∷ xs) e = absurd (omega arith)

pub ruleset tails = (word_sum-none, word_sum-one, word_sum-two, word_sum-three)

pub word_sum-append : (xs ys : List ℕ) (k : ℕ) → length xs ≡ 2 * k → word_sum (xs ++ ys) ≡ word_sum xs + word_sum ys
unfolding word_sum
word_sum-append [] ys k e = omega arith
word_sum-append (a ∷ []) ys k e = absurd (omega arith)
word_sum-append (a ∷ b ∷ xs) ys zero e = absurd (omega arith)
word_sum-append (a ∷ b ∷ xs) ys (suc k) e = omega (arith, word_sum-append xs ys k (omega arith))

-- a folded part folds as the part does
pub folded_again : (n m : ℕ) → folded_sum (folded_sum n + m) ≡ folded_sum (n + m)
folded_again zero m = refl
folded_again (suc n) m =
    let here : folded_sum (suc n) + m ≡ suc (n % 65535 + m) = omega arith in
    let there : suc n + m ≡ suc (n + m) = omega arith in
    ap folded_sum here ∙ sym (folded_sum-more (n % 65535 + m) (n + m) (n / 65535) (omega arith)) ∙ ap folded_sum (sym there)

-- what folds alike does so in whichever sum it is
pub folds_in : (a b : ℕ) → folded_sum a ≡ folded_sum b → (sum : ℕ) → folded_sum (sum + a) ≡ folded_sum (sum + b)
folds_in a b e sum =
    let first : sum + a ≡ a + sum = omega arith in
    let second : b + sum ≡ sum + b = omega arith in
    ap folded_sum first ∙ sym (folded_again a sum) ∙ ap (λ (t : ℕ). folded_sum (t + sum)) e ∙ folded_again b sum ∙ ap folded_sum second

-- a sum with its checksum folds to all ones
pub summed_up : (n c : ℕ) → c ≡ 65535 - folded_sum n → folded_sum (n + c) ≡ 65535
summed_up zero c e = rw e refl
summed_up (suc n) c e =
    let here : suc n + c ≡ suc (65534 + 65535 * (n / 65535)) = omega (arith, e) in
    ap folded_sum here ∙ folded_sum-more 65534 (65534 + 65535 * (n / 65535)) (n / 65535) refl

-- octets with their checksum between them sum up to all ones
pub checksum-sums_up : (xs ys : List ℕ) →
    length xs % 2 ≡ 0 → folded_sum (word_sum (xs ++ to_be_bytes w16 (checksum_of (xs ++ 0 ∷ 0 ∷ ys)) ++ ys)) ≡ 65535
unfolding word_sum
checksum-sums_up xs ys even =
    let c = checksum_of (xs ++ 0 ∷ 0 ∷ ys) in
    let s = word_sum xs + word_sum ys in
    let e : word_sum (xs ++ 0 ∷ 0 ∷ ys) ≡ s = omega (arith, word_sum-append xs (0 ∷ 0 ∷ ys) (length xs / 2) (omega arith)) in
    let c-is : c ≡ 65535 - folded_sum s = ap (λ (t : ℕ). 65535 - folded_sum t) e in
    let small : c / 256 % 256 * 256 + c % 256 ≡ c = omega (arith, c-is) in
    let grouped : xs ++ to_be_bytes w16 c ++ ys ≡ xs ++ (to_be_bytes w16 c ++ ys) = append_assoc xs (to_be_bytes w16 c) ys in
    let f : word_sum (xs ++ to_be_bytes w16 c ++ ys) ≡ s + c = ap word_sum grouped
    ∙ omega (arith, small, word_sum-append xs (to_be_bytes w16 c ++ ys) (length xs / 2) (omega arith)) in
    ap folded_sum f ∙ summed_up s c c-is

-- folding adds the carries to the lower 16 bits
folded_small : (n : ℕ) → n < 2 ^ 16 → folded_sum n ≡ n
folded_small zero h = refl
folded_small (suc n) h = omega arith

folded_carries : (n : ℕ) → folded_sum n ≡ folded_sum (n / 2 ^ 16 + n % 2 ^ 16)
folded_carries n =
    let swapped : n % 2 ^ 16 + n / 2 ^ 16 ≡ n / 2 ^ 16 + n % 2 ^ 16 = omega arith in
    folded_shift n (n % 2 ^ 16) (n / 2 ^ 16) (omega arith) ∙ ap folded_sum swapped

pub folds_carries : FoldsCarries
folds_carries n = (folded_small n, folded_carries n)
