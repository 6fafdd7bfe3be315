-- How long options are.
use Rattle.std.proofs.Common.{◌≡◌, ℕ, zero, suc, ◌+◌, ◌*◌, ◌%◌, ◌≤◌, ◌<◌, min, Bool, true, false, Option, Some, None, is_some, List, [], ◌∷◌, ◌++◌}
use Rattle.std.proofs.Common.{length, take, cond, refl, ap, ◌∙◌, length-append, arith}
use Rattle.std.specs.Prelude.{count_by}
use Rattle.std.specs.List.{flat_map}
use Rattle.std.proofs.lemmas.List.{length-take}
use Rattle.std.proofs.lemmas.List.Sums.{sum_by-cons}
use Rattle.tcp_wire.specs.declared.options.SackRange.{SackRange}
use Rattle.tcp_wire.specs.declared.options.TcpTimestamp.{TcpTimestamp}
use Rattle.tcp_wire.specs.declared.options.TcpOptions.{TcpOptions}
use Rattle.tcp_wire.specs.Options.{size_text, timestamp_text, scale_text, front_text, room_after, ranges_of, range_text, sack_text}
use Rattle.tcp_wire.specs.Options.{sent_ranges, options_text}

abbrev some_one : Option SackRange → ℕ
some_one place = cond (is_some place) 1 0

pub length-ranges_of : (places : List (Option SackRange)) → length (ranges_of places) ≡ count_by is_some places
length-ranges_of [] = refl
length-ranges_of (None ∷ places) =
    let step : count_by is_some (None ∷ places) ≡ 0 + count_by is_some places = sum_by-cons some_one None places in
    omega (arith, length-ranges_of places, step)
length-ranges_of (Some r ∷ places) =
    let step : count_by is_some (Some r ∷ places) ≡ 1 + count_by is_some places = sum_by-cons some_one (Some r) places in
    omega (arith, length-ranges_of places, step)

-- of the ranges at most so many
pub length-sent : (most : ℕ) (places : List (Option SackRange)) → length (take most (ranges_of places)) ≡ min most (count_by is_some places)
length-sent most places = length-take most (ranges_of places) ∙ ap (λ (n : ℕ). min most n) (length-ranges_of places)

pub ruleset counts = (length-sent)

length-range_text : (r : SackRange) → length (range_text r) ≡ 8
unfolding range_text
length-range_text r = refl

pub length-ranges_text : (rs : List SackRange) → length (flat_map range_text rs) ≡ 8 * length rs
length-ranges_text [] = refl
length-ranges_text (r ∷ rs) =
    let one = length-range_text r in
    omega (arith, length-append (range_text r) (flat_map range_text rs), one, length-ranges_text rs)

pub sack-none : (rs : List SackRange) → length rs ≡ 0 → sack_text rs ≡ []
unfolding sack_text
sack-none [] e = refl
sack-none (r ∷ rs) e = absurd (omega (arith, e))

pub sack-some : (rs : List SackRange) → 0 < length rs → sack_text rs ≡ 1 ∷ 1 ∷ 5 ∷ (2 + 8 * length rs) ∷ flat_map range_text rs
unfolding sack_text
sack-some [] some = absurd (omega (arith, some))
sack-some (r ∷ rs) some = refl

pub length-sack_text : (rs : List SackRange) → 0 < length rs → length (sack_text rs) ≡ 4 + 8 * length rs
length-sack_text rs some = ap length (sack-some rs some) ∙ omega (arith, length-ranges_text rs)

pub length-sack_none : (rs : List SackRange) → length rs ≡ 0 → length (sack_text rs) ≡ 0
length-sack_none rs none = ap length (sack-none rs none)

-- what was taken is taken again by its length
pub take-taken : {A : Type 0} (n : ℕ) (xs : List A) → take (length (take n xs)) xs ≡ take n xs
take-taken zero xs = refl
take-taken (suc n) [] = refl
take-taken (suc n) (x ∷ xs) = ap (λ ys. x ∷ ys) (take-taken n xs)

size_words : (size : Option ℕ) → (length (size_text size) ≤ 4) × (length (size_text size) % 4 ≡ 0)
unfolding size_text
size_words None = (omega arith, refl)
size_words (Some n) = (omega arith, refl)

scale_words : (scale : Option ℕ) → (length (scale_text scale) ≤ 4) × (length (scale_text scale) % 4 ≡ 0)
unfolding scale_text
scale_words None = (omega arith, refl)
scale_words (Some n) = (omega arith, refl)

timestamp_words : (permitted : Bool) (t : Option TcpTimestamp) →
    (length (timestamp_text permitted t) ≤ 12) × (length (timestamp_text permitted t) % 4 ≡ 0)
unfolding timestamp_text
timestamp_words true None = (omega arith, refl)
timestamp_words false None = (omega arith, refl)
timestamp_words true (Some t) = (omega arith, refl)
timestamp_words false (Some t) = (omega arith, refl)

pub front_words : (o : TcpOptions) → (length (front_text o) ≤ 20) × (length (front_text o) % 4 ≡ 0)
front_words o =
    let size = size_words o.max_seg_size in
    let timestamp = timestamp_words o.sack_permitted o.timestamp in
    let scale = scale_words o.window_scale in
    let one = length-append (size_text o.max_seg_size) (timestamp_text o.sack_permitted o.timestamp) in
    let two = length-append (size_text o.max_seg_size ++ timestamp_text o.sack_permitted o.timestamp) (scale_text o.window_scale) in
    (omega (arith, size.0, timestamp.0, scale.0, one, two), omega (arith, size.1, timestamp.1, scale.1, one, two))

sack_words : (front : ℕ) (rs : List SackRange) → front ≤ 20 → front % 4 ≡ 0 → length rs ≤ room_after front
    → (front + length (sack_text rs) ≤ 40) × ((front + length (sack_text rs)) % 4 ≡ 0)
sack_words front [] small words fit =
    let none = length-sack_none [] refl in
    (omega (arith, none, small), omega (arith, none, words))
sack_words front (r ∷ rs) small words fit =
    let some = length-sack_text (r ∷ rs) (omega arith) in
    (omega (arith, some, small, fit), omega (arith, some, words))

-- options are whole words, at most ten
pub options_words : (o : TcpOptions) → (length (options_text o) ≤ 40) × (length (options_text o) % 4 ≡ 0)
options_words o =
    let front = front_words o in
    let most : ℕ = room_after (length (front_text o)) in
    let few : length (sent_ranges o) ≤ most = omega (arith, length-take most (ranges_of o.sack_ranges)) in
    let all = sack_words (length (front_text o)) (sent_ranges o) front.0 front.1 few in
    let whole = length-append (front_text o) (sack_text (sent_ranges o)) in
    (omega (arith, whole, all.0), omega (arith, whole, all.1))
