-- Octets that stand from one place to another.
use Rattle.std.proofs.Common.{◌≡◌, ℕ, ◌+◌, ◌-◌, ◌≤◌, List, [], ◌∷◌, ◌++◌, length, take, drop, suc, refl, sym, ap, ◌∙◌, arith}
use Rattle.std.proofs.lemmas.List.{take-take, append_assoc, append-nil, drop-append-le, drop-drop, drop-take, drop_all, length-append, length-drop, length-take-le}
use Rattle.std.proofs.lemmas.List.Edits.{take-paste}
use Rattle.std.proofs.lemmas.Slice.{between_is}
use Rattle.std.specs.List.{copy_within}
use Rattle.sockets.specs.Queue.{octets_forward}

-- what is written behind them stands behind them
pub appended : (xs ys os : List ℕ) (s e n : ℕ) → s ≤ e → e ≤ length xs → take n ys ≡ take e xs ++ os → drop s (take n ys) ≡ drop s (take e xs) ++ os
appended xs ys os s e n order bound is =
    let whole = length-take-le e xs bound in
    ap (drop s) is ∙ drop-append-le s (take e xs) os (omega (arith, order, whole))

pub first_of_part : (xs : List ℕ) (s e n : ℕ) → s + n ≤ e → take n (drop s (take e xs)) ≡ take n (drop s xs)
first_of_part xs s e n h = ap (take n) (sym (between_is xs s e)) ∙ take-take n (e - s) (drop s xs) (omega (arith, h))

pub moved_to_front : (xs : List ℕ) (s e : ℕ) → s ≤ e → e ≤ length xs → take (e - s) (copy_within xs s e 0) ≡ drop s (take e xs)
moved_to_front xs s e order bound =
    let rest = length-drop s xs in
    let same : e - s ≡ 0 + (e - s) = omega arith in
    ap (λ (n : ℕ). take n (copy_within xs s e 0)) same
    ∙ take-paste xs 0 (drop s xs) (e - s) (omega arith) (omega (arith, order, bound, rest)) ∙ between_is xs s e

-- how many they are
pub held_long : (xs : List ℕ) (s e : ℕ) → e ≤ length xs → length (drop s (take e xs)) ≡ e - s
held_long xs s e bound = let a = length-drop s (take e xs) in let b = length-take-le e xs bound in omega (arith, a, b)

-- a part of them
pub part_of : (xs : List ℕ) (s e o n : ℕ) → s + (o + n) ≤ e → take n (drop o (drop s (take e xs))) ≡ take n (drop (s + o) xs)
part_of xs s e o n h =
    ap (take n) (drop-drop o s (take e xs)) ∙ first_of_part xs (s + o) e n (omega (arith, h))

-- the first ones, and those behind them
over : (xs ys : List ℕ) (n : ℕ) → take (length xs + n) (xs ++ ys) ≡ xs ++ take n ys
over [] ys n = let same : 0 + n ≡ n = omega arith in ap (λ (m : ℕ). take m ys) same
over (x ∷ xs) ys n = let same : length (x ∷ xs) + n ≡ suc (length xs + n) = omega arith in
    ap (λ (m : ℕ). take m (x ∷ (xs ++ ys))) same ∙ ap (λ (zs : List ℕ). x ∷ zs) (over xs ys n)

behind : (xs ys : List ℕ) → drop (length xs) (xs ++ ys) ≡ ys
behind [] ys = refl
behind (x ∷ xs) ys = behind xs ys

-- octets come forward within a part of so many
pub forward_parts : (o n : ℕ) (zs : List ℕ) → o + n ≤ length zs →
    octets_forward o n (take (o + n) zs) ≡ take n (drop o zs) ++ take o zs
forward_parts o n zs within = ap (λ (ys : List ℕ). take n ys ++ (take o part ++ drop (o + n) part)) (drop-take o n zs)
    ∙ (ap (λ (ys : List ℕ). ys ++ (take o part ++ drop (o + n) part)) (take-take n n (drop o zs) (omega arith))
    ∙ (ap (λ (ys : List ℕ). take n (drop o zs) ++ (ys ++ drop (o + n) part)) (take-take o (o + n) zs (omega arith))
    ∙ (ap (λ (ys : List ℕ). take n (drop o zs) ++ (take o zs ++ ys)) (drop_all (o + n) part (omega (arith, whole)))
    ∙ ap (λ (ys : List ℕ). take n (drop o zs) ++ ys) (append-nil (take o zs))))) where
      part : List ℕ
      part = take (o + n) zs

      whole : length part ≡ o + n
      whole = length-take-le (o + n) zs within

pub forward_within : (xs ys : List ℕ) (s e o n : ℕ) → s + (o + n) ≤ e → e ≤ length xs →
    ys ≡ take s xs ++ (octets_forward (o + n - n) n (take (o + n) (drop s xs)) ++ drop (s + (o + n)) xs) →
    drop s (take e ys) ≡ octets_forward o n (drop s (take e xs))
forward_within xs ys s e o n within bound is = ap (λ (l : List ℕ). drop s (take e l)) is ∙ (taken ∙ (left ∙ sym whole)) where
  zs : List ℕ
  zs = drop s (take e xs)

  rest : List ℕ
  rest = drop (s + (o + n)) xs

  moved : List ℕ
  moved = octets_forward (o + n - n) n (take (o + n) (drop s xs))

  zs_long : length zs ≡ e - s
  zs_long = let a = length-drop s (take e xs) in let b = length-take-le e xs bound in omega (arith, a, b)

  moved_is : moved ≡ take n (drop o zs) ++ take o zs
  moved_is = let same : o + n - n ≡ o = omega arith in
      ap (λ (m : ℕ). octets_forward m n (take (o + n) (drop s xs))) same
      ∙ (ap (octets_forward o n) (sym (first_of_part xs s e (o + n) within)) ∙ forward_parts o n zs (omega (arith, zs_long, within)))

  moved_long : length moved ≡ o + n
  moved_long =
      ap length moved_is ∙ (length-append (take n (drop o zs)) (take o zs) ∙ parts) where
        parts : length (take n (drop o zs)) + length (take o zs) ≡ o + n
        parts =
            let d = length-drop o zs in
            let a = length-take-le n (drop o zs) (omega (arith, d, zs_long, within)) in
            let b = length-take-le o zs (omega (arith, zs_long, within)) in omega (arith, a, b)

  start_long : length (take s xs) ≡ s
  start_long = length-take-le s xs (omega (arith, within, bound))

  taken : drop s (take e (take s xs ++ (moved ++ rest))) ≡ take (e - s) (moved ++ rest)
  taken =
      let same : e ≡ length (take s xs) + (e - s) = omega (arith, start_long, within) in
      ap (λ (m : ℕ). drop s (take m (take s xs ++ (moved ++ rest)))) same
      ∙ (ap (drop s) (over (take s xs) (moved ++ rest) (e - s))
      ∙ (ap (λ (m : ℕ). drop m (take s xs ++ take (e - s) (moved ++ rest))) (sym start_long) ∙ behind (take s xs) (take (e - s) (moved ++ rest))))

  tail : List ℕ
  tail = take (e - s - (o + n)) rest

  left : take (e - s) (moved ++ rest) ≡ (take n (drop o zs) ++ take o zs) ++ tail
  left =
      let same : e - s ≡ length moved + (e - s - (o + n)) = omega (arith, moved_long, within) in
      ap (λ (m : ℕ). take m (moved ++ rest)) same
      ∙ (over moved rest (e - s - (o + n)) ∙ ap (λ (l : List ℕ). l ++ tail) moved_is)

  tail_is : drop (o + n) zs ≡ tail
  tail_is = drop-drop (o + n) s (take e xs) ∙ (sym (between_is xs (s + (o + n)) e)
      ∙ ap (λ (m : ℕ). take m rest) same) where
        same : e - (s + (o + n)) ≡ e - s - (o + n)
        same = omega arith

  whole : octets_forward o n zs ≡ (take n (drop o zs) ++ take o zs) ++ tail
  whole =
      ap (λ (l : List ℕ). take n (drop o zs) ++ (take o zs ++ l)) tail_is
      ∙ sym (append_assoc (take n (drop o zs)) (take o zs) tail)
