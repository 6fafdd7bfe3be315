-- Packets whose octets stand one after the other.
use Rattle.std.proofs.Common.{◌≡◌, ℕ, ◌+◌, ◌<◌, ◌≤◌, List, [], ◌∷◌, ◌++◌, length, get_or, map, take, drop, zero}
use Rattle.std.proofs.Common.{Option, Some, None, refl, sym, ap, ◌∙◌, arith, add_assoc, suc, length-append}
use Rattle.std.specs.Prelude.{slice_get}
use Rattle.std.specs.Option.{option_and_then, option_map}
use Rattle.std.proofs.lemmas.List.{take-append-le, drop-append-le, drop-drop, take_at, drop_at, take-append-drop, length-drop, length-take-le}
use Rattle.std.proofs.Math.Seq.{take-length}
use Rattle.sockets.specs.declared.queue.Entry.{Entry}
use Rattle.sockets.specs.Queue.{brought_forward, brought_from, cut, total, octets_forward, octets_in, first_of}

module _ {M : Type 0} where
  pub length_cut : (es : List (Entry M)) (bs : List ℕ) → length (cut es bs) ≡ length es
  length_cut [] bs = refl
  length_cut (e ∷ es) bs = ap (λ (n : ℕ). suc n) (length_cut es (drop e.len bs))

  pub total_append : (es : List (Entry M)) (e : Entry M) → total (es ++ e ∷ []) ≡ total es + e.len
  total_append [] e = omega arith
  total_append (f ∷ es) e = ap (λ (n : ℕ). f.len + n) (total_append es e) ∙ sym (add_assoc f.len (total es) e.len)

  -- what is left for the entries behind the first
  rest_is : (e : Entry M) (es : List (Entry M)) (bs : List ℕ) → e.len + total es ≡ length bs → total es ≡ length (drop e.len bs)
  rest_is e es bs h = let l = length-drop e.len bs in omega (arith, h, l)

  pub octets_in_cut : (es : List (Entry M)) (bs : List ℕ) → total es ≡ length bs → octets_in (cut es bs) ≡ length bs
  octets_in_cut [] bs h = h
  octets_in_cut (e ∷ es) bs h =
      let l = length-take-le e.len bs (omega (arith, h)) in
      let r = octets_in_cut es (drop e.len bs) (rest_is e es bs h) in
      let d = length-drop e.len bs in
      omega (arith, h, l, r, d)

  pub cut_append : (es : List (Entry M)) (bs xs : List ℕ) (e : Entry M) →
      total es ≡ length bs → e.len ≡ length xs → cut (es ++ e ∷ []) (bs ++ xs) ≡ cut es bs ++ (e.meta, xs) ∷ []
  cut_append [] [] xs e h is = ap (λ (n : ℕ). (e.meta, take n xs) ∷ []) is ∙ ap (λ (ys : List ℕ). (e.meta, ys) ∷ []) (take-length xs)
  cut_append [] (b ∷ bs) xs e h is = absurd (omega (arith, h))
  cut_append (f ∷ es) bs xs e h is =
      ap (λ (ys : List ℕ). (f.meta, ys) ∷ cut (es ++ e ∷ []) (drop f.len (bs ++ xs))) (take-append-le f.len bs xs (omega (arith, h)))
      ∙ ap (λ (ys : List ℕ). (f.meta, take f.len bs) ∷ cut (es ++ e ∷ []) ys) (drop-append-le f.len bs xs (omega (arith, h)))
      ∙ ap (λ (ps : List (M × List ℕ)). (f.meta, take f.len bs) ∷ ps) (cut_append es (drop f.len bs) xs e (rest_is f es bs h) is)

  pub cut_append_parts : (es : List (Entry M)) (bs xs ys : List ℕ) (e : Entry M) →
      total es ≡ length bs → e.len ≡ length xs + length ys → cut (es ++ e ∷ []) (bs ++ (xs ++ ys)) ≡ cut es bs ++ (e.meta, xs ++ ys) ∷ []
  cut_append_parts es bs xs ys e h is = cut_append es bs (xs ++ ys) e h (is ∙ sym (length-append xs ys))

  pub first_cut : (es : List (Entry M)) (bs : List ℕ) (e : Entry M) →
      0 < length es → e ≡ get_or es 0 e → first_of (cut es bs) ≡ Some (e.meta, take e.len bs)
  first_cut [] bs e h is = absurd (omega (arith, h))
  first_cut (f ∷ es) bs e h is = ap (λ (t : Entry M). Some (t.meta, take t.len bs)) (sym is)

  -- the first packets, and those behind them
  pub take_cut : (i : ℕ) (es : List (Entry M)) (bs : List ℕ) → take i (cut es bs) ≡ cut (take i es) bs
  take_cut zero es bs = refl
  take_cut (suc i) [] bs = refl
  take_cut (suc i) (e ∷ es) bs = ap (λ (ps : List (M × List ℕ)). (e.meta, take e.len bs) ∷ ps) (take_cut i es (drop e.len bs))

  pub drop_cut : (i : ℕ) (es : List (Entry M)) (bs : List ℕ) → drop i (cut es bs) ≡ cut (drop i es) (drop (total (take i es)) bs)
  drop_cut zero es bs = refl
  drop_cut (suc i) [] bs = refl
  drop_cut (suc i) (e ∷ es) bs =
      drop_cut i es (drop e.len bs) ∙ ap (λ (ys : List ℕ). cut (drop i es) ys) (drop-drop (total (take i es)) e.len bs)

  -- the entries one after the other
  pub cut_both : (es fs : List (Entry M)) (bs : List ℕ) → cut (es ++ fs) bs ≡ cut es bs ++ cut fs (drop (total es) bs)
  cut_both [] fs bs = refl
  cut_both (e ∷ es) fs bs = ap (λ (ps : List (M × List ℕ)). (e.meta, take e.len bs) ∷ ps)
      (cut_both es fs (drop e.len bs)
      ∙ ap (λ (ys : List ℕ). cut es (drop e.len bs) ++ cut fs ys) (drop-drop (total es) e.len bs))

  pub total_both : (es fs : List (Entry M)) → total (es ++ fs) ≡ total es + total fs
  total_both [] fs = omega arith
  total_both (e ∷ es) fs = ap (λ (n : ℕ). e.len + n) (total_both es fs) ∙ sym (add_assoc e.len (total es) (total fs))

  -- octets behind those of the entries don't matter
  pub cut_over : (es : List (Entry M)) (bs cs : List ℕ) → total es ≤ length bs → cut es (bs ++ cs) ≡ cut es bs
  cut_over [] bs cs h = refl
  cut_over (e ∷ es) bs cs h =
      let l = length-drop e.len bs in
      ap (λ (ys : List ℕ). (e.meta, ys) ∷ cut es (drop e.len (bs ++ cs))) (take-append-le e.len bs cs (omega (arith, h)))
      ∙ (ap (λ (ys : List ℕ). (e.meta, take e.len bs) ∷ cut es ys) (drop-append-le e.len bs cs (omega (arith, h)))
      ∙ ap (λ (ps : List (M × List ℕ)). (e.meta, take e.len bs) ∷ ps) (cut_over es (drop e.len bs) cs (omega (arith, h, l))))

  -- the total before an entry, with it, and behind it
  pub total_parts : (i : ℕ) (es : List (Entry M)) (e : Entry M) → i < length es → e ≡ get_or es i e →
      (total (take (suc i) es) ≡ total (take i es) + e.len) × (total es ≡ total (take i es) + (e.len + total (drop (suc i) es)))
  total_parts i [] e h is = absurd (omega (arith, h))
  total_parts zero (f ∷ es) e h is = let same = ap (λ (t : Entry M). t.len) is in (omega (arith, same), omega (arith, same))
  total_parts (suc i) (f ∷ es) e h is = let rest = total_parts i es e (omega (arith, h)) is in (omega (arith, rest.0), omega (arith, rest.1))

  -- the packet at an index
  pub nth_cut : (i : ℕ) (es : List (Entry M)) (bs : List ℕ) (e : Entry M) → i < length es → e ≡ get_or es i e →
      slice_get (cut es bs) i ≡ Some (e.meta, take e.len (drop (total (take i es)) bs))
  nth_cut i [] bs e h is = absurd (omega (arith, h))
  nth_cut zero (f ∷ es) bs e h is = ap (λ (t : Entry M). Some (t.meta, take t.len bs)) (sym is)
  nth_cut (suc i) (f ∷ es) bs e h is = nth_cut i es (drop f.len bs) e (omega (arith, h)) is
      ∙ ap (λ (ys : List ℕ). Some (e.meta, take e.len ys)) (drop-drop (total (take i es)) f.len bs)

  pub none_cut : (i : ℕ) (es : List (Entry M)) (bs : List ℕ) → length es ≤ i → slice_get (cut es bs) i ≡ None
  none_cut i [] bs h = refl
  none_cut zero (f ∷ es) bs h = absurd (omega (arith, h))
  none_cut (suc i) (f ∷ es) bs h = none_cut i es (drop f.len bs) (omega (arith, h))

  -- how many octets the first packets have
  pub octets_before : (i : ℕ) (es : List (Entry M)) (bs : List ℕ) → total es ≡ length bs →
      octets_in (take i (cut es bs)) ≡ total (take i es)
  octets_before zero es bs h = refl
  octets_before (suc i) [] bs h = refl
  octets_before (suc i) (e ∷ es) bs h =
      let l = length-take-le e.len bs (omega (arith, h)) in
      let r = octets_before i es (drop e.len bs) (rest_is e es bs h) in
      omega (arith, l, r)

  -- they are at most all
  pub total_most : (i : ℕ) (es : List (Entry M)) → total (take i es) ≤ total es
  total_most zero es = omega arith
  total_most (suc i) [] = omega arith
  total_most (suc i) (e ∷ es) = let r = total_most i es in omega (arith, r)

-- octets come forward, as many as there were
pub length_forward : (o n : ℕ) (bs : List ℕ) → o + n ≤ length bs → length (octets_forward o n bs) ≡ length bs
length_forward o n bs h =
    let d = length-drop o bs in
    let a = length-take-le n (drop o bs) (omega (arith, d, h)) in
    let b = length-take-le o bs (omega (arith, h)) in
    let c = length-drop (o + n) bs in
    let s = length-append (take n (drop o bs)) (take o bs ++ drop (o + n) bs) in
    let t = length-append (take o bs) (drop (o + n) bs) in
    omega (arith, a, b, c, s, t, h)

one_more : (i : ℕ) → i + 1 ≡ suc i
one_more i = omega arith

module _ {M : Type 0} where
  -- an entry comes forward with its octets
  pub cut_forward : (i : ℕ) (es : List (Entry M)) (bs : List ℕ) (e : Entry M) → i < length es → e ≡ get_or es i e → total es ≡ length bs →
      cut (e ∷ (take i es ++ drop (suc i) es)) (octets_forward (total (take i es)) e.len bs) ≡ brought_forward i (cut es bs)
  cut_forward i es bs e h is whole =
      ap (λ (ys : List ℕ). (e.meta, ys) ∷ cut others (drop n moved)) first_is
      ∙ (ap (λ (ys : List ℕ). first ∷ cut others ys) rest_are
      ∙ (ap (λ (ps : List (M × List ℕ)). first ∷ ps) others_are ∙ sym brought)) where
        o : ℕ
        o = total (take i es)

        n : ℕ
        n = e.len

        others : List (Entry M)
        others = take i es ++ drop (suc i) es

        moved : List ℕ
        moved = octets_forward o n bs

        rest : List ℕ
        rest = take o bs ++ drop (o + n) bs

        first : M × List ℕ
        first = (e.meta, take n (drop o bs))

        parts : (total (take (suc i) es) ≡ o + n) × (total es ≡ o + (n + total (drop (suc i) es)))
        parts = total_parts i es e h is

        within : o + n ≤ length bs
        within = omega (arith, parts.1, whole)

        first_long : length (take n (drop o bs)) ≡ n
        first_long = let d = length-drop o bs in length-take-le n (drop o bs) (omega (arith, d, within))

        before_long : length (take o bs) ≡ o
        before_long = length-take-le o bs (omega (arith, within))

        first_is : take n moved ≡ take n (drop o bs)
        first_is = take_at (take n (drop o bs)) rest n first_long

        rest_are : drop n moved ≡ rest
        rest_are = drop_at (take n (drop o bs)) rest n first_long

        before_are : cut (take i es) rest ≡ take i (cut es bs)
        before_are =
            cut_over (take i es) (take o bs) (drop (o + n) bs) (omega (arith, before_long))
            ∙ (sym (cut_over (take i es) (take o bs) (drop o bs) (omega (arith, before_long)))
            ∙ (ap (λ (ys : List ℕ). cut (take i es) ys) (take-append-drop o bs) ∙ sym (take_cut i es bs)))

        behind_are : cut (drop (suc i) es) (drop o rest) ≡ drop (suc i) (cut es bs)
        behind_are =
            ap (λ (ys : List ℕ). cut (drop (suc i) es) ys) (drop_at (take o bs) (drop (o + n) bs) o before_long)
            ∙ (ap (λ (m : ℕ). cut (drop (suc i) es) (drop m bs)) (sym parts.0) ∙ sym (drop_cut (suc i) es bs))

        others_are : cut others rest ≡ take i (cut es bs) ++ drop (suc i) (cut es bs)
        others_are =
            cut_both (take i es) (drop (suc i) es) rest
            ∙ (ap (λ (ps : List (M × List ℕ)). ps ++ cut (drop (suc i) es) (drop (total (take i es)) rest)) before_are
            ∙ ap (λ (ps : List (M × List ℕ)). take i (cut es bs) ++ ps) behind_are)

        brought : brought_forward i (cut es bs) ≡ first ∷ (take i (cut es bs) ++ drop (suc i) (cut es bs))
        brought = ap (λ (p : Option (M × List ℕ)). brought_from i p (cut es bs)) (nth_cut i es bs e h is)
            ∙ ap (λ (m : ℕ). first ∷ (take i (cut es bs) ++ drop m (cut es bs))) (one_more i)

  pub total_forward : (i : ℕ) (es : List (Entry M)) (e : Entry M) → i < length es → e ≡ get_or es i e →
      total (e ∷ (take i es ++ drop (suc i) es)) ≡ total es
  total_forward i es e h is =
      let both = total_both (take i es) (drop (suc i) es) in
      let parts = total_parts i es e h is in
      omega (arith, both, parts.1)

  pub stays_cut : (i : ℕ) (es : List (Entry M)) (bs : List ℕ) → length es ≤ i → brought_forward i (cut es bs) ≡ cut es bs
  stays_cut i es bs h = ap (λ (p : Option (M × List ℕ)). brought_from i p (cut es bs)) (none_cut i es bs h)

-- what is told of each packet, by the index
pub told_at : {A B : Type 0} (f : A → Option B) (xs : List A) (i : ℕ) → get_or (map f xs) i None ≡ option_and_then f (slice_get xs i)
told_at f [] i = refl
told_at f (x ∷ xs) zero = refl
told_at f (x ∷ xs) (suc i) = told_at f xs i

pub told_by_meta : {M B : Type 0} (f : M → Option B) (xs : List (M × List ℕ)) (i : ℕ) →
    get_or (map (λ p. f p.0) xs) i None ≡ option_and_then f (option_map (λ p. p.0) (slice_get xs i))
told_by_meta f [] i = refl
told_by_meta f (x ∷ xs) zero = refl
told_by_meta f (x ∷ xs) (suc i) = told_by_meta f xs i
