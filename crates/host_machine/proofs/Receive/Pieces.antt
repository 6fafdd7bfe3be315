-- The pieces of a payload, and what is put together of them.
use Rattle.std.proofs.Common.{◌≡◌, ℕ, zero, suc, ◌+◌, ◌-◌, ◌*◌, ◌/◌, ◌%◌, ◌<◌, ◌≤◌, min, List, [], ◌∷◌, ◌++◌, length, get_or}
use Rattle.std.proofs.Common.{take, drop, refl, sym, ◌∙◌, ap, arith, length-take, length-drop, Option, Some, None, inl, inr}
use Rattle.std.specs.Prelude.{Bool, true, false, ◌⊎◌, ◌&&◌, ◌||◌, nat_le, nat_lt, if◌then◌else◌}
use Rattle.std.specs.List.{AllByRecursion, Contains}
use Rattle.std.proofs.lemmas.Bool.Decides.{nat_tests}
use Rattle.std.proofs.lemmas.List.{ext_get_or, get_or-take, get_or-drop}
use Rattle.std.proofs.lemmas.Nat.{div-add-mod', row_fits, mul-le, same_from_place}
use Rattle.fragmentation.specs.Fragments.{Fragment, Got, end_of, has_place, is_covered, octet_at, IsRebuilt, total_with}
use Rattle.fragmentation.specs.Cuts.{piece_at, count, pieces_from, cut}

-- membership by cases on the list
abbrev pub IsIn : {X : Type 0} → X → List X → Type 0
IsIn x [] = ⊥
IsIn x (y ∷ ys) = (x ≡ y) ⊎ IsIn x ys

pub is_in : {X : Type 0} (xs : List X) (x : X) → Contains xs x → IsIn x xs
is_in [] x (k, l, e) = absurd (omega arith)
is_in (y ∷ ys) x (zero, l, e) = inl (sym e)
is_in (y ∷ ys) x (suc k, l, e) = inr (is_in ys x (k, omega arith, e))

pub contains_in : {X : Type 0} (xs : List X) (x : X) → IsIn x xs → Contains xs x
contains_in [] x i = absurd i
contains_in (y ∷ ys) x (inl e) = (0, omega arith, sym e)
contains_in (y ∷ ys) x (inr i) = let r = contains_in ys x i in (suc r.0, omega (arith, r.1), r.2)

pub in_left : {X : Type 0} (xs ys : List X) (x : X) → IsIn x xs → IsIn x (xs ++ ys)
in_left [] ys x i = absurd i
in_left (y ∷ xs) ys x (inl e) = inl e
in_left (y ∷ xs) ys x (inr i) = inr (in_left xs ys x i)

pub in_right : {X : Type 0} (xs ys : List X) (x : X) → IsIn x ys → IsIn x (xs ++ ys)
in_right [] ys x i = i
in_right (y ∷ xs) ys x i = inr (in_right xs ys x i)

pub in_either : {X : Type 0} (xs ys : List X) (x : X) → IsIn x (xs ++ ys) → IsIn x xs ⊎ IsIn x ys
in_either [] ys x i = inr i
in_either (y ∷ xs) ys x (inl e) = inl (inl e)
in_either (y ∷ xs) ys x (inr i) = by (in_either xs ys x i) where
  by : IsIn x xs ⊎ IsIn x ys → IsIn x (y ∷ xs) ⊎ IsIn x ys
  by (inl j) = inl (inr j)
  by (inr j) = inr j

-- which pieces there are
pub length-pieces_from : (m : ℕ) (payload : List ℕ) (k n : ℕ) → length (pieces_from m payload k n) ≡ n
length-pieces_from m payload k zero = refl
length-pieces_from m payload k (suc n) = ap suc (length-pieces_from m payload (k + 1) n)

pieces_at : (m : ℕ) (payload : List ℕ) (k n j : ℕ) (d : Fragment) → j < n → get_or (pieces_from m payload k n) j d ≡ piece_at m payload (k + j)
pieces_at m payload k zero j d l = absurd (omega arith)
pieces_at m payload k (suc n) zero d l = let e : k ≡ k + 0 = omega arith in ap (λ i. piece_at m payload i) e
pieces_at m payload k (suc n) (suc j) d l =
    let e : k + 1 + j ≡ k + suc j = omega arith in
    pieces_at m payload (k + 1) n j d (omega arith) ∙ ap (λ i. piece_at m payload i) e

-- a piece of a cut, by its number
pub record IsPiece (m : ℕ) (payload : List ℕ) (f : Fragment) : Type 0 where
  pub number : ℕ
  pub below : number < count m (length payload)
  pub is : f ≡ piece_at m payload number

pub piece_in : (m : ℕ) (payload : List ℕ) (f : Fragment) → Contains (cut m payload) f → IsPiece m payload f
piece_in m payload f (k, l, e) =
    let below : k < count m (length payload) = omega (arith, length-pieces_from m payload 0 (count m (length payload))) in
    let z : 0 + k ≡ k = omega arith in
    record { number = k; below = below; is = sym e ∙ pieces_at m payload 0 (count m (length payload)) k f below ∙ ap (λ i. piece_at m payload i) z }

pub in_cut : (m : ℕ) (payload : List ℕ) (k : ℕ) → k < count m (length payload) → Contains (cut m payload) (piece_at m payload k)
in_cut m payload k l =
    let z : 0 + k ≡ k = omega arith in (
      k,
      omega (arith, length-pieces_from m payload 0 (count m (length payload))),
      pieces_at m payload 0 (count m (length payload)) k (piece_at m payload k) l ∙ ap (λ i. piece_at m payload i) z,
    )

-- how many pieces there are
count_above : (m n : ℕ) → 0 < m → n ≤ count m n * m
count_above m n pos =
    let e : (n + (m - 1)) / m * m + (n + (m - 1)) % m ≡ n + (m - 1) = div-add-mod' (n + (m - 1)) m in
    omega arith

pub count_below : (m n k : ℕ) → 0 < m → k < count m n → k * m < n
count_below m n k pos l =
    let e : (n + (m - 1)) / m * m + (n + (m - 1)) % m ≡ n + (m - 1) = div-add-mod' (n + (m - 1)) m in
    let f : k * m + m ≤ count m n * m = row_fits k m (count m n) m l (omega arith) in
    omega arith

-- the piece that has a place
pub record HasPiece (m : ℕ) (payload : List ℕ) (p : ℕ) : Type 0 where
  pub number : ℕ
  pub below : number < count m (length payload)
  pub from : number * m ≤ p
  pub to : p < number * m + m

pub piece_for : (m : ℕ) (payload : List ℕ) (p : ℕ) → 0 < m → p < length payload → HasPiece m payload p
piece_for m payload p pos l =
    let e : p / m * m + p % m ≡ p = div-add-mod' p m in
    let r : p % m < m = omega arith in
    let above = count_above m (length payload) pos in
    record { number = p / m; below = by (p / m) (count m (length payload)) e above; from = omega arith; to = omega arith } where
      by : (k q : ℕ) → k * m + p % m ≡ p → length payload ≤ q * m → k < q
      by k q e above = elim (nat_lt k q) as (λ b. nat_lt k q ≡ b → k < q) [
        | true ↦ λ t. grind (arith, nat_tests)
        | false ↦ λ t. let h : q ≤ k = grind (arith, nat_tests) in let g : q * m ≤ k * m = mul-le q m k m h (omega arith) in absurd (omega arith)
      ] refl

piece_len : (m : ℕ) (payload : List ℕ) (o : ℕ) → length (take m (drop o payload)) ≡ min m (length payload - o)
piece_len m payload o = length-take m (drop o payload) ∙ ap (λ n. min m n) (length-drop o payload)

pub piece_has : (m : ℕ) (payload : List ℕ) (p k : ℕ) → p < length payload → k * m ≤ p → p < k * m + m → has_place (piece_at m payload k) p ≡ true
piece_has m payload p k l from to =
    let len = piece_len m payload (k * m) in
    let below : p < k * m + length (take m (drop (k * m) payload)) = omega arith in
    by (k * m) (k * m + length (take m (drop (k * m) payload))) from below where
      by : (a b : ℕ) → a ≤ p → p < b → (nat_le a p && nat_lt p b) ≡ true
      by a b x y = grind (arith, nat_tests)

has_from : (f : Fragment) (p : ℕ) → has_place f p ≡ true → f.offset ≤ p
has_from f p h = by f.offset (end_of f) h where
  by : (a b : ℕ) → (nat_le a p && nat_lt p b) ≡ true → a ≤ p
  by a b x = grind (arith, nat_tests)

has_to : (f : Fragment) (p : ℕ) → has_place f p ≡ true → p < end_of f
has_to f p h = by f.offset (end_of f) h where
  by : (a b : ℕ) → (nat_le a p && nat_lt p b) ≡ true → p < b
  by a b x = grind (arith, nat_tests)

-- what matters of a piece: it ends within the payload, at its end if it is the last one, and has the payload's octets
pub record IsPartOf (payload : List ℕ) (f : Fragment) : Type 0 where
  pub within : end_of f ≤ length payload
  pub last : f.is_last ≡ true → end_of f ≡ length payload
  pub octets : (p : ℕ) → has_place f p ≡ true → get_or f.octets (p - f.offset) 0 ≡ get_or payload p 0

pub part_of : (m : ℕ) (payload : List ℕ) (f : Fragment) → 0 < m → IsPiece m payload f → IsPartOf payload f
part_of m payload f pos piece = rw piece.is (at piece.number (count_below m (length payload) piece.number pos piece.below)) where
  at : (k : ℕ) → k * m < length payload → IsPartOf payload (piece_at m payload k)
  at k l =
      let len = piece_len m payload (k * m) in
      record {
        within = omega arith;
        last = λ t. let h : length payload ≤ k * m + m = grind (arith, nat_tests) in omega arith;
        octets = λ p h.
            let a = has_from (piece_at m payload k) p h in
            let b = has_to (piece_at m payload k) p h in
            let i : p - k * m < m = omega arith in
            let e : k * m + (p - k * m) ≡ p = omega arith in
            get_or-take m (drop (k * m) payload) (p - k * m) 0 i ∙ get_or-drop (k * m) payload (p - k * m) 0 ∙ ap (λ j. get_or payload j 0) e;
      }

-- the last octet's piece is the last one
pub is_last_piece : (m : ℕ) (payload : List ℕ) (k : ℕ) → length payload ≤ k * m + m → (piece_at m payload k).is_last ≡ true
is_last_piece m payload k l = by (length payload) (k * m + m) l where
  by : (a b : ℕ) → a ≤ b → nat_le a b ≡ true
  by a b h = grind (arith, nat_tests)

-- only piece k has the first place of piece k
pub only_piece : (m : ℕ) (payload : List ℕ) (j k : ℕ) → has_place (piece_at m payload j) (k * m) ≡ true → j ≡ k
only_piece m payload j k h =
    let a = has_from (piece_at m payload j) (k * m) h in
    let b = has_to (piece_at m payload j) (k * m) h in
    let len = piece_len m payload (j * m) in
    let e : j * m + (k * m - j * m) ≡ k * m + 0 = omega arith in
    (same_from_place j (k * m - j * m) k 0 m (omega arith) (omega arith) e).0

abbrev pub AreParts : List ℕ → List Fragment → Type 0
AreParts payload fs = AllByRecursion (IsPartOf payload) fs

or_left : (a b : Bool) → a ≡ true → (a || b) ≡ true
or_left true b h = refl
or_left false b h = absurd cc

or_right : (a b : Bool) → b ≡ true → (a || b) ≡ true
or_right true b h = refl
or_right false b h = h

pub covered_by : (fs : List Fragment) (g : Fragment) (p : ℕ) → IsIn g fs → has_place g p ≡ true → is_covered fs p ≡ true
covered_by [] g p i h = absurd i
covered_by (f ∷ fs) g p (inl e) h = or_left (has_place f p) (is_covered fs p) (rw (← e) h)
covered_by (f ∷ fs) g p (inr i) h = or_right (has_place f p) (is_covered fs p) (covered_by fs g p i h)

-- the place behind the payload is not covered
pub end_bare : (payload : List ℕ) (fs : List Fragment) → AreParts payload fs → is_covered fs (length payload) ≡ false
end_bare payload [] all = refl
end_bare payload (f ∷ fs) all = rw (out, end_bare payload fs all.1) refl where
  out : has_place f (length payload) ≡ false
  out = by f.offset (end_of f) (length payload) all.0.within where
    by : (a b n : ℕ) → b ≤ n → (nat_le a n && nat_lt n b) ≡ false
    by a b n h = grind (arith, nat_tests)

octets_by : (payload : List ℕ) (f : Fragment) (p : ℕ) (b : Bool) (x : ℕ) →
    (has_place f p || b) ≡ true → IsPartOf payload f → (b ≡ true → x ≡ get_or payload p 0) →
    (if b then x else get_or f.octets (p - f.offset) 0) ≡ get_or payload p 0
octets_by payload f p true x c part rest = rest refl
octets_by payload f p false x c part rest = part.octets p (here (has_place f p) c) where
  here : (a : Bool) → (a || false) ≡ true → a ≡ true
  here true e = refl
  here false e = absurd cc

pub octets_of : (payload : List ℕ) (fs : List Fragment) (p : ℕ) → AreParts payload fs → is_covered fs p ≡ true → octet_at fs p ≡ get_or payload p 0
octets_of payload [] p all c = absurd cc
octets_of payload (f ∷ fs) p all c = octets_by payload f p (is_covered fs p) (octet_at fs p) c all.0 (octets_of payload fs p all.1)

-- the total
abbrev pub total_from : Option ℕ → List Fragment → Option ℕ
total_from t [] = t
total_from t (f ∷ fs) = total_from (total_with t f) fs

pub total_from-append : (t : Option ℕ) (xs ys : List Fragment) → total_from t (xs ++ ys) ≡ total_from (total_from t xs) ys
total_from-append t [] ys = refl
total_from-append t (x ∷ xs) ys = total_from-append (total_with t x) xs ys

-- a total, if there is one, is this
abbrev pub IsTotal : ℕ → Option ℕ → Type 0
IsTotal n t = (x : ℕ) → t ≡ Some x → x ≡ n

pub total_stays : (payload : List ℕ) (t : Option ℕ) (f : Fragment) →
    IsPartOf payload f → IsTotal (length payload) t → IsTotal (length payload) (total_with t f)
total_stays payload t f part is = by f.is_last refl where
  by : (b : Bool) → f.is_last ≡ b → IsTotal (length payload) (if b then Some (end_of f) else t)
  by true e = λ x h. let w = part.last e in let v : end_of f ≡ x = cc in omega arith
  by false e = is

pub total_is : (payload : List ℕ) (t : Option ℕ) (fs : List Fragment) →
    AreParts payload fs → IsTotal (length payload) t → IsTotal (length payload) (total_from t fs)
total_is payload t [] all is = is
total_is payload t (f ∷ fs) all is = total_is payload (total_with t f) fs all.1 (total_stays payload t f all.0 is)

total_kept : (payload : List ℕ) (t : Option ℕ) (f : Fragment) →
    IsPartOf payload f → t ≡ Some (length payload) → total_with t f ≡ Some (length payload)
total_kept payload t f part is = by f.is_last refl where
  by : (b : Bool) → f.is_last ≡ b → (if b then Some (end_of f) else t) ≡ Some (length payload)
  by true e = ap (λ (n : ℕ). Some n) (part.last e)
  by false e = is

total_known : (payload : List ℕ) (t : Option ℕ) (fs : List Fragment) →
    AreParts payload fs → t ≡ Some (length payload) → total_from t fs ≡ Some (length payload)
total_known payload t [] all is = is
total_known payload t (f ∷ fs) all is = total_known payload (total_with t f) fs all.1 (total_kept payload t f all.0 is)

total_with-last : (t : Option ℕ) (f : Fragment) → f.is_last ≡ true → total_with t f ≡ Some (end_of f)
total_with-last t f e = rw e refl

pub total_found : (payload : List ℕ) (t : Option ℕ) (fs : List Fragment) (g : Fragment) →
    AreParts payload fs → IsIn g fs → g.is_last ≡ true → total_from t fs ≡ Some (length payload)
total_found payload t [] g all i e = absurd i
total_found payload t (f ∷ fs) g all (inl same) e =
    let l : f.is_last ≡ true = rw (← same) e in
    total_known payload (total_with t f) fs all.1 (total_with-last t f l ∙ ap (λ (n : ℕ). Some n) (all.0.last l))
total_found payload t (f ∷ fs) g all (inr i) e = total_found payload (total_with t f) fs g all.1 i e

-- what is rebuilt of parts of a payload is the payload
pub rebuilds_payload : (payload : List ℕ) (g : Got) (octets : List ℕ) →
    IsTotal (length payload) g.total → AreParts payload g.fragments → IsRebuilt g octets → octets ≡ payload
rebuilds_payload payload g octets total parts r =
    let len : length octets ≡ length payload = total (length octets) r.whole.total in
    ext_get_or 0 octets payload len (λ p l. r.octets_at p l ∙ octets_of payload g.fragments p parts (r.whole.below p l))

abbrev pub all_got : List Fragment → Got
all_got fs = record { total = total_from None fs; fragments = fs }

no_total : (n : ℕ) → IsTotal n None
no_total n = λ x e. absurd cc

-- where every piece is there, the payload is rebuilt
pub complete : (m : ℕ) (payload : List ℕ) (fs : List Fragment) → 0 < m → 0 < length payload → AreParts payload fs →
    ((k : ℕ) → k < count m (length payload) → IsIn (piece_at m payload k) fs) → IsRebuilt (all_got fs) payload
complete m payload fs pos some parts there = record {
  whole = record {
    total = let last = piece_for m payload (length payload - 1) pos (omega arith) in
        total_found payload None fs (piece_at m payload last.number) parts (there last.number last.below)
        (is_last_piece m payload last.number (omega (arith, last.to)));
    below = each;
    at = end_bare payload fs parts;
  };
  octets_at = λ p l. sym (octets_of payload fs p parts (each p l));
} where
  each : (p : ℕ) → p < length payload → is_covered fs p ≡ true
  each p l = let h = piece_for m payload p pos l in
      covered_by fs (piece_at m payload h.number) p (there h.number h.below) (piece_has m payload p h.number l h.from h.to)

-- where piece k is missing, its first place isn't covered
pub missing : (m : ℕ) (payload : List ℕ) (fs : List Fragment) (k : ℕ) →
    AllByRecursion (IsPiece m payload) fs → (IsIn (piece_at m payload k) fs → ⊥) → is_covered fs (k * m) ≡ false
missing m payload [] k all none = refl
missing m payload (f ∷ fs) k all none = rw (out, missing m payload fs k all.1 (λ i. none (inr i))) refl where
  out : has_place f (k * m) ≡ false
  out = by (has_place f (k * m)) refl where
    by : (b : Bool) → has_place f (k * m) ≡ b → b ≡ false
    by true h =
        let e = all.0.is in
        let same : all.0.number ≡ k = only_piece m payload all.0.number k (rw e at h) in
        absurd (none (inl (sym (e ∙ ap (λ i. piece_at m payload i) same))))
    by false h = refl

pub incomplete : (m : ℕ) (payload : List ℕ) (fs : List Fragment) (f : Fragment) →
    0 < m → AllByRecursion (IsPiece m payload) fs → AreParts payload fs → IsPiece m payload f → (IsIn f fs → ⊥) →
    (octets : List ℕ) → IsRebuilt (all_got fs) octets → ⊥
incomplete m payload fs f pos all parts piece none octets r =
    let len : length octets ≡ length payload = total_is payload None fs parts (no_total (length payload)) (length octets) r.whole.total in
    let e = piece.is in
    let bare = missing m payload fs piece.number all (λ i. none (rw e i)) in
    let l = count_below m (length payload) piece.number pos piece.below in
    two_ways _ (r.whole.below (piece.number * m) (omega arith)) bare where
      two_ways : (b : Bool) → b ≡ true → b ≡ false → ⊥
      two_ways b h k = cc

pub parts_of : (m : ℕ) (payload : List ℕ) (fs : List Fragment) → 0 < m → AllByRecursion (IsPiece m payload) fs → AreParts payload fs
parts_of m payload [] pos all = tt
parts_of m payload (f ∷ fs) pos all = (part_of m payload f pos all.0, parts_of m payload fs pos all.1)
