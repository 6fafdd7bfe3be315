-- Octets by their places: streams, their pieces, and the cells of a ring.
use Rattle.std.proofs.Common.{◌≡◌, ◌<◌, ◌≤◌, ◌+◌, ℕ, zero, suc, List, [], ◌∷◌, ◌++◌, length, drop}
use Rattle.std.proofs.Common.{refl, sym, ap, ◌∙◌, subst, arith, Option, Some, None, slice_get, inl, inr}
use Rattle.std.specs.Prelude.{◌⊎◌, replicate}
use Rattle.std.proofs.lemmas.Option.{none-some}
use Rattle.tcp_machine.specs.Pieces.{IsBeginning, octet_at}
use Rattle.tcp_machine.specs.Receiving.{in_order, filled}

pub get_drop : {A : Type 0} (n : ℕ) (xs : List A) (i : ℕ) → slice_get (drop n xs) i ≡ slice_get xs (n + i)
get_drop zero xs i = let e : i ≡ zero + i = omega arith in ap (slice_get xs) e
get_drop (suc n) [] i = refl
get_drop (suc n) (x ∷ xs) i = let e : suc (n + i) ≡ suc n + i = omega arith in get_drop n xs i ∙ ap (slice_get (x ∷ xs)) e

pub get_append : {A : Type 0} (xs ys : List A) (i : ℕ) (x : A) → slice_get xs i ≡ Some x → slice_get (xs ++ ys) i ≡ Some x
get_append [] ys i x h = absurd (none-some x h)
get_append (y ∷ xs) ys zero x h = h
get_append (y ∷ xs) ys (suc i) x h = get_append xs ys i x h

-- a stream goes on with what it has
pub octet_append : (w v : List ℕ) (q x : ℕ) → octet_at w q ≡ Some x → octet_at (w ++ v) q ≡ Some x
octet_append w v zero x h = h
octet_append w v (suc q) x h = get_append w v q x h

pub octet_is : (w : List ℕ) (q k : ℕ) → q ≡ suc k → octet_at w q ≡ slice_get w k
octet_is w q k e = ap (octet_at w) e

pub get_within : {A : Type 0} (xs : List A) (i : ℕ) → i < length xs → (x : A) × (slice_get xs i ≡ Some x)
get_within [] i h = absurd (omega arith)
get_within (x ∷ xs) zero h = (x, refl)
get_within (x ∷ xs) (suc i) h = get_within xs i (omega arith)

pub beginning_get : {A : Type 0} (xs ys : List A) → IsBeginning xs ys → (i : ℕ) (x : A) → slice_get xs i ≡ Some x → slice_get ys i ≡ Some x
beginning_get xs ys b i x h = subst (λ zs. slice_get zs i ≡ Some x) b.1 (get_append xs b.0 i x h)

pub same_some : (x y : ℕ) → Some x ≡ Some y → x ≡ y
same_some x y h = cc

pub from_get : (xs ys : List ℕ) → ((i x : ℕ) → slice_get xs i ≡ Some x → slice_get ys i ≡ Some x) → IsBeginning xs ys
from_get [] ys h = (ys, refl)
from_get (x ∷ xs) [] h = absurd (none-some x (h zero x refl))
from_get (x ∷ xs) (y ∷ ys) h =
    let r = from_get xs ys (λ i z e. h (suc i) z e) in
    let same = same_some y x (h zero x refl) in
    (r.0, ap (λ zs. x ∷ zs) r.1 ∙ ap (λ z. z ∷ ys) (sym same))

-- the cells in order
pub in_order_get : (cells : List (Option ℕ)) (i x : ℕ) → slice_get (in_order cells) i ≡ Some x → slice_get cells i ≡ Some (Some x)
in_order_get [] i x h = absurd (none-some x h)
in_order_get (None ∷ cells) i x h = absurd (none-some x h)
in_order_get (Some y ∷ cells) zero x h = ap (λ (o : Option ℕ). Some o) h
in_order_get (Some y ∷ cells) (suc i) x h = in_order_get cells i x h

pub in_order_short : (cells : List (Option ℕ)) → length (in_order cells) ≤ length cells
in_order_short [] = omega arith
in_order_short (None ∷ cells) = omega arith
in_order_short (Some x ∷ cells) = let h = in_order_short cells in omega arith

pub in_order_none : (cells : List (Option ℕ)) (n : ℕ) → in_order (cells ++ replicate n None) ≡ in_order cells
in_order_none [] zero = refl
in_order_none [] (suc n) = refl
in_order_none (None ∷ cells) n = refl
in_order_none (Some x ∷ cells) n = ap (λ xs. x ∷ xs) (in_order_none cells n)

pub in_order_drop : (n : ℕ) (cells : List (Option ℕ)) → n ≤ length (in_order cells) → in_order (drop n cells) ≡ drop n (in_order cells)
in_order_drop zero cells h = refl
in_order_drop (suc n) [] h = refl
in_order_drop (suc n) (None ∷ cells) h = absurd (omega arith)
in_order_drop (suc n) (Some x ∷ cells) h = in_order_drop n cells (omega arith)

-- what a read leaves
abbrev holes : ℕ → List (Option ℕ)
holes n = replicate n None

pub no_hole : (n i x : ℕ) → slice_get (holes n) i ≡ Some (Some x) → ⊥
no_hole zero i x h = cc
no_hole (suc n) zero x h = cc
no_hole (suc n) (suc i) x h = no_hole n i x h

pub get_append_none : (cells : List (Option ℕ)) (n i x : ℕ) → slice_get (cells ++ replicate n None) i ≡ Some (Some x) → slice_get cells i ≡ Some (Some x)
get_append_none [] n i x h = absurd (no_hole n i x h)
get_append_none (c ∷ cells) n zero x h = h
get_append_none (c ∷ cells) n (suc i) x h = get_append_none cells n i x h

-- what an arrival fills
pub length-filled : (place : ℕ) (octets : List ℕ) (cells : List (Option ℕ)) → length (filled place octets cells) ≡ length cells
length-filled zero octets [] = refl
length-filled (suc place) octets [] = refl
length-filled (suc place) octets (c ∷ cells) = ap suc (length-filled place octets cells)
length-filled zero [] (c ∷ cells) = refl
length-filled zero (x ∷ octets) (c ∷ cells) = ap suc (length-filled zero octets cells)

pub in_order_filled : (place : ℕ) (octets : List ℕ) (cells : List (Option ℕ)) → length (in_order cells) ≤ length (in_order (filled place octets cells))
in_order_filled zero octets [] = omega arith
in_order_filled (suc place) octets [] = omega arith
in_order_filled (suc place) octets (None ∷ cells) = omega arith
in_order_filled (suc place) octets (Some y ∷ cells) = let h = in_order_filled place octets cells in omega arith
in_order_filled zero [] (None ∷ cells) = omega arith
in_order_filled zero [] (Some y ∷ cells) = omega arith
in_order_filled zero (x ∷ octets) (None ∷ cells) = omega arith
in_order_filled zero (x ∷ octets) (Some y ∷ cells) = let h = in_order_filled zero octets cells in omega arith

-- a cell has what it had, or an octet that arrived for its place
abbrev pub IsFrom : ℕ → List ℕ → List (Option ℕ) → ℕ → ℕ → Type 0
IsFrom place octets cells i x =
    (slice_get cells i ≡ Some (Some x)) ⊎ ((j : ℕ) × (place + j ≡ i) × (slice_get octets j ≡ Some x))

later : (place : ℕ) (octets : List ℕ) (c : Option ℕ) (cells : List (Option ℕ)) (i x : ℕ) →
    IsFrom place octets cells i x → IsFrom (suc place) octets (c ∷ cells) (suc i) x
later place octets c cells i x (inl h) = inl h
later place octets c cells i x (inr h) = inr (h.0, (let e = h.1 in omega arith), h.2)

further : (y : ℕ) (octets : List ℕ) (c : Option ℕ) (cells : List (Option ℕ)) (i x : ℕ) →
    IsFrom zero octets cells i x → IsFrom zero (y ∷ octets) (c ∷ cells) (suc i) x
further y octets c cells i x (inl h) = inl h
further y octets c cells i x (inr h) = inr (suc h.0, (let e = h.1 in omega arith), h.2)

some_some : (x y : ℕ) → Some (Some x) ≡ Some (Some y) → Some x ≡ Some y
some_some x y h = cc

pub filled_get : (place : ℕ) (octets : List ℕ) (cells : List (Option ℕ)) (i x : ℕ) →
    slice_get (filled place octets cells) i ≡ Some (Some x) → IsFrom place octets cells i x
filled_get zero octets [] i x h = inl h
filled_get (suc place) octets [] i x h = inl h
filled_get (suc place) octets (c ∷ cells) zero x h = inl h
filled_get (suc place) octets (c ∷ cells) (suc i) x h = later place octets c cells i x (filled_get place octets cells i x h)
filled_get zero [] (c ∷ cells) i x h = inl h
filled_get zero (y ∷ octets) (c ∷ cells) zero x h = inr (zero, omega arith, some_some y x h)
filled_get zero (y ∷ octets) (c ∷ cells) (suc i) x h = further y octets c cells i x (filled_get zero octets cells i x h)
