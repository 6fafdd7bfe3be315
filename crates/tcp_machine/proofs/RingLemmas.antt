-- A ring of octets stands for cells.
use Rattle.std.proofs.Common.{◌≡◌, ◌<◌, ◌≤◌, ◌+◌, ℕ, zero, suc, Bool, true, false, List, [], ◌∷◌, ◌++◌, length, take, drop, get_or}
use Rattle.std.proofs.Common.{refl, sym, ap, ◌∙◌, arith, Option, Some, None}
use Rattle.std.specs.Prelude.{◌||◌, is_some, if◌then◌else◌, replicate}
use Rattle.std.proofs.lemmas.List.{length-drop, length-take-le, ext_get_or}
use Rattle.tcp_machine.specs.Receiving.{in_order, filled}
use Rattle.tcp_machine.specs.Details.Ring.{cells_from, cells_of, octet_in, IsFront, IsWritten, RingsStand}

-- the cell of an octet
abbrev cell : Bool → ℕ → Option ℕ
cell b x = if b then Some x else None

-- octets in order
front_from : (held : ℕ → Bool) (octets : List ℕ) (i n : ℕ) → n ≤ length octets → ((k : ℕ) → k < n → held (i + k) ≡ true) →
    (n < length octets → held (i + n) ≡ false) → in_order (cells_from held i octets) ≡ take n octets
front_from held [] i zero h below at = refl
front_from held [] i (suc n) h below at = absurd (omega arith)
front_from held (x ∷ octets) i zero h below at =
    let e : i ≡ i + zero = omega arith in
    let off : held i ≡ false = ap held e ∙ at (omega arith) in
    ap (λ b. in_order (cell b x ∷ cells_from held (i + 1) octets)) off
front_from held (x ∷ octets) i (suc n) h below at =
    let e : i ≡ i + zero = omega arith in
    let on : held i ≡ true = ap held e ∙ below zero (omega arith) in
    ap (λ b. in_order (cell b x ∷ cells_from held (i + 1) octets)) on
    ∙ ap (λ xs. x ∷ xs) (front_from held octets (i + 1) n (omega arith) (λ k l.
    let f : i + 1 + k ≡ i + suc k = omega arith in ap held f ∙ below (suc k) (omega arith)) (λ l.
    let f : i + 1 + n ≡ i + suc n = omega arith in ap held f ∙ at (omega arith)))

front_is : (held : ℕ → Bool) (octets : List ℕ) (n : ℕ) → IsFront held octets n → in_order (cells_of held octets) ≡ take n octets
front_is held octets n h = front_from held octets 0 n h.short (λ k l.
    let e : 0 + k ≡ k = omega arith in ap held e ∙ h.below k l) (λ l.
    let e : 0 + n ≡ n = omega arith in ap held e ∙ h.at l)

-- cells that are the same
cells_same : (h g : ℕ → Bool) (i j : ℕ) (xs : List ℕ) → ((k : ℕ) → k < length xs → h (i + k) ≡ g (j + k)) → cells_from h i xs ≡ cells_from g j xs
cells_same h g i j [] e = refl
cells_same h g i j (x ∷ xs) e =
    let a : i ≡ i + zero = omega arith in
    let b : j + zero ≡ j = omega arith in
    let here : h i ≡ g j = ap h a ∙ e zero (omega arith) ∙ ap g b in
    ap (λ t. cell t x ∷ cells_from h (i + 1) xs) here
    ∙ ap (λ cs. cell (g j) x ∷ cs) (cells_same h g (i + 1) (j + 1) xs (λ k l.
    let c : i + 1 + k ≡ i + suc k = omega arith in
    let d : j + suc k ≡ j + 1 + k = omega arith in
    ap h c ∙ e (suc k) (omega arith) ∙ ap g d))

-- of two parts
cells-append : (h : ℕ → Bool) (i : ℕ) (xs ys : List ℕ) → cells_from h i (xs ++ ys) ≡ cells_from h i xs ++ cells_from h (i + length xs) ys
cells-append h i [] ys = let e : i ≡ i + zero = omega arith in ap (λ j. cells_from h j ys) e
cells-append h i (x ∷ xs) ys =
    let e : i + 1 + length xs ≡ i + suc (length xs) = omega arith in
    ap (λ cs. cell (h i) x ∷ cs) (cells-append h (i + 1) xs ys ∙ ap (λ j. cells_from h (i + 1) xs ++ cells_from h j ys) e)

drop-cells : (h : ℕ → Bool) (i n : ℕ) (xs : List ℕ) → drop n (cells_from h i xs) ≡ cells_from h (i + n) (drop n xs)
drop-cells h i zero xs = let e : i ≡ i + zero = omega arith in ap (λ j. cells_from h j xs) e
drop-cells h i (suc n) [] = refl
drop-cells h i (suc n) (x ∷ xs) =
    let e : i + 1 + n ≡ i + suc n = omega arith in drop-cells h (i + 1) n xs ∙ ap (λ j. cells_from h j (drop n xs)) e

-- that are empty
cells_none : (h : ℕ → Bool) (i : ℕ) (xs : List ℕ) → ((k : ℕ) → k < length xs → h (i + k) ≡ false) → cells_from h i xs ≡ replicate (length xs) None
cells_none h i [] e = refl
cells_none h i (x ∷ xs) e =
    let a : i ≡ i + zero = omega arith in
    let here : h i ≡ false = ap h a ∙ e zero (omega arith) in
    ap (λ t. cell t x ∷ cells_from h (i + 1) xs) here
    ∙ ap (λ cs. None ∷ cs) (cells_none h (i + 1) xs (λ k l.
    let c : i + 1 + k ≡ i + suc k = omega arith in ap h c ∙ e (suc k) (omega arith)))

reading_is : (held now : ℕ → Bool) (n : ℕ) (octets : List ℕ) → n ≤ length octets →
    ((k : ℕ) → now k ≡ held (n + k)) → ((k : ℕ) → length octets ≤ k → held k ≡ false) →
    cells_of now (drop n octets ++ take n octets) ≡ drop n (cells_of held octets) ++ replicate n None
reading_is held now n octets low moved beyond =
    let len = length-drop n octets in
    let first : cells_from now 0 (drop n octets) ≡ drop n (cells_from held 0 octets) =
    cells_same now held 0 (0 + n) (drop n octets) (λ k l.
    let a : 0 + k ≡ k = omega arith in
    let b : n + k ≡ 0 + n + k = omega arith in
    ap now a ∙ moved k ∙ ap held b) ∙ sym (drop-cells held 0 n octets) in
    let second : cells_from now (0 + length (drop n octets)) (take n octets) ≡ replicate n None =
    cells_none now (0 + length (drop n octets)) (take n octets) (λ k l.
    moved (0 + length (drop n octets) + k) ∙ beyond (n + (0 + length (drop n octets) + k)) (omega (arith, len, low)))
    ∙ ap (λ m. replicate m None) (length-take-le n octets low) in
    cells-append now 0 (drop n octets) (take n octets)
    ∙ ap (λ cs. cs ++ cells_from now (0 + length (drop n octets)) (take n octets)) first
    ∙ ap (λ cs. drop n (cells_from held 0 octets) ++ cs) second

-- an arrival: at each offset what arrived there, or what was there
abbrev or_else : Option ℕ → Option ℕ → Option ℕ
or_else (Some y) o = Some y
or_else None o = o

filled_at : (place : ℕ) (bytes : List ℕ) (cells : List (Option ℕ)) (i : ℕ) → i < length cells →
    get_or (filled place bytes cells) i None ≡ or_else (octet_in place bytes i) (get_or cells i None)
filled_at place bytes [] i h = absurd (omega arith)
filled_at (suc place) bytes (c ∷ cells) zero h = refl
filled_at (suc place) bytes (c ∷ cells) (suc i) h = filled_at place bytes cells i (omega arith)
filled_at zero [] (c ∷ cells) zero h = refl
filled_at zero [] (c ∷ cells) (suc i) h = refl
filled_at zero (x ∷ bytes) (c ∷ cells) zero h = refl
filled_at zero (x ∷ bytes) (c ∷ cells) (suc i) h = filled_at zero bytes cells i (omega arith)

length-cells : (h : ℕ → Bool) (i : ℕ) (xs : List ℕ) → length (cells_from h i xs) ≡ length xs
length-cells h i [] = refl
length-cells h i (x ∷ xs) = ap suc (length-cells h (i + 1) xs)

cell_at : (h : ℕ → Bool) (i : ℕ) (xs : List ℕ) (k : ℕ) → k < length xs → get_or (cells_from h i xs) k None ≡ cell (h (i + k)) (get_or xs k 0)
cell_at h i [] k l = absurd (omega arith)
cell_at h i (x ∷ xs) zero l = let e : i ≡ i + zero = omega arith in ap (λ j. cell (h j) x) e
cell_at h i (x ∷ xs) (suc k) l =
    let e : i + 1 + k ≡ i + suc k = omega arith in
    cell_at h (i + 1) xs k (omega arith) ∙ ap (λ j. cell (h j) (get_or xs k 0)) e

length-filled : (place : ℕ) (octets : List ℕ) (cells : List (Option ℕ)) → length (filled place octets cells) ≡ length cells
length-filled zero octets [] = refl
length-filled (suc place) octets [] = refl
length-filled (suc place) octets (c ∷ cells) = ap suc (length-filled place octets cells)
length-filled zero [] (c ∷ cells) = refl
length-filled zero (x ∷ octets) (c ∷ cells) = ap suc (length-filled zero octets cells)

-- cases of an offset: held or not, and arrived or not
offset : (b t : Bool) (o : Option ℕ) (x y : ℕ) → t ≡ is_some o || b → (o ≡ None → y ≡ x) → ((z : ℕ) → o ≡ Some z → y ≡ z) →
    cell t y ≡ or_else o (cell b x)
offset true t None x y e kept written = ap (λ b. cell b y) e ∙ ap (λ (n : ℕ). Some n) (kept refl)
offset b t (Some z) x y e kept written = ap (λ b. cell b y) e ∙ ap (λ (n : ℕ). Some n) (written z refl)
offset false t None x y e kept written = ap (λ b. cell b y) e

filling_is : (held now : ℕ → Bool) (place : ℕ) (bytes old new : List ℕ) →
    ((k : ℕ) → k < length old → now k ≡ is_some (octet_in place bytes k) || held k) → IsWritten place bytes old new →
    cells_of now new ≡ filled place bytes (cells_of held old)
filling_is held now place bytes old new e w =
    let m = w.same in
    let long = length-cells now 0 new in
    let long' = length-cells held 0 old in
    let long'' = length-filled place bytes (cells_of held old) in
    ext_get_or None (cells_of now new) (filled place bytes (cells_of held old)) (omega (arith, m, long, long', long'')) (λ k l.
    let k_new : k < length new = omega (arith, l, long) in
    let k_old : k < length old = omega (arith, k_new, m) in
    let z : 0 + k ≡ k = omega arith in
    cell_at now 0 new k k_new
    ∙ ap (λ j. cell (now j) (get_or new k 0)) z
    ∙ offset (held k) (now k) (octet_in place bytes k) (get_or old k 0) (get_or new k 0) (e k k_old) (w.kept k k_old) (λ x at. w.written k x k_old at)
    ∙ sym (filled_at place bytes (cells_of held old) k (omega (arith, k_old, long'))
    ∙ ap (λ c. or_else (octet_in place bytes k) c) (cell_at held 0 old k k_old ∙ ap (λ j. cell (held j) (get_or old k 0)) z)))

pub rings_stand : RingsStand
rings_stand = record { front = front_is; filling = filling_is; reading = reading_is }
