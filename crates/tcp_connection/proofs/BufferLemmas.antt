-- Octets of a buffer, by their places.
use Rattle.std.proofs.Common.{◌≡◌, ◌+◌, ◌-◌, ◌≤◌, ◌<◌, ℕ, suc, Bool, true, false, List, [], ◌∷◌, ◌++◌, length, take, drop, get_or, refl, sym, ap, ◌∙◌, arith}
use Rattle.std.proofs.Common.{Option, Some, None}
use Rattle.std.specs.Prelude.{nat_lt, if◌then◌else◌}
use Rattle.std.proofs.lemmas.Bool.Decides.{nat_tests}
use Rattle.std.proofs.lemmas.List.{length-take-le, length-drop, length-append, get_or-take, get_or-drop}
use Rattle.std.proofs.lemmas.List.{get_or_append_left}
use Rattle.net_base.specs.declared.assembler.Range.{Range}
use Rattle.net_base.specs.Ranges.{covered, front}
use Rattle.tcp_machine.specs.Details.Ring.{cells_from, cells_of, RingsStand}
use Rattle.tcp_machine.specs.Receiving.{Receiver, in_order, after_read}
use Rattle.tcp_connection.specs.Details.Arrived.{has_arrived, IsArrived, receiver_of}
use Rattle.tcp_connection.proofs.ArrivedLemmas.{window_len, front_within, next_is}

-- cells with the same octets where they are held
pub cells_agree : (h : ℕ → Bool) (i : ℕ) (xs ys : List ℕ) → length xs ≡ length ys →
    ((k : ℕ) → k < length xs → h (i + k) ≡ true → get_or xs k 0 ≡ get_or ys k 0) → cells_from h i xs ≡ cells_from h i ys
cells_agree h i [] [] same e = refl
cells_agree h i [] (y ∷ ys) same e = absurd (omega (arith, same))
cells_agree h i (x ∷ xs) [] same e = absurd (omega (arith, same))
cells_agree h i (x ∷ xs) (y ∷ ys) same e =
    by (h i) refl (cells_agree h (i + 1) xs ys (omega (arith, same)) (λ k l t.
    let n : i + suc k ≡ i + 1 + k = omega arith in e (suc k) (omega (arith, l)) (ap h n ∙ t))) where
      by : (b : Bool) → h i ≡ b → cells_from h (i + 1) xs ≡ cells_from h (i + 1) ys → cells_from h i (x ∷ xs) ≡ cells_from h i (y ∷ ys)
      by true t rest =
          let n : i + 0 ≡ i = omega arith in
          let first = e 0 (omega arith) (ap h n ∙ t) in
          ap (λ (z : ℕ). (if h i then Some z else None) ∷ cells_from h (i + 1) xs) first
          ∙ ap (λ (cs : List (Option ℕ)). (if h i then Some y else None) ∷ cs) rest
      by false t rest =
          ap (λ (b : Bool). (if b then Some x else None) ∷ cells_from h (i + 1) xs) t
          ∙ ap (λ (cs : List (Option ℕ)). None ∷ cs) rest
          ∙ ap (λ (b : Bool). (if b then Some y else None) ∷ cells_from h (i + 1) ys) (sym t)

-- an octet of the part for which there is room
pub in_window : (room start k : ℕ) (items : List ℕ) → k < room → get_or (take room (drop start items)) k 0 ≡ get_or items (start + k) 0
in_window room start k items l = get_or-take room (drop start items) k 0 l ∙ get_or-drop start items k 0

-- what was base stays among what has arrived
pub still_arrived : (base room n : ℕ) (rs : List Range) → IsArrived base room rs → base + n ≤ front rs → IsArrived (base + n) room rs
still_arrived base room n rs h l = record {
  separate = h.separate;
  begun = let b = h.begun in omega (arith, b);
  in_first = l;
  within = λ i m. h.within i (omega (arith, m));
}

-- the receiver after a base: the octets lie in another place, or in the same
pub consumed : RingsStand → (base n room start start' : ℕ) (items items' : List ℕ) (rs : List Range) (stop : Option ℕ) → IsArrived base room rs →
    base + n ≤ front rs → start ≤ room → length items ≡ room + room → start' ≤ room → length items' ≡ room + room →
    ((k : ℕ) → k + n < room → has_arrived (base + n) rs k ≡ true → get_or items' (start' + k) 0 ≡ get_or items (start + (n + k)) 0) →
    receiver_of (base + n) items' start' room rs stop ≡ after_read n (receiver_of base items start room rs stop)
consumed law base n room start start' items items' rs stop h l low all low' all' moved =
    let w = take room (drop start items) in
    let w' = take room (drop start' items') in
    let len : length w ≡ room = window_len room start items low all in
    let len' : length w' ≡ room = window_len room start' items' low' all' in
    let within = front_within base room rs h in
    let few : n ≤ length w = omega (arith, l, within, len) in
    let left : length (drop n w) ≡ length w - n = length-drop n w in
    let turned : length (drop n w ++ take n w) ≡ room =
    length-append (drop n w) (take n w) ∙ (let t = length-take-le n w few in omega (arith, t, left, few, len)) in
    let now = has_arrived (base + n) rs in
    let same : cells_of now w' ≡ cells_of now (drop n w ++ take n w) =
    cells_agree now 0 w' (drop n w ++ take n w) (omega (arith, len', turned)) (λ k m t. by k m t (nat_lt (k + n) room) refl) in
    ap (λ (cs : List (Option ℕ)). record { base = base + n; cells = cs; stop = stop })
    (same ∙ law.reading (has_arrived base rs) now n w few
    (λ k. (let a : base + n + k ≡ base + (n + k) = omega arith in ap (covered rs) a))
    (λ k m. h.within (base + k) (omega (arith, m, len))))
  where
    by : (k : ℕ) → k < length (take room (drop start' items')) → has_arrived (base + n) rs (0 + k) ≡ true → (b : Bool) → nat_lt (k + n) room ≡ b →
        get_or (take room (drop start' items')) k 0
        ≡ get_or (drop n (take room (drop start items)) ++ take n (take room (drop start items))) k 0
    by k m t true e =
        let w = take room (drop start items) in
        let len : length w ≡ room = window_len room start items low all in
        let len' = window_len room start' items' low' all' in
        let near : k + n < room = grind (arith, nat_tests, e) in
        let left : length (drop n w) ≡ length w - n = length-drop n w in
        in_window room start' k items' (omega (arith, m, len')) ∙ moved k near (ap (has_arrived (base + n) rs) (let z : k ≡ 0 + k = omega arith in z) ∙ t)
        ∙ sym (get_or_append_left (drop n w) (take n w) 0 k (omega (arith, near, left, len)) ∙ get_or-drop n w k 0
        ∙ in_window room start (n + k) items (omega (arith, near)))
    by k m t false e =
        let far : room ≤ k + n = grind (arith, nat_tests, e) in
        let z : 0 + k ≡ k = omega arith in
        let no : covered rs (base + n + k) ≡ false = h.within (base + n + k) (omega (arith, far)) in
        let yes : covered rs (base + n + k) ≡ true = ap (has_arrived (base + n) rs) (sym z) ∙ t in
        absurd cc

-- how many octets may be base
pub readable_count : RingsStand → (base : ℕ) (items : List ℕ) (start room : ℕ) (rs : List Range) (stop : Option ℕ) → IsArrived base room rs →
    start ≤ room → length items ≡ room + room → base + length (in_order (receiver_of base items start room rs stop).cells) ≡ front rs
readable_count law base items start room rs stop h low all =
    next_is law base room rs (take room (drop start items)) h (window_len room start items low all)

pub few_read : RingsStand → (base count : ℕ) (items : List ℕ) (start room : ℕ) (rs : List Range) (stop : Option ℕ) (now : Receiver) →
    IsArrived base room rs → start ≤ room → length items ≡ room + room → receiver_of base items start room rs stop ≡ now →
    count ≤ length (in_order now.cells) → base + count ≤ front rs
few_read law base count items start room rs stop now h low all is few =
    let n = readable_count law base items start room rs stop h low all in
    let same = ap (λ (r : Receiver). length (in_order r.cells)) is in
    omega (arith, n, same, few)
