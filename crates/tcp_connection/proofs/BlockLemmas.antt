-- The blocks of what is held, by the ranges that have arrived.
use Rattle.std.proofs.Common.{◌≡◌, ◌+◌, ◌-◌, ◌≤◌, ◌<◌, ℕ, zero, suc, Bool, true, false, List, [], ◌∷◌, ◌++◌, length, take, drop, refl, sym, ap, ◌∙◌, arith}
use Rattle.std.proofs.Common.{Option, Some, None}
use Rattle.std.specs.Prelude.{nat_le, nat_lt, max, map, reverse, slice_get, ◌==◌, ◌&&◌, ◌||◌, cond, if◌then◌else◌}
use Rattle.std.proofs.lemmas.Bool.Decides.{nat_tests}
use Rattle.net_base.specs.declared.assembler.Range.{Range}
use Rattle.net_base.specs.Ranges.{AreSeparate, covered, front}
use Rattle.tcp_machine.specs.declared.sack.SackBlock.{SackBlock}
use Rattle.tcp_machine.specs.Details.Ring.{cells_from, cells_of, RingsStand}
use Rattle.tcp_machine.specs.Receiving.{Receiver, in_order, next, expected}
use Rattle.tcp_machine.specs.Sack.{Block, block, with_octet, blocks_from, beyond, containing, others, blocks_of as told}
use Rattle.tcp_machine.specs.Outgoing.{block_on_wire}
use Rattle.std.specs.List.{filter_map}
use Rattle.tcp_connection.specs.Details.Arrived.{has_arrived, IsArrived, receiver_of}
use Rattle.tcp_connection.specs.Blocks.{block_of, blocks_in, part_beyond, is_in, newest_first, on_wire}
use Rattle.tcp_connection.proofs.ArrivedLemmas.{below, window_len, next_of}

-- the one that contains a position comes first
pub ordered : (p : ℕ) (c b a : Option Range) →
    blocks_in (newest_first p c b a) ≡ containing p (blocks_in (c ∷ b ∷ a ∷ [])) ++ others p (blocks_in (c ∷ b ∷ a ∷ []))
ordered p None None None = refl
ordered p None None (Some a) = by (nat_le a.start p && nat_lt p a.end) where
  by : (x : Bool) → blocks_in (if x then Some a ∷ None ∷ None ∷ [] else None ∷ None ∷ Some a ∷ [])
      ≡ (if x then block_of a ∷ [] else []) ++ (if x then [] else block_of a ∷ [])
  by true = refl
  by false = refl
ordered p None (Some b) None = by (nat_le b.start p && nat_lt p b.end) where
  by : (x : Bool) → blocks_in (if x then Some b ∷ None ∷ None ∷ [] else None ∷ Some b ∷ None ∷ [])
      ≡ (if x then block_of b ∷ [] else []) ++ (if x then [] else block_of b ∷ [])
  by true = refl
  by false = refl
ordered p (Some c) None None = by (nat_le c.start p && nat_lt p c.end) where
  by : (x : Bool) → blocks_in (if x then Some c ∷ None ∷ None ∷ [] else Some c ∷ None ∷ None ∷ [])
      ≡ (if x then block_of c ∷ [] else []) ++ (if x then [] else block_of c ∷ [])
  by true = refl
  by false = refl
ordered p None (Some b) (Some a) = by (nat_le b.start p && nat_lt p b.end) (nat_le a.start p && nat_lt p a.end) where
  by : (y x : Bool) → blocks_in (if y then Some b ∷ None ∷ Some a ∷ [] else if x then Some a ∷ None ∷ Some b ∷ [] else None ∷ Some b ∷ Some a ∷ [])
      ≡ (if y then block_of b ∷ [] else if x then block_of a ∷ [] else [])
      ++ (if y then block_of a ∷ [] else block_of b ∷ (if x then [] else block_of a ∷ []))
  by true x = refl
  by false true = refl
  by false false = refl
ordered p (Some c) None (Some a) = by (nat_le c.start p && nat_lt p c.end) (nat_le a.start p && nat_lt p a.end) where
  by : (z x : Bool) → blocks_in (if z then Some c ∷ None ∷ Some a ∷ [] else if x then Some a ∷ Some c ∷ None ∷ [] else Some c ∷ None ∷ Some a ∷ [])
      ≡ (if z then block_of c ∷ [] else if x then block_of a ∷ [] else [])
      ++ (if z then block_of a ∷ [] else block_of c ∷ (if x then [] else block_of a ∷ []))
  by true x = refl
  by false true = refl
  by false false = refl
ordered p (Some c) (Some b) None = by (nat_le c.start p && nat_lt p c.end) (nat_le b.start p && nat_lt p b.end) where
  by : (z y : Bool) → blocks_in (if z then Some c ∷ Some b ∷ None ∷ [] else if y then Some b ∷ Some c ∷ None ∷ [] else Some c ∷ Some b ∷ None ∷ [])
      ≡ (if z then block_of c ∷ [] else if y then block_of b ∷ [] else [])
      ++ (if z then block_of b ∷ [] else block_of c ∷ (if y then [] else block_of b ∷ []))
  by true y = refl
  by false true = refl
  by false false = refl
ordered p (Some c) (Some b) (Some a) =
    by (nat_le c.start p && nat_lt p c.end) (nat_le b.start p && nat_lt p b.end) (nat_le a.start p && nat_lt p a.end) where
      by : (z y x : Bool) →
          blocks_in (if z then Some c ∷ Some b ∷ Some a ∷ [] else if y then Some b ∷ Some c ∷ Some a ∷ []
          else if x then Some a ∷ Some c ∷ Some b ∷ [] else Some c ∷ Some b ∷ Some a ∷ [])
          ≡ (if z then block_of c ∷ [] else if y then block_of b ∷ [] else if x then block_of a ∷ [] else [])
          ++ (if z then block_of b ∷ block_of a ∷ []
          else block_of c ∷ (if y then block_of a ∷ [] else block_of b ∷ (if x then [] else block_of a ∷ [])))
      by true y x = refl
      by false true x = refl
      by false false true = refl
      by false false false = refl

-- the parts beyond what is expected, from the furthest one back
abbrev after_first : List Range → List Block
after_first rs = map block_of (drop 1 rs)

pub parts : (e : ℕ) (rs : List Range) → length rs ≤ 4 →
    blocks_in (part_beyond e rs 3 ∷ part_beyond e rs 2 ∷ part_beyond e rs 1 ∷ []) ≡ reverse (beyond e (after_first rs))
parts e [] few = refl
parts e (f ∷ []) few = refl
parts e (f ∷ a ∷ []) few = by (nat_lt e a.start) where
  by : (x : Bool) → blocks_in (None ∷ None ∷ (if x then Some a else None) ∷ []) ≡ reverse (if x then block_of a ∷ [] else [])
  by true = refl
  by false = refl
parts e (f ∷ a ∷ b ∷ []) few = by (nat_lt e a.start) (nat_lt e b.start) where
  by : (x y : Bool) → blocks_in (None ∷ (if y then Some b else None) ∷ (if x then Some a else None) ∷ [])
      ≡ reverse (if x then block_of a ∷ (if y then block_of b ∷ [] else []) else (if y then block_of b ∷ [] else []))
  by true true = refl
  by true false = refl
  by false true = refl
  by false false = refl
parts e (f ∷ a ∷ b ∷ c ∷ []) few = by (nat_lt e a.start) (nat_lt e b.start) (nat_lt e c.start) where
  by : (x y z : Bool) → blocks_in ((if z then Some c else None) ∷ (if y then Some b else None) ∷ (if x then Some a else None) ∷ [])
      ≡ reverse (if x then block_of a ∷ (if y then block_of b ∷ (if z then block_of c ∷ [] else []) else (if z then block_of c ∷ [] else []))
      else (if y then block_of b ∷ (if z then block_of c ∷ [] else []) else (if z then block_of c ∷ [] else [])))
  by true true true = refl
  by true true false = refl
  by true false true = refl
  by true false false = refl
  by false true true = refl
  by false true false = refl
  by false false true = refl
  by false false false = refl
parts e (f ∷ a ∷ b ∷ c ∷ d ∷ rs) few = absurd (omega (arith, few))

-- ranges as blocks, from a position on
abbrev clip : ℕ → List Range → List Block
clip p [] = []
clip p (r ∷ rs) = if nat_le r.end p then clip p rs else block (max p r.start) r.end ∷ map block_of rs

-- where all begin later
clip_later : (p : ℕ) (rs : List Range) → AreSeparate p rs → clip p rs ≡ map block_of rs
clip_later p [] s = refl
clip_later p (r ∷ rs) s =
    let a = s.0 in
    let b = s.1 in
    let e : nat_le r.end p ≡ false = grind (arith, nat_tests, a, b) in
    let m : max p r.start ≡ r.start = omega (arith, a) in
    ap (λ t. if t then clip p rs else block (max p r.start) r.end ∷ map block_of rs) e
    ∙ ap (λ (k : ℕ). block k r.end ∷ map block_of rs) m

-- and where all end before
clip_ended : (p : ℕ) (rs : List Range) → ((q : ℕ) → p ≤ q → covered rs q ≡ false) → (from : ℕ) → AreSeparate from rs → clip p rs ≡ []
clip_ended p [] none from s = refl
clip_ended p (r ∷ rs) none from s = by (clip_ended p rs rest (r.end + 1) s.2) (nat_le r.end p) refl where
  rest : (q : ℕ) → p ≤ q → covered rs q ≡ false
  rest q l = or_right (nat_le r.start q && nat_lt q r.end) (covered rs q) (none q l) where
    or_right : (a b : Bool) → a || b ≡ false → b ≡ false
    or_right true b h = absurd cc
    or_right false b h = h

  by : clip p rs ≡ [] → (t : Bool) → nat_le r.end p ≡ t → clip p (r ∷ rs) ≡ []
  by ended true e = ap (λ t. if t then clip p rs else block (max p r.start) r.end ∷ map block_of rs) e ∙ ended
  by ended false e =
      let l : p < r.end = grind (arith, nat_tests, e) in
      let b = s.1 in
      let at = none (r.end - 1) (omega (arith, l)) in
      let low : nat_le r.start (r.end - 1) ≡ true = grind (arith, nat_tests, b) in
      let high : nat_lt (r.end - 1) r.end ≡ true = grind (arith, nat_tests, b) in
      absurd (held (nat_le r.start (r.end - 1)) (nat_lt (r.end - 1) r.end) (covered rs (r.end - 1)) low high at) where
        held : (a b c : Bool) → a ≡ true → b ≡ true → (a && b) || c ≡ false → ⊥
        held true true c x y h = cc
        held true false c x y h = cc
        held false b c x y h = cc

-- one position more
later : (from from' : ℕ) (rs : List Range) → from' ≤ from → AreSeparate from rs → AreSeparate from' rs
later from from' [] l s = tt
later from from' (r ∷ rs) l s = (let a = s.0 in omega (arith, a, l), s.1, s.2)

with_far : (p : ℕ) (rs : List Range) → AreSeparate (p + 2) rs → with_octet p (map block_of rs) ≡ block p (p + 1) ∷ map block_of rs
with_far p [] s = refl
with_far p (r ∷ rs) s =
    let a = s.0 in
    let e : (r.start == p + 1) ≡ false = grind (arith, nat_tests, a) in
    ap (λ t. if t then block p r.end ∷ map block_of rs else block p (p + 1) ∷ block_of r ∷ map block_of rs) e

with_near : (p end : ℕ) (bs : List Block) → with_octet p (block (p + 1) end ∷ bs) ≡ block p end ∷ bs
with_near p end bs =
    let e : (p + 1 == p + 1) ≡ true = grind (arith, nat_tests) in
    ap (λ t. if t then block p end ∷ bs else block p (p + 1) ∷ block (p + 1) end ∷ bs) e

abbrev stepped : Bool → ℕ → List Block → List Block
stepped b p bs = if b then with_octet p bs else bs

step : (p : ℕ) (rs : List Range) (from : ℕ) → AreSeparate from rs → stepped (covered rs p) p (clip (p + 1) rs) ≡ clip p rs
step p [] from s = refl
step p (r ∷ rs) from s = by (step p rs (r.end + 1) s.2) (nat_le r.end p) refl where
  short : r.start < r.end
  short = s.1

  by : stepped (covered rs p) p (clip (p + 1) rs) ≡ clip p rs → (t : Bool) → nat_le r.end p ≡ t →
      stepped (covered (r ∷ rs) p) p (clip (p + 1) (r ∷ rs)) ≡ clip p (r ∷ rs)
  by before true e =
      let past : nat_lt p r.end ≡ false = grind (arith, nat_tests, e) in
      let more : nat_le r.end (p + 1) ≡ true = grind (arith, nat_tests, e) in
      ap (λ t. stepped ((nat_le r.start p && t) || covered rs p) p (clip (p + 1) (r ∷ rs))) past
      ∙ ap (λ t. stepped (t || covered rs p) p (clip (p + 1) (r ∷ rs))) (none (nat_le r.start p))
      ∙ ap (λ t. stepped (covered rs p) p (if t then clip (p + 1) rs else block (max (p + 1) r.start) r.end ∷ map block_of rs)) more
      ∙ before
      ∙ sym (ap (λ t. if t then clip p rs else block (max p r.start) r.end ∷ map block_of rs) e) where
        none : (b : Bool) → b && false ≡ false
        none true = refl
        none false = refl
  by past false e = in_or_before (nat_le r.start p) refl where
    high : p < r.end
    high = grind (arith, nat_tests, e)

    here : clip p (r ∷ rs) ≡ block (max p r.start) r.end ∷ map block_of rs
    here = ap (λ t. if t then clip p rs else block (max p r.start) r.end ∷ map block_of rs) e

    in_or_before : (t : Bool) → nat_le r.start p ≡ t → stepped (covered (r ∷ rs) p) p (clip (p + 1) (r ∷ rs)) ≡ clip p (r ∷ rs)
    in_or_before true f = ap (λ t. stepped t p (clip (p + 1) (r ∷ rs))) held ∙ last_or_not (nat_le r.end (p + 1)) refl where
      low : r.start ≤ p
      low = grind (arith, nat_tests, f)

      held : covered (r ∷ rs) p ≡ true
      held =
          let u : nat_lt p r.end ≡ true = grind (arith, nat_tests, high) in
          ap (λ t. (t && nat_lt p r.end) || covered rs p) f ∙ ap (λ t. t || covered rs p) u

      begins : max p r.start ≡ p
      begins = omega (arith, low)

      last_or_not : (t : Bool) → nat_le r.end (p + 1) ≡ t → with_octet p (clip (p + 1) (r ∷ rs)) ≡ clip p (r ∷ rs)
      last_or_not true g =
          let end : r.end ≡ p + 1 = grind (arith, nat_tests, g, high) in
          let far = later (r.end + 1) (p + 2) rs (omega (arith, end)) s.2 in
          ap (λ t. with_octet p (if t then clip (p + 1) rs else block (max (p + 1) r.start) r.end ∷ map block_of rs)) g
          ∙ ap (with_octet p) (clip_later (p + 1) rs (later (p + 2) (p + 1) rs (omega arith) far)) ∙ with_far p rs far
          ∙ sym (here ∙ ap (λ (k : ℕ). block k r.end ∷ map block_of rs) begins ∙ ap (λ (k : ℕ). block p k ∷ map block_of rs) end)
      last_or_not false g =
          let next : max (p + 1) r.start ≡ p + 1 = omega (arith, low) in
          ap (λ t. with_octet p (if t then clip (p + 1) rs else block (max (p + 1) r.start) r.end ∷ map block_of rs)) g
          ∙ ap (λ (k : ℕ). with_octet p (block k r.end ∷ map block_of rs)) next ∙ with_near p r.end (map block_of rs)
          ∙ sym (here ∙ ap (λ (k : ℕ). block k r.end ∷ map block_of rs) begins)
    in_or_before false f =
        let before : p < r.start = grind (arith, nat_tests, f) in
        let rest = below (r.end + 1) p rs s.2 (omega (arith, high)) in
        let none : covered (r ∷ rs) p ≡ false = ap (λ t. (t && nat_lt p r.end) || covered rs p) f ∙ rest in
        let more : nat_le r.end (p + 1) ≡ false = grind (arith, nat_tests, before, short) in
        let same : max (p + 1) r.start ≡ max p r.start = omega (arith, before) in
        ap (λ t. stepped t p (clip (p + 1) (r ∷ rs))) none
        ∙ ap (λ t. if t then clip (p + 1) rs else block (max (p + 1) r.start) r.end ∷ map block_of rs) more
        ∙ ap (λ (k : ℕ). block k r.end ∷ map block_of rs) same ∙ sym here

-- the blocks of cells are the ranges that have arrived, from their first position on
cell_step : (b : Bool) (p x : ℕ) (cells : List (Option ℕ)) →
    blocks_from p ((if b then Some x else None) ∷ cells) ≡ stepped b p (blocks_from (p + 1) cells)
cell_step true p x cells = refl
cell_step false p x cells = refl

cells_are : (base i : ℕ) (rs : List Range) (xs : List ℕ) → AreSeparate 0 rs → ((q : ℕ) → base + i + length xs ≤ q → covered rs q ≡ false) →
    blocks_from (base + i) (cells_from (has_arrived base rs) i xs) ≡ clip (base + i) rs
cells_are base i rs [] s none = sym (clip_ended (base + i) rs (λ q l. none q (omega (arith, l))) 0 s)
cells_are base i rs (x ∷ xs) s none =
    let n : base + i + 1 ≡ base + (i + 1) = omega arith in
    let rest = cells_are base (i + 1) rs xs s (λ q l. none q (omega (arith, l))) in
    cell_step (covered rs (base + i)) (base + i) x (cells_from (has_arrived base rs) (i + 1) xs)
    ∙ ap (λ (k : ℕ). stepped (covered rs (base + i)) (base + i) (blocks_from k (cells_from (has_arrived base rs) (i + 1) xs))) n
    ∙ ap (stepped (covered rs (base + i)) (base + i)) rest
    ∙ ap (λ (k : ℕ). stepped (covered rs (base + i)) (base + i) (clip k rs)) (sym n) ∙ step (base + i) rs 0 s

-- those beyond what is expected are the ranges after the first one
clip_beyond : (base room e : ℕ) (rs : List Range) → IsArrived base room rs → front rs ≤ e → beyond e (clip base rs) ≡ beyond e (after_first rs)
clip_beyond base room e [] h far = refl
clip_beyond base room e (r ∷ rs) h far = by (r.start == 0) refl h.in_first far where
  begun : 1 ≤ base
  begun = h.begun

  by : (t : Bool) → (r.start == 0) ≡ t → base ≤ cond t r.end 0 → cond t r.end 0 ≤ e → beyond e (clip base (r ∷ rs)) ≡ beyond e (map block_of rs)
  by true z low high = whole (nat_le r.end base) refl where
    whole : (t : Bool) → nat_le r.end base ≡ t → beyond e (clip base (r ∷ rs)) ≡ beyond e (map block_of rs)
    whole true f =
        let rest = later (r.end + 1) base rs (omega (arith, low)) h.separate.2 in
        ap (λ t. beyond e (if t then clip base rs else block (max base r.start) r.end ∷ map block_of rs)) f
        ∙ ap (beyond e) (clip_later base rs rest)
    whole false f =
        let zero_start : r.start ≡ 0 = grind (arith, nat_tests, z) in
        let none : nat_lt e (max base r.start) ≡ false = grind (arith, nat_tests, zero_start, low, high) in
        ap (λ t. beyond e (if t then clip base rs else block (max base r.start) r.end ∷ map block_of rs)) f
        ∙ ap (λ t. if t then block (max base r.start) r.end ∷ beyond e (map block_of rs) else beyond e (map block_of rs)) none
  by false z low high = absurd (omega (arith, low, begun))

expected_far : (r : Receiver) → next r ≤ expected r
expected_far r = omega arith

pub blocks_are : RingsStand → (latest base : ℕ) (items : List ℕ) (start room : ℕ) (rs : List Range) (stop : Option ℕ) (e : ℕ) →
    IsArrived base room rs → start ≤ room → length items ≡ room + room → length rs ≤ 4 →
    e ≡ expected (receiver_of base items start room rs stop) →
    blocks_in (newest_first latest (part_beyond e rs 3) (part_beyond e rs 2) (part_beyond e rs 1))
    ≡ told latest (receiver_of base items start room rs stop)
blocks_are law latest base items start room rs stop e h low all few is =
    ordered latest (part_beyond e rs 3) (part_beyond e rs 2) (part_beyond e rs 1) ∙ ap moved (parts e rs few ∙ ap reverse (sym same)) where
      moved : List Block → List Block
      moved bs = containing latest bs ++ others latest bs

      xs : List ℕ
      xs = take room (drop start items)

      len : length xs ≡ room
      len = window_len room start items low all

      far : front rs ≤ e
      far =
          let n = next_of law base items start room rs stop h low all in
          let f = expected_far (receiver_of base items start room rs stop) in
          omega (arith, n, f, is)

      zero_more : base + 0 ≡ base
      zero_more = omega arith

      cells : blocks_from base (cells_of (has_arrived base rs) xs) ≡ clip base rs
      cells =
          ap (λ (k : ℕ). blocks_from k (cells_of (has_arrived base rs) xs)) (sym zero_more)
          ∙ cells_are base 0 rs xs h.separate (λ q l. h.within q (omega (arith, l, len))) ∙ ap (λ (k : ℕ). clip k rs) zero_more

      same : beyond (expected (receiver_of base items start room rs stop)) (blocks_from base (cells_of (has_arrived base rs) xs))
          ≡ beyond e (after_first rs)
      same =
          ap (λ (k : ℕ). beyond k (blocks_from base (cells_of (has_arrived base rs) xs))) (sym is)
          ∙ ap (beyond e) cells ∙ clip_beyond base room e rs h far

-- three places on the wire
pub on_wire_all : (initial : ℕ) (c b a : Option Range) →
    filter_map (λ (x : Option SackBlock). x) (on_wire initial c ∷ on_wire initial b ∷ on_wire initial a ∷ [])
    ≡ map (block_on_wire initial) (blocks_in (c ∷ b ∷ a ∷ []))
on_wire_all initial None None None = refl
on_wire_all initial None None (Some a) = refl
on_wire_all initial None (Some b) None = refl
on_wire_all initial None (Some b) (Some a) = refl
on_wire_all initial (Some c) None None = refl
on_wire_all initial (Some c) None (Some a) = refl
on_wire_all initial (Some c) (Some b) None = refl
on_wire_all initial (Some c) (Some b) (Some a) = refl
