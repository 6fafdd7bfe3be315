-- Positions that have arrived, and the octets in order.
use Rattle.std.proofs.Common.{◌≡◌, ◌+◌, ◌-◌, ◌≤◌, ◌<◌, ℕ, suc, Bool, true, false, List, [], ◌∷◌, length, take, drop, refl, ap, ◌∙◌, arith}
use Rattle.std.proofs.Common.{Option, Some, None, Result, Ok, Err}
use Rattle.std.specs.Prelude.{nat_le, nat_lt, ◌==◌, ◌&&◌, ◌||◌, cond, replicate, if◌then◌else◌, IsErr, OnOk, ◌↔◌}
use Rattle.std.proofs.lemmas.Bool.Decides.{nat_tests}
use Rattle.std.proofs.lemmas.List.{length-take-le, length-drop, take-take}
use Rattle.net_base.specs.declared.assembler.Range.{Range}
use Rattle.net_base.specs.Ranges.{AreSeparate, covered, front}
use Rattle.tcp_machine.specs.Details.Ring.{cells_from, cells_of, RingsStand}
use Rattle.tcp_machine.specs.Receiving.{in_order, next, edge, open_receiver}
use Rattle.tcp_connection.specs.Details.Arrived.{syn, has_arrived, IsArrived, receiver_of}

-- what is below the first range hasn't arrived
pub below : (from p : ℕ) (rs : List Range) → AreSeparate from rs → p < from → covered rs p ≡ false
below from p [] s l = refl
below from p (r ∷ rs) s l =
    let rest = below (r.end + 1) p rs s.2 (let a = s.0 in let b = s.1 in omega (arith, l, a, b)) in
    let first : nat_le r.start p ≡ false = let a = s.0 in grind (arith, nat_tests, l, a) in
    ap (λ b. (b && nat_lt p r.end) || covered rs p) first ∙ rest

-- what is before the front has arrived, and the front hasn't
pub before_front : (rs : List Range) (p : ℕ) → p < front rs → covered rs p ≡ true
before_front [] p l = absurd (omega (arith, l))
before_front (r ∷ rs) p l = by (r.start == 0) refl l where
  by : (b : Bool) → (r.start == 0) ≡ b → p < cond b r.end 0 → covered (r ∷ rs) p ≡ true
  by true e k =
      let a : nat_le r.start p ≡ true = grind (arith, nat_tests, e) in
      let b : nat_lt p r.end ≡ true = grind (arith, nat_tests, k) in
      ap (λ t. (t && nat_lt p r.end) || covered rs p) a ∙ ap (λ t. t || covered rs p) b
  by false e k = absurd (omega (arith, k))

pub at_front : (rs : List Range) → AreSeparate 0 rs → covered rs (front rs) ≡ false
at_front [] s = refl
at_front (r ∷ rs) s = by (r.start == 0) refl where
  by : (b : Bool) → (r.start == 0) ≡ b → covered (r ∷ rs) (cond b r.end 0) ≡ false
  by true e =
      let rest = below (r.end + 1) r.end rs s.2 (omega arith) in
      let a : nat_lt r.end r.end ≡ false = grind (arith, nat_tests) in
      let b : nat_le r.start r.end ≡ true = let c = s.1 in grind (arith, nat_tests, c) in
      ap (λ t. (t && nat_lt r.end r.end) || covered rs r.end) b ∙ ap (λ t. t || covered rs r.end) a ∙ rest
  by false e =
      let rest = below (r.end + 1) 0 rs s.2 (omega arith) in
      let a : nat_le r.start 0 ≡ false = grind (arith, nat_tests, e) in
      ap (λ t. (t && nat_lt 0 r.end) || covered rs 0) a ∙ rest

-- the front is within the room
pub front_within : (base room : ℕ) (rs : List Range) → IsArrived base room rs → front rs ≤ base + room
front_within base room rs h = by (nat_le (front rs) (base + room)) refl where
  by : (b : Bool) → nat_le (front rs) (base + room) ≡ b → front rs ≤ base + room
  by true e = grind (arith, nat_tests, e)
  by false e =
      let beyond : base + room < front rs = grind (arith, nat_tests, e) in
      let yes = before_front rs (base + room) beyond in
      let no = h.within (base + room) (omega arith) in
      absurd cc

-- the octets in order are those before the front
pub in_order_is : RingsStand → (base room : ℕ) (rs : List Range) (octets : List ℕ) → IsArrived base room rs → length octets ≡ room →
    in_order (cells_of (has_arrived base rs) octets) ≡ take (front rs - base) octets
in_order_is law base room rs octets h same =
    let within = front_within base room rs h in
    let low = h.in_first in
    law.front (has_arrived base rs) octets (front rs - base) (record {
      short = omega (arith, within, low, same);
      below = λ k l. before_front rs (base + k) (omega (arith, l, low));
      at = λ l. (let e : base + (front rs - base) ≡ front rs = omega (arith, low) in ap (covered rs) e ∙ at_front rs h.separate);
    })

pub next_is : RingsStand → (base room : ℕ) (rs : List Range) (octets : List ℕ) → IsArrived base room rs → length octets ≡ room →
    base + length (in_order (cells_of (has_arrived base rs) octets)) ≡ front rs
next_is law base room rs octets h same =
    let within = front_within base room rs h in
    let low = h.in_first in
    let long = length-take-le (front rs - base) octets (omega (arith, within, low, same)) in
    let len = ap length (in_order_is law base room rs octets h same) ∙ long in
    omega (arith, len, low)

-- at first SYN alone has arrived
pub syn_alone : (p : ℕ) → 1 ≤ p → covered syn p ≡ false
syn_alone p l = let e : nat_lt p 1 ≡ false = grind (arith, nat_tests, l) in ap (λ b. (nat_le 0 p && b) || false) e ∙ by (nat_le 0 p) where
  by : (b : Bool) → (b && false) || false ≡ false
  by true = refl
  by false = refl

pub syn_arrived : (room : ℕ) → IsArrived 1 room syn
syn_arrived room = record {
  separate = (omega arith, omega arith, tt);
  begun = omega arith;
  in_first = omega arith;
  within = λ p l. syn_alone p (omega (arith, l));
}

no_cells : (held : ℕ → Bool) (i : ℕ) (octets : List ℕ) → ((k : ℕ) → held k ≡ false) → cells_from held i octets ≡ replicate (length octets) None
no_cells held i [] e = refl
no_cells held i (x ∷ octets) e =
    ap (λ (b : Bool). (if b then Some x else None) ∷ cells_from held (i + 1) octets) (e i)
    ∙ ap (λ (cs : List (Option ℕ)). None ∷ cs) (no_cells held (i + 1) octets e)

pub no_cells_of : (room : ℕ) (octets : List ℕ) → length octets ≡ room → cells_of (has_arrived 1 syn) octets ≡ replicate room None
no_cells_of room octets same =
    no_cells (has_arrived 1 syn) 0 octets (λ k. syn_alone (1 + k) (omega arith)) ∙ ap (λ (n : ℕ). replicate n None) same

-- the octets for which there is room
pub window_len : (room start : ℕ) (items : List ℕ) → start ≤ room → length items ≡ room + room → length (take room (drop start items)) ≡ room
window_len room start items low all =
    let left = length-drop start items in length-take-le room (drop start items) (omega (arith, left, low, all))

-- the position after the octets in order, and its bounds
pub next_of : RingsStand → (base : ℕ) (items : List ℕ) (start room : ℕ) (rs : List Range) (stop : Option ℕ) → IsArrived base room rs →
    start ≤ room → length items ≡ room + room → next (receiver_of base items start room rs stop) ≡ front rs
next_of law base items start room rs stop h low all =
    let n = next_is law base room rs (take room (drop start items)) h (window_len room start items low all) in omega (arith, n)

length-cells_from : (held : ℕ → Bool) (i : ℕ) (octets : List ℕ) → length (cells_from held i octets) ≡ length octets
length-cells_from held i [] = refl
length-cells_from held i (x ∷ octets) = ap suc (length-cells_from held (i + 1) octets)

pub edge_of : (base : ℕ) (items : List ℕ) (start room : ℕ) (rs : List Range) (stop : Option ℕ) → start ≤ room → length items ≡ room + room →
    edge (receiver_of base items start room rs stop) ≡ base + room
edge_of base items start room rs stop low all =
    let n = length-cells_from (has_arrived base rs) 0 (take room (drop start items)) ∙ window_len room start items low all in omega (arith, n)

pub opened_is : (items : List ℕ) (room : ℕ) → length items ≡ room + room → receiver_of 1 items 0 room syn None ≡ open_receiver room
opened_is items room all =
    ap (λ (cs : List (Option ℕ)). record { base = 1; cells = cs; stop = None })
    (no_cells_of room (take room (drop 0 items)) (window_len room 0 items (omega arith) all))

pub room_of : (base : ℕ) (items : List ℕ) (start room : ℕ) (rs : List Range) (stop : Option ℕ) → start ≤ room → length items ≡ room + room →
    length (receiver_of base items start room rs stop).cells ≡ room
room_of base items start room rs stop low all =
    length-cells_from (has_arrived base rs) 0 (take room (drop start items)) ∙ window_len room start items low all

-- what may be base
pub readable_of : RingsStand → (base : ℕ) (items : List ℕ) (start room : ℕ) (rs : List Range) (stop : Option ℕ) → IsArrived base room rs →
    start ≤ room → length items ≡ room + room →
    in_order (receiver_of base items start room rs stop).cells ≡ take (front rs - base) (drop start items)
readable_of law base items start room rs stop h low all =
    let within = front_within base room rs h in
    in_order_is law base room rs (take room (drop start items)) h (window_len room start items low all)
    ∙ take-take (front rs - base) room (drop start items) (omega (arith, within))
