-- Octets that are held, and the blocks that tell them.
use Rattle.std.proofs.Common.{◌≡◌, ◌≤◌, ◌<◌, ◌+◌, ◌-◌, ℕ, zero, suc, Bool, true, false, List, [], ◌∷◌, drop, refl, ap, ◌∙◌, arith}
use Rattle.std.proofs.Common.{Option, Some, None, slice_get, inl, inr}
use Rattle.std.specs.Prelude.{map, reverse, replicate, nat_lt, ◌==◌, if◌then◌else◌}
use Rattle.std.specs.List.{All}
use mathlib.Core.List.{reverse_aux}
use Rattle.std.proofs.lemmas.Bool.Decides.{nat_tests}
use Rattle.std.proofs.lemmas.List.Elements.{All-nil, All-cons, All-head, All-tail, All-append, All-weaker}
use Rattle.tcp_machine.specs.declared.sack.SackBlock.{SackBlock}
use Rattle.tcp_machine.specs.Positions.{number_at}
use Rattle.tcp_machine.specs.Pieces.{Piece}
use Rattle.tcp_machine.specs.Receiving.{Receiver, filled, expected, first_new, with_piece, after_read}
use Rattle.tcp_machine.specs.Sack.{Block, block, with_octet, blocks_from, beyond, contains, containing, others, blocks_of}
use Rattle.tcp_machine.specs.Connection.{Reception}
use Rattle.tcp_machine.specs.Outgoing.{block_on_wire, blocks_told}
use Rattle.tcp_laws.proofs.Lists.{get_drop, get_append}
use Rattle.tcp_laws.proofs.MachineStands.{IsHeld, BlockStands}

-- a cell that has an octet has one after others arrived
has_filled : (place : ℕ) (octets : List ℕ) (cells : List (Option ℕ)) (i x : ℕ) → slice_get cells i ≡ Some (Some x) →
    (y : ℕ) × (slice_get (filled place octets cells) i ≡ Some (Some y))
has_filled zero octets [] i x h = (x, h)
has_filled (suc place) octets [] i x h = (x, h)
has_filled (suc place) octets (c ∷ cells) zero x h = (x, h)
has_filled (suc place) octets (c ∷ cells) (suc i) x h = has_filled place octets cells i x h
has_filled zero [] (c ∷ cells) i x h = (x, h)
has_filled zero (y ∷ octets) (c ∷ cells) zero x h = (y, refl)
has_filled zero (y ∷ octets) (c ∷ cells) (suc i) x h = has_filled zero octets cells i x h

pub held_taken : (r : Receiver) (p : Piece) (q : ℕ) → IsHeld r q → IsHeld (with_piece p r) q
held_taken r p q (inl low) = inl low
held_taken r p q (inr h) =
    let f = has_filled (first_new p r - r.base) (drop (first_new p r - p.start) p.octets) r.cells h.0 h.1 h.3 in
    inr (h.0, f.0, h.2, f.1)

-- and after some were read
pub held_read : (r : Receiver) (n q : ℕ) → IsHeld r q → IsHeld (after_read n r) q
held_read r n q (inl low) = inl (omega (arith, low))
held_read r n q (inr h) = by (nat_lt q (r.base + n)) refl where
  by : (b : Bool) → nat_lt q (r.base + n) ≡ b → IsHeld (after_read n r) q
  by true e = inl (grind (arith, nat_tests, e))
  by false e =
      let far : r.base + n ≤ q = grind (arith, nat_tests, e) in
      let at = h.2 in
      let place : n + (h.0 - n) ≡ h.0 = omega (arith, far, at) in
      let same : r.base + n + (h.0 - n) ≡ q = omega (arith, far, at) in
      inr (
        h.0 - n,
        h.1,
        same,
        get_append (drop n r.cells) (replicate n None) (h.0 - n) (Some h.1)
            (get_drop n r.cells (h.0 - n) ∙ ap (slice_get r.cells) place ∙ h.3),
      )

-- the blocks of cells: all of their octets are held
pub record IsRun (p : ℕ) (cells : List (Option ℕ)) (b : Block) : Type 0 where
  pub from : p ≤ b.left
  pub some : b.left < b.right
  pub held : (q : ℕ) → b.left ≤ q → q < b.right → (i : ℕ) × (x : ℕ) × (p + i ≡ q) × (slice_get cells i ≡ Some (Some x))

shifted : (p : ℕ) (c : Option ℕ) (cells : List (Option ℕ)) (b : Block) → IsRun (p + 1) cells b → IsRun p (c ∷ cells) b
shifted p c cells b h = record {
  from = let f = h.from in omega (arith, f);
  some = h.some;
  held = λ q low high. let t = h.held q low high in let e = t.2 in (suc t.0, t.1, omega (arith, e), t.3);
}

alone : (p x : ℕ) (cells : List (Option ℕ)) → IsRun p (Some x ∷ cells) (block p (p + 1))
alone p x cells = record {
  from = omega arith;
  some = omega arith;
  held = λ q low high. (zero, x, omega (arith, low, high), refl);
}

longer : (p x : ℕ) (cells : List (Option ℕ)) (b : Block) → b.left ≡ p + 1 → IsRun (p + 1) cells b → IsRun p (Some x ∷ cells) (block p b.right)
longer p x cells b e h = record {
  from = omega arith;
  some = let s = h.some in omega (arith, s, e);
  held = λ q low high. by q low high (q == p) refl;
} where
  by : (q : ℕ) → p ≤ q → q < b.right → (t : Bool) → (q == p) ≡ t →
      (i : ℕ) × (y : ℕ) × (p + i ≡ q) × (slice_get (Some x ∷ cells) i ≡ Some (Some y))
  by q low high true f = (zero, x, grind (arith, nat_tests, f), refl)
  by q low high false f =
      let after : b.left ≤ q = grind (arith, nat_tests, f, low, e) in
      (shifted p (Some x) cells b h).held q after high

runs : (p : ℕ) (cells : List (Option ℕ)) → All (IsRun p cells) (blocks_from p cells)
runs p [] = All-nil (IsRun p [])
runs p (None ∷ cells) =
    All-weaker (IsRun (p + 1) cells) (IsRun p (None ∷ cells)) (shifted p None cells) (blocks_from (p + 1) cells) (runs (p + 1) cells)
runs p (Some x ∷ cells) = joined (blocks_from (p + 1) cells) (runs (p + 1) cells) where
  joined : (bs : List Block) → All (IsRun (p + 1) cells) bs → All (IsRun p (Some x ∷ cells)) (with_octet p bs)
  joined [] h = All-cons (IsRun p (Some x ∷ cells)) (block p (p + 1)) [] (alone p x cells) (All-nil (IsRun p (Some x ∷ cells)))
  joined (b ∷ bs) h = by (b.left == p + 1) refl where
    rest : All (IsRun p (Some x ∷ cells)) bs
    rest = All-weaker (IsRun (p + 1) cells) (IsRun p (Some x ∷ cells)) (shifted p (Some x) cells) bs (All-tail (IsRun (p + 1) cells) b bs h)

    first : IsRun (p + 1) cells b
    first = All-head (IsRun (p + 1) cells) b bs h

    by : (t : Bool) → (b.left == p + 1) ≡ t → All (IsRun p (Some x ∷ cells)) (if t then block p b.right ∷ bs else block p (p + 1) ∷ b ∷ bs)
    by true e =
        let same : b.left ≡ p + 1 = grind (arith, nat_tests, e) in
        All-cons (IsRun p (Some x ∷ cells)) (block p b.right) bs (longer p x cells b same first) rest
    by false e =
        All-cons (IsRun p (Some x ∷ cells)) (block p (p + 1)) (b ∷ bs) (alone p x cells)
        (All-cons (IsRun p (Some x ∷ cells)) b bs (shifted p (Some x) cells b first) rest)

-- those beyond what is expected
beyond_stand : (r : Receiver) (e : ℕ) (bs : List Block) → All (IsRun r.base r.cells) bs → All (BlockStands r e) (beyond e bs)
beyond_stand r e [] h = All-nil (BlockStands r e)
beyond_stand r e (b ∷ bs) h = by (beyond_stand r e bs (All-tail (IsRun r.base r.cells) b bs h)) (nat_lt e b.left) refl where
  run : IsRun r.base r.cells b
  run = All-head (IsRun r.base r.cells) b bs h

  by : All (BlockStands r e) (beyond e bs) → (t : Bool) → nat_lt e b.left ≡ t → All (BlockStands r e) (if t then b ∷ beyond e bs else beyond e bs)
  by rest true f =
      All-cons (BlockStands r e) b (beyond e bs)
      (record { some = run.some; beyond = grind (arith, nat_tests, f); held = λ q low high. inr (run.held q low high) }) rest
  by rest false f = rest

-- in another order
module _ (P : Block → Type 0) where
  aux : (bs rest : List Block) → All P bs → All P rest → All P (reverse_aux bs rest)
  aux [] rest h k = k
  aux (b ∷ bs) rest h k = aux bs (b ∷ rest) (All-tail P b bs h) (All-cons P b rest (All-head P b bs h) k)

  back : (bs : List Block) → All P bs → All P (reverse bs)
  back bs h = aux bs [] h (All-nil P)

  first_stand : (p : ℕ) (bs : List Block) → All P bs → All P (containing p bs)
  first_stand p [] h = h
  first_stand p (b ∷ bs) h = by (first_stand p bs (All-tail P b bs h)) (contains b p) where
    by : All P (containing p bs) → (t : Bool) → All P (if t then b ∷ [] else containing p bs)
    by rest true = All-cons P b [] (All-head P b bs h) (All-nil P)
    by rest false = rest

  others_stand : (p : ℕ) (bs : List Block) → All P bs → All P (others p bs)
  others_stand p [] h = h
  others_stand p (b ∷ bs) h = by (others_stand p bs (All-tail P b bs h)) (contains b p) where
    by : All P (others p bs) → (t : Bool) → All P (if t then bs else b ∷ others p bs)
    by rest true = All-tail P b bs h
    by rest false = All-cons P b (others p bs) (All-head P b bs h) rest

blocks_stand : (latest : ℕ) (r : Receiver) → All (BlockStands r (expected r)) (blocks_of latest r)
blocks_stand latest r =
    let P = BlockStands r (expected r) in
    let bs = reverse (beyond (expected r) (blocks_from r.base r.cells)) in
    let h = back P (beyond (expected r) (blocks_from r.base r.cells)) (beyond_stand r (expected r) (blocks_from r.base r.cells) (runs r.base r.cells)) in
    All-append P (containing latest bs) (others latest bs) (first_stand P latest bs h) (others_stand P latest bs h)

-- what an acknowledgement tells
pub told_stand : (r : Reception) → All (BlockStands r.receiver (expected r.receiver)) (blocks_told r)
told_stand r = by r.sack_permitted where
  by : (b : Bool) → All (BlockStands r.receiver (expected r.receiver)) (if b then blocks_of r.latest r.receiver else [])
  by true = blocks_stand r.latest r.receiver
  by false = All-nil (BlockStands r.receiver (expected r.receiver))

-- by the peer's initial number
pub numbers_again : (j : ℕ) (bs : List Block) → map (block_on_wire (number_at j 0)) bs
    ≡ map (λ (b : Block). record { left = number_at j b.left; right = number_at j b.right }) bs
numbers_again j [] = refl
numbers_again j (b ∷ bs) =
    let left : number_at (number_at j 0) b.left ≡ number_at j b.left = omega arith in
    let right : number_at (number_at j 0) b.right ≡ number_at j b.right = omega arith in
    ap (λ (n : ℕ). record { left = n; right = number_at (number_at j 0) b.right } ∷ map (block_on_wire (number_at j 0)) bs) left
    ∙ ap (λ (n : ℕ). record { left = number_at j b.left; right = n } ∷ map (block_on_wire (number_at j 0)) bs) right
    ∙ ap (λ (xs : List SackBlock). record { left = number_at j b.left; right = number_at j b.right } ∷ xs) (numbers_again j bs)
