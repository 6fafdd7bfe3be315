-- Pieces of what is held.
use Rattle.std.proofs.Common.{◌≡◌, ◌+◌, ◌-◌, ◌≤◌, ◌<◌, ℕ, List, length, take, drop, min, refl, ap, ◌∙◌, sym, arith, Bool, true, false, Option, Some, None}
use Rattle.std.specs.Prelude.{nat_le}
use Rattle.std.proofs.lemmas.Bool.Decides.{nat_tests}
use Rattle.tcp_machine.specs.Sending.{Sender}
use Rattle.tcp_machine.specs.Receiving.{is_at}
use Rattle.tcp_machine.specs.Outgoing.{octets_from}
use Rattle.tcp_connection.specs.declared.transmission.Part.{Part}
use Rattle.tcp_connection.specs.Pieces.{IsPieceOf}
use Rattle.tcp_connection.specs.Details.Bounds.{last, last_for, IsWithin, after_part}
use Rattle.std.proofs.lemmas.List.{length-drop, length-take, drop-take, take_min, drop_min}

-- how many octets there are from an offset on, so many at most
pub part_len : (xs : List ℕ) (offset most : ℕ) → length (take most (drop offset xs)) ≡ min most (length xs - min offset (length xs))
part_len xs offset most =
    let left : length (drop offset xs) ≡ length xs - min offset (length xs) = length-drop offset xs ∙ omega arith in
    length-take most (drop offset xs) ∙ ap (λ (n : ℕ). min most n) left

-- and which these are
pub part_is : (xs : List ℕ) (offset most : ℕ) →
    drop (min offset (length xs)) (take (min offset (length xs) + min most (length xs - min offset (length xs))) xs)
    ≡ take most (drop offset xs)
part_is xs offset most =
    let at = min offset (length xs) in
    let left : length (drop at xs) ≡ length xs - at = length-drop at xs in
    drop-take at (min most (length xs - at)) xs
    ∙ ap (λ (n : ℕ). take (min most n) (drop at xs)) (sym left)
    ∙ take_min most (drop at xs)
    ∙ ap (λ (l : List ℕ). take most l) (drop_min offset xs)

-- a piece of what is held, after all that was sent or before, ends where what may be sent ends
pub part_within : (s : Sender) (start len : ℕ) (ends : Bool) → IsWithin s → start ≤ s.top → len ≤ length s.ring - (start - s.una) →
    (ends ≡ true → s.stop ≡ Some (start + len)) → after_part start len ends ≤ last s
part_within s start len ends h sent few at = by s.stop ends h.unacknowledged h.sent at where
  by : (stop : Option ℕ) (ends : Bool) → s.una + length s.ring ≤ last_for stop (s.una + length s.ring) → s.top ≤ last_for stop (s.una + length s.ring) →
      (ends ≡ true → stop ≡ Some (start + len)) → after_part start len ends ≤ last_for stop (s.una + length s.ring)
  by stop false a b e = within (nat_le s.una start) refl where
    within : (t : Bool) → nat_le s.una start ≡ t → start + len + 0 ≤ last_for stop (s.una + length s.ring)
    within true t = let l : s.una ≤ start = grind (arith, nat_tests, t) in omega (arith, a, b, few, sent, l)
    within false t = let l : start < s.una = grind (arith, nat_tests, t) in omega (arith, a, b, few, sent, l)
  by None true a b e = absurd (let n = e refl in cc)
  by (Some end) true a b e = let n : end ≡ start + len = grind (arith, e refl) in omega (arith, n)

is_at_some : (stop : Option ℕ) (p : ℕ) → is_at stop p ≡ true → stop ≡ Some p
is_at_some None p e = absurd cc
is_at_some (Some q) p e = let n : q ≡ p = grind (arith, nat_tests, e) in ap Some n

pub piece_within : (part : Part) (s : Sender) → IsWithin s → part.start ≤ s.top → IsPieceOf part s → after_part part.start part.len part.ends ≤ last s
piece_within part s h sent e =
    let n = ap (λ (q : Part). q.len) e.is in
    let t = ap (λ (q : Part). q.ends) e.is in
    let few : length (octets_from part.start e.most s) ≤ length s.ring - (part.start - s.una) =
    (let k = part_len s.ring (part.start - s.una) e.most in omega (arith, k)) in
    part_within s part.start part.len part.ends h sent (omega (arith, n, few)) (λ y.
    is_at_some s.stop (part.start + length (octets_from part.start e.most s)) (sym t ∙ y)
    ∙ ap (λ (k : ℕ). Some (part.start + k)) (sym n))
