-- The first of the pieces that wait.
use Rattle.std.proofs.Common.{◌≡◌, ◌≢◌, ℕ, zero, suc, ◌+◌, ◌-◌, ◌*◌, ◌≤◌, ◌∙◌, sym, ap}
use Rattle.std.proofs.Common.{Bool, true, false, ◌/◌, List, [], ◌∷◌, length, take, drop, map, refl, arith}
use Rattle.std.proofs.lemmas.Bool.Decides.{nat_tests}
use Rattle.std.proofs.Math.Nat.{suc-mul}
use Rattle.std.proofs.lemmas.List.{drop-take, length-drop, length-take-le}
use Rattle.std.specs.Prelude.{nat_le, nat_lt, not, min}
use Rattle.std.specs.Prelude.{Some}
use Rattle.fragmentation.specs.Cuts.{Datagram, piece_of, pieces_from}
use Rattle.fragmentation.specs.Details.Pending.{IsNext, First}
use Rattle.fragmentation.specs.declared.fragmenter.NextPiece.{NextPiece}

take_fewer : (n m : ℕ) (xs : List ℕ) → n ≤ m → take n (take m xs) ≡ take n xs
take_fewer zero m xs few = refl
take_fewer (suc n) zero xs few = absurd (omega (arith, few))
take_fewer (suc n) (suc m) [] few = refl
take_fewer (suc n) (suc m) (x ∷ xs) few = ap (λ ys. x ∷ ys) (take_fewer n m xs (omega (arith, few)))

take_more : (n m : ℕ) (xs : List ℕ) → m ≤ n → take n (take m xs) ≡ take m xs
take_more zero zero xs more = refl
take_more zero (suc m) xs more = absurd (omega (arith, more))
take_more (suc n) zero xs more = refl
take_more (suc n) (suc m) [] more = refl
take_more (suc n) (suc m) (x ∷ xs) more = ap (λ ys. x ∷ ys) (take_more n m xs (omega (arith, more)))

after : (len a : ℕ) (buffer : List ℕ) → a ≤ len → drop a (take len buffer) ≡ take (len - a) (drop a buffer)
after len a buffer within = ap (λ n. drop a (take n buffer)) whole ∙ drop-take a (len - a) buffer where
  whole : len ≡ a + (len - a)
  whole = omega (arith, within)

-- a part of a buffer whose front is the payload: the octets of a piece
pub piece_octets : (len a size end : ℕ) (buffer : List ℕ) →
    a ≤ len → end ≡ min len (a + size) → take (end - a) (drop a buffer) ≡ take size (drop a (take len buffer))
piece_octets len a size end buffer within ends = by_end (nat_le len (a + size)) refl where
  by_end : (b : Bool) → nat_le len (a + size) ≡ b → take (end - a) (drop a buffer) ≡ take size (drop a (take len buffer))
  by_end true last = ap (λ n. take n (drop a buffer)) rest
      ∙ sym (ap (take size) (after len a buffer within) ∙ take_more size (len - a) (drop a buffer) (grind (arith, nat_tests))) where
        rest : end - a ≡ len - a
        rest = grind (arith, nat_tests)
  by_end false more = ap (λ n. take n (drop a buffer)) whole
      ∙ sym (ap (take size) (after len a buffer within) ∙ take_fewer size (len - a) (drop a buffer) (grind (arith, nat_tests))) where
        whole : end - a ≡ size
        whole = grind (arith, nat_tests)

-- how long a piece is, and whether more follow
piece_len : (len a size end : ℕ) (buffer : List ℕ) → a ≤ len → len ≤ length buffer → end ≡ min len (a + size) →
    end - a ≡ length (take size (drop a (take len buffer)))
piece_len len a size end buffer within room ends = sym (ap length (sym (piece_octets len a size end buffer within ends)) ∙ long) where
  long : length (take (end - a) (drop a buffer)) ≡ end - a
  long = length-take-le (end - a) (drop a buffer) (rw (length-drop a buffer) (grind (arith, nat_tests)))

more_follow : (len a size : ℕ) (buffer : List ℕ) → len ≤ length buffer → nat_lt (a + size) len ≡ not (nat_le (length (take len buffer)) (a + size))
more_follow len a size buffer room = rw (length-take-le len buffer room) (grind (arith, nat_tests))

-- piece k of what a buffer's front holds, if n pieces wait and n isn't 0
pub next_is : (d : Datagram) (len k n end : ℕ) (buffer : List ℕ) (shown : NextPiece) →
    n ≢ 0 → d.payload ≡ take len buffer → len ≤ length buffer → k * d.size ≤ len →
    end ≡ min len (k * d.size + d.size) → shown.destination ≡ d.destination → shown.header ≡ record d.header { payload_len = end - k * d.size } →
    shown.fragment ≡ record {
      identification = d.identification;
      dont_fragment = false;
      more_fragments = nat_lt (k * d.size + d.size) len;
      offset = k * d.size / 8;
    } →
    shown.octets.now ≡ take (end - k * d.size) (drop (k * d.size) buffer) → IsNext (map (piece_of d) (pieces_from d.size d.payload k n)) (Some shown)
next_is d len k zero end buffer shown some holds room within ends destination header fragment octets = absurd (some refl)
next_is d len k (suc n) end buffer shown some holds room within ends destination header fragment octets = First shown _ _ refl refl (record {
  destination = destination;
  header = header ∙ ap (λ l. record d.header { payload_len = l })
      (piece_len len (k * d.size) d.size end buffer within room ends ∙ ap (λ xs. length (take d.size (drop (k * d.size) xs))) (sym holds));
  fragment = fragment ∙ ap (λ b. record { identification = d.identification; dont_fragment = false; more_fragments = b; offset = k * d.size / 8 })
      (more_follow len (k * d.size) d.size buffer room ∙ ap (λ xs. not (nat_le (length xs) (k * d.size + d.size))) (sym holds));
  octets = octets ∙ piece_octets len (k * d.size) d.size end buffer within ends ∙ ap (λ xs. take d.size (drop (k * d.size) xs)) (sym holds);
})

-- where pieces wait, the next one begins within the payload
pub begins_within : (offset left size len : ℕ) → left ≢ 0 → offset + left * size ≤ len + size → offset ≤ len
begins_within offset zero size len some within = absurd (some refl)
begins_within offset (suc n) size len some within = omega (arith, suc-mul n size, within)
