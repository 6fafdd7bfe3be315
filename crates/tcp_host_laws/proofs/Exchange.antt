-- The acts of two lives so far, with the two exchanged.
use Rattle.std.proofs.Common.{◌≡◌, ◌∙◌, ℕ, List, [], ◌∷◌, Option, refl, ap}
use Rattle.tcp_laws.specs.Machines.{Act, Move, OfA, OfB, Pair, after_move}
use Rattle.tcp_host_laws.specs.Lives.{Life}
use Rattle.tcp_host_laws.specs.Pairs.{AreMovesAt, acts_of_a, acts_of_b, start_of}
use Rattle.tcp_host_laws.proofs.Progress.{Progress}

abbrev exchanged : List Move → List Move
exchanged [] = []
exchanged (OfA act ∷ ms) = OfB act ∷ exchanged ms
exchanged (OfB act ∷ ms) = OfA act ∷ exchanged ms

a_exchanged : (ms : List Move) → acts_of_a (exchanged ms) ≡ acts_of_b ms
a_exchanged [] = refl
a_exchanged (OfA act ∷ ms) = a_exchanged ms
a_exchanged (OfB act ∷ ms) = ap (λ (acts : List Act). act ∷ acts) (a_exchanged ms)

b_exchanged : (ms : List Move) → acts_of_b (exchanged ms) ≡ acts_of_a ms
b_exchanged [] = refl
b_exchanged (OfA act ∷ ms) = ap (λ (acts : List Act). act ∷ acts) (b_exchanged ms)
b_exchanged (OfB act ∷ ms) = b_exchanged ms

abbrev turned : Pair → Pair
turned p = record { a = p.b; b = p.a }

moves_exchanged : (i j : ℕ) (p : Pair) (ms : List Move) → AreMovesAt i j p ms → AreMovesAt j i (turned p) (exchanged ms)
moves_exchanged i j p [] are = tt
moves_exchanged i j p (OfA act ∷ ms) are = (are.0, moves_exchanged i j (after_move i j (OfA act) p) ms are.1)
moves_exchanged i j p (OfB act ∷ ms) are = (are.0, moves_exchanged i j (after_move i j (OfB act) p) ms are.1)

pub progress_exchanged : (x y : Life) (a b : Option Life) → Progress x y a b → Progress y x b a
progress_exchanged x y a b p = record {
  moves = exchanged p.moves;
  of_x = a_exchanged p.moves ∙ p.of_y;
  of_y = b_exchanged p.moves ∙ p.of_x;
  may = moves_exchanged x.number y.number (start_of x y) p.moves p.may;
}
