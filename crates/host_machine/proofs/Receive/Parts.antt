-- A piece of two or more is a part.
use Rattle.std.proofs.Common.{◌≡◌, ℕ, zero, suc, ◌+◌, ◌-◌, ◌*◌, ◌/◌, ◌<◌, ◌≤◌, [], ◌∷◌, ◌++◌}
use Rattle.std.proofs.Common.{length, refl, ◌∙◌, arith}
use Rattle.std.specs.Prelude.{Bool, true, false, not, nat_le, ◌⊎◌, ◌==◌, ◌||◌, if◌then◌else◌}
use Rattle.std.proofs.lemmas.Bool.Decides.{nat_tests}
use Rattle.std.proofs.lemmas.Nat.{mul-le}
use Rattle.ip_wire.specs.Ipv4Packet.{is_fragment}
use Rattle.fragmentation.specs.Fragments.{Fragment}
use Rattle.fragmentation.specs.Cuts.{Datagram, piece_at, piece_of, piece_fragment}
use Rattle.host_machine.proofs.Receive.Pieces.{IsPiece}

pub size_positive : (n : ℕ) → 576 ≤ n → 0 < (n - 20) / 8 * 8
size_positive n l = omega arith

-- a piece of two or more is a part
pub is_part : (y : ℕ) (d : Datagram) (f : Fragment) → d.size ≡ y * 8 → 0 < d.size → d.size < length d.payload → IsPiece d.size d.payload f →
    is_fragment (piece_fragment (piece_of d f)) ≡ true
is_part y d f size pos more piece = rw piece.is (by piece.number) where
  above : (a b : ℕ) → b < a → nat_le a b ≡ false
  above a b l = grind (arith, nat_tests)

  or_true : (b c : Bool) → c ≡ true → (b || c) ≡ true
  or_true true c e = refl
  or_true false c e = e

  positive : (n : ℕ) → 0 < n → not (n == 0) ≡ true
  positive n l = grind (arith, nat_tests)

  by : (k : ℕ) → is_fragment (piece_fragment (piece_of d (piece_at d.size d.payload k))) ≡ true
  by zero =
      let z : 0 * d.size + d.size ≡ d.size = omega arith in
      let last : nat_le (length d.payload) (0 * d.size + d.size) ≡ false = rw z (above (length d.payload) d.size more) in
      rw last refl
  by (suc k) =
      let l : 1 * d.size ≤ suc k * d.size = mul-le 1 d.size (suc k) d.size (omega arith) (omega arith) in
      let big : 8 ≤ suc k * d.size = omega arith in
      or_true (not (nat_le (length d.payload) (suc k * d.size + d.size))) (not (suc k * d.size / 8 == 0))
      (positive (suc k * d.size / 8) (omega arith))
