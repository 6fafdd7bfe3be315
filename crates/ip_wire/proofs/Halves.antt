-- The octets of a number of 128 bits, by its halves.
use Rattle.std.proofs.Common.{◌≡◌, ℕ, zero, suc, ◌/◌, ◌%◌, ◌<◌, ◌^◌, ◌++◌, get_or, refl, arith}
use Rattle.std.proofs.lemmas.Nat.{le_bytes_8}
use Rattle.std.specs.Int.{w64, w128, swap_bytes, to_be_bytes, to_le_bytes}

pub halves : (n : ℕ) → n < 2 ^ 128 → to_be_bytes w64 (n / 2 ^ 64) ++ to_be_bytes w64 (n % 2 ^ 64) ≡ to_be_bytes w128 n
halves n lt =
    let h0 : n / 2 ^ 64 / 2 ^ 56 % 256 ≡ n / 2 ^ 120 % 256 = omega arith in
    let h1 : n / 2 ^ 64 / 2 ^ 48 % 256 ≡ n / 2 ^ 112 % 256 = omega arith in
    let h2 : n / 2 ^ 64 / 2 ^ 40 % 256 ≡ n / 2 ^ 104 % 256 = omega arith in
    let h3 : n / 2 ^ 64 / 2 ^ 32 % 256 ≡ n / 2 ^ 96 % 256 = omega arith in
    let h4 : n / 2 ^ 64 / 2 ^ 24 % 256 ≡ n / 2 ^ 88 % 256 = omega arith in
    let h5 : n / 2 ^ 64 / 2 ^ 16 % 256 ≡ n / 2 ^ 80 % 256 = omega arith in
    let h6 : n / 2 ^ 64 / 2 ^ 8 % 256 ≡ n / 2 ^ 72 % 256 = omega arith in
    let l0 : n % 2 ^ 64 / 2 ^ 56 % 256 ≡ n / 2 ^ 56 % 256 = omega arith in
    let l1 : n % 2 ^ 64 / 2 ^ 48 % 256 ≡ n / 2 ^ 48 % 256 = omega arith in
    let l2 : n % 2 ^ 64 / 2 ^ 40 % 256 ≡ n / 2 ^ 40 % 256 = omega arith in
    let l3 : n % 2 ^ 64 / 2 ^ 32 % 256 ≡ n / 2 ^ 32 % 256 = omega arith in
    let l4 : n % 2 ^ 64 / 2 ^ 24 % 256 ≡ n / 2 ^ 24 % 256 = omega arith in
    let l5 : n % 2 ^ 64 / 2 ^ 16 % 256 ≡ n / 2 ^ 16 % 256 = omega arith in
    let l6 : n % 2 ^ 64 / 2 ^ 8 % 256 ≡ n / 2 ^ 8 % 256 = omega arith in
    let l7 : n % 2 ^ 64 % 256 ≡ n % 256 = omega arith in
    rw (h0, h1, h2, h3, h4, h5, h6, l0, l1, l2, l3, l4, l5, l6, l7) refl

-- the octets of a number, low first, of one that is swapped
each_small : (n i : ℕ) → get_or (to_be_bytes w64 n) i 0 < 256
each_small n zero = omega arith
each_small n (suc zero) = omega arith
each_small n (suc (suc zero)) = omega arith
each_small n (suc (suc (suc zero))) = omega arith
each_small n (suc (suc (suc (suc zero)))) = omega arith
each_small n (suc (suc (suc (suc (suc zero))))) = omega arith
each_small n (suc (suc (suc (suc (suc (suc zero)))))) = omega arith
each_small n (suc (suc (suc (suc (suc (suc (suc zero))))))) = omega arith
each_small n (suc (suc (suc (suc (suc (suc (suc (suc i)))))))) = omega arith

pub swapped : (n : ℕ) → to_le_bytes w64 (swap_bytes w64 n) ≡ to_be_bytes w64 n
swapped n = le_bytes_8 (to_be_bytes w64 n) (swap_bytes w64 n) refl (each_small n) (omega arith)
