-- Windows that are scaled.
use Rattle.std.proofs.Common.{◌≡◌, ◌*◌, ◌%◌, ◌≤◌, ◌<◌, ◌^◌, ℕ, arith}
use Rattle.std.proofs.Math.Nat.{mul-le-mul_right, pow-le-pow_right, mod-eq_of_lt}

-- a window of 16 bits, scaled by at most 14, has less than 2^30 octets
pub scaled_bounded : (window scale : ℕ) → window < 2 ^ 16 → scale ≤ 14 → window * 2 ^ scale < 2 ^ 30
scaled_bounded window scale w s =
    let p : 2 ^ scale ≤ 2 ^ 14 = pow-le-pow_right {n = 2} (omega arith) {i = scale} {j = 14} s in
    let q : window * 2 ^ scale ≤ 65535 * 2 ^ scale = mul-le-mul_right (2 ^ scale) (omega (arith, w)) in
    omega (arith, p, q)

-- one, shifted by so few bits, has no bit beyond the word
pub shifted : (scale : ℕ) → scale ≤ 14 → 1 * 2 ^ scale % 18446744073709551616 ≡ 2 ^ scale
shifted scale s =
    let p : 2 ^ scale ≤ 2 ^ 14 = pow-le-pow_right {n = 2} (omega arith) {i = scale} {j = 14} s in
    let l : 1 * 2 ^ scale < 18446744073709551616 = omega (arith, p) in
    let m : 1 * 2 ^ scale % 18446744073709551616 ≡ 1 * 2 ^ scale = mod-eq_of_lt l in
    omega (arith, m)
