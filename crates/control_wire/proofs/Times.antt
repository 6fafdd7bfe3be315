-- How long the time of a code is.
use Rattle.std.proofs.Common.{ℕ, ◌+◌, ◌*◌, ◌≤◌, ◌<◌, ◌^◌, arith}
use Rattle.std.proofs.Math.Pow.{pow_mono}
use Rattle.std.proofs.lemmas.Nat.{mul-le}

-- a mantissa with its highest bit, shifted by its exponent, in tenths of a second
pub shifted : (mantissa exponent : ℕ) → mantissa < 16 → exponent ≤ 10 → (mantissa + 16) * 2 ^ exponent < 2 ^ 15
shifted mantissa exponent lm le =
    let most : (mantissa + 16) * 2 ^ exponent ≤ 31 * 2 ^ 10 = mul-le (mantissa + 16) (2 ^ exponent) 31 (2 ^ 10) (omega arith) (pow_mono le) in
    omega (arith, most)
