-- A packet's payload is short, and what is in it too.
use Rattle.std.proofs.Common.{◌≡◌, ◌<◌, ◌^◌, ℕ, List, length, drop, ap, arith, length-drop}

pub few_octets : (octets payload : List ℕ) (n : ℕ) → octets ≡ drop n payload → length payload < 2 ^ 16 → length octets < 2 ^ 32
few_octets octets payload n is l =
    let e = ap (λ (xs : List ℕ). length xs) is in
    let d = length-drop n payload in
    omega (arith, e, d, l)
