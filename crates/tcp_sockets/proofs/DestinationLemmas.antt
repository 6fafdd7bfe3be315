-- The newest of the packets that wait.
use Rattle.std.proofs.Common.{◌≡◌, ◌∙◌, ◌-◌, ◌<◌, ◌≤◌, suc, ℕ, List, [], ◌∷◌, length, drop, sym, ap, arith}
use Rattle.std.specs.List.{remove}
use Rattle.ip_address.specs.declared.ip.IpAddress.{IpAddress}
use Rattle.tcp_sockets.specs.Destinations.{last_of}

-- the first one may go, where more are there than are left
pub last_after_remove : (count : ℕ) (xs ys : List IpAddress) → ys ≡ remove xs 0 → count < length xs → last_of count ys ≡ last_of count xs
last_after_remove count [] ys is l = absurd (omega (arith, l))
last_after_remove count (x ∷ rest) ys is l =
    let e : length (x ∷ rest) - count ≡ suc (length rest - count) = omega (arith, l) in
    ap (λ (zs : List IpAddress). last_of count zs) is ∙ sym (ap (λ (k : ℕ). drop k (x ∷ rest)) e)

-- none goes, where no more are there
pub last_of_few : (count : ℕ) (xs : List IpAddress) → length xs ≤ count → last_of count xs ≡ xs
last_of_few count xs l =
    let e : length xs - count ≡ 0 = omega (arith, l) in
    ap (λ (k : ℕ). drop k xs) e
