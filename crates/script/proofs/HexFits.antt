-- Hex digits that fit are those that decode.
use Rattle.std.proofs.Common.{ℕ, ◌/◌, ◌<◌, ◌≤◌, List, length, take, arith}
use Rattle.std.specs.Prelude.{IsOk, ◌↔◌}
use Rattle.std.proofs.lemmas.List.{length-take-le}
use Rattle.hex.specs.Hex.{decode_sized}
use Rattle.hex.proofs.HexLemmas.{IsOk-decode_sized}
use Rattle.script.specs.Hex.{IsHexUpTo}

pub decode_sized-fits : (digits octets : List ℕ) → 0 < length digits / 2 → length digits / 2 ≤ length octets
    → IsOk (decode_sized digits (length (take (length digits / 2) octets))) ↔ IsHexUpTo (length octets) digits
decode_sized-fits digits octets some room =
    let whole = IsOk-decode_sized digits (length digits / 2) in
    rw (length-take-le (length digits / 2) octets room) (
      λ ok.
          let parts = whole.0 ok in
          record { some = omega (arith, some); even = omega (arith, parts.0); fit = omega (arith, parts.0, room); valid = parts.1 },
      λ hex. whole.1 (omega (arith, hex.even), hex.valid),
    )
