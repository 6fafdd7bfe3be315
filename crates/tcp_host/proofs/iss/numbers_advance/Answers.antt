use Rattle.std.proofs.Common.{◌≡◌, ◌+◌, ◌*◌, ◌/◌, ◌%◌, ◌^◌, ℕ, ap, ◌∙◌, arith}
use Rattle.tcp_host.specs.Iss.{hash}
use Rattle.tcp_host.proofs.iss.numbers_advance.Goals as goal

-- a clock that is n further, with the same hash
advance : (now n h : ℕ) → ((now + 4 * n) / 4 + h) % 2 ^ 32 ≡ ((now / 4 + h) % 2 ^ 32 + n) % 2 ^ 32
advance now n h =
    let q : (now + 4 * n) / 4 ≡ now / 4 + n = omega arith in
    let m : (now / 4 + n + h) % 2 ^ 32 ≡ ((now / 4 + h) % 2 ^ 32 + n) % 2 ^ 32 = omega arith in
    ap (λ (k : ℕ). (k + h) % 2 ^ 32) q ∙ m

pub returns : goal.returns
returns c = record { later = λ key e now n. advance now n (hash key e) }
