use Rattle.std.proofs.Common.{arith, ap, ◌≡◌, ◌∙◌, ℕ, ◌+◌, ◌*◌}
use Rattle.ip_wire.specs.Checksum.{folded_sum}
use Rattle.ip_wire.proofs.checksum.with_four.Goals as goal

pub returns-clause-folds : goal.returns-clause-folds
returns-clause-folds c = λ sum rest.
    let a : ℕ = c.args.one in
    let b : ℕ = c.args.two in
    let d : ℕ = c.args.three in
    let e : ℕ = c.args.four in
    let third : sum + 256 * (c.with_number-third.result + e) + rest ≡ sum + 256 * c.with_number-third.result + (256 * e + rest) = omega arith in
    let second : sum + 256 * (c.with_number-second.result + d) + (256 * e + rest) ≡ sum + 256 * c.with_number-second.result + (256 * (d + e) + rest) =
    omega arith in
    let first : sum + 256 * (c.with_number-first.result + b) + (256 * (d + e) + rest) ≡ sum + 256 * c.with_number-first.result + (256 * (b + d + e) + rest) =
    omega arith in
    let all : sum + 256 * (c.args.swapped + a) + (256 * (b + d + e) + rest) ≡ sum + 256 * (c.args.swapped + (a + b + d + e)) + rest = omega arith in
    c.with_number.ensures.folds sum rest ∙ ap folded_sum third
    ∙ c.with_number-third.ensures.folds sum (256 * e + rest) ∙ ap folded_sum second
    ∙ c.with_number-second.ensures.folds sum (256 * (d + e) + rest) ∙ ap folded_sum first
    ∙ c.with_number-first.ensures.folds sum (256 * (b + d + e) + rest) ∙ ap folded_sum all
