use Rattle.std.proofs.Common.{arith, ap, refl, ◌≡◌, ◌∙◌, ℕ, ◌+◌, ◌*◌, List, drop}
use Rattle.ip_wire.specs.Checksum.{folded_sum, word_sum}
use Rattle.ip_wire.specs.Octets.{u64_le_at}
use Rattle.ip_wire.proofs.Sums.{block_folds, block_sum}
use Rattle.ip_wire.proofs.checksum.with_block.Goals as goal

pub returns : goal.returns
returns c = λ sum.
    let xs : List ℕ = c.args.octets.now in
    let at : ℕ = c.args.at in
    let rest : ℕ = word_sum (drop (at + 64) xs) in
    let low : ℕ = block_sum xs at in
    let high : ℕ = block_sum xs (at + 32) in
    let lower : sum + 256 * (c.with_four-later.result + (c.u64_le_at-four.result + c.u64_le_at-three.result + c.u64_le_at-two.result + c.u64_le_at-one.result)) + rest
    ≡ sum + 256 * c.with_four-later.result + (256 * low + rest) = omega (arith, c.u64_le_at-one.ensures, c.u64_le_at-two.ensures, c.u64_le_at-three.ensures, c.u64_le_at-four.ensures) in
    let six : u64_le_at xs (at + 40) ≡ u64_le_at xs (at + 32 + 8) = ap (u64_le_at xs) (omega arith) in
    let seven : u64_le_at xs (at + 48) ≡ u64_le_at xs (at + 32 + 16) = ap (u64_le_at xs) (omega arith) in
    let eight : u64_le_at xs (at + 56) ≡ u64_le_at xs (at + 32 + 24) = ap (u64_le_at xs) (omega arith) in
    let upper : sum + 256 * (c.from.result + (c.u64_le_at-eight.result + c.u64_le_at-seven.result + c.u64_le_at-six.result + c.u64_le_at-five.result)) + (256 * low + rest)
    ≡ sum + 256 * c.args.swapped + 256 * low + 256 * high + rest = omega (arith, c.from.ensures, c.u64_le_at-five.ensures, c.u64_le_at-six.ensures, c.u64_le_at-seven.ensures, c.u64_le_at-eight.ensures, six, seven, eight) in
    c.carried.ensures sum rest ∙ c.with_four.ensures.folds sum rest ∙ ap folded_sum lower
    ∙ c.with_four-later.ensures.folds sum (256 * low + rest) ∙ ap folded_sum upper
    ∙ block_folds (sum + 256 * c.args.swapped + 256 * low) xs (at + 32) (at + 64) (omega arith) (omega arith)
    ∙ block_folds (sum + 256 * c.args.swapped) xs at (at + 32) refl (omega arith)
