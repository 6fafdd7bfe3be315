use Rattle.std.proofs.Common.{arith, ap, refl, ◌≡◌, ◌∙◌, ℕ, ◌+◌, ◌*◌, List, drop}
use Rattle.ip_wire.specs.Checksum.{folded_sum, word_sum}
use Rattle.ip_wire.specs.Octets.{u64_le_at}
use Rattle.ip_wire.proofs.Sums.{octets_fold}
use Rattle.ip_wire.proofs.checksum.with_eight.Goals as goal

pub returns : goal.returns
returns c = λ sum.
    let xs : List ℕ = c.args.octets.now in
    let at : ℕ = c.args.at in
    let rest : ℕ = word_sum (drop (at + 8) xs) in
    let added : sum + 256 * (c.from.result + c.u64_le_at.result) + rest ≡ sum + 256 * c.args.swapped + 256 * u64_le_at xs at + rest =
    omega (arith, c.from.ensures, c.u64_le_at.ensures) in
    c.carried.ensures sum rest ∙ c.with_number.ensures.folds sum rest ∙ ap folded_sum added
    ∙ octets_fold (sum + 256 * c.args.swapped) xs at (at + 8) refl (omega arith)
