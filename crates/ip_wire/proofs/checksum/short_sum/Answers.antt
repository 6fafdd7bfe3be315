use Rattle.std.proofs.Common.{rules, arith, ap, ◌≡◌, ◌∙◌, ℕ, ◌+◌, ◌*◌, List, drop}
use Rattle.ip_wire.specs.Checksum.{folded_sum, word_sum}
use Rattle.ip_wire.specs.Octets.{u32_le_at}
use Rattle.ip_wire.proofs.Sums.{chunk_folds}
use Rattle.ip_wire.proofs.checksum.short_sum.Goals as goal

pub loop-i-preserved : goal.loop-i-preserved
loop-i-preserved c = record {
  so_far = λ sum.
      let xs : List ℕ = c.args.octets.now in
      let i : ℕ = c.loop-i.i in
      let before : ℕ = sum + 256 * c.loop-i.swapped in
      let words : c.from-swapped.result ≡ u32_le_at xs (4 * i) = c.from-swapped.ensures ∙ c.u32_le_at.ensures in
      let summed : sum + 256 * (c.loop-i.swapped + u32_le_at xs (4 * i)) ≡ before + 256 * u32_le_at xs (4 * i) = omega arith in
      rw words (ap (λ (t : ℕ). folded_sum (t + word_sum (drop (4 * (i + 1)) xs))) summed
      ∙ chunk_folds before xs (4 * i) (4 * (i + 1)) (omega arith) (omega arith) ∙ c.loop-i.invariant.so_far sum);
  small = search rules;
}
