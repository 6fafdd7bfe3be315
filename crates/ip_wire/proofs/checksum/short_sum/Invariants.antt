use Rattle.std.proofs.Common.{ℕ, ◌≡◌, ◌+◌, ◌*◌, ◌≤◌, drop}
use Rattle.ip_wire.specs.Checksum.{folded_sum, word_sum}
use Rattle.ip_wire.proofs.checksum.short_sum.Given as goal

abbrev pub invariant-loop-i : goal.invariant-loop-i
invariant-loop-i l = record {
  so_far : (sum : ℕ) → folded_sum (sum + 256 * l.swapped + word_sum (drop (4 * l.i) l.octets)) ≡ folded_sum (sum + word_sum l.octets);
  small : l.swapped ≤ 4294967295 * l.i;
}
