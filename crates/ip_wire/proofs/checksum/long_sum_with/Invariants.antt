use Rattle.std.proofs.Common.{◌≡◌, ◌+◌, ◌*◌, drop}
use Rattle.ip_wire.specs.Checksum.{folded_sum, word_sum}
use Rattle.ip_wire.proofs.checksum.long_sum_with.Given as goal

abbrev pub invariant-loop-i : goal.invariant-loop-i
invariant-loop-i l = folded_sum (l.start + 256 * l.swapped + word_sum (drop (64 * l.i) l.octets)) ≡ folded_sum (l.start + word_sum l.octets)

abbrev pub invariant-loop-i-2 : goal.invariant-loop-i-2
invariant-loop-i-2 l = folded_sum (l.start + 256 * l.swapped + word_sum (drop (8 * l.i) l.rest)) ≡ folded_sum (l.start + word_sum l.octets)
