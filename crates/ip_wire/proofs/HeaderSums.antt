-- The sum of an IPv4 header.
use Rattle.std.proofs.Common.{◌≡◌, ℕ, ◌+◌, ◌*◌, ◌/◌, ◌%◌, ◌<◌, ◌^◌, ap, sym, ◌∙◌, arith}
use Rattle.ip_address.specs.Protocol.{number_of}
use Rattle.ip_wire.specs.declared.ipv4_packet.Ipv4Repr.{Ipv4Repr}
use Rattle.ip_wire.specs.declared.ipv4_packet.Ipv4Fragment.{Ipv4Fragment}
use Rattle.ip_wire.specs.Checksum.{folded_sum, word_sum}
use Rattle.ip_wire.specs.Ipv4Packet.{back, fragment_word, front, header_with}
use Rattle.ip_wire.proofs.Sums.{folded_shift}

-- a number of two words, and one of one word
two_words : (n : ℕ) → n < 2 ^ 32 → n / 16777216 % 256 * 256 + n / 65536 % 256 + (n / 256 % 256 * 256 + n % 256) ≡ n / 65536 + n % 65536
two_words n lt = omega arith

one_word : (n : ℕ) → n < 2 ^ 16 → n / 256 % 256 * 256 + n % 256 ≡ n
one_word n lt = omega arith

-- the values of a header fold as its words
pub header_folds : (r : Ipv4Repr) (f : Ipv4Fragment) (length fragment : ℕ) →
    length ≡ 20 + r.payload_len → fragment ≡ fragment_word f → length < 2 ^ 16 → fragment < 2 ^ 16 → f.identification < 2 ^ 16 →
    r.src_addr.bits < 2 ^ 32 → r.dst_addr.bits < 2 ^ 32 →
    folded_sum (r.src_addr.bits + r.dst_addr.bits + (17664 + length) + (f.identification + fragment) + (r.hop_limit * 256 + number_of r.next_header))
    ≡ folded_sum (word_sum (header_with 0 r f))
unfolding front back header_with word_sum
header_folds r f length fragment is_length is_fragment ll lf li ls ld =
    let k = r.src_addr.bits / 65536 + r.dst_addr.bits / 65536 in
    let n = r.src_addr.bits % 65536 + r.dst_addr.bits % 65536 + (17664 + length) + (f.identification + fragment)
    + (r.hop_limit * 256 + number_of r.next_header) in
    let s = two_words r.src_addr.bits ls in
    let d = two_words r.dst_addr.bits ld in
    let l = one_word length ll in
    let i = one_word f.identification li in
    let w = one_word fragment lf in
    let words : word_sum (header_with 0 r f) ≡ n + k = rw (← is_length, ← is_fragment) (omega (arith, s, d, l, i, w)) in
    folded_shift (r.src_addr.bits + r.dst_addr.bits + (17664 + length) + (f.identification + fragment)
    + (r.hop_limit * 256 + number_of r.next_header)) n k (omega arith) ∙ ap folded_sum (sym words)
