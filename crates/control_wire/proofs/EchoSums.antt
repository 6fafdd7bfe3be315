-- The sums of an echo request and of its reply.
use Rattle.std.proofs.Common.{◌≡◌, ℕ, zero, suc, ◌+◌, ◌-◌, ◌%◌, ◌<◌, ◌≤◌, ◌^◌, List, [], ◌++◌, length, drop, refl, sym, ap, ◌∙◌, arith}
use Rattle.ip_wire.specs.Checksum.{folded_sum, word_sum, checksum_of}
use Rattle.ip_wire.specs.Pseudo.{pseudo}
use Rattle.ip_wire.specs.Octets.{u16_at}
use Rattle.ip_address.specs.declared.ip.IpAddress.{IpAddress}
use Rattle.ip_wire.proofs.Pseudos.{after}
use Rattle.ip_wire.proofs.Sums.{word}
use Rattle.control_wire.specs.declared.icmpv6.Icmpv6Repr.TheVariants.{EchoReply}
use Rattle.control_wire.specs.Icmpv6.{IsEchoRequest, code_in, echo_reply_to, head_with, type_in}

-- a sum above 0, folded
fold_suc : (n m : ℕ) → n ≡ suc m → folded_sum n ≡ m % 65535 + 1
fold_suc n m e = rw e refl

-- what a sum leaves that makes another one all ones
leaves : (s k w : ℕ) → 0 < k → folded_sum (s + (k + w)) ≡ 65535 → (65535 - folded_sum (s + k)) % 65535 ≡ w % 65535
leaves s zero w some ones = absurd (omega (arith, some))
leaves s (suc k) w some ones =
    let a = fold_suc (s + suc k) (s + k) (omega arith) in
    let b = fold_suc (s + (suc k + w)) (s + k + w) (omega arith) in
    omega (arith, a, b, ones)

-- sums that leave the same fold alike
alike : (s k w r : ℕ) → 0 < k → r % 65535 ≡ w % 65535 → folded_sum (s + k + r) ≡ folded_sum (s + (k + w))
alike s zero w r some same = absurd (omega (arith, some))
alike s (suc k) w r some same =
    let a = fold_suc (s + suc k + r) (s + k + r) (omega arith) in
    let b = fold_suc (s + (suc k + w)) (s + k + w) (omega arith) in
    omega (arith, a, b, same)

-- the words of a request
request_words : (octets : List ℕ) → 8 ≤ length octets → type_in octets ≡ 128 → code_in octets ≡ 0 →
    word_sum octets ≡ 32768 + u16_at octets 2 + word_sum (drop 4 octets)
request_words octets long t c =
    let one = word octets 0 1 2 refl refl (omega (arith, long)) in
    let two = word octets 2 3 4 refl refl (omega (arith, long)) in
    omega (arith, one, two, t, c)

rest_words : (octets : List ℕ) → 8 ≤ length octets → word_sum (drop 4 octets) ≡ u16_at octets 4 + u16_at octets 6 + word_sum (drop 8 octets)
rest_words octets long =
    let three = word octets 4 5 6 refl refl (omega (arith, long)) in
    let four = word octets 6 7 8 refl refl (omega (arith, long)) in
    omega (arith, three, four)

-- what the words behind a request's checksum leave
pub rest_of_request : (src dst : IpAddress) (octets : List ℕ) (start sum n : ℕ) → IsEchoRequest src dst octets → n ≡ length octets →
    ((s : ℕ) → folded_sum (s + start) ≡ folded_sum (s + word_sum (pseudo src dst 58 n))) → sum ≡ u16_at octets 2 →
    (65535 - folded_sum (start + 32768 + sum)) % 65535 ≡ word_sum (drop 4 octets) % 65535
rest_of_request src dst octets start sum n request en starts esum =
    let own : word_sum octets ≡ 32768 + sum + word_sum (drop 4 octets) =
    rw esum (request_words octets request.whole_header request.type request.code) in
    let ones : folded_sum (start + (32768 + sum + word_sum (drop 4 octets))) ≡ 65535 =
    rw (← own) (sym (after src dst 58 n start octets starts) ∙ rw en request.sum) in
    let turned : start + 32768 + sum ≡ start + (32768 + sum) = omega arith in
    rw turned (leaves start (32768 + sum) (word_sum (drop 4 octets)) (omega arith) ones)

-- a reply's checksum from that
reply_words : (i s : ℕ) (xs : List ℕ) → i < 2 ^ 16 → s < 2 ^ 16 → word_sum (head_with 0 (EchoReply i s) ++ [] ++ xs) ≡ 33024 + (i + s + word_sum xs)
unfolding head_with word_sum
reply_words i s xs il sl = omega (arith, il, sl)

pub reply_checksum : (src dst : IpAddress) (octets : List ℕ) (start rest n : ℕ) →
    8 ≤ length octets → u16_at octets 4 < 2 ^ 16 → u16_at octets 6 < 2 ^ 16 → n ≡ length octets →
    ((s : ℕ) → folded_sum (s + start) ≡ folded_sum (s + word_sum (pseudo src dst 58 n))) → rest % 65535 ≡ word_sum (drop 4 octets) % 65535 →
    65535 - folded_sum (start + 33024 + rest) ≡ checksum_of (pseudo src dst 58 n ++ (head_with 0 (echo_reply_to octets) ++ [] ++ drop 8 octets))
reply_checksum src dst octets start rest n long il sl en starts leaves_it =
    let xs = head_with 0 (echo_reply_to octets) ++ [] ++ drop 8 octets in
    let own : word_sum xs ≡ 33024 + word_sum (drop 4 octets) =
    rw (rest_words octets long) (reply_words (u16_at octets 4) (u16_at octets 6) (drop 8 octets) il sl) in
    let there : folded_sum (start + (33024 + word_sum (drop 4 octets))) ≡ folded_sum (word_sum (pseudo src dst 58 n ++ xs)) =
    rw (← own) (sym (after src dst 58 n start xs starts)) in
    ap (λ (t : ℕ). 65535 - t) (alike start 33024 (word_sum (drop 4 octets)) rest (omega arith) leaves_it ∙ there)
