-- Sums over the parts of a message.
use Rattle.std.proofs.Common.{◌≡◌, ℕ, zero, suc, ◌+◌, ◌-◌, ◌/◌, ◌%◌, ◌<◌, ◌≤◌, ◌^◌, List, []}
use Rattle.std.proofs.Common.{◌++◌, length, drop, refl, sym, ap, ◌∙◌, length-append, arith}
use Rattle.ip_wire.specs.Checksum.{folded_sum, word_sum, checksum_of}
use Rattle.ip_wire.proofs.Sums.{word, word_sum-append}
use Rattle.ip_wire.specs.Octets.{u16_at}
use Rattle.control_wire.specs.declared.icmpv4.Icmpv4Repr.TheVariants.{EchoReply}
use Rattle.control_wire.specs.Icmpv4.{IsEchoRequest, code_in, echo_reply_to, head_with, type_in}

pub words : (h q d : List ℕ) → length h % 2 ≡ 0 → length q % 2 ≡ 0 → word_sum (h ++ q ++ d) ≡ word_sum h + word_sum q + word_sum d
words h q d eh eq =
    let one = word_sum-append (h ++ q) d ((length h + length q) / 2) (omega (arith, length-append h q)) in
    let two = word_sum-append h q (length h / 2) (omega arith) in
    omega (arith, one, two)

-- the checksum of three parts, two of them in sums that fold as theirs do
pub checksum_of_parts : (h q d : List ℕ) (a b c : ℕ) →
    length h % 2 ≡ 0 → length q % 2 ≡ 0 → ((sum : ℕ) → folded_sum (sum + a) ≡ folded_sum (sum + word_sum h)) →
    ((sum : ℕ) → folded_sum (sum + b) ≡ folded_sum (sum + word_sum q)) → c ≡ folded_sum (a + b + word_sum d) → 65535 - c ≡ checksum_of (h ++ q ++ d)
checksum_of_parts h q d a b c eh eq heads quotes ec =
    let second : a + b + word_sum d ≡ a + word_sum d + b = omega arith in
    let first : a + word_sum d + word_sum q ≡ word_sum q + word_sum d + a = omega arith in
    let all : word_sum q + word_sum d + word_sum h ≡ word_sum (h ++ q ++ d) = omega (arith, words h q d eh eq) in
    ap (λ (t : ℕ). 65535 - t)
    (ec ∙ ap folded_sum second ∙ quotes (a + word_sum d) ∙ ap folded_sum first ∙ heads (word_sum q + word_sum d) ∙ ap folded_sum all)

-- what a word leaves of a sum that is all ones
complement : (n k w : ℕ) → n ≡ k + w → folded_sum n ≡ 65535 → 0 < k % 65535 → k % 65535 ≡ 65535 - folded_sum w
complement zero k w is ones some = absurd (omega (arith, is, some))
complement (suc n) k zero is ones some = absurd (omega (arith, is, ones, some))
complement (suc n) k (suc w) is ones some = omega (arith, is, ones, some)

-- the words of a request, and those of its reply with checksum 0
request_words : (octets : List ℕ) → 8 ≤ length octets → type_in octets ≡ 8 → code_in octets ≡ 0 →
    word_sum octets ≡ u16_at octets 2 + 2048 + (u16_at octets 4 + u16_at octets 6 + word_sum (drop 8 octets))
request_words octets long t c =
    let one = word octets 0 1 2 refl refl (omega (arith, long)) in
    let two = word octets 2 3 4 refl refl (omega (arith, long)) in
    let three = word octets 4 5 6 refl refl (omega (arith, long)) in
    let four = word octets 6 7 8 refl refl (omega (arith, long)) in
    omega (arith, one, two, three, four, t, c)

reply_words : (i s : ℕ) (xs : List ℕ) → i < 2 ^ 16 → s < 2 ^ 16 → word_sum (head_with 0 (EchoReply i s) ++ [] ++ xs) ≡ i + s + word_sum xs
unfolding head_with word_sum
reply_words i s xs il sl = omega (arith, il, sl)

-- a reply's checksum from its request's
pub reply_checksum : (octets : List ℕ) (c : ℕ) → IsEchoRequest octets → c ≡ u16_at octets 2 → u16_at octets 4 < 2 ^ 16 →
    u16_at octets 6 < 2 ^ 16 → 0 < (c + 2048) % 65535 →
    (c + 2048) % 65535 ≡ checksum_of (head_with 0 (echo_reply_to octets) ++ [] ++ drop 8 octets)
reply_checksum octets c request is il sl some =
    let w = u16_at octets 4 + u16_at octets 6 + word_sum (drop 8 octets) in
    let whole : word_sum octets ≡ c + 2048 + w = rw is (request_words octets request.whole_header request.type request.code) in
    complement (word_sum octets) (c + 2048) w whole request.sum some
    ∙ ap (λ (n : ℕ). 65535 - folded_sum n) (sym (reply_words (u16_at octets 4) (u16_at octets 6) (drop 8 octets) il sl))
