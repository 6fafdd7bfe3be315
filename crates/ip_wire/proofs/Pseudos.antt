-- Sums over the pseudo-header.
use Rattle.std.proofs.Common.{◌≡◌, ℕ, ◌+◌, ◌-◌, ◌*◌, ◌/◌, ◌%◌, ◌<◌, ◌^◌, List, ◌++◌, length, refl, sym, ap, ◌∙◌, append_assoc, zero-add, arith}
use Rattle.ip_wire.specs.Checksum.{folded_sum, word_sum, checksum_of}
use Rattle.std.specs.Int.{w128, to_be_bytes}
use Rattle.ip_wire.specs.Pseudo.{address_octets, ending, pseudo, quarters}
use Rattle.ip_address.specs.declared.ipv6.Ipv6Address.{Ipv6Address}
use Rattle.ip_address.specs.declared.ipv4.Ipv4Address.{Ipv4Address}
use Rattle.ip_address.specs.declared.ip.IpAddress.{IpAddress}
use Rattle.ip_address.specs.declared.ip.IpAddress.TheVariants.{Ipv4, Ipv6}
use Rattle.ip_wire.proofs.Sums.{word_sum-append, folded_again, folded_shift, folds_in}

-- an address has whole words
address_words : (a : IpAddress) (xs : List ℕ) → word_sum (address_octets a ++ xs) ≡ word_sum (address_octets a) + word_sum xs
address_words (Ipv4 a) xs = word_sum-append (address_octets (Ipv4 a)) xs 2 refl
address_words (Ipv6 a) xs = word_sum-append (address_octets (Ipv6 a)) xs 8 refl

ending_words : (a : IpAddress) (protocol len : ℕ) (xs : List ℕ) →
    word_sum (ending a protocol len ++ xs) ≡ word_sum (ending a protocol len) + word_sum xs
ending_words (Ipv4 a) protocol len xs = word_sum-append (ending (Ipv4 a) protocol len) xs 2 refl
ending_words (Ipv6 a) protocol len xs = word_sum-append (ending (Ipv6 a) protocol len) xs 4 refl

pseudo_words : (src dst : IpAddress) (protocol len : ℕ) →
    word_sum (pseudo src dst protocol len) ≡ word_sum (address_octets src) + word_sum (address_octets dst) + word_sum (ending dst protocol len)
unfolding pseudo
pseudo_words src dst protocol len =
    let e = ending dst protocol len in
    let d = address_octets dst in
    let grouped : address_octets src ++ d ++ e ≡ address_octets src ++ (d ++ e) = append_assoc (address_octets src) d e in
    ap word_sum grouped ∙ omega (arith, address_words src (d ++ e), address_words dst e)

-- the pseudo-header has whole words
words_after : (src dst : IpAddress) (protocol len : ℕ) (xs : List ℕ) →
    word_sum (pseudo src dst protocol len ++ xs) ≡ word_sum (pseudo src dst protocol len) + word_sum xs
unfolding pseudo
words_after src dst protocol len xs =
    let e = ending dst protocol len in
    let d = address_octets dst in
    let s = address_octets src in
    let grouped : (s ++ d ++ e) ++ xs ≡ s ++ (d ++ (e ++ xs)) = simp append_assoc in
    let all : word_sum (s ++ d ++ e) ≡ word_sum s + word_sum d + word_sum e = pseudo_words src dst protocol len in
    ap word_sum grouped ∙ omega (arith, all, address_words src (d ++ (e ++ xs)), address_words dst (e ++ xs), ending_words dst protocol len xs)

-- part by part
pub chained : (src dst : IpAddress) (protocol len : ℕ) → folded_sum (word_sum (pseudo src dst protocol len))
    ≡ folded_sum (folded_sum (folded_sum (0 + word_sum (address_octets src)) + word_sum (address_octets dst)) + word_sum (ending dst protocol len))
chained src dst protocol len =
    let s = word_sum (address_octets src) in
    let d = word_sum (address_octets dst) in
    let e = word_sum (ending dst protocol len) in
    let two : folded_sum (folded_sum (0 + s) + d) ≡ folded_sum (s + d) = rw zero-add (folded_again s d) in
    ap folded_sum (pseudo_words src dst protocol len) ∙ sym (ap (λ (t : ℕ). folded_sum (t + e)) two ∙ folded_again (s + d) e)

-- an address of IPv4 has two words
address_words4 : (n : ℕ) → n < 2 ^ 32 → n / 16777216 % 256 * 256 + n / 65536 % 256 + (n / 256 % 256 * 256 + n % 256) ≡ n / 65536 + n % 65536
address_words4 n lt = omega arith

-- over IPv4 the numbers fold alike
pub numbers : (src dst : Ipv4Address) (protocol len : ℕ) → src.bits < 2 ^ 32 → dst.bits < 2 ^ 32 → len < 2 ^ 16
    → folded_sum (word_sum (pseudo (Ipv4 src) (Ipv4 dst) protocol len)) ≡ folded_sum (src.bits + dst.bits + protocol + len)
unfolding pseudo word_sum
numbers src dst protocol len ls ld ll =
    let k = src.bits / 65536 + dst.bits / 65536 in
    let n = src.bits % 65536 + dst.bits % 65536 + protocol + len in
    let s = address_words4 src.bits ls in
    let d = address_words4 dst.bits ld in
    let l : len / 256 % 256 * 256 + len % 256 ≡ len = omega arith in
    let words : word_sum (pseudo (Ipv4 src) (Ipv4 dst) protocol len) ≡ n + k = omega (arith, s, d, l) in
    ap folded_sum words ∙ sym (folded_shift (src.bits + dst.bits + protocol + len) n k (omega arith))

-- the words of a number of 128 bits: each second one, from the last and from the one before it
abbrev lower_words : ℕ → ℕ
lower_words n = n % 65536 + n / 2 ^ 32 % 65536 + n / 2 ^ 64 % 65536 + n / 2 ^ 96 % 65536

abbrev upper_words : ℕ → ℕ
upper_words n = n / 65536 % 65536 + n / 2 ^ 48 % 65536 + n / 2 ^ 80 % 65536 + n / 2 ^ 112

-- an address of IPv6 has eight
address_words6 : (n : ℕ) → n < 2 ^ 128 → word_sum (to_be_bytes w128 n) ≡ lower_words n + upper_words n
unfolding word_sum
address_words6 n lt = omega arith

quarters_words : (n : ℕ) → n < 2 ^ 128 → quarters n ≡ lower_words n + upper_words n + 65535 * upper_words n
quarters_words n lt = omega arith

-- and over IPv6
pub numbers6 : (src dst : Ipv6Address) (protocol len : ℕ) → src.bits < 2 ^ 128 → dst.bits < 2 ^ 128 → len < 2 ^ 16
    → folded_sum (word_sum (pseudo (Ipv6 src) (Ipv6 dst) protocol len)) ≡ folded_sum (quarters src.bits + quarters dst.bits + protocol + len)
unfolding word_sum
numbers6 src dst protocol len ls ld ll =
    let k = upper_words src.bits + upper_words dst.bits in
    let n = lower_words src.bits + lower_words dst.bits + protocol + len in
    let s = address_words6 src.bits ls in
    let d = address_words6 dst.bits ld in
    let l : word_sum (ending (Ipv6 dst) protocol len) ≡ protocol + len = omega arith in
    let words : word_sum (pseudo (Ipv6 src) (Ipv6 dst) protocol len) ≡ n + k =
    omega (arith, pseudo_words (Ipv6 src) (Ipv6 dst) protocol len, s, d, l) in
    let qs = quarters_words src.bits ls in
    let qd = quarters_words dst.bits ld in
    ap folded_sum words ∙ sym (folded_shift (quarters src.bits + quarters dst.bits + protocol + len) n k (omega (arith, qs, qd)))

-- in whichever sum it is
pub in_sums4 : (sum : ℕ) (src dst : Ipv4Address) (protocol len : ℕ) → src.bits < 2 ^ 32 → dst.bits < 2 ^ 32 → len < 2 ^ 16
    → folded_sum (sum + (src.bits + dst.bits + protocol + len)) ≡ folded_sum (sum + word_sum (pseudo (Ipv4 src) (Ipv4 dst) protocol len))
in_sums4 sum src dst protocol len ls ld ll =
    folds_in (src.bits + dst.bits + protocol + len) (word_sum (pseudo (Ipv4 src) (Ipv4 dst) protocol len))
    (sym (numbers src dst protocol len ls ld ll)) sum

pub in_sums6 : (sum : ℕ) (src dst : Ipv6Address) (protocol len : ℕ) → src.bits < 2 ^ 128 → dst.bits < 2 ^ 128 → len < 2 ^ 16
    → folded_sum (sum + (quarters src.bits + quarters dst.bits + protocol + len))
    ≡ folded_sum (sum + word_sum (pseudo (Ipv6 src) (Ipv6 dst) protocol len))
in_sums6 sum src dst protocol len ls ld ll =
    folds_in (quarters src.bits + quarters dst.bits + protocol + len) (word_sum (pseudo (Ipv6 src) (Ipv6 dst) protocol len))
    (sym (numbers6 src dst protocol len ls ld ll)) sum

pub in_sums : (sum : ℕ) (src dst : IpAddress) (protocol len : ℕ)
    → folded_sum (sum
    + folded_sum (folded_sum (folded_sum (0 + word_sum (address_octets src)) + word_sum (address_octets dst)) + word_sum (ending dst protocol len)))
    ≡ folded_sum (sum + word_sum (pseudo src dst protocol len))
in_sums sum src dst protocol len =
    let p = word_sum (pseudo src dst protocol len) in
    let f =
    folded_sum (folded_sum (folded_sum (0 + word_sum (address_octets src)) + word_sum (address_octets dst)) + word_sum (ending dst protocol len)) in
    let turned : sum + p ≡ p + sum = omega arith in
    let back : f + sum ≡ sum + f = omega arith in
    sym (ap folded_sum turned ∙ sym (folded_again p sum) ∙ ap (λ (t : ℕ). folded_sum (t + sum)) (chained src dst protocol len) ∙ ap folded_sum back)

pub ruleset sums = (in_sums4, in_sums6, in_sums)

-- what stands behind it
pub after : (src dst : IpAddress) (protocol len start : ℕ) (xs : List ℕ) →
    ((sum : ℕ) → folded_sum (sum + start) ≡ folded_sum (sum + word_sum (pseudo src dst protocol len)))
    → folded_sum (word_sum (pseudo src dst protocol len ++ xs)) ≡ folded_sum (start + word_sum xs)
after src dst protocol len start xs folds =
    let p = word_sum (pseudo src dst protocol len) in
    let turned : p + word_sum xs ≡ word_sum xs + p = omega arith in
    let back : word_sum xs + start ≡ start + word_sum xs = omega arith in
    ap folded_sum (words_after src dst protocol len xs ∙ turned) ∙ sym (folds (word_sum xs)) ∙ ap folded_sum back

-- behind it a header of whole words, and a payload
pub header_words : (src dst : IpAddress) (protocol len k : ℕ) (header payload : List ℕ) → length header ≡ 2 * k
    → word_sum (pseudo src dst protocol len ++ (header ++ payload)) ≡ word_sum (pseudo src dst protocol len) + word_sum header + word_sum payload
header_words src dst protocol len k header payload even =
    let one = words_after src dst protocol len (header ++ payload) in
    let two = word_sum-append header payload k even in
    omega (arith, one, two)

pub parts : (src dst : IpAddress) (protocol len k start head : ℕ) (header payload : List ℕ) → length header ≡ 2 * k
    → ((sum : ℕ) → folded_sum (sum + start) ≡ folded_sum (sum + word_sum (pseudo src dst protocol len))) →
    ((sum : ℕ) → folded_sum (sum + head) ≡ folded_sum (sum + word_sum header))
    → checksum_of (pseudo src dst protocol len ++ (header ++ payload)) ≡ 65535 - folded_sum (start + head + word_sum payload)
parts src dst protocol len k start head header payload even starts heads =
    let p = word_sum (pseudo src dst protocol len) in
    let h = word_sum header in
    let d = word_sum payload in
    let first : p + h + d ≡ p + d + h = omega arith in
    let second : p + d + head ≡ head + d + p = omega arith in
    let third : head + d + start ≡ start + head + d = omega arith in
    ap (λ (t : ℕ). 65535 - t) (ap folded_sum (header_words src dst protocol len k header payload even ∙ first) ∙ sym (heads (p + d))
    ∙ ap folded_sum second ∙ sym (starts (head + d)) ∙ ap folded_sum third)
