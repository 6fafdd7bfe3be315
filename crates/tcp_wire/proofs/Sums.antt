-- The sum of a segment: pseudo-header, five words, options and payload.
use Rattle.std.proofs.Common.{◌≡◌, ℕ, ◌+◌, ◌*◌, ◌-◌, ◌%◌, ◌/◌, List, ◌++◌, length, length-append, refl, sym, ap, ◌∙◌, true, arith}
use Rattle.ip_address.specs.declared.ip.IpAddress.{IpAddress}
use Rattle.ip_wire.specs.Checksum.{folded_sum, word_sum, checksum_of}
use Rattle.ip_wire.specs.Pseudo.{pseudo}
use Rattle.ip_wire.proofs.Pseudos.{parts}
use Rattle.ip_wire.proofs.Sums.{word_sum-append}
use Rattle.tcp_wire.specs.declared.tcp.TcpRepr.{TcpRepr}
use Rattle.tcp_wire.specs.Tcp.{words_text, sum_of, text_len}
use Rattle.tcp_wire.specs.Options.{options_text}
use Rattle.tcp_wire.proofs.Lengths.{options_words}

pub length-words_text : (sum : ℕ) (r : TcpRepr) → length (words_text sum r) ≡ 2 * 10
unfolding words_text
length-words_text sum r = refl

-- two parts that fold as they should, one after the other
pub segment_sum : (src dst : IpAddress) (len start head tail : ℕ) (r : TcpRepr) (options payload : List ℕ) →
    length options % 4 ≡ 0
    → ((s : ℕ) → folded_sum (s + start) ≡ folded_sum (s + word_sum (pseudo src dst 6 len)))
    → ((s : ℕ) → folded_sum (s + head) ≡ folded_sum (s + word_sum (words_text 0 r)))
    → ((s : ℕ) → folded_sum (s + tail) ≡ folded_sum (s + word_sum options))
    → checksum_of (pseudo src dst 6 len ++ ((words_text 0 r ++ options) ++ payload)) ≡ 65535 - folded_sum (start + head + tail + word_sum payload)
segment_sum src dst len start head tail r options payload even starts heads tails =
    let words = words_text 0 r in
    let ten = length-words_text 0 r in
    let both : word_sum (words ++ options) ≡ word_sum words + word_sum options = word_sum-append words options 10 ten in
    let folds : (s : ℕ) → folded_sum (s + (head + tail)) ≡ folded_sum (s + word_sum (words ++ options)) =
    λ s.
    let one : s + (head + tail) ≡ s + head + tail = omega arith in
    let two : s + head + word_sum options ≡ s + word_sum options + head = omega arith in
    let three : s + word_sum options + word_sum words ≡ s + word_sum (words ++ options) = omega (arith, both) in
    ap folded_sum one ∙ tails (s + head) ∙ ap folded_sum two ∙ heads (s + word_sum options) ∙ ap folded_sum three in
    let grouped : start + (head + tail) + word_sum payload ≡ start + head + tail + word_sum payload = omega arith in
    parts src dst 6 len ((20 + length options) / 2) start (head + tail) (words ++ options) payload
    (omega (arith, length-append words options, ten, even)) starts folds
    ∙ ap (λ (t : ℕ). 65535 - folded_sum t) grouped

-- the checksum, by what was summed
pub checksum_is : (src dst : IpAddress) (start head tail sum : ℕ) (r : TcpRepr) (words options payload : List ℕ) →
    words ≡ words_text 0 r → options ≡ options_text r.options
    → ((s : ℕ) → folded_sum (s + start) ≡ folded_sum (s + word_sum (pseudo src dst 6 (20 + length options + length payload))))
    → ((s : ℕ) → folded_sum (s + head) ≡ folded_sum (s + word_sum words))
    → ((s : ℕ) → folded_sum (s + tail) ≡ folded_sum (s + word_sum options))
    → sum ≡ folded_sum (start + head + tail + word_sum payload) → 65535 - sum ≡ sum_of true src dst r payload
checksum_is src dst start head tail sum r words options payload ew eo starts heads tails es =
    let o : List ℕ = options_text r.options in
    ap (λ (t : ℕ). 65535 - t) es
    ∙ sym (segment_sum src dst (text_len r + length payload) start head tail r o payload (options_words r.options).1
    (λ s. starts s ∙ ap (λ (xs : List ℕ). folded_sum (s + word_sum (pseudo src dst 6 (20 + length xs + length payload)))) eo)
    (λ s. heads s ∙ ap (λ (xs : List ℕ). folded_sum (s + word_sum xs)) ew)
    (λ s. tails s ∙ ap (λ (xs : List ℕ). folded_sum (s + word_sum xs)) eo))
