-- The sums of datagrams and segments, whose pseudo-header stands before them.
use Rattle.std.proofs.Common.{◌≡◌, ℕ, zero, suc, ◌+◌, ◌-◌, ◌*◌, ◌<◌, ◌^◌, List, ◌++◌, length, refl, sym, ap, ◌∙◌, Bool, true, false, cond, eqb, arith}
use Rattle.std.proofs.lemmas.Bool.{eqb-true}
use Rattle.ip_address.specs.declared.ip.IpAddress.{IpAddress}
use Rattle.ip_wire.specs.Checksum.{folded_sum, word_sum, checksum_of}
use Rattle.ip_wire.specs.Pseudo.{pseudo}
use Rattle.ip_wire.proofs.Pseudos.{after, parts}
use Rattle.ip_wire.proofs.Sums.{folded_sum-more, summed_up}
use Rattle.ip_wire.specs.Tcp as tcp
use Rattle.ip_wire.specs.Udp as udp
use Rattle.ip_wire.specs.Udp.{not_zero}
use Rattle.ip_wire.specs.declared.tcp.TcpRepr.{TcpRepr}
use Rattle.ip_wire.specs.declared.udp.UdpRepr.{UdpRepr}

pub ruleset before = (after)

-- the words of a datagram's header: its ports and its length
header_words : (sum payload_len : ℕ) (r : UdpRepr) → sum ≡ 0 → r.src_port < 2 ^ 16 → r.dst_port < 2 ^ 16 → 8 + payload_len < 2 ^ 16
    → word_sum (udp.header_with sum r payload_len) ≡ r.src_port + r.dst_port + (8 + payload_len)
unfolding udp.header_with word_sum
header_words sum payload_len r none ls ld ll = omega (arith, none, ls, ld, ll)

header_len : (payload_len : ℕ) (r : UdpRepr) → length (udp.header_with 0 r payload_len) ≡ 2 * 4
unfolding udp.header_with
header_len payload_len r = refl

pub datagram_sum : (src dst : IpAddress) (payload_len start : ℕ) (r : UdpRepr) (payload : List ℕ) →
    r.src_port < 2 ^ 16 → r.dst_port < 2 ^ 16 → 8 + payload_len < 2 ^ 16
    → ((sum : ℕ) → folded_sum (sum + start) ≡ folded_sum (sum + word_sum (pseudo src dst 17 (8 + payload_len))))
    → checksum_of (pseudo src dst 17 (8 + payload_len) ++ (udp.header_with 0 r payload_len ++ payload))
    ≡ 65535 - folded_sum (start + (r.src_port + r.dst_port) + (8 + payload_len) + word_sum payload)
datagram_sum src dst payload_len start r payload ls ld ll starts =
    let words = header_words 0 payload_len r refl ls ld ll in
    let grouped : start + (r.src_port + r.dst_port + (8 + payload_len)) + word_sum payload
    ≡ start + (r.src_port + r.dst_port) + (8 + payload_len) + word_sum payload = omega arith in
    parts src dst 17 (8 + payload_len) 4 start (r.src_port + r.dst_port + (8 + payload_len))
    (udp.header_with 0 r payload_len) payload (header_len payload_len r) starts (λ sum. ap (λ (t : ℕ). folded_sum (sum + t)) (sym words))
    ∙ ap (λ (t : ℕ). 65535 - folded_sum t) grouped

pub ruleset datagrams = (datagram_sum)

pub segment_sum : (src dst : IpAddress) (len sum start head : ℕ) (r : TcpRepr) (payload : List ℕ)
    → ((s : ℕ) → folded_sum (s + start) ≡ folded_sum (s + word_sum (pseudo src dst 6 len))) →
    ((s : ℕ) → folded_sum (s + head) ≡ folded_sum (s + word_sum (tcp.header_with sum r)))
    → checksum_of (pseudo src dst 6 len ++ (tcp.header_with sum r ++ payload)) ≡ 65535 - folded_sum (start + head + word_sum payload)
unfolding tcp.header_with
segment_sum src dst len sum start head r payload starts heads = parts src dst 6 len 10 start head (tcp.header_with sum r) payload refl starts heads

pub ruleset segments = (segment_sum)

-- all ones stand for a sum of 0 and sum up alike
all_ones : (n : ℕ) → 65535 - folded_sum n ≡ 0 → folded_sum (n + 65535) ≡ 65535
all_ones zero e = absurd (omega (arith, e))
all_ones (suc n) e =
    let here : suc n + 65535 ≡ suc (n + 65535) = omega arith in
    ap folded_sum here ∙ folded_sum-more n (n + 65535) 1 (omega arith) ∙ omega (arith, e)

summed_up_by : (n c : ℕ) (t : Bool) → c ≡ 65535 - folded_sum n → eqb c 0 ≡ t → folded_sum (n + cond t 65535 c) ≡ 65535
summed_up_by n c true e z = let none : c ≡ 0 = eqb-true c 0 z in all_ones n (sym e ∙ none)
summed_up_by n c false e z = summed_up n c e

pub summed_up_not_zero : (n : ℕ) → folded_sum (n + not_zero (65535 - folded_sum n)) ≡ 65535
summed_up_not_zero n = summed_up_by n (65535 - folded_sum n) (eqb (65535 - folded_sum n) 0) refl refl
