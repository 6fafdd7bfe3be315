-- A datagram is read as it was written.
use Rattle.std.proofs.Common.{◌≡◌, ℕ, ◌+◌, ◌-◌, ◌<◌, ◌^◌, Bool, true, false, cond, eqb, List, ◌++◌, length, refl, sym, ap, ◌∙◌, length-append, arith}
use Rattle.std.specs.Prelude.{take, slice_range}
use Rattle.std.proofs.lemmas.List.{take_at}
use Rattle.ip_wire.specs.Checksum.{folded_sum, word_sum}
use Rattle.ip_wire.specs.Octets.{u16_at}
use Rattle.ip_wire.specs.Pseudo.{pseudo}
use Rattle.ip_address.specs.declared.ip.IpAddress.{IpAddress}
use Rattle.ip_wire.specs.declared.udp.UdpRepr.{UdpRepr}
use Rattle.ip_wire.specs.Udp.{header_with, not_zero, text, udp_len, ReadAgain}
use Rattle.ip_wire.proofs.TransportSums.{summed_up_not_zero}
use Rattle.ip_wire.proofs.Pseudos.{header_words}
use Rattle.ip_wire.proofs.Ipv4Again.{total}

-- a header's checksum is one of its words
place : (c : ℕ) (r : UdpRepr) (n : ℕ) → c < 2 ^ 16 → word_sum (header_with c r n) ≡ word_sum (header_with 0 r n) + c
unfolding header_with word_sum
place c r n lt = omega (arith, total c lt)

not_zero_small : (n : ℕ) (t : Bool) → n < 2 ^ 16 → cond t 65535 n < 2 ^ 16
not_zero_small n true lt = omega arith
not_zero_small n false lt = lt

sums : (src dst : IpAddress) (r : UdpRepr) (payload : List ℕ) →
    folded_sum (word_sum (pseudo src dst 17 (8 + length payload) ++ text true src dst r payload)) ≡ 65535
unfolding header_with
sums src dst r payload =
    let n : ℕ = 8 + length payload in
    let before = word_sum (pseudo src dst 17 n ++ (header_with 0 r (length payload) ++ payload)) in
    let computed : ℕ = 65535 - folded_sum before in
    let c = not_zero computed in
    let small : c < 2 ^ 16 = not_zero_small computed (eqb computed 0) (omega arith) in
    let one = header_words src dst 17 n 4 (header_with 0 r (length payload)) payload refl in
    let two = header_words src dst 17 n 4 (header_with c r (length payload)) payload refl in
    let three = place c r (length payload) small in
    let all : word_sum (pseudo src dst 17 n ++ (header_with c r (length payload) ++ payload)) ≡ before + c = omega (arith, one, two, three) in
    ap folded_sum all ∙ summed_up_not_zero before

made : (r : UdpRepr) (s d : ℕ) (xs ys : List ℕ) → s ≡ r.src_port → d ≡ r.dst_port → xs ≡ ys
    → ◌≡◌ {A = UdpRepr × List ℕ} (record { src_port = s; dst_port = d }, xs) (r, ys)
made r s d xs ys es ed e = rw (es, ed, e) refl

pub read_again : ReadAgain
unfolding header_with
read_again checked src dst r payload more h len =
    let octets = text true src dst r payload ++ more in
    let t : udp_len octets ≡ 8 + length payload = total (8 + length payload) len in
    let port : u16_at octets 2 ≡ r.dst_port = total r.dst_port h.destination in
    let n : udp_len octets - 8 ≡ length payload = omega (arith, t) in
    let part : slice_range octets 8 (udp_len octets) ≡ payload = rw n (take_at payload more _ refl) in
    let cut : take (udp_len octets) octets ≡ text true src dst r payload = take_at (text true src dst r payload) more _ (omega (arith, t)) in (
      record {
        whole = omega arith;
        header_fits = omega (arith, t);
        fits = omega (arith, t, length-append payload more);
        port = λ e. h.port (sym port ∙ e);
        sum = λ yes some. ap (λ (xs : List ℕ). folded_sum (word_sum (pseudo src dst 17 (udp_len octets) ++ xs))) cut
            ∙ ap (λ (k : ℕ). folded_sum (word_sum (pseudo src dst 17 k ++ text true src dst r payload))) t ∙ sums src dst r payload;
      },
      made r _ _ _ _ (total r.src_port h.source) port part,
    )
