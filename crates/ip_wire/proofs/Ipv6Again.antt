-- A packet is read as it was written.
use Rattle.std.proofs.Common.{◌≡◌, ℕ, ◌+◌, ◌-◌, ◌*◌, ◌/◌, ◌%◌, ◌<◌, ◌^◌, List, ◌++◌, length, refl, length-append, arith}
use Rattle.std.specs.Prelude.{slice_range}
use Rattle.std.specs.Int.{w128, from_be_bytes, to_be_bytes}
use Rattle.std.proofs.Math.Nat.{div-div-eq-div-mul}
use Rattle.std.proofs.lemmas.List.{append_assoc, drop_at, take_at}
use Rattle.ip_address.specs.Protocol.{protocol_of, number_of}
use Rattle.ip_address.specs.declared.ipv6.Ipv6Address.{Ipv6Address}
use Rattle.ip_wire.specs.declared.ipv6_packet.Ipv6Repr.{Ipv6Repr}
use Rattle.ip_wire.specs.Ipv6Packet.{address_at, address_text, header_in, header_text, end, IsHeader, ReadAgain, QuotedAgain}

-- the octet of a number at a place, and what stands higher
byte_and_rest : (n p : ℕ) → n / p ≡ n / p % 256 + n / (p * 256) * 256
byte_and_rest n p = omega (arith, div-div-eq-div-mul n p 256)

joined_16 : (x0 x1 x2 x3 x4 x5 x6 x7 x8 x9 x10 x11 x12 x13 x14 x15 n p1 p2 p3 p4 p5 p6 p7 p8 p9 p10 p11 p12 p13 p14 p15 : ℕ)
    → n ≡ x15 + p1 * 256 → p1 ≡ x14 + p2 * 256 → p2 ≡ x13 + p3 * 256 → p3 ≡ x12 + p4 * 256
    → p4 ≡ x11 + p5 * 256 → p5 ≡ x10 + p6 * 256 → p6 ≡ x9 + p7 * 256 → p7 ≡ x8 + p8 * 256
    → p8 ≡ x7 + p9 * 256 → p9 ≡ x6 + p10 * 256 → p10 ≡ x5 + p11 * 256 → p11 ≡ x4 + p12 * 256
    → p12 ≡ x3 + p13 * 256 → p13 ≡ x2 + p14 * 256 → p14 ≡ x1 + p15 * 256 → p15 ≡ x0
    → x0 * 256 ^ 15 + x1 * 256 ^ 14 + x2 * 256 ^ 13 + x3 * 256 ^ 12 + x4 * 256 ^ 11 + x5 * 256 ^ 10 + x6 * 256 ^ 9 + x7 * 256 ^ 8 + x8 * 256 ^ 7
    + x9 * 256 ^ 6 + x10 * 256 ^ 5 + x11 * 256 ^ 4 + x12 * 256 ^ 3 + x13 * 256 ^ 2 + x14 * 256 + x15 ≡ n
joined_16 x0 x1 x2 x3 x4 x5 x6 x7 x8 x9 x10 x11 x12 x13 x14 x15 n p1 p2 p3 p4 p5 p6 p7 p8 p9 p10 p11 p12 p13 p14 p15 e0 e1 e2 e3 e4 e5 e6
    e7 e8 e9 e10 e11 e12 e13 e14 e15 = omega arith

-- a number is read from its sixteen octets
from_be_bytes-to_be_bytes_16 : (n : ℕ) → n < 2 ^ 128 → from_be_bytes w128 (to_be_bytes w128 n) ≡ n
from_be_bytes-to_be_bytes_16 n fits =
    let low : n ≡ n % 256 + n / 256 * 256 = omega arith in
    let high : n / 256 ^ 15 ≡ n / 256 ^ 15 % 256 = omega arith in
    joined_16 _ _ _ _ _ _ _ _ _ _ _ _ _ _ _ _ n _ _ _ _ _ _ _ _ _ _ _ _ _ _ _ low
    (byte_and_rest n 256) (byte_and_rest n (256 ^ 2)) (byte_and_rest n (256 ^ 3)) (byte_and_rest n (256 ^ 4)) (byte_and_rest n (256 ^ 5))
    (byte_and_rest n (256 ^ 6)) (byte_and_rest n (256 ^ 7)) (byte_and_rest n (256 ^ 8)) (byte_and_rest n (256 ^ 9)) (byte_and_rest n (256 ^ 10))
    (byte_and_rest n (256 ^ 11)) (byte_and_rest n (256 ^ 12)) (byte_and_rest n (256 ^ 13)) (byte_and_rest n (256 ^ 14)) high

made : (a : Ipv6Address) (n : ℕ) → n ≡ a.bits → ◌≡◌ {A = Ipv6Address} (record { bits = n }) a
made a n e = rw e refl

-- an address is read as it was written, wherever it stands
pub address_again : (a : Ipv6Address) (front back : List ℕ) → a.bits < 2 ^ 128 → address_at (front ++ address_text a ++ back) (length front) ≡ a
unfolding address_at address_text
address_again a front back fits =
    let text = to_be_bytes w128 a.bits in
    let grouped : front ++ text ++ back ≡ front ++ (text ++ back) = append_assoc front text back in
    let n : length front + 16 - length front ≡ 16 = omega arith in
    let here : slice_range (front ++ text ++ back) (length front) (length front + 16) ≡ text
    = rw (n, grouped, drop_at front (text ++ back) (length front) refl) refl in
    rw here (made a _ (from_be_bytes-to_be_bytes_16 a.bits fits))

pub total : (n : ℕ) → n < 2 ^ 16 → n / 256 % 256 * 256 + n % 256 ≡ n
total n lt = omega arith

header_made : (r : Ipv6Repr) (s d t : ℕ) → IsHeader r → s ≡ r.src_addr.bits → d ≡ r.dst_addr.bits → t ≡ r.payload_len
    → ◌≡◌ {A = Ipv6Repr} (record {
      src_addr = record { bits = s };
      dst_addr = record { bits = d };
      next_header = protocol_of (number_of r.next_header);
      payload_len = t;
      hop_limit = r.hop_limit;
    }) r
header_made r s d t h es ed et = let protocol = h.protocol in rw (es, ed, et, protocol) refl

header_again : (r : Ipv6Repr) (octets : List ℕ) → IsHeader r → header_in (header_text r ++ octets) ≡ r
unfolding address_at address_text header_text
header_again r octets h =
    header_made r _ _ _ h
    (from_be_bytes-to_be_bytes_16 r.src_addr.bits h.source)
    (from_be_bytes-to_be_bytes_16 r.dst_addr.bits h.destination)
    (total r.payload_len h.payload_len)

pub both : {A B : Type 0} {a b : A} {x y : B} → a ≡ b → x ≡ y → ◌≡◌ {A = A × B} (a, x) (b, y)
both e f = cc

pub read_again : ReadAgain
unfolding header_text address_text
read_again r payload more h len =
    let octets = header_text r ++ payload ++ more in
    let t = total r.payload_len h.payload_len in
    let n : end octets - 40 ≡ length payload = omega (arith, t, len) in
    let part : slice_range octets 40 (end octets) ≡ payload = rw n (take_at payload more _ refl) in (
      record {
        whole = omega (arith, len, length-append payload more);
        version = refl;
        fits = omega (arith, t, len, length-append payload more);
      },
      both (header_again r (payload ++ more) h) part,
    )

pub quoted_again : QuotedAgain
unfolding header_text address_text
quoted_again r octets h =
    (record { whole = omega arith; version = refl }, both (header_again r octets h) refl)
