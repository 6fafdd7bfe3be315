-- A packet is read as it was written.
use Rattle.std.proofs.Common.{◌≡◌, ℕ, ◌+◌, ◌-◌, ◌*◌, ◌/◌, ◌%◌, ◌<◌, ◌^◌, Bool, true, false, cond}
use Rattle.std.proofs.Common.{IsTrue, List, ◌++◌, length, refl, ap, eqb, length-append, arith}
use Rattle.std.specs.Prelude.{slice_range}
use Rattle.std.proofs.lemmas.Nat.{from_be_bytes-to_be_bytes_4}
use Rattle.std.proofs.lemmas.List.{take_at}
use Rattle.ip_wire.specs.Checksum.{folded_sum, word_sum}
use Rattle.ip_address.specs.Protocol.{protocol_of, number_of}
use Rattle.ip_wire.specs.declared.ipv4_packet.Ipv4Repr.{Ipv4Repr}
use Rattle.ip_wire.specs.declared.ipv4_packet.Ipv4Fragment.{Ipv4Fragment}
use Rattle.ip_wire.specs.Ipv4Packet.{IsHeader, header_in, fragment_in, front, back, header_with}
use Rattle.ip_wire.specs.Ipv4Packet.{fragment_word, header_text, total_len, IsQuoted, quoted_in, ReadAgain}
use Rattle.ip_wire.proofs.Sums.{checksum-sums_up}

bit_14 : (d m : Bool) (n : ℕ) → n < 0x2000 → eqb ((cond d 0x4000 0 + cond m 0x2000 0 + n) / 0x4000 % 2) 1 ≡ d
bit_14 true true n lt = let e : (0x4000 + 0x2000 + n) / 0x4000 % 2 ≡ 1 = omega arith in ap (λ (k : ℕ). eqb k 1) e
bit_14 true false n lt = let e : (0x4000 + 0 + n) / 0x4000 % 2 ≡ 1 = omega arith in ap (λ (k : ℕ). eqb k 1) e
bit_14 false true n lt = let e : (0 + 0x2000 + n) / 0x4000 % 2 ≡ 0 = omega arith in ap (λ (k : ℕ). eqb k 1) e
bit_14 false false n lt = let e : (0 + 0 + n) / 0x4000 % 2 ≡ 0 = omega arith in ap (λ (k : ℕ). eqb k 1) e

bit_13 : (d m : Bool) (n : ℕ) → n < 0x2000 → eqb ((cond d 0x4000 0 + cond m 0x2000 0 + n) / 0x2000 % 2) 1 ≡ m
bit_13 true true n lt = let e : (0x4000 + 0x2000 + n) / 0x2000 % 2 ≡ 1 = omega arith in ap (λ (k : ℕ). eqb k 1) e
bit_13 true false n lt = let e : (0x4000 + 0 + n) / 0x2000 % 2 ≡ 0 = omega arith in ap (λ (k : ℕ). eqb k 1) e
bit_13 false true n lt = let e : (0 + 0x2000 + n) / 0x2000 % 2 ≡ 1 = omega arith in ap (λ (k : ℕ). eqb k 1) e
bit_13 false false n lt = let e : (0 + 0 + n) / 0x2000 % 2 ≡ 0 = omega arith in ap (λ (k : ℕ). eqb k 1) e

low_13 : (d m : Bool) (n : ℕ) → n < 0x2000 → ((cond d 0x4000 0 + cond m 0x2000 0 + n) % 0x2000 ≡ n) × (cond d 0x4000 0 + cond m 0x2000 0 + n < 2 ^ 16)
low_13 true true n lt = (omega arith, omega arith)
low_13 true false n lt = (omega arith, omega arith)
low_13 false true n lt = (omega arith, omega arith)
low_13 false false n lt = (omega arith, omega arith)

-- what the places of a packet hold makes its values
header_made : (r : Ipv4Repr) (f : Ipv4Fragment) (s d t : ℕ) → IsHeader r f → s ≡ r.src_addr.bits → d ≡ r.dst_addr.bits → t ≡ 20 + r.payload_len
    → ◌≡◌ {A = Ipv4Repr} (record {
      src_addr = record { bits = s };
      dst_addr = record { bits = d };
      next_header = protocol_of (number_of r.next_header);
      payload_len = t - 20;
      hop_limit = r.hop_limit;
    }) r
header_made r f s d t h es ed et =
    let len : t - 20 ≡ r.payload_len = omega (arith, et) in
    let protocol = h.protocol in
    rw (es, ed, len, protocol) refl

fragment_made : (r : Ipv4Repr) (f : Ipv4Fragment) (i w : ℕ) → IsHeader r f → i ≡ f.identification → w ≡ fragment_word f
    → ◌≡◌ {A = Ipv4Fragment} (record {
      identification = i;
      dont_fragment = eqb (w / 0x4000 % 2) 1;
      more_fragments = eqb (w / 0x2000 % 2) 1;
      offset = w % 0x2000;
    }) f
fragment_made r f i w h ei ew =
    let e14 = bit_14 f.dont_fragment f.more_fragments f.offset h.offset in
    let e13 = bit_13 f.dont_fragment f.more_fragments f.offset h.offset in
    let low = (low_13 f.dont_fragment f.more_fragments f.offset h.offset).0 in
    rw (ei, ew, e14, e13, low) refl

all_of : {A B C : Type 0} {a b : A} {x y : B} {p q : C} → a ≡ b → x ≡ y → p ≡ q → ◌≡◌ {A = A × B × C} (a, x, p) (b, y, q)
all_of e f g = cc

pub total : (n : ℕ) → n < 2 ^ 16 → n / 256 % 256 * 256 + n % 256 ≡ n
total n lt = omega arith

pub header_again : (summed : Bool) (r : Ipv4Repr) (f : Ipv4Fragment) (payload : List ℕ) →
    IsHeader r f → header_in (header_text summed r f ++ payload) ≡ r
unfolding front back header_with
header_again summed r f payload h =
    header_made r f _ _ _ h
    (from_be_bytes-to_be_bytes_4 r.src_addr.bits h.source)
    (from_be_bytes-to_be_bytes_4 r.dst_addr.bits h.destination)
    (total (20 + r.payload_len) h.payload_len)

fragment_again : (summed : Bool) (r : Ipv4Repr) (f : Ipv4Fragment) (payload : List ℕ) →
    IsHeader r f → fragment_in (header_text summed r f ++ payload) ≡ f
unfolding front back header_with
fragment_again summed r f payload h =
    fragment_made r f _ _ h
    (total f.identification h.identification)
    (total (fragment_word f) (low_13 f.dont_fragment f.more_fragments f.offset h.offset).1)

header_sums : (summed : Bool) (r : Ipv4Repr) (f : Ipv4Fragment) → IsTrue summed → folded_sum (word_sum (header_text summed r f)) ≡ 65535
unfolding front back header_with
header_sums true r f on = checksum-sums_up (front r f) (back r) refl
header_sums false r f on = absurd cc

pub read_again : ReadAgain
unfolding front back header_with
read_again checked summed r f payload more h len both =
    let t = total (20 + r.payload_len) h.payload_len in
    let octets = header_text summed r f ++ payload ++ more in
    let n : total_len octets - 20 ≡ length payload = omega (arith, t, len) in
    let part : slice_range octets 20 (total_len octets) ≡ payload = rw n (take_at payload more _ refl) in (
      record {
        whole = omega (arith, len, length-append payload more);
        version = refl;
        header = omega arith;
        header_fits = omega (arith, t);
        total_fits = omega (arith, t, len, length-append payload more);
        sum = λ yes. header_sums summed r f (both yes);
      },
      all_of (header_again summed r f (payload ++ more) h) (fragment_again summed r f (payload ++ more) h) part,
    )

-- a quoted header is read as it was written, whatever stands behind it
pub quoted_again : (summed : Bool) (r : Ipv4Repr) (f : Ipv4Fragment) (octets : List ℕ) → IsHeader r f →
    IsQuoted (header_text summed r f ++ octets) × (quoted_in (header_text summed r f ++ octets) ≡ (r, octets))
unfolding front back header_with
quoted_again summed r f octets h =
    let same = header_again summed r f octets h in (
      record { whole = omega arith; version = refl; header = omega arith; header_fits = omega arith },
      ap (λ (x : Ipv4Repr). (x, octets)) same,
    )
