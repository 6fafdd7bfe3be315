-- A message is read as it was written.
use Rattle.std.proofs.Common.{◌≡◌, ℕ, ◌+◌, ◌-◌, ◌%◌, ◌<◌, ◌≤◌, ◌^◌, Bool, true, false}
use Rattle.std.proofs.Common.{IsTrue, List, ◌++◌, length, refl, ap, ◌∙◌, length-append, arith}
use Rattle.ip_wire.specs.Checksum.{folded_sum, word_sum}
use Rattle.ip_wire.specs.Ipv4Packet.{quoted_in, header_text, header_with, front, back, whole}
use Rattle.ip_wire.specs.declared.ipv4_packet.Ipv4Repr.{Ipv4Repr}
use Rattle.ip_wire.proofs.Sums.{summed_up}
use Rattle.ip_wire.proofs.Ipv4Again.{total, quoted_again}
use Rattle.control_wire.specs.declared.icmpv4.Icmpv4DstUnreachable.{Icmpv4DstUnreachable}
use Rattle.control_wire.specs.declared.icmpv4.Icmpv4Repr.{Icmpv4Repr}
use Rattle.control_wire.specs.declared.icmpv4.Icmpv4Repr.TheVariants.{EchoRequest, EchoReply, DstUnreachable, TimeExceeded}
use Rattle.control_wire.specs.Icmpv4.{head_with, quoted_text, sum_of, text, Request, Reply, Unreachable, Exceeded, reason_of, code_of, ReadAgain}
use Rattle.control_wire.proofs.Icmpv4Sums.{words}

-- the checksum is one of the first words
head_words : (c : ℕ) (r : Icmpv4Repr) → c < 2 ^ 16 → word_sum (head_with c r) ≡ word_sum (head_with 0 r) + c
unfolding head_with word_sum
head_words c (EchoRequest ident seq_no) lt = omega (arith, total c lt)
head_words c (EchoReply ident seq_no) lt = omega (arith, total c lt)
head_words c (DstUnreachable reason header) lt = omega (arith, total c lt)
head_words c (TimeExceeded code header) lt = omega (arith, total c lt)

head_length : (c : ℕ) (r : Icmpv4Repr) → length (head_with c r) ≡ 8
unfolding head_with
head_length c (EchoRequest ident seq_no) = refl
head_length c (EchoReply ident seq_no) = refl
head_length c (DstUnreachable reason header) = refl
head_length c (TimeExceeded code header) = refl

quoted_even : (qs : Bool) (r : Icmpv4Repr) → length (quoted_text qs r) % 2 ≡ 0
unfolding header_with front back
quoted_even qs (EchoRequest ident seq_no) = refl
quoted_even qs (EchoReply ident seq_no) = refl
quoted_even qs (DstUnreachable reason header) = refl
quoted_even qs (TimeExceeded code header) = refl

sums : (qs : Bool) (r : Icmpv4Repr) (octets : List ℕ) → folded_sum (word_sum (text true qs r octets)) ≡ 65535
sums qs r octets =
    let before : ℕ = word_sum (head_with 0 r ++ quoted_text qs r ++ octets) in
    let c : ℕ = 65535 - folded_sum before in
    let even : (n : ℕ) → length (head_with n r) % 2 ≡ 0 = λ n. ap (λ (k : ℕ). k % 2) (head_length n r) in
    let one = words (head_with 0 r) (quoted_text qs r) octets (even 0) (quoted_even qs r) in
    let two = words (head_with c r) (quoted_text qs r) octets (even c) (quoted_even qs r) in
    let three = head_words c r (omega arith) in
    let all : word_sum (head_with c r ++ quoted_text qs r ++ octets) ≡ before + c = omega (arith, one, two, three) in
    ap folded_sum all ∙ summed_up before c refl

checked_sum : (checked summed qs : Bool) (r : Icmpv4Repr) (octets : List ℕ) →
    (IsTrue checked → IsTrue summed) → IsTrue checked → folded_sum (word_sum (text summed qs r octets)) ≡ 65535
checked_sum checked true qs r octets both yes' = sums qs r octets
checked_sum checked false qs r octets both yes' = absurd (let bad = both yes' in cc)

long : (summed qs : Bool) (r : Icmpv4Repr) (octets : List ℕ) → 8 ≤ length (text summed qs r octets)
long summed qs r octets =
    let c : ℕ = sum_of summed qs r octets in
    omega (arith, length-append (head_with c r ++ quoted_text qs r) octets, length-append (head_with c r) (quoted_text qs r), head_length c r)

request_made : (a b : ℕ) (xs ys : List ℕ) (i s : ℕ) →
    a ≡ i → b ≡ s → xs ≡ ys → ◌≡◌ {A = Icmpv4Repr × List ℕ} (EchoRequest a b, xs) (EchoRequest i s, ys)
request_made a b xs ys i s ei es e = rw (ei, es, e) refl

reply_made : (a b : ℕ) (xs ys : List ℕ) (i s : ℕ) → a ≡ i → b ≡ s → xs ≡ ys → ◌≡◌ {A = Icmpv4Repr × List ℕ} (EchoReply a b, xs) (EchoReply i s, ys)
reply_made a b xs ys i s ei es e = rw (ei, es, e) refl

unreachable_made : (r r' : Icmpv4DstUnreachable) (p : Ipv4Repr × List ℕ) (h : Ipv4Repr) (xs : List ℕ) →
    r ≡ r' → p ≡ (h, xs) → ◌≡◌ {A = Icmpv4Repr × List ℕ} (DstUnreachable r p.0, p.1) (DstUnreachable r' h, xs)
unreachable_made r r' p h xs er e = rw (er, e) refl

exceeded_made : (code : ℕ) (p : Ipv4Repr × List ℕ) (h : Ipv4Repr) (xs : List ℕ) →
    p ≡ (h, xs) → ◌≡◌ {A = Icmpv4Repr × List ℕ} (TimeExceeded code p.0, p.1) (TimeExceeded code h, xs)
exceeded_made code p h xs e = rw e refl

pub read_again : ReadAgain
unfolding head_with
read_again checked summed qs (EchoRequest ident seq_no) octets m both = (
  record {
    whole_header = long summed qs (EchoRequest ident seq_no) octets;
    sum = checked_sum checked summed qs (EchoRequest ident seq_no) octets both;
    body = Request refl refl;
  },
  request_made _ _ _ _ _ _ (total ident m.0) (total seq_no m.1) refl,
)
read_again checked summed qs (EchoReply ident seq_no) octets m both = (
  record {
    whole_header = long summed qs (EchoReply ident seq_no) octets;
    sum = checked_sum checked summed qs (EchoReply ident seq_no) octets both;
    body = Reply refl refl;
  },
  reply_made _ _ _ _ _ _ (total ident m.0) (total seq_no m.1) refl,
)
read_again checked summed qs (DstUnreachable reason header) octets m both =
    let q = quoted_again qs header whole octets m.1 in (
      record {
        whole_header = long summed qs (DstUnreachable reason header) octets;
        sum = checked_sum checked summed qs (DstUnreachable reason header) octets both;
        body = Unreachable refl q.0;
      },
      unreachable_made (reason_of (code_of reason)) reason (quoted_in (header_text qs header whole ++ octets)) header octets m.0 q.1,
    )
read_again checked summed qs (TimeExceeded code header) octets m both =
    let q = quoted_again qs header whole octets m in (
      record {
        whole_header = long summed qs (TimeExceeded code header) octets;
        sum = checked_sum checked summed qs (TimeExceeded code header) octets both;
        body = Exceeded refl q.0;
      },
      exceeded_made code (quoted_in (header_text qs header whole ++ octets)) header octets q.1,
    )
