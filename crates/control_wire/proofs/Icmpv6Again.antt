-- A message is read as it was written.
use Rattle.std.proofs.Common.{◌≡◌, ℕ, ◌+◌, ◌-◌, ◌/◌, ◌%◌, ◌<◌, ◌^◌, Bool, true, false, IsTrue, List, [], ◌++◌, length}
use Rattle.std.proofs.Common.{refl, sym, ap, ◌∙◌, append-nil, append_assoc, length-append, Option, Some, None, arith}
use Rattle.ip_wire.specs.Checksum.{folded_sum, word_sum}
use Rattle.ip_wire.proofs.Pseudos.{header_words}
use Rattle.ip_wire.proofs.Sums.{summed_up, word_sum-append}
use Rattle.ip_address.specs.declared.ipv6.Ipv6Address.{Ipv6Address}
use Rattle.ip_address.specs.declared.ip.IpAddress.{IpAddress}
use Rattle.ip_address.specs.declared.ethernet_address.EthernetAddress.{EthernetAddress}
use Rattle.ip_wire.specs.Ipv6Packet.{quoted_in, header_text, address_text}
use Rattle.ip_wire.specs.declared.ipv6_packet.Ipv6Repr.{Ipv6Repr}
use Rattle.ip_wire.proofs.Ipv6Again.{quoted_again, total}
use Rattle.control_wire.specs.declared.icmpv6.Icmpv6DstUnreachable.{Icmpv6DstUnreachable}
use Rattle.control_wire.specs.declared.icmpv6.Icmpv6ParamProblem.{Icmpv6ParamProblem}
use Rattle.control_wire.specs.declared.icmpv6.Icmpv6Repr.{Icmpv6Repr}
use Rattle.control_wire.specs.declared.icmpv6.Icmpv6Repr.TheVariants.{EchoRequest, EchoReply, DstUnreachable, PktTooBig}
use Rattle.control_wire.specs.declared.icmpv6.Icmpv6Repr.TheVariants.{TimeExceeded, ParamProblem, Ndisc, Router, Mld}
use Rattle.control_wire.specs.declared.router.RouterRepr.{RouterRepr}
use Rattle.control_wire.specs.declared.router.RouterRepr.TheVariants.{RouterSolicit, RouterAdvert}
use Rattle.control_wire.specs.Router as router
use Rattle.control_wire.specs.declared.ndisc.NdiscRepr.{NdiscRepr}
use Rattle.control_wire.specs.declared.ndisc.NdiscRepr.TheVariants.{NeighborSolicit, NeighborAdvert}
use Rattle.control_wire.specs.NdiscOption.{lladdr_text}
use Rattle.control_wire.specs.Ndisc.{lladdr_option, lladdr_len, target_of, option_text, IsLinkLayerAddr, IsNeighbor}
use Rattle.control_wire.specs.Icmpv6.{head_with, body, header_len, pseudo_header, sum_of, text, IsBody, IsMessage, Request, Reply, Error, Neighbor}
use Rattle.control_wire.specs.Icmpv6.{OfRouters, Listener, unreachable_of, unreachable_code, problem_of, problem_code, icmpv6_in, ReadAgain}
use Rattle.control_wire.proofs.NdiscAgain.{neighbor_again, neighbor_text}
use Rattle.control_wire.proofs.RouterAgain.{number, router_again, router_text, body_size}
use Rattle.control_wire.specs.declared.mld.MldRepr.{MldRepr}
use Rattle.control_wire.specs.declared.mld.MldRepr.TheVariants.{Query, Report}
use Rattle.control_wire.specs.Mld as mld
use Rattle.control_wire.proofs.MldAgain as mld_again

-- the checksum is one of the first words
head_words : (c : ℕ) (r : Icmpv6Repr) → c < 2 ^ 16 → word_sum (head_with c r) ≡ word_sum (head_with 0 r) + c
unfolding head_with word_sum
head_words c (EchoRequest ident seq_no) lt = omega (arith, total c lt)
head_words c (EchoReply ident seq_no) lt = omega (arith, total c lt)
head_words c (DstUnreachable reason header) lt = omega (arith, total c lt)
head_words c (PktTooBig mtu header) lt = omega (arith, total c lt)
head_words c (TimeExceeded code header) lt = omega (arith, total c lt)
head_words c (ParamProblem reason pointer header) lt = omega (arith, total c lt)
head_words c (Ndisc message) lt = omega (arith, total c lt)
head_words c (Router (RouterSolicit lladdr)) lt = omega (arith, total c lt)
head_words c (Router (RouterAdvert hop_limit flags lifetime lladdr prefix)) lt = omega (arith, total c lt)
head_words c (Mld (Query code group)) lt = omega (arith, total c lt)
head_words c (Mld (Report count)) lt = omega (arith, total c lt)

head_length : (c : ℕ) (r : Icmpv6Repr) → length (head_with c r) ≡ 8
unfolding head_with
head_length c (EchoRequest ident seq_no) = refl
head_length c (EchoReply ident seq_no) = refl
head_length c (DstUnreachable reason header) = refl
head_length c (PktTooBig mtu header) = refl
head_length c (TimeExceeded code header) = refl
head_length c (ParamProblem reason pointer header) = refl
head_length c (Ndisc message) = refl
head_length c (Router (RouterSolicit lladdr)) = refl
head_length c (Router (RouterAdvert hop_limit flags lifetime lladdr prefix)) = refl
head_length c (Mld (Query code group)) = refl
head_length c (Mld (Report count)) = refl

-- a body of so many octets, an even number
pub record Body (r : Icmpv6Repr) : Type 0 where
  pub len : 8 + length (body r) ≡ header_len r
  pub even : length (body r) % 2 ≡ 0

quoting : (h : Ipv6Repr) → length (header_text h) ≡ 40
unfolding header_text address_text
quoting h = refl

option_body : (type : ℕ) (target : Ipv6Address) (lladdr : Option EthernetAddress) → IsLinkLayerAddr lladdr →
    (8 + length (address_text target ++ lladdr_option type lladdr) ≡ lladdr_len lladdr)
    × (length (address_text target ++ lladdr_option type lladdr) % 2 ≡ 0)
unfolding address_text lladdr_text
option_body type target None h = (refl, refl)
option_body type target (Some address) h = (omega (arith, h), omega (arith, h))

query_body : (group : Ipv6Address) → length (mld.query_body group) ≡ 20
unfolding address_text mld.query_body
query_body group = refl

body_of : (r : Icmpv6Repr) (octets : List ℕ) → IsMessage r octets → Body r
body_of (EchoRequest ident seq_no) octets m = record { len = refl; even = refl }
body_of (EchoReply ident seq_no) octets m = record { len = refl; even = refl }
body_of (DstUnreachable reason header) octets m = record { len = omega (arith, quoting header); even = omega (arith, quoting header) }
body_of (PktTooBig mtu header) octets m = record { len = omega (arith, quoting header); even = omega (arith, quoting header) }
body_of (TimeExceeded code header) octets m = record { len = omega (arith, quoting header); even = omega (arith, quoting header) }
body_of (ParamProblem reason pointer header) octets m = record { len = omega (arith, quoting header); even = omega (arith, quoting header) }
body_of (Ndisc (NeighborSolicit target lladdr)) octets m = let o = option_body 1 target lladdr m.0.1 in record { len = o.0; even = o.1 }
body_of (Ndisc (NeighborAdvert flags target lladdr)) octets m = let o = option_body 2 target lladdr m.0.2 in record { len = o.0; even = o.1 }
body_of (Router message) octets m = let b = body_size message m.0 in record { len = b.0; even = b.1 }
body_of (Mld (Query code group)) octets m = record { len = omega (arith, query_body group); even = omega (arith, query_body group) }
body_of (Mld (Report count)) octets m = record { len = refl; even = refl }

text_length : (c : ℕ) (r : Icmpv6Repr) (octets : List ℕ) → Body r → length (head_with c r ++ body r ++ octets) ≡ header_len r + length octets
text_length c r octets b =
    let len = b.len in
    omega (arith, len, head_length c r, length-append (head_with c r ++ body r) octets, length-append (head_with c r) (body r))

-- the words behind the pseudo-header, with a checksum among them
all_words : (src dst : IpAddress) (len c : ℕ) (r : Icmpv6Repr) (octets : List ℕ) → Body r → c < 2 ^ 16 →
    word_sum (pseudo_header src dst len ++ (head_with c r ++ body r ++ octets))
    ≡ word_sum (pseudo_header src dst len) + word_sum (head_with 0 r) + c + word_sum (body r) + word_sum octets
all_words src dst len c r octets b lt =
    let even = b.even in
    let front = length-append (head_with c r) (body r) in
    let one = header_words src dst 58 len (4 + length (body r) / 2) (head_with c r ++ body r) octets (omega (arith, front, even, head_length c r)) in
    let two = word_sum-append (head_with c r) (body r) 4 (head_length c r) in
    omega (arith, one, two, head_words c r lt)

sums : (src dst : IpAddress) (r : Icmpv6Repr) (octets : List ℕ) →
    Body r → folded_sum (word_sum (pseudo_header src dst (header_len r + length octets) ++ text true src dst r octets)) ≡ 65535
sums src dst r octets b =
    let len : ℕ = header_len r + length octets in
    let before : ℕ = word_sum (pseudo_header src dst len ++ (head_with 0 r ++ body r ++ octets)) in
    let c : ℕ = 65535 - folded_sum before in
    let one = all_words src dst len 0 r octets b (omega arith) in
    let two = all_words src dst len c r octets b (omega arith) in
    let all : word_sum (pseudo_header src dst len ++ (head_with c r ++ body r ++ octets)) ≡ before + c = omega (arith, one, two) in
    ap folded_sum all ∙ summed_up before c refl

checked_sum : (checked summed : Bool) (src dst : IpAddress) (r : Icmpv6Repr) (octets : List ℕ) →
    Body r → (IsTrue checked → IsTrue summed) → IsTrue checked →
    folded_sum (word_sum (pseudo_header src dst (length (text summed src dst r octets)) ++ text summed src dst r octets)) ≡ 65535
checked_sum checked true src dst r octets b both yes' =
    ap (λ (n : ℕ). folded_sum (word_sum (pseudo_header src dst n ++ text true src dst r octets)))
    (text_length (sum_of true src dst r octets) r octets b) ∙ sums src dst r octets b
checked_sum checked false src dst r octets b both yes' = absurd (let bad = both yes' in cc)

request_made : (a b : ℕ) (xs : List ℕ) (i s : ℕ) → a ≡ i → b ≡ s → ◌≡◌ {A = Icmpv6Repr × List ℕ} (EchoRequest a b, xs) (EchoRequest i s, xs)
request_made a b xs i s ei es = rw (ei, es) refl

reply_made : (a b : ℕ) (xs : List ℕ) (i s : ℕ) → a ≡ i → b ≡ s → ◌≡◌ {A = Icmpv6Repr × List ℕ} (EchoReply a b, xs) (EchoReply i s, xs)
reply_made a b xs i s ei es = rw (ei, es) refl

unreachable_made : (r r' : Icmpv6DstUnreachable) (p : Ipv6Repr × List ℕ) (h : Ipv6Repr) (xs : List ℕ) →
    r ≡ r' → p ≡ (h, xs) → ◌≡◌ {A = Icmpv6Repr × List ℕ} (DstUnreachable r p.0, p.1) (DstUnreachable r' h, xs)
unreachable_made r r' p h xs er e = rw (er, e) refl

too_big_made : (m n : ℕ) (p : Ipv6Repr × List ℕ) (h : Ipv6Repr) (xs : List ℕ) →
    m ≡ n → p ≡ (h, xs) → ◌≡◌ {A = Icmpv6Repr × List ℕ} (PktTooBig m p.0, p.1) (PktTooBig n h, xs)
too_big_made m n p h xs em e = rw (em, e) refl

exceeded_made : (code : ℕ) (p : Ipv6Repr × List ℕ) (h : Ipv6Repr) (xs : List ℕ) →
    p ≡ (h, xs) → ◌≡◌ {A = Icmpv6Repr × List ℕ} (TimeExceeded code p.0, p.1) (TimeExceeded code h, xs)
exceeded_made code p h xs e = rw e refl

problem_made : (r r' : Icmpv6ParamProblem) (m n : ℕ) (p : Ipv6Repr × List ℕ) (h : Ipv6Repr) (xs : List ℕ) →
    r ≡ r' → m ≡ n → p ≡ (h, xs) → ◌≡◌ {A = Icmpv6Repr × List ℕ} (ParamProblem r m p.0, p.1) (ParamProblem r' n h, xs)
problem_made r r' m n p h xs er em e = rw (er, em, e) refl

neighbor_made : (n m : NdiscRepr) (xs : List ℕ) → n ≡ m → xs ≡ [] → ◌≡◌ {A = Icmpv6Repr × List ℕ} (Ndisc n, []) (Ndisc m, xs)
neighbor_made n m xs en e = rw (en, e) refl

neighbor_body : (c : ℕ) (m : NdiscRepr) → IsNeighbor m → IsBody (neighbor_text c m) × (icmpv6_in (neighbor_text c m) ≡ (Ndisc m, []))
unfolding head_with
neighbor_body c (NeighborSolicit target lladdr) h = let n = neighbor_again c (NeighborSolicit target lladdr) h in
    (Neighbor n.0, neighbor_made _ _ [] n.1 refl)
neighbor_body c (NeighborAdvert flags target lladdr) h = let n = neighbor_again c (NeighborAdvert flags target lladdr) h in
    (Neighbor n.0, neighbor_made _ _ [] n.1 refl)

neighbor_message : (c : ℕ) (m : NdiscRepr) (octets : List ℕ) → IsNeighbor m → octets ≡ [] →
    IsBody (head_with c (Ndisc m) ++ body (Ndisc m) ++ octets) × (icmpv6_in (head_with c (Ndisc m) ++ body (Ndisc m) ++ octets) ≡ (Ndisc m, octets))
neighbor_message c m octets h e =
    let none : head_with c (Ndisc m) ++ body (Ndisc m) ++ [] ≡ neighbor_text c m =
    append-nil (head_with c (Ndisc m) ++ body (Ndisc m)) ∙ sym (append_assoc (head_with c (Ndisc m)) (address_text (target_of m)) (option_text m)) in
    rw (e, none) (neighbor_body c m h)

router_made : (n m : RouterRepr) (xs : List ℕ) → n ≡ m → xs ≡ [] → ◌≡◌ {A = Icmpv6Repr × List ℕ} (Router n, []) (Router m, xs)
router_made n m xs en e = rw (en, e) refl

router_body : (c : ℕ) (m : RouterRepr) → router.IsMessage m → IsBody (router_text c m) × (icmpv6_in (router_text c m) ≡ (Router m, []))
unfolding head_with
router_body c (RouterSolicit lladdr) h = let n = router_again c (RouterSolicit lladdr) h in (OfRouters n.0, router_made _ _ [] n.1 refl)
router_body c (RouterAdvert hop_limit flags lifetime lladdr prefix) h =
    let n = router_again c (RouterAdvert hop_limit flags lifetime lladdr prefix) h in (OfRouters n.0, router_made _ _ [] n.1 refl)

router_message : (c : ℕ) (m : RouterRepr) (octets : List ℕ) → router.IsMessage m → octets ≡ [] →
    IsBody (head_with c (Router m) ++ body (Router m) ++ octets)
    × (icmpv6_in (head_with c (Router m) ++ body (Router m) ++ octets) ≡ (Router m, octets))
router_message c m octets h e = rw (e, append-nil (head_with c (Router m) ++ body (Router m))) (router_body c m h)

listener_made : (p : MldRepr × List ℕ) (m : MldRepr) (xs : List ℕ) → p ≡ (m, xs) → ◌≡◌ {A = Icmpv6Repr × List ℕ} (Mld p.0, p.1) (Mld m, xs)
listener_made p m xs e = rw e refl

-- a message's body is there, and its values are those that were written
message_again : (c : ℕ) (r : Icmpv6Repr) (octets : List ℕ) →
    IsMessage r octets → IsBody (head_with c r ++ body r ++ octets) × (icmpv6_in (head_with c r ++ body r ++ octets) ≡ (r, octets))
unfolding head_with
message_again c (EchoRequest ident seq_no) octets m = (Request refl refl, request_made _ _ _ _ _ (total ident m.0) (total seq_no m.1))
message_again c (EchoReply ident seq_no) octets m = (Reply refl refl, reply_made _ _ _ _ _ (total ident m.0) (total seq_no m.1))
message_again c (DstUnreachable reason header) octets m =
    let q = quoted_again header octets m.1 in (
      Error (record { least = omega arith; most = omega arith; quoted = q.0 }),
      unreachable_made (unreachable_of (unreachable_code reason)) reason (quoted_in (header_text header ++ octets)) header octets m.0 q.1,
    )
message_again c (PktTooBig mtu header) octets m =
    let q = quoted_again header octets m.1 in (
      Error (record { least = omega arith; most = omega arith; quoted = q.0 }),
      too_big_made _ mtu (quoted_in (header_text header ++ octets)) header octets (number mtu m.0) q.1,
    )
message_again c (TimeExceeded code header) octets m =
    let q = quoted_again header octets m in (
      Error (record { least = omega arith; most = omega arith; quoted = q.0 }),
      exceeded_made code (quoted_in (header_text header ++ octets)) header octets q.1,
    )
message_again c (ParamProblem reason pointer header) octets m =
    let q = quoted_again header octets m.2 in (
      Error (record { least = omega arith; most = omega arith; quoted = q.0 }),
      problem_made (problem_of (problem_code reason)) reason _ pointer
          (quoted_in (header_text header ++ octets)) header octets m.0 (number pointer m.1) q.1,
    )
message_again c (Ndisc message) octets m = neighbor_message c message octets m.0 m.1
message_again c (Router message) octets m = router_message c message octets m.0 m.1
message_again c (Mld (Query code group)) octets m =
    let l = mld_again.read_again (c / 256 % 256) (c % 256) (Query code group) octets m in
    (Listener l.0, listener_made _ _ _ l.1)
message_again c (Mld (Report count)) octets m =
    let l = mld_again.read_again (c / 256 % 256) (c % 256) (Report count) octets m in
    (Listener l.0, listener_made _ _ _ l.1)

pub read_again : ReadAgain
read_again checked summed src dst r octets m both =
    let b = body_of r octets m in
    let again = message_again (sum_of summed src dst r octets) r octets m in (
      record {
        whole_header = omega (arith, text_length (sum_of summed src dst r octets) r octets b, b.len);
        sum = checked_sum checked summed src dst r octets b both;
        body = again.0;
      },
      again.1,
    )
