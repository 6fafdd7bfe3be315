-- The walk along an address: after i bits it is at the node of the first i bits of the address.
use Rattle.std.proofs.Common.{◌≡◌, ◌≢◌, ◌<◌, ◌≤◌, inl, inr, ℕ, suc, ◌+◌, ◌-◌, ◌*◌, ◌/◌, ◌%◌, ◌^◌, Bool, true, false}
use Rattle.std.proofs.Common.{cond, List, length, get_or, lit≤, refl, sym, ap, subst, ◌∙◌, arith, pow-add}
use Rattle.std.specs.Prelude.{Option, Some, None, slice_get, slice_index, nat_le, ◌==◌}
use Rattle.std.specs.Bool.{OnFalse, OnTrue}
use Rattle.std.specs.Int.{bit_at}
use Rattle.std.specs.Int.RustNames.{bit_and}
use Rattle.std.proofs.lemmas.Nat.{field_of, mul-mod_first, shl-shr, shl_whole, shr-shr}
use Rattle.std.proofs.lemmas.Nat.Bits.{bit_at-lt}
use Rattle.std.proofs.Math.Pow.{mod-mod-pow}
use Rattle.std.proofs.lemmas.Bool.{cases_eq, cases_lt, eq-eqb, eqb-true, ne_eqb, true≢false}
use Rattle.std.proofs.Math.Nat.{div-div-eq-div-mul, div-eq_of_lt, mul_assoc, pow-suc, sub-zero}
use Rattle.ip_address.specs.Cidr.{contains, prefix_len_of}
use Rattle.ip_address.specs.declared.ip.IpAddress.{IpAddress}
use Rattle.ip_address.specs.declared.ip.IpAddress.TheVariants.{Ipv4, Ipv6}
use Rattle.ip_address.specs.declared.ipv4.Ipv4Address.{Ipv4Address}
use Rattle.ip_address.specs.declared.ipv6.Ipv6Address.{Ipv6Address}
use Rattle.ip_address.specs.declared.cidr.IpCidr.{IpCidr}
use Rattle.ip_address.specs.declared.cidr.IpCidr.TheVariants as cidr
use Rattle.iface_tables.specs.declared.route_trie.Beginning.{Beginning}
use Rattle.iface_tables.specs.declared.route_trie.Network.{Network}
use Rattle.iface_tables.specs.declared.route_trie.RouteNode.{RouteNode}
use Rattle.iface_tables.specs.RouteTrie.{AreNextBits, IsAt, IsBestBelow, IsBestPlace, IsCandidate, IsLastOf, IsLongest, IsNodeOf, IsTrieOf}
use Rattle.iface_tables.specs.RouteTrie.{begins, has_place, host_of, is_marked, longer_of, network_of, number, index_of, root_of, shares, start_of}
use Rattle.iface_tables.proofs.RouteMaskLemmas.{both_have, each_has, empty_has, empty_is}
use Rattle.iface_tables.proofs.RouteTrieLemmas.{both, first_passes, le_of_test, none_passes, number_cases, short, test_of_le}

-- ---- the bits of an address

-- the first i bits, and the next one
next_bit : (x j : ℕ) → 2 * (x / 2 ^ suc j) + x / 2 ^ j % 2 ≡ x / 2 ^ j
next_bit x j =
    let h : x / 2 ^ suc j ≡ x / 2 ^ j / 2 = rw (pow-suc, ← div-div-eq-div-mul) refl in
    omega (arith, h)

pub longer_start : (p : Network) (i : ℕ) → i < p.width → longer_of (start_of p i) (p.bits / 2 ^ (p.width - 1 - i) % 2) ≡ start_of p (i + 1)
longer_start p i lt =
    let j : p.width - i ≡ suc (p.width - 1 - i) = omega arith in
    let k : p.width - (i + 1) ≡ p.width - 1 - i = omega arith in
    let e : 2 * (p.bits / 2 ^ (p.width - i)) + p.bits / 2 ^ (p.width - 1 - i) % 2 ≡ p.bits / 2 ^ (p.width - (i + 1)) =
    rw (j, k) (next_bit p.bits (p.width - 1 - i)) in
    ap (λ (x : ℕ). record { width = p.width; len = i + 1; leading = x }) e

-- no bit
pub start_none : (p : Network) → p.bits < 2 ^ p.width → root_of p.width ≡ start_of p 0
start_none p fits =
    let e : 0 ≡ p.bits / 2 ^ (p.width - 0) = rw sub-zero (sym (div-eq_of_lt fits)) in
    ap (λ (x : ℕ). record { width = p.width; len = 0; leading = x }) e

-- what agrees in more bits agrees in fewer
fewer : (x w m n : ℕ) → m ≤ n → n ≤ w → x / 2 ^ (w - m) ≡ x / 2 ^ (w - n) / 2 ^ (n - m)
fewer x w m n le wide =
    let e : w - m ≡ (w - n) + (n - m) = omega arith in
    rw (e, pow-add, ← div-div-eq-div-mul) refl

-- the top bit of a number of 64 bits that was moved up
top_bit : (x j : ℕ) → j < 64 → x * 2 ^ j % 2 ^ 64 / 2 ^ 63 ≡ bit_at x (63 - j)
top_bit x j lt =
    let e : 63 ≡ j + (63 - j) = omega arith in
    let up : x * 2 ^ j / 2 ^ 63 ≡ x / 2 ^ (63 - j) = ap (λ (n : ℕ). x * 2 ^ j / 2 ^ n) e ∙ sym (shr-shr (x * 2 ^ j) j (63 - j))
    ∙ ap (λ (n : ℕ). n / 2 ^ (63 - j)) (shl-shr x j) in
    field_of (x * 2 ^ j) 1 63 ∙ ap (λ (n : ℕ). n % 2) up

-- one place further up
pub moved_up : (x j : ℕ) → x * 2 ^ j % 2 ^ 64 * 2 ^ 1 % 2 ^ 64 ≡ x * 2 ^ (j + 1) % 2 ^ 64
moved_up x j = mul-mod_first (x * 2 ^ j) 2 (2 ^ 64) ∙ ap (λ (n : ℕ). n % 2 ^ 64) (rw (pow-add, mul_assoc) refl)

-- an address of 32 bits at the top of 64
left_bit : (x j : ℕ) → x < 2 ^ 32 → j < 32 → bit_at (x * 2 ^ 32 % 2 ^ 64) (63 - j) ≡ bit_at x (32 - 1 - (0 + j))
left_bit x j fits lt =
    let e : 63 - j ≡ 32 + (31 - j) = omega arith in
    let f : 32 - 1 - (0 + j) ≡ 31 - j = omega arith in
    rw (shl_whole x 32 32 64 fits (lit≤ tt), e, f, ← shr-shr, shl-shr) refl

-- the halves of an address of 128 bits
high_bit : (x j : ℕ) → j < 64 → bit_at (x / 2 ^ 64) (63 - j) ≡ bit_at x (128 - 1 - (0 + j))
high_bit x j lt =
    let e : 128 - 1 - (0 + j) ≡ 64 + (63 - j) = omega arith in
    ap (λ (n : ℕ). n % 2) (shr-shr x 64 (63 - j) ∙ ap (λ (n : ℕ). x / 2 ^ n) (sym e))

low_bit : (x j : ℕ) → j < 64 → bit_at (x % 2 ^ 64) (63 - j) ≡ bit_at x (128 - 1 - (64 + j))
low_bit x j lt =
    let e : 64 ≡ (j + 1) + (63 - j) = omega arith in
    let f : 128 - 1 - (64 + j) ≡ 63 - j = omega arith in
    ap (λ (n : ℕ). x % 2 ^ n / 2 ^ (63 - j) % 2) e ∙ ap (λ (n : ℕ). n % 2) (field_of x (j + 1) (63 - j)) ∙ mod-mod-pow (x / 2 ^ (63 - j)) j 1
    ∙ ap (bit_at x) (sym f)

-- the parts of a test of bits in common
record Shares (c : IpCidr) (a : IpAddress) (n : ℕ) : Type 0 where
  width : (network_of c).width ≡ (host_of a).width
  len : n ≤ (network_of c).len
  same : (network_of c).bits / 2 ^ ((network_of c).width - n) ≡ (host_of a).bits / 2 ^ ((host_of a).width - n)

parts : (c : IpCidr) (a : IpAddress) (n : ℕ) → shares c a n ≡ true → Shares c a n
parts c a n h =
    let w = both ((network_of c).width == (host_of a).width) _ h in
    let l = both (nat_le n (network_of c).len) _ w.1 in
    record { width = eqb-true _ _ w.0; len = le_of_test _ _ l.0; same = eqb-true _ _ l.1 }

whole : (c : IpCidr) (a : IpAddress) (n : ℕ) → Shares c a n → shares c a n ≡ true
whole c a n h = rw (eq-eqb _ _ h.width, test_of_le _ _ h.len, eq-eqb _ _ h.same) refl

shares_fewer : (c : IpCidr) (a : IpAddress) (m n : ℕ) → m ≤ n → shares c a n ≡ true → shares c a m ≡ true
shares_fewer c a m n le h =
    let p = parts c a n h in
    let s = short c in
    let long : n ≤ (network_of c).width = omega (arith, p.len, s.0) in
    let wide : n ≤ (host_of a).width = omega (arith, p.len, s.0, p.width) in
    whole c a m (record {
      width = p.width;
      len = omega (arith, p.len);
      same = fewer (network_of c).bits (network_of c).width m n le long ∙ ap (λ (q : ℕ). q / 2 ^ (n - m)) p.same
          ∙ sym (fewer (host_of a).bits (host_of a).width m n le wide);
    })

-- ---- prefixes of an address

-- a prefix has an address exactly if it shares all its bits
contains_is : (c : IpCidr) (a : IpAddress) → contains c a ≡ shares c a (prefix_len_of c)
contains_is (cidr.Ipv4 n) (Ipv4 a) = rw (test_of_le n.prefix_len n.prefix_len (omega arith)) refl
contains_is (cidr.Ipv6 n) (Ipv6 a) = rw (test_of_le n.prefix_len n.prefix_len (omega arith)) refl
contains_is (cidr.Ipv4 n) (Ipv6 a) = refl
contains_is (cidr.Ipv6 n) (Ipv4 a) = refl

-- a marked prefix has the address, and as many bits
marked : (a : IpAddress) (n : ℕ) (o : Option IpCidr) →
    is_marked (start_of (host_of a) n) o ≡ true → (c : IpCidr) × (o ≡ Some c) × (contains c a ≡ true) × (prefix_len_of c ≡ n)
marked a n None h = cc
marked a n (Some c) h =
    let t = both ((network_of c).len == n) _ h in
    let s = short c in
    let len : prefix_len_of c ≡ n = sym s.2 ∙ eqb-true _ _ t.0 in
    (c, refl, contains_is c a ∙ ap (shares c a) len ∙ t.1, len)

mark_of : (a : IpAddress) (n : ℕ) (c : IpCidr) → contains c a ≡ true → prefix_len_of c ≡ n → is_marked (start_of (host_of a) n) (Some c) ≡ true
mark_of a n c has len =
    let s = short c in
    let l : (network_of c).len ≡ n = s.2 ∙ len in
    let t : shares c a n ≡ true = ap (shares c a) (sym len) ∙ sym (contains_is c a) ∙ has in
    rw (eq-eqb _ _ l, t) refl

-- a candidate with as many bits as the node is marked there, and the other way round
is_marked_there : (cidrs : List IpCidr) (a : IpAddress) (live : ℕ) (n k : ℕ) (node : RouteNode) → IsNodeOf cidrs (start_of (host_of a) n) node
    → IsCandidate cidrs a live k n → has_place node.places k ≡ true
is_marked_there cidrs a live n k node is cand = is.marks k ∙ ap (is_marked (start_of (host_of a) n)) cand.is_there
    ∙ mark_of a n cand.prefix cand.is_match cand.len

is_candidate : (cidrs : List IpCidr) (a : IpAddress) (live : ℕ) (n k : ℕ) (node : RouteNode) → IsNodeOf cidrs (start_of (host_of a) n) node
    → has_place node.places k ≡ true → has_place live k ≡ true → IsCandidate cidrs a live k n
is_candidate cidrs a live n k node is mark alive =
    let m = marked a n (slice_get cidrs k) (sym (is.marks k) ∙ mark) in
    record { prefix = m.0; is_there = m.1; is_match = m.2; is_live = alive; len = m.3 }

no_candidate : (cidrs : List IpCidr) (a : IpAddress) (live i k : ℕ) (node : RouteNode) →
    IsNodeOf cidrs (start_of (host_of a) i) node → bit_and node.places live ≡ 0
    → IsCandidate cidrs a live k i → ⊥
no_candidate cidrs a live i k node is none cand =
    let h : has_place 0 k ≡ true = subst (λ (m : ℕ). has_place m k ≡ true) none (both_have node.places live k
    (is_marked_there cidrs a live i k node is cand) cand.is_live) in
    let e = empty_has k in
    cc

-- where a node has no live place, nothing changes
keeps_best : (cidrs : List IpCidr) (a : IpAddress) (live i : ℕ) (node : RouteNode) (best : Option ℕ) → IsNodeOf cidrs (start_of (host_of a) i) node
    → bit_and node.places live ≡ 0 → IsBestBelow cidrs a live i best → IsBestBelow cidrs a live (i + 1) best
keeps_best cidrs a live i node None is none old = λ k n cand lt.
    elim (cases_eq n i) [
      | inl at ↦ no_candidate cidrs a live i k node is none (subst (IsCandidate cidrs a live k) at cand)
      | inr other ↦ old k n cand (omega arith)
    ]
keeps_best cidrs a live i node (Some place) is none old = (
  old.0,
  old.1,
  λ k m cand lt.
      elim (cases_eq m i) [
        | inl at ↦ absurd (no_candidate cidrs a live i k node is none (subst (IsCandidate cidrs a live k) at cand))
        | inr other ↦ old.2 k m cand (omega arith)
      ],
  omega (arith, old.3),
)

-- where it has one, the last is the best
takes_best : (cidrs : List IpCidr) (a : IpAddress) (live i : ℕ) (node : RouteNode) (best : Option ℕ) → IsNodeOf cidrs (start_of (host_of a) i) node
    → bit_and node.places live ≢ 0 → IsLastOf (bit_and node.places live) best → IsBestBelow cidrs a live (i + 1) best
takes_best cidrs a live i node None is some last = absurd (some (empty_is (bit_and node.places live) last))
takes_best cidrs a live i node (Some place) is some last = (
  i,
  (let h = each_has node.places live place last.0 in is_candidate cidrs a live i place node is h.0 h.1),
  λ k m cand lt. (
    omega arith,
    λ after.
        elim (cases_eq m i) [
          | inl at ↦ absurd (let here : IsCandidate cidrs a live k i = subst (IsCandidate cidrs a live k) at cand in
              let le = last.1 k (both_have node.places live k (is_marked_there cidrs a live i k node is here) here.is_live) in omega arith)
          | inr other ↦ omega arith
        ],
  ),
  omega arith,
)

-- one node more
best_more : (cidrs : List IpCidr) (a : IpAddress) (live i : ℕ) (node : RouteNode) (mask : ℕ) → IsNodeOf cidrs (start_of (host_of a) i) node
    → ((best : Option ℕ) → IsLastOf mask best → IsBestBelow cidrs a live i best)
    → (best : Option ℕ) → IsLastOf (cond (bit_and node.places live == 0) mask (bit_and node.places live)) best → IsBestBelow cidrs a live (i + 1) best
best_more cidrs a live i node mask is old best last =
    elim (cases_eq (bit_and node.places live) 0) [
      | inl none ↦
          keeps_best cidrs a live i node best is none (old best (subst (λ (m : ℕ). IsLastOf m best) (ap (λ t. cond t mask (bit_and node.places live))
          (eq-eqb _ _ none)) last))
      | inr some ↦ takes_best cidrs a live i node best is some (subst (λ (m : ℕ). IsLastOf m best) (ap (λ t. cond t mask (bit_and node.places live))
          (ne_eqb _ _ some)) last)
    ]

-- and the first
best_first : (cidrs : List IpCidr) (a : IpAddress) (live : ℕ) (node : RouteNode) → IsNodeOf cidrs (start_of (host_of a) 0) node → (best : Option ℕ)
    → IsLastOf (bit_and node.places live) best → IsBestBelow cidrs a live 1 best
best_first cidrs a live node is best last =
    elim (cases_eq (bit_and node.places live) 0) [
      | inl none ↦ at_none best (subst (λ (m : ℕ). IsLastOf m best) none last) none
      | inr some ↦ takes_best cidrs a live 0 node best is some last
    ]
  where
    at_none : (best : Option ℕ) → IsLastOf 0 best → bit_and node.places live ≡ 0 → IsBestBelow cidrs a live 1 best
    at_none None last none = keeps_best cidrs a live 0 node None is none (λ k n cand lt. absurd (omega arith))
    at_none (Some place) last none = absurd (let h = last.0 in let e = empty_has place in cc)

-- ---- the walk

-- no prefix shares more than i bits
abbrev pub NoneShares : List IpCidr → IpAddress → ℕ → Type 0
NoneShares cidrs a i = (k m : ℕ) (c : IpCidr) → slice_get cidrs k ≡ Some c → shares c a m ≡ true → m ≤ i

within : (cidrs : List IpCidr) (a : IpAddress) (live : ℕ) (i : ℕ) → NoneShares cidrs a i → (k n : ℕ) → IsCandidate cidrs a live k n → n < i + 1
within cidrs a live i none k n cand =
    let le = none k (prefix_len_of cand.prefix) cand.prefix cand.is_there (sym (contains_is cand.prefix a) ∙ cand.is_match) in
    omega (arith, le, cand.len)

-- what stands where the walk ends
pub ends_best : (cidrs : List IpCidr) (a : IpAddress) (live : ℕ) (i : ℕ) (best : Option ℕ) →
    NoneShares cidrs a i → IsBestBelow cidrs a live (i + 1) best
    → IsBestPlace cidrs a live best
ends_best cidrs a live i None none best = λ k n cand. best k n cand (within cidrs a live i none k n cand)
ends_best cidrs a live i (Some place) none best = (best.0, best.1, λ k m cand. best.2 k m cand (within cidrs a live i none k m cand))

pub ends_longest : {cidrs : List IpCidr} {a : IpAddress} {live i : ℕ} {node : RouteNode} {mask steps : ℕ} → NoneShares cidrs a i
    → IsAt cidrs a live i node mask steps → IsLongest cidrs a i
ends_longest none at = record { shared = at.shared; most = none }

-- at the last bit, and where no node is longer
pub none_after : (cidrs : List IpCidr) (a : IpAddress) (i : ℕ) → (host_of a).width ≤ i → NoneShares cidrs a i
none_after cidrs a i past k m c there h =
    let p = parts c a m h in
    let s = short c in
    omega (arith, p.len, s.0, p.width)

pub none_longer : (cidrs : List IpCidr) (a : IpAddress) (i : ℕ) → number cidrs (start_of (host_of a) (i + 1)) ≡ 0 → NoneShares cidrs a i
none_longer cidrs a i zero_number k m c there h =
    elim (cases_lt i m) [
      | inr le ↦ le
      | inl lt ↦ absurd (
          let one = shares_fewer c a (i + 1) m (omega arith) h in
          let found = none_passes (λ d. begins (start_of (host_of a) (i + 1)) (network_of d)) cidrs k c there one in
          elim (number_cases cidrs (start_of (host_of a) (i + 1))) [ inl here ↦ omega (arith, here.1) | inr gone ↦ omega (arith, gone.0) ])
    ]

-- the number that a node has for the next bit
child_is : (cidrs : List IpCidr) (p : Network) (i bit : ℕ) (node : RouteNode) → IsNodeOf cidrs (start_of p i) node → i < p.width
    → bit ≡ bit_at p.bits (p.width - 1 - i) → slice_index node.next bit ≡ number cidrs (start_of p (i + 1))
child_is cidrs p i bit node is lt at =
    is.next bit (omega (arith, bit_at-lt p.bits (p.width - 1 - i))) ∙ ap (λ (b : ℕ). number cidrs (longer_of (start_of p i) b)) at
    ∙ ap (number cidrs) (longer_start p i lt)

-- the number of a node is below that of all nodes
pub within_pool : (cidrs : List IpCidr) (b : Beginning) → number cidrs b < 2 + 128 * length cidrs
within_pool cidrs b =
    elim (number_cases cidrs b) [
      | inl here ↦
          let first = first_passes (λ c. begins b (network_of c)) cidrs here.0 in
          let t = both ((network_of first.0).width == b.width) _ first.2 in
          let l = both (nat_le b.len (network_of first.0).len) _ t.1 in
          let s = short first.0 in
          omega (arith, here.0, here.1, le_of_test _ _ l.0, s.0, s.1)
      | inr none ↦ omega (arith, none.1)
    ]

-- where a walk may go on: j of the next bits are passed, and a number has the others on top
pub child_at : {cidrs : List IpCidr} {a : IpAddress} {live : ℕ} (i j : ℕ) {count leading : ℕ} (bits : ℕ) {node : RouteNode} {mask steps : ℕ}
    → IsAt cidrs a live (i + j) node mask steps → AreNextBits a i count leading → j < count → bits ≡ leading * 2 ^ j % 2 ^ 64
    → slice_index node.next (bits / 2 ^ 63) ≡ number cidrs (start_of (host_of a) (i + j + 1))
child_at {cidrs} {a} i j {leading = leading} bits {node} at next lt is =
    let few = next.few in
    let within = next.within in
    let bit : bits / 2 ^ 63 ≡ bit_at (host_of a).bits ((host_of a).width - 1 - (i + j)) =
    ap (λ (b : ℕ). b / 2 ^ 63) is ∙ top_bit leading j (omega arith)
    ∙ next.same j lt in
    child_is cidrs (host_of a) (i + j) (bits / 2 ^ 63) node at.node_is (omega arith) bit

pub child_within : {cidrs : List IpCidr} {ns : List RouteNode} (a : IpAddress) (n : ℕ) {child : ℕ} → IsTrieOf ns cidrs
    → child ≡ number cidrs (start_of (host_of a) n)
    → child < length ns
child_within {cidrs} a n trie is = let lt = within_pool cidrs (start_of (host_of a) n) in omega (arith, lt, trie.fits)

-- one bit further
step : (cidrs : List IpCidr) (ns : List RouteNode) (a : IpAddress) (live n child : ℕ) (node next : RouteNode) (mask steps : ℕ) → IsTrieOf ns cidrs
    → IsAt cidrs a live n node mask steps
    → child ≡ number cidrs (start_of (host_of a) (n + 1)) → child ≢ 0 → next ≡ get_or ns child next
    → IsAt cidrs a live (n + 1) next (cond (bit_and next.places live == 0) mask (bit_and next.places live)) (steps + 1)
step cidrs ns a live n child node next mask steps trie at is some read =
    let b = start_of (host_of a) (n + 1) in
    let there : 0 < number cidrs b = omega arith in
    let node_is : IsNodeOf cidrs b next = subst (IsNodeOf cidrs b) (ap (λ (m : ℕ). get_or ns m next) (sym is)
    ∙ sym read) (trie.others b next (omega arith) there) in
    record {
      node_is = node_is;
      best_is = best_more cidrs a live (n + 1) next mask node_is at.best_is;
      shared = λ _. elim (number_cases cidrs b) [
        | inl found ↦ let first = first_passes (λ c. begins b (network_of c)) cidrs found.0 in (index_of cidrs b, first.0, first.1, first.2)
        | inr none ↦ absurd (omega (arith, none.1))
      ];
      counted = (let c = at.counted in omega arith);
    }

pub one_further : {cidrs : List IpCidr} {ns : List RouteNode} {a : IpAddress} {live : ℕ} (i j : ℕ) {child : ℕ}
    {node next : RouteNode} {mask more steps counted : ℕ}
    → IsTrieOf ns cidrs → IsAt cidrs a live (i + j) node mask steps
    → child ≡ number cidrs (start_of (host_of a) (i + j + 1)) → child ≢ 0 → next ≡ get_or ns child next
    → more ≡ cond (bit_and next.places live == 0) mask (bit_and next.places live) → counted ≡ steps + 1
    → IsAt cidrs a live (i + (j + 1)) next more counted
one_further {cidrs} {ns} {a} {live} i j {child} {node} {next} {mask} {steps = steps} trie at is some read better count =
    let e : i + (j + 1) ≡ i + j + 1 = omega arith in
    rw (e, better, count) (step cidrs ns a live (i + j) child node next mask steps trie at is some read)

-- at the root
root_is : (cidrs : List IpCidr) (a : IpAddress) (live : ℕ) (node : RouteNode) → IsNodeOf cidrs (start_of (host_of a) 0) node
    → IsAt cidrs a live 0 node (bit_and node.places live) 1
root_is cidrs a live node is = record {
  node_is = is;
  best_is = best_first cidrs a live node is;
  shared = λ lt. absurd (omega arith);
  counted = refl;
}

pub ipv4_root : {cidrs : List IpCidr} {ns : List RouteNode} (x : Ipv4Address) {live : ℕ} {node : RouteNode} {mask none steps : ℕ} →
    IsTrieOf ns cidrs → x.bits < 2 ^ 32
    → node ≡ get_or ns 0 node → mask ≡ bit_and node.places live → none ≡ 0 → steps ≡ none + 1 → IsAt cidrs (Ipv4 x) live 0 node mask steps
ipv4_root {cidrs} {ns} x {live} {node} trie fits read best first count =
    let p = host_of (Ipv4 x) in
    let at : IsNodeOf cidrs (start_of p 0) (get_or ns 0 node) =
    subst (λ (b : Beginning). IsNodeOf cidrs b (get_or ns 0 node)) (start_none p fits) (trie.ipv4 node) in
    rw (best, count, first) (root_is cidrs (Ipv4 x) live node (subst (IsNodeOf cidrs (start_of p 0)) (sym read) at))

pub ipv6_root : {cidrs : List IpCidr} {ns : List RouteNode} (x : Ipv6Address) {live : ℕ} {node : RouteNode} {mask none steps : ℕ} →
    IsTrieOf ns cidrs → x.bits < 2 ^ 128
    → node ≡ get_or ns 1 node → mask ≡ bit_and node.places live → none ≡ 0 → steps ≡ none + 1 → IsAt cidrs (Ipv6 x) live 0 node mask steps
ipv6_root {cidrs} {ns} x {live} {node} trie fits read best first count =
    let p = host_of (Ipv6 x) in
    let at : IsNodeOf cidrs (start_of p 0) (get_or ns 1 node) =
    subst (λ (b : Beginning). IsNodeOf cidrs b (get_or ns 1 node)) (start_none p fits) (trie.ipv6 node) in
    rw (best, count, first) (root_is cidrs (Ipv6 x) live node (subst (IsNodeOf cidrs (start_of p 0)) (sym read) at))

-- where it goes on
pub at_middle : {cidrs : List IpCidr} {a : IpAddress} {live : ℕ} (i count : ℕ) {node : RouteNode} {mask steps : ℕ} (over : Bool) → over ≡ false
    → ((n : ℕ) × IsAt cidrs a live n node mask steps × OnTrue over (IsLongest cidrs a n) × OnFalse over (n ≡ i + count))
    → IsAt cidrs a live (i + count) node mask steps
at_middle i count true on w = absurd (true≢false on)
at_middle {cidrs} {a} {live} i count {node} {mask} {steps} false on w = subst (λ (n : ℕ). IsAt cidrs a live n node mask steps) w.3 w.1

-- at the last bit
pub at_end : {cidrs : List IpCidr} {a : IpAddress} {live : ℕ} (i count : ℕ) {node : RouteNode} {mask steps : ℕ} (over : Bool) →
    (host_of a).width ≤ i + count
    → ((n : ℕ) × IsAt cidrs a live n node mask steps × OnTrue over (IsLongest cidrs a n) × OnFalse over (n ≡ i + count))
    → (n : ℕ) × IsAt cidrs a live n node mask steps × IsLongest cidrs a n
at_end i count true last w = (w.0, w.1, w.2)
at_end {cidrs} {a} {live} i count {node} {mask} {steps} false last w =
    let past : (host_of a).width ≤ w.0 = (let e : w.0 ≡ i + count = w.3 in omega arith) in
    (w.0, w.1, ends_longest (none_after cidrs a w.0 past) w.1)

-- ---- the numbers that the walks go by

pub ipv4_bits : (x : Ipv4Address) → x.bits < 2 ^ 32 → AreNextBits (Ipv4 x) 0 32 (x.bits * 2 ^ 32 % 2 ^ 64)
ipv4_bits x fits = record { few = lit≤ tt; within = lit≤ tt; same = λ j lt. left_bit x.bits j fits lt }

pub high_bits : (x : Ipv6Address) → AreNextBits (Ipv6 x) 0 64 (x.bits / 2 ^ 64)
high_bits x = record { few = lit≤ tt; within = lit≤ tt; same = λ j lt. high_bit x.bits j lt }

pub low_bits : (x : Ipv6Address) → AreNextBits (Ipv6 x) 64 64 (x.bits % 2 ^ 64)
low_bits x = record { few = lit≤ tt; within = lit≤ tt; same = λ j lt. low_bit x.bits j lt }
