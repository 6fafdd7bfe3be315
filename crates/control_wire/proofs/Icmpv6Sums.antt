-- Sums over the parts of a message, whose pseudo-header stands before them.
use Rattle.std.proofs.Common.{◌≡◌, ℕ, ◌+◌, ◌-◌, ◌/◌, ◌%◌, List, ◌++◌, length, ap, sym, ◌∙◌, length-append, arith}
use Rattle.ip_wire.specs.Checksum.{folded_sum, word_sum, checksum_of}
use Rattle.ip_wire.specs.Pseudo.{pseudo}
use Rattle.ip_address.specs.declared.ip.IpAddress.{IpAddress}
use Rattle.ip_wire.proofs.Pseudos.{after}
use Rattle.ip_wire.proofs.Sums.{word_sum-append}

pub ruleset before = (after)

-- a head and a body of whole words before the data
pub words : (h b d : List ℕ) → length h % 2 ≡ 0 → length b % 2 ≡ 0 → word_sum (h ++ b ++ d) ≡ word_sum h + word_sum b + word_sum d
words h b d eh eb =
    let one = word_sum-append (h ++ b) d ((length h + length b) / 2) (omega (arith, length-append h b)) in
    let two = word_sum-append h b (length h / 2) (omega arith) in
    omega (arith, one, two)

-- a head and the two parts of a body, in sums that fold as theirs do, and the data, behind the pseudo-header
sum_of_all : (src dst : IpAddress) (len : ℕ) (h f s body d : List ℕ) (start a b c e : ℕ) →
    length h % 2 ≡ 0 → length f % 2 ≡ 0 → length s % 2 ≡ 0 → f ++ s ≡ body →
    ((sum : ℕ) → folded_sum (sum + start) ≡ folded_sum (sum + word_sum (pseudo src dst 58 len))) →
    ((sum : ℕ) → folded_sum (sum + a) ≡ folded_sum (sum + word_sum h)) →
    ((sum : ℕ) → folded_sum (sum + b) ≡ folded_sum (sum + word_sum f)) → ((sum : ℕ) → folded_sum (sum + c) ≡ folded_sum (sum + word_sum s)) →
    e ≡ folded_sum (start + a + (b + c) + word_sum d) →
    65535 - e ≡ checksum_of (pseudo src dst 58 len ++ (h ++ body ++ d))
sum_of_all src dst len h f s body d start a b c e eh ef es is starts heads firsts seconds ee =
    let behind_it = word_sum d in
    let parts = word_sum-append f s (length f / 2) (omega arith) in
    let even : length (f ++ s) % 2 ≡ 0 = omega (arith, length-append f s, ef, es) in
    let whole = words h (f ++ s) d eh even in
    let third : start + a + (b + c) + behind_it ≡ start + a + b + behind_it + c = omega arith in
    let second : start + a + b + behind_it + word_sum s ≡ start + a + word_sum s + behind_it + b = omega arith in
    let first : start + a + word_sum s + behind_it + word_sum f ≡ start + word_sum f + word_sum s + behind_it + a = omega arith in
    let all : start + word_sum f + word_sum s + behind_it + word_sum h ≡ start + word_sum (h ++ (f ++ s) ++ d) = omega (arith, whole, parts) in
    let joined : folded_sum (start + word_sum (h ++ (f ++ s) ++ d)) ≡ folded_sum (start + word_sum (h ++ body ++ d)) =
    ap (λ (xs : List ℕ). folded_sum (start + word_sum (h ++ xs ++ d))) is in
    ap (λ (t : ℕ). 65535 - t) (ee ∙ ap folded_sum third ∙ seconds (start + a + b + behind_it) ∙ ap folded_sum second
    ∙ firsts (start + a + word_sum s + behind_it) ∙ ap folded_sum first
    ∙ heads (start + word_sum f + word_sum s + behind_it) ∙ ap folded_sum all ∙ joined ∙ sym (after src dst 58 len start (h ++ body ++ d) starts))

pub sum_of_parts : (src dst : IpAddress) (n len : ℕ) (h head f s body d : List ℕ) (start a b c e : ℕ) →
    n ≡ len → h ≡ head → length h % 2 ≡ 0 → length f % 2 ≡ 0 → length s % 2 ≡ 0 → f ++ s ≡ body →
    ((sum : ℕ) → folded_sum (sum + start) ≡ folded_sum (sum + word_sum (pseudo src dst 58 n))) →
    ((sum : ℕ) → folded_sum (sum + a) ≡ folded_sum (sum + word_sum h)) →
    ((sum : ℕ) → folded_sum (sum + b) ≡ folded_sum (sum + word_sum f)) → ((sum : ℕ) → folded_sum (sum + c) ≡ folded_sum (sum + word_sum s)) →
    e ≡ folded_sum (start + a + (b + c) + word_sum d) →
    65535 - e ≡ checksum_of (pseudo src dst 58 len ++ (head ++ body ++ d))
sum_of_parts src dst n len h head f s body d start a b c e en is-head eh ef es is starts heads firsts seconds ee =
    rw (← en, ← is-head) (sum_of_all src dst n h f s body d start a b c e eh ef es is starts heads firsts seconds ee)
