-- Texts, one after the other.
use Rattle.std.proofs.Common.{◌≡◌, ℕ, ◌+◌, ◌<◌, List, [], ◌∷◌, ◌++◌, length, refl, sym, ap, ◌∙◌, append_assoc, append-nil, length-append, arith}
use Rattle.dhcp_client.specs.Options.{option_text}

-- a text is appended before the rest
pub next : (o a p rest : List ℕ) → p ≡ o ++ a → o ++ (a ++ rest) ≡ p ++ rest
next o a p rest e = rw e (sym (append_assoc o a rest))

pub text-some : (code : ℕ) (d : List ℕ) → 0 < length d → option_text code d ≡ code ∷ length d ∷ d
unfolding option_text
text-some code [] some = absurd (omega (arith, some))
text-some code (x ∷ xs) some = refl

pub text-none : (code : ℕ) (d : List ℕ) → length d ≡ 0 → option_text code d ≡ []
unfolding option_text
text-none code [] none = refl
text-none code (x ∷ xs) none = absurd (omega (arith, none))

length-three : (a b c : List ℕ) → length (a ++ b ++ c) ≡ length a + length b + length c
length-three a b c = omega (arith, length-append (a ++ b) c, length-append a b)

-- code, length and three data, which are not all empty
pub three : (o a b c o1 o2 o3 o4 : List ℕ) (code len : ℕ) → len ≡ length a + length b + length c → 0 < len →
    o1 ≡ o ++ code ∷ len ∷ [] → o2 ≡ o1 ++ a → o3 ≡ o2 ++ b → o4 ≡ o3 ++ c → o4 ≡ o ++ option_text code (a ++ b ++ c)
three o a b c o1 o2 o3 o4 code len e some e1 e2 e3 e4 =
    let whole = length-three a b c in
    let there : 0 < length (a ++ b ++ c) = omega (arith, whole, e, some) in
    let is : len ≡ length (a ++ b ++ c) = e ∙ sym whole in
    rw (e4, e3, e2, e1)
    (append_assoc ((o ++ code ∷ len ∷ []) ++ a) b c ∙ append_assoc (o ++ code ∷ len ∷ []) a (b ++ c)
    ∙ append_assoc o (code ∷ len ∷ []) (a ++ (b ++ c))
    ∙ ap (λ (xs : List ℕ). o ++ code ∷ len ∷ xs) (sym (append_assoc a b c))
    ∙ ap (λ (n : ℕ). o ++ code ∷ n ∷ (a ++ b ++ c)) is
    ∙ ap (λ (xs : List ℕ). o ++ xs) (sym (text-some code (a ++ b ++ c) there)))

pub no_three : (o a b c : List ℕ) (code : ℕ) → length a + length b + length c ≡ 0 → o ≡ o ++ option_text code (a ++ b ++ c)
no_three o a b c code none =
    let whole = length-three a b c in
    let text : option_text code (a ++ b ++ c) ≡ [] = text-none code (a ++ b ++ c) (omega (arith, whole, none)) in
    rw text (sym (append-nil o))
