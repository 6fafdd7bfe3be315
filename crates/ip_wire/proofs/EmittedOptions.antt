-- The options of a header, written one after the other.
use Rattle.std.proofs.Common.{◌≡◌, ℕ, zero, suc, ◌+◌, ◌<◌, ◌≤◌, List, [], ◌∷◌, ◌++◌, length, get_or}
use Rattle.std.proofs.Common.{take, drop, replicate, refl, sym, ap, ◌∙◌, add-one, length-append, arith}
use Rattle.std.specs.List.{flat_map}
use Rattle.std.proofs.Math.Seq.{drop-cons}
use Rattle.std.proofs.Math.ListN.{drop_of_length-le}
use Rattle.std.proofs.lemmas.List.{append_assoc}
use Rattle.ip_wire.specs.declared.hop_by_hop.Ipv6OptionRepr.{Ipv6OptionRepr}
use Rattle.ip_wire.specs.HopByHop.{option_text}

zeros : (n m : ℕ) → n ≤ m → ◌≡◌ {A = List ℕ} (take n (replicate m 0)) (replicate n 0)
zeros zero m h = refl
zeros (suc n) zero h = absurd (omega (arith, h))
zeros (suc n) (suc m) h = ap (λ (xs : List ℕ). 0 ∷ xs) (zeros n m (omega (arith, h)))

-- zeros behind two octets
pub zeros_after : (out : List ℕ) (a b n m : ℕ) → n ≤ m → out ++ a ∷ b ∷ [] ++ take n (replicate m 0) ≡ out ++ a ∷ b ∷ replicate n 0
zeros_after out a b n m h = append_assoc out (a ∷ b ∷ []) (take n (replicate {A = ℕ} m 0)) ∙ ap (λ (xs : List ℕ). out ++ a ∷ b ∷ xs) (zeros n m h)

-- the texts from a place on: the first of them, and those behind it
pub texts-drop : (options : List Ipv6OptionRepr) (i : ℕ) (d : Ipv6OptionRepr) → i < length options
    → flat_map option_text (drop i options) ≡ option_text (get_or options i d) ++ flat_map option_text (drop (i + 1) options)
texts-drop options i d lt = rw (add-one, drop-cons options i d lt) refl

pub texts_past : (options : List Ipv6OptionRepr) (i : ℕ) → length options ≤ i → flat_map option_text (drop i options) ≡ []
texts_past options i past = rw (drop_of_length-le options past) refl

-- what is written, and what is to be written
pub written : (out : List ℕ) (options : List Ipv6OptionRepr) (i : ℕ) (d : Ipv6OptionRepr) → i < length options
    → (out ++ option_text (get_or options i d)) ++ flat_map option_text (drop (i + 1) options) ≡ out ++ flat_map option_text (drop i options)
written out options i d lt =
    append_assoc out (option_text (get_or options i d)) (flat_map option_text (drop (i + 1) options))
    ∙ ap (λ (xs : List ℕ). out ++ xs) (sym (texts-drop options i d lt))

-- there is room for the first option that is to be written, if there is for all
pub room : (out old all : List ℕ) (options : List Ipv6OptionRepr) (i : ℕ) (d : Ipv6OptionRepr) → i < length options
    → out ++ flat_map option_text (drop i options) ≡ old ++ all → length old + length all ≤ 1514 →
    length out + length (option_text (get_or options i d)) ≤ 1514
room out old all options i d lt is fits =
    let one = option_text (get_or options i d) in
    let rest = flat_map option_text (drop (i + 1) options) in
    let here : length out + length (flat_map option_text (drop i options)) ≡ length old + length all
    = sym (length-append out (flat_map option_text (drop i options))) ∙ ap length is ∙ length-append old all in
    let parts : length (flat_map option_text (drop i options)) ≡ length one + length rest =
    ap length (texts-drop options i d lt) ∙ length-append one rest in
    omega (arith, here, parts, fits)
