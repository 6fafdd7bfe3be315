-- A name that comes of a text is read as the labels of that text.
use Rattle.std.proofs.Common.{◌≡◌, ℕ, zero, suc, ◌+◌, ◌-◌, ◌≤◌, Bool, true, false, not, ◌&&◌, List, [], ◌∷◌, ◌++◌}
use Rattle.std.proofs.Common.{Some, None, length, take, drop, get_or, refl, sym, subst, ap, ◌∙◌, arith}
use Rattle.std.specs.Prelude.{◌==◌, nat_le, nat_lt, if◌then◌else◌}
use Rattle.std.proofs.lemmas.Bool.Decides.{nat_tests}
use Rattle.std.proofs.lemmas.Bool.{and_parts, and_from, eq-eqb, le-leb}
use Rattle.std.proofs.lemmas.List.{drop-drop, drop_at, get_or-drop, length-drop, take_at}
use Rattle.dns_client.specs.Names.{is_end, is_label, label, with_first, labels_from, is_some, end_from}
use Rattle.dns_client.specs.Details.Text as text
use Rattle.dns_client.specs.Details.Text.{are_labels, labels_in, name_by, octets_of, IsReadAs, TextReadAgain}
use Rattle.dns_client.proofs.Reading.{by_end, by_label, label_no_end}
use Rattle.dns_client.proofs.Writing.{len_of}

-- the octet at a place is the first of what stands from there on
first_is : (m : List ℕ) (at : ℕ) → get_or m at 0 ≡ get_or (drop at m) 0 0
first_is m at = let same : at ≡ at + 0 = omega arith in ap (λ (k : ℕ). get_or m k 0) same ∙ sym (get_or-drop at m 0 0)

some_octets : (ls : List (List ℕ)) → 1 ≤ length (octets_of ls)
unfolding octets_of
some_octets [] = omega arith
some_octets (l ∷ ls) = omega arith

-- an end stands there
end_first : (m : List ℕ) (at : ℕ) → drop at m ≡ octets_of [] → is_end m at ≡ true
unfolding octets_of
end_first m at is =
    let len : length m - at ≡ 1 = sym (length-drop at m) ∙ ap length is in
    let there : nat_lt at (length m) ≡ true = grind (arith, nat_tests, len) in
    and_from _ _ there (eq-eqb _ _ (first_is m at ∙ ap (λ (xs : List ℕ). get_or xs 0 0) is))

end_len : length (octets_of []) ≡ 1
unfolding octets_of
end_len = refl

-- a label stands there, and the others behind it
module _ (m l : List ℕ) (ls : List (List ℕ)) (at : ℕ) (is : drop at m ≡ octets_of (l ∷ ls)) where
  octet : get_or m at 0 ≡ length l
  unfolding octets_of
  octet = first_is m at ∙ ap (λ (xs : List ℕ). get_or xs 0 0) is

  len : length m - at ≡ 1 + length l + length (octets_of ls)
  len = sym (length-drop at m) ∙ ap length is ∙ len_of l ls

  is_label_there : (room : ℕ) → text.is_label l ≡ true → length (octets_of (l ∷ ls)) ≤ room → is_label room m at ≡ true
  is_label_there room h fits =
      let n = len_of l ls in
      let some = some_octets ls in
      let a : not (length l == 0) ≡ true = grind (arith, nat_tests, h) in
      let b : nat_lt (length l) 64 ≡ true = grind (arith, nat_tests, h) in
      let c : nat_lt (at + length l) (length m) ≡ true = grind (arith, nat_tests, len, some) in
      let d : nat_lt (length l + 1) room ≡ true = grind (arith, nat_tests, fits, n, some) in
      rw octet (and_from _ _ (and_from _ _ (and_from _ _ a b) c) d)

  label_there : label m at ≡ l
  unfolding octets_of
  label_there =
      let e : at + 1 + length l - (at + 1) ≡ length l = omega arith in
      let rest : drop (at + 1) m ≡ l ++ octets_of ls = sym (drop-drop 1 at m) ∙ ap (drop 1) is in
      rw (octet, e) (ap (take (length l)) rest ∙ take_at l (octets_of ls) (length l) refl)

  others : drop (at + 1 + length l) m ≡ octets_of ls
  unfolding octets_of
  others =
      let e : at + 1 + length l ≡ at + 1 + length l = refl in
      let rest : drop (at + 1) m ≡ l ++ octets_of ls = sym (drop-drop 1 at m) ∙ ap (drop 1) is in
      sym (drop-drop (length l) (at + 1) m) ∙ ap (drop (length l)) rest ∙ drop_at l (octets_of ls) (length l) refl

parts : (l : List ℕ) (ls : List (List ℕ)) → are_labels (l ∷ ls) ≡ true → (text.is_label l && are_labels ls) ≡ true
unfolding are_labels
parts l ls h = h

first_with : (l : List ℕ) (ls : List (List ℕ)) → with_first l (Some ls) ≡ Some (l ∷ ls)
unfolding with_first
first_with l ls = refl

-- so all labels are read
labels_there : (ls : List (List ℕ)) (steps : ℕ) (m : List ℕ) (start at room : ℕ) → are_labels ls ≡ true → drop at m ≡ octets_of ls →
    length (octets_of ls) ≤ room → length (octets_of ls) ≤ steps → labels_from steps m start at room ≡ Some ls
labels_there ls zero m start at room h is fits enough = absurd (omega (arith, enough, some_octets ls))
labels_there [] (suc steps) m start at room h is fits enough = by_end steps m start at room (end_first m at is)
labels_there (l ∷ ls) (suc steps) m start at room h is fits enough =
    let n = len_of l ls in
    let both : (text.is_label l && are_labels ls) ≡ true = parts l ls h in
    let there = is_label_there m l ls at is room (and_parts _ _ both).0 fits in
    let r : length (octets_of ls) ≤ room - (length l + 1) = omega (arith, fits, n) in
    let s : length (octets_of ls) ≤ steps = omega (arith, enough, n) in
    by_label steps m start at room there
    ∙ ap (λ (k : ℕ). with_first (label m at) (labels_from steps m start (at + 1 + k) (room - (k + 1)))) (octet m l ls at is)
    ∙ ap (λ (xs : List ℕ). with_first xs (labels_from steps m start (at + 1 + length l) (room - (length l + 1)))) (label_there m l ls at is)
    ∙ ap (with_first l) (labels_there ls steps m start (at + 1 + length l) (room - (length l + 1)) (and_parts _ _ both).1 (others m l ls at is) r s)
    ∙ first_with l ls

-- and nothing stands behind them
end_there : (ls : List (List ℕ)) (steps : ℕ) (m : List ℕ) (at room : ℕ) → are_labels ls ≡ true → drop at m ≡ octets_of ls →
    length (octets_of ls) ≤ room → length (octets_of ls) ≤ steps → end_from steps m at room ≡ length m
unfolding end_from
end_there ls zero m at room h is fits enough = absurd (omega (arith, enough, some_octets ls))
end_there [] (suc steps) m at room h is fits enough =
    let one : length m - at ≡ 1 = sym (length-drop at m) ∙ ap length is ∙ end_len in
    rw (end_first m at is) (omega (arith, one))
end_there (l ∷ ls) (suc steps) m at room h is fits enough =
    let n = len_of l ls in
    let both : (text.is_label l && are_labels ls) ≡ true = parts l ls h in
    let there = is_label_there m l ls at is room (and_parts _ _ both).0 fits in
    let no_end : is_end m at ≡ false = label_no_end m room at there in
    let r : length (octets_of ls) ≤ room - (length l + 1) = omega (arith, fits, n) in
    let s : length (octets_of ls) ≤ steps = omega (arith, enough, n) in
    rw (no_end, there)
    (ap (λ (k : ℕ). end_from steps m (at + 1 + k) (room - (k + 1))) (octet m l ls at is)
    ∙ end_there ls steps m (at + 1 + length l) (room - (length l + 1)) (and_parts _ _ both).1 (others m l ls at is) r s)

written : (b : Bool) (xs name : List ℕ) → (if b then Some xs else None) ≡ Some name → (b ≡ true) × (xs ≡ name)
written true xs name h = (refl, cc)
written false xs name h = absurd cc

read_as : (ls : List (List ℕ)) (name : List ℕ) → name_by [] ls ≡ Some name → IsReadAs ls name
read_as ls name h =
    let made = written (are_labels ls && nat_le (0 + length (octets_of ls)) 255) (octets_of ls) name h in
    let both = and_parts _ _ made.0 in
    let few : length (octets_of ls) ≤ 255 = grind (arith, nat_tests, both.1) in
    let labels = labels_there ls 255 name 0 0 255 both.0 (sym made.1) few few in
    let ends = end_there ls 255 name 0 255 both.0 (sym made.1) few few in
    let within : nat_le (length name) 255 ≡ true = le-leb _ _ (subst (λ (xs : List ℕ). length xs ≤ 255) made.1 few) in
    record { within = within; whole = and_from _ _ (ap is_some labels) (eq-eqb _ _ ends); labels_are = labels }

pub read_again : TextReadAgain
read_again text name h = read_as (labels_in text) name h
