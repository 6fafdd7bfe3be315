-- Networks spelled one after the other.
use Rattle.std.proofs.Common.{◌≡◌, ◌<◌, ◌≤◌, ℕ, true, false, List, [], ◌∷◌, ◌++◌, Option, Some, None}
use Rattle.std.proofs.Common.{length, length-append, map, take, refl, sym, ap, ◌∙◌, append_assoc, arith}
use Rattle.std.specs.List.{slice_split, before_first, after_first, position_or_len}
use Rattle.std.proofs.lemmas.List.{map-append, append-nil, take_all, length-map}
use Rattle.std.proofs.lemmas.List.Splits.{slice_split_first, slice_split_none, length-slice_split}
use Rattle.std.proofs.lemmas.List.Sums.{fails_before_first, prefix_len-le-length}
use Rattle.std.specs.Prelude.{nat_lt, not, Result, Ok, Err, OnErr, is_ok}
use Rattle.std.proofs.lemmas.Bool.Decides.{nat_tests}
use Rattle.ip_address.specs.declared.ip.IpAddress.{IpAddress}
use Rattle.std.proofs.lemmas.List.Elements.{All-from_get_or}
use Rattle.ip_address.specs.declared.cidr.IpCidr.{IpCidr}
use Rattle.script.specs.Text.{SpellNetworks, is_space, network_in, parts_of}

-- one more word spells one more network
more : (all words : List (List ℕ)) (list : List IpCidr) (word : List ℕ) (network : IpCidr) →
    map network_in all ≡ map parts_of list ++ map network_in (word ∷ words) → network_in word ≡ parts_of network
    → map network_in all ≡ map parts_of (list ++ network ∷ []) ++ map network_in words
more all words list word network before here =
    before ∙ ap (λ p. map parts_of list ++ p ∷ map network_in words) here
    ∙ sym (append_assoc (map parts_of list) (parts_of network ∷ []) (map network_in words))
    ∙ ap (λ l. l ++ map network_in words) (sym (map-append parts_of list (network ∷ [])))

-- where a space follows the word
pub spell_more : (text words : List ℕ) (list : List IpCidr) (network : IpCidr) → position_or_len is_space words < length words
    → map network_in (slice_split is_space text) ≡ map parts_of list ++ map network_in (slice_split is_space words)
    → network_in (before_first is_space words) ≡ parts_of network
    → map network_in (slice_split is_space text)
    ≡ map parts_of (list ++ network ∷ []) ++ map network_in (slice_split is_space (after_first is_space words))
spell_more text words list network inside before here =
    more _ _ list
    (before_first is_space words) network (before ∙ ap (λ l. map parts_of list ++ map network_in l) (slice_split_first is_space words 0 inside)) here

-- where none does
pub spell_last : (text words : List ℕ) (list : List IpCidr) (network : IpCidr) → position_or_len is_space words ≡ length words
    → map network_in (slice_split is_space text) ≡ map parts_of list ++ map network_in (slice_split is_space words)
    → network_in (before_first is_space words) ≡ parts_of network
    → SpellNetworks text (list ++ network ∷ [])
spell_last text words list network none before here =
    let fails = All-from_get_or (λ c. is_space c ≡ false) words 0 (λ k inside. fails_before_first is_space words k 0 (rw none inside)) in
    let whole = ap (λ i. take i words) none ∙ take_all (length words) words (omega arith) in
    more _ [] list words network (before ∙ ap (λ l. map parts_of list ++ map network_in l) (slice_split_none is_space words fails))
    (ap network_in (sym whole) ∙ here) ∙ append-nil _

-- the word before the first space is the first
first_word : (words : List ℕ) → (rest : List (List ℕ)) × (slice_split is_space words ≡ before_first is_space words ∷ rest)
first_word words =
    elim (nat_lt (position_or_len is_space words) (length words)) as (λ b. nat_lt (position_or_len is_space words) (length words) ≡ b →
    (rest : List (List ℕ)) × (slice_split is_space words ≡ before_first is_space words ∷ rest)) [
      | true ↦ λ t. (slice_split is_space (after_first is_space words), slice_split_first is_space words 0 (grind (arith, nat_tests)))
      | false ↦ λ t.
          let whole : position_or_len is_space words ≡ length words = let le : position_or_len is_space words ≤ length words =
          prefix_len-le-length (λ c. not (is_space c)) words in grind (arith, nat_tests) in
          let fails = All-from_get_or (λ c. is_space c ≡ false) words 0 (λ k inside. fails_before_first is_space words k 0 (rw whole inside)) in
          let same = ap (λ i. take i words) whole ∙ take_all (length words) words (omega arith) in
          ([], slice_split_none is_space words fails ∙ ap (λ (w : List ℕ). w ∷ []) (sym same))
    ] refl

rest_same : {A : Type 0} (x y : A) (xs ys : List A) → x ∷ xs ≡ y ∷ ys → xs ≡ ys
rest_same x y xs ys e = cc

first_same : {A : Type 0} (x y : A) (xs ys : List A) → x ∷ xs ≡ y ∷ ys → x ≡ y
first_same x y xs ys e = cc

no_end : {A : Type 0} (x : A) (xs : List A) → [] ≡ x ∷ xs → ⊥
no_end x xs e = cc

some_none : {A : Type 0} (x : A) → Some x ≡ None → ⊥
some_none x e = cc

-- what is no network isn't among those of networks
no_network : (networks list : List IpCidr) (rest : List (Option (IpAddress × ℕ))) → map parts_of networks ≡ map parts_of list ++ None ∷ rest → ⊥
no_network [] [] rest e = no_end None rest e
no_network [] (l ∷ list) rest e = no_end (parts_of l) (map parts_of list ++ None ∷ rest) e
no_network (n ∷ networks) [] rest e = some_none _ (first_same (parts_of n) None (map parts_of networks) rest e)
no_network (n ∷ networks) (l ∷ list) rest e =
    no_network networks list rest (rest_same (parts_of n) (parts_of l) (map parts_of networks) (map parts_of list ++ None ∷ rest) e)

-- a word that spells no network
pub spell_none : (text words : List ℕ) (list networks : List IpCidr) → map network_in (slice_split is_space text)
    ≡ map parts_of list ++ map network_in (slice_split is_space words) → network_in (before_first is_space words) ≡ None
    → SpellNetworks text networks → ⊥
spell_none text words list networks before none spelled =
    let first = first_word words in
    no_network networks list (map network_in first.0)
    (sym spelled ∙ before ∙ ap (λ l. map parts_of list ++ map network_in l) first.1 ∙ ap (λ p. map parts_of list ++ p ∷ map network_in first.0) none)

-- a word behind four
pub spell_five : (text words : List ℕ) (list networks : List IpCidr) → map network_in (slice_split is_space text)
    ≡ map parts_of list ++ map network_in (slice_split is_space words) → 4 ≤ length list → length networks ≤ 4
    → SpellNetworks text networks → ⊥
spell_five text words list networks before four few spelled =
    let all : length (map parts_of networks) ≡ length (map parts_of list ++ map network_in (slice_split is_space words)) =
    ap length (sym spelled ∙ before) in
    omega (
      arith,
      all,
      four,
      few,
      length-map networks parts_of,
      length-append (map parts_of list) (map network_in (slice_split is_space words)),
      length-map list parts_of,
      length-map (slice_split is_space words) network_in,
      length-slice_split is_space words,
    )

-- where a list takes no more, it is full
pub full_of : {A E P : Type 0} (r : Result A E) → OnErr r P → is_ok r ≡ false → P
full_of (Ok x) p e = absurd (some_none x (let f : true ≡ false = e in cc))
full_of (Err x) p e = p
