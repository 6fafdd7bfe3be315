-- Options are read one after the other.
use Rattle.std.proofs.Common.{◌≡◌, ℕ, zero, suc, ◌-◌, ◌<◌, ◌≤◌, Bool, true, false, cond, eqb, List, [], ◌∷◌}
use Rattle.std.proofs.Common.{length, drop, slice_index, refl, sym, ap, ◌∙◌, Option, Some, None, length-drop, arith}
use Rattle.std.specs.Option.{option_or}
use Rattle.std.specs.List.{All}
use Rattle.std.proofs.lemmas.List.Elements.{All-nil, All-cons, All-head, All-tail}
use Rattle.std.proofs.lemmas.Bool.{eq-eqb}
use Rattle.std.proofs.lemmas.Bool.Decides.{nat_tests}
use Rattle.control_wire.specs.NdiscOption.{IsOption, option_len, options_in, options_from, AreOptions, last_of}

-- what is left to be read, and what was found before
pub record Rest {A : Type 0} (read : List ℕ → A) (type : ℕ) (octets rest : List ℕ) (found : Option A) : Type 0 where
  pub most : ℕ
  pub enough : length rest ≤ most
  pub forth : AreOptions octets → All IsOption (options_from most rest)
  pub back : All IsOption (options_from most rest) → AreOptions octets
  pub last : option_or (last_of read type (options_from most rest)) found ≡ last_of read type (options_in octets)

or_none : {A : Type 0} (p : Option A) → option_or p None ≡ p
or_none None = refl
or_none (Some x) = refl

-- one more option is before the rest
or_next : {A : Type 0} (after : Option A) (t : Bool) (a : A) (found : Option A) →
    option_or after (cond t (Some a) found) ≡ option_or (option_or after (cond t (Some a) None)) found
or_next None true a found = refl
or_next None false a found = refl
or_next (Some x) t a found = refl

first_of_all : (n : ℕ) (rest : List ℕ) → 0 < length rest → length rest ≤ n → All IsOption (options_from n rest) → IsOption rest
unfolding options_from
first_of_all n [] some enough all = absurd (omega (arith, some))
first_of_all zero (x ∷ xs) some enough all = absurd (omega (arith, enough))
first_of_all (suc n) (x ∷ xs) some enough all = All-head IsOption (x ∷ xs) (options_from n (drop (option_len (x ∷ xs)) (x ∷ xs))) all

none_left : (n : ℕ) → options_from n [] ≡ []
unfolding options_from
none_left zero = refl
none_left (suc n) = refl

empty : (rest : List ℕ) → length rest ≡ 0 → rest ≡ []
empty [] e = refl
empty (x ∷ xs) e = absurd (omega (arith, e))

-- which address was found with one more option read
pub found_there : {A : Type 0} (n m type : ℕ) (address a : A) (before found : Option A) →
    n ≡ m → m ≡ type → a ≡ address → found ≡ Some a → found ≡ cond (eqb n type) (Some address) before
found_there n m type address a before found here is ea ef = let e : eqb n type ≡ true = eq-eqb n type (here ∙ is) in rw e (ef ∙ ap Some ea)

pub found_before : {A : Type 0} (n m type : ℕ) (address : A) (before found : Option A) →
    ¬ (n ≡ m) → m ≡ type → found ≡ before → found ≡ cond (eqb n type) (Some address) before
found_before n m type address before found other is ef = let e : eqb n type ≡ false = grind (arith, nat_tests, other, is) in rw e ef

-- what is read of the last option of a type
module _ {A : Type 0} (read : List ℕ → A) where
  pub begin : (type : ℕ) (octets : List ℕ) → Rest read type octets octets None
  begin type octets = record {
    most = length octets;
    enough = omega arith;
    forth = λ h. h;
    back = λ h. h;
    last = or_none (last_of read type (options_in octets));
  }

  next_of : (type : ℕ) (octets : List ℕ) (n x : ℕ) (xs : List ℕ) (found : Option A) → Rest read type octets (x ∷ xs) found → length (x ∷ xs) ≤ n
      → (AreOptions octets → All IsOption (options_from n (x ∷ xs))) → (All IsOption (options_from n (x ∷ xs)) → AreOptions octets)
      → option_or (last_of read type (options_from n (x ∷ xs))) found ≡ last_of read type (options_in octets) → IsOption (x ∷ xs)
      → Rest read type octets (drop (option_len (x ∷ xs)) (x ∷ xs)) (cond (eqb x type) (Some (read (x ∷ xs))) found)
  unfolding options_from last_of
  next_of type octets zero x xs found r enough forth back last o = absurd (omega (arith, enough))
  next_of type octets (suc n) x xs found r enough forth back last o =
      let first = x ∷ xs in
      let rest = drop (option_len first) first in
      let some : 1 ≤ slice_index first 1 = o.some in
      let len : length rest ≡ length first - option_len first = length-drop (option_len first) first in record {
        most = n;
        enough = omega (arith, len, some, enough);
        forth = λ h. All-tail IsOption first (options_from n rest) (forth h);
        back = λ h. back (All-cons IsOption first (options_from n rest) o h);
        last = or_next (last_of read type (options_from n rest)) (eqb x type) (read first) found ∙ last;
      }

  next_at : (type : ℕ) (octets rest : List ℕ) (found : Option A) → Rest read type octets rest found → IsOption rest
      → Rest read type octets (drop (option_len rest) rest) (cond (eqb (slice_index rest 0) type) (Some (read rest)) found)
  next_at type octets [] found r o = absurd (omega (arith, o.header))
  next_at type octets (x ∷ xs) found r o = next_of type octets r.most x xs found r r.enough r.forth r.back r.last o

  -- an option is read
  pub next : (type : ℕ) (octets rest rest' : List ℕ) (found found' : Option A) → Rest read type octets rest found → IsOption rest
      → found' ≡ cond (eqb (slice_index rest 0) type) (Some (read rest)) found →
      rest' ≡ drop (option_len rest) rest → Rest read type octets rest' found'
  next type octets rest rest' found found' r o ef er = rw (ef, er) (next_at type octets rest found r o)

  -- where something is left that doesn't begin with an option, the octets aren't options
  pub refused : (type : ℕ) (octets rest : List ℕ) (found : Option A) →
      Rest read type octets rest found → 0 < length rest → ¬ IsOption rest → ¬ AreOptions octets
  refused type octets rest found r some other = λ h. other (first_of_all r.most rest some r.enough (r.forth h))

  -- where nothing is left, they are, and the last address was found
  pub finished : (type : ℕ) (octets rest : List ℕ) (found : Option A) →
      Rest read type octets rest found → length rest ≡ 0 → AreOptions octets × (found ≡ last_of read type (options_in octets))
  unfolding last_of
  finished type octets rest found r e =
      let none : options_from r.most rest ≡ [] = ap (options_from r.most) (empty rest e) ∙ none_left r.most in
      (r.back (rw none (All-nil IsOption)), sym (ap (λ (os : List (List ℕ)). option_or (last_of read type os) found) none) ∙ r.last)
