-- Options are read one after the other.
use Rattle.std.proofs.Common.{◌≡◌, ℕ, zero, suc, ◌-◌, ◌<◌, ◌≤◌, Bool, true, false, cond, eqb, ◌||◌, List, [], ◌∷◌}
use Rattle.std.proofs.Common.{Option, Some, None, is_some, unwrap_or, length, take, drop, get_or, refl, sym, ap, ◌∙◌, arith}
use Rattle.std.specs.Prelude.{IsTrue}
use Rattle.std.specs.Option.{option_map, option_or}
use Rattle.std.proofs.lemmas.Bool.{and_parts, leb-true, false_from_ne_true}
use Rattle.std.proofs.lemmas.List.{get_or-take, length-take-le}
use Rattle.ip_wire.specs.Octets.{u16_at}
use Rattle.tcp_wire.specs.declared.options.SackRange.{SackRange}
use Rattle.tcp_wire.specs.declared.options.TcpTimestamp.{TcpTimestamp}
use Rattle.tcp_wire.specs.declared.options.TcpOptions.{TcpOptions}
use Rattle.tcp_wire.specs.Options.{has_length, option_len, begins_option, options_after, last_of, scale_in, ranges_in, timestamp_in}
use Rattle.tcp_wire.specs.Options.{options_in, no_options, with_option}

-- some options, over values from before them
abbrev pub values_over : TcpOptions → List (List ℕ) → TcpOptions
values_over before options = record {
  max_seg_size = option_or (option_map (λ o. u16_at o 2) (last_of 2 options)) before.max_seg_size;
  window_scale = option_or (option_map scale_in (last_of 3 options)) before.window_scale;
  sack_permitted = is_some (last_of 4 options) || before.sack_permitted;
  sack_ranges = unwrap_or (option_map ranges_in (last_of 5 options)) before.sack_ranges;
  timestamp = option_or (option_map timestamp_in (last_of 8 options)) before.timestamp;
}

made : (m n : Option ℕ) (w v : Option ℕ) (p q : Bool) (r s : List (Option SackRange)) (t u : Option TcpTimestamp) →
    m ≡ n → w ≡ v → p ≡ q → r ≡ s → t ≡ u → ◌≡◌ {A = TcpOptions}
    (record { max_seg_size = m; window_scale = w; sack_permitted = p; sack_ranges = r; timestamp = t })
    (record { max_seg_size = n; window_scale = v; sack_permitted = q; sack_ranges = s; timestamp = u })
made m n w v p q r s t u em ew ep er et = rw (em, ew, ep, er, et) refl

or_more : {A : Type 0} (f : List ℕ → A) (later : Option (List ℕ)) (t : Bool) (o : List ℕ) (before : Option A) →
    option_or (option_map f (option_or later (cond t (Some o) None))) before ≡ option_or (option_map f later) (cond t (Some (f o)) before)
or_more f (Some x) t o before = refl
or_more f None true o before = refl
or_more f None false o before = refl

flag_more : (later : Option (List ℕ)) (t : Bool) (o : List ℕ) (before : Bool) →
    (is_some (option_or later (cond t (Some o) None)) || before) ≡ (is_some later || cond t true before)
flag_more (Some x) t o before = refl
flag_more None true o before = refl
flag_more None false o before = refl

ranges_more : (later : Option (List ℕ)) (t : Bool) (o : List ℕ) (before : List (Option SackRange)) →
    unwrap_or (option_map ranges_in (option_or later (cond t (Some o) None))) before
    ≡ unwrap_or (option_map ranges_in later) (cond t (ranges_in o) before)
ranges_more (Some x) t o before = refl
ranges_more None true o before = refl
ranges_more None false o before = refl

-- one option more before the others
one_more : (before : TcpOptions) (o : List ℕ) (os : List (List ℕ)) → values_over before (o ∷ os) ≡ values_over (with_option o before) os
unfolding last_of
one_more before o os =
    made _ _ _ _ _ _ _ _ _ _
    (or_more (λ o. u16_at o 2) (last_of 2 os) (eqb (get_or o 0 0) 2) o before.max_seg_size)
    (or_more scale_in (last_of 3 os) (eqb (get_or o 0 0) 3) o before.window_scale)
    (flag_more (last_of 4 os) (eqb (get_or o 0 0) 4) o before.sack_permitted)
    (ranges_more (last_of 5 os) (eqb (get_or o 0 0) 5) o before.sack_ranges)
    (or_more timestamp_in (last_of 8 os) (eqb (get_or o 0 0) 8) o before.timestamp)

or_none : {A : Type 0} (p : Option A) → option_or p None ≡ p
or_none None = refl
or_none (Some x) = refl

or_false : (p : Bool) → (p || false) ≡ p
or_false true = refl
or_false false = refl

-- over no options they are all
pub begin : (octets : List ℕ) → values_over no_options (options_after 0 octets) ≡ options_in octets
begin octets =
    let os = options_after 0 octets in
    made _ _ _ _ _ _ _ _ _ _
    (or_none (option_map (λ o. u16_at o 2) (last_of 2 os)))
    (or_none (option_map scale_in (last_of 3 os)))
    (or_false (is_some (last_of 4 os)))
    refl
    (or_none (option_map timestamp_in (last_of 8 os)))

-- no kind allows a length of 0
both_false : (t : Bool) → cond t false false ≡ false
both_false true = refl
both_false false = refl

none_empty : (kind : ℕ) → has_length kind 0 ≡ false
none_empty kind =
    rw (
      both_false (eqb kind 8),
      both_false (eqb kind 5),
      both_false (eqb kind 4),
      both_false (eqb kind 3),
      both_false (eqb kind 2),
      both_false (eqb kind 1),
    ) refl

some_len : (kind len : ℕ) → IsTrue (has_length kind len) → 1 ≤ len
some_len kind zero h = let bad : false ≡ true = sym (none_empty kind) ∙ h in absurd (cc)
some_len kind (suc n) h = omega arith

-- what begins an option
pub record Begins (octets : List ℕ) : Type 0 where
  pub some : 1 ≤ option_len octets
  pub fits : option_len octets ≤ length octets
  pub allowed : IsTrue (has_length (get_or octets 0 0) (option_len octets))

pub begins : (octets : List ℕ) → IsTrue (begins_option octets) → Begins octets
begins octets h =
    let both = and_parts _ _ h in
    let first = and_parts _ _ both.0 in record {
      some = some_len (get_or octets 0 0) (option_len octets) both.1;
      fits = leb-true _ _ first.1;
      allowed = both.1;
    }

skipped : (skip : ℕ) (octets : List ℕ) → options_after skip octets ≡ options_after 0 (drop skip octets)
unfolding options_after
skipped zero octets = refl
skipped (suc skip) [] = refl
skipped (suc skip) (x ∷ xs) = skipped skip xs

-- the first option, and those after it
pub first_option : (octets : List ℕ) → IsTrue (begins_option octets)
    → options_after 0 octets ≡ take (option_len octets) octets ∷ options_after 0 (drop (option_len octets) octets)
unfolding options_after
first_option [] h = absurd (cc)
first_option (x ∷ xs) h =
    let n = option_len (x ∷ xs) in
    let some : 1 ≤ n = (begins (x ∷ xs) h).some in
    let is : n ≡ suc (n - 1) = omega (arith, some) in
    let rest : drop (n - 1) xs ≡ drop n (x ∷ xs) = ap (λ (k : ℕ). drop k (x ∷ xs)) (sym is) in
    rw h (ap (λ (os : List (List ℕ)). take n (x ∷ xs) ∷ os) (skipped (n - 1) xs ∙ ap (options_after 0) rest))

ended : (octets : List ℕ) → begins_option octets ≡ false → options_after 0 octets ≡ []
unfolding options_after
ended [] h = refl
ended (x ∷ xs) h = rw h refl

-- an option is read
pub next : (octets option rest : List ℕ) (before after : TcpOptions) → IsTrue (begins_option octets) →
    option ≡ take (option_len octets) octets → rest ≡ drop (option_len octets) octets → after ≡ with_option option before
    → values_over after (options_after 0 rest) ≡ values_over before (options_after 0 octets)
next octets option rest before after h eo er ea =
    rw (ea, eo, er)
    (sym (ap (values_over before) (first_option octets h)
    ∙ one_more before (take (option_len octets) octets) (options_after 0 (drop (option_len octets) octets))))

-- where none begins, all have been read
pub finished : (octets : List ℕ) (before : TcpOptions) → ¬ (IsTrue (begins_option octets)) → values_over before (options_after 0 octets) ≡ before
unfolding last_of
finished octets before h = rw (ended octets (false_from_ne_true (begins_option octets) h)) refl

-- kind and length of an option that is read
pub allowed : (octets option : List ℕ) → IsTrue (begins_option octets) → option ≡ take (option_len octets) octets
    → IsTrue (has_length (get_or option 0 0) (length option))
allowed octets option h e =
    let b = begins octets h in
    let some : 0 < option_len octets = b.some in
    rw (e, get_or-take (option_len octets) octets 0 0 some, length-take-le (option_len octets) octets b.fits) b.allowed
