-- The options of a header, read one after the other.
use Rattle.std.proofs.Common.{◌≡◌, ℕ, zero, suc, ◌+◌, ◌-◌, ◌<◌, ◌≤◌, List, [], ◌∷◌, ◌++◌}
use Rattle.std.proofs.Common.{length, drop, refl, sym, ap, ◌∙◌, length-append, append-nil, arith}
use Rattle.std.proofs.lemmas.List.{append_assoc}
use Rattle.arrayvec.specs.ArrayVec.{ArrayVec}
use Rattle.ip_wire.specs.declared.hop_by_hop.Ipv6OptionRepr.{Ipv6OptionRepr}
use Rattle.ip_wire.specs.HopByHop.{option_len, IsOption, option_in, first_option, options_in, AreOptions}

-- some options have been read, and these octets are left
pub record Reads (octets : List ℕ) (options : List Ipv6OptionRepr) (left : List ℕ) : Type 0 where
  pub few : length options ≤ 4
  pub into : AreOptions 4 octets → AreOptions (4 - length options) left
  pub back : AreOptions (4 - length options) left → AreOptions 4 octets
  pub values : options_in 4 octets ≡ options ++ options_in (4 - length options) left

pub none_read : (octets : List ℕ) → Reads octets [] octets
none_read octets = record { few = omega arith; into = λ h. h; back = λ h. h; values = refl }

-- where an option is left, it is the first one
one_left : (n : ℕ) (left : List ℕ) → 0 < length left → AreOptions (suc n) left → IsOption left × AreOptions n (drop (option_len left) left)
unfolding AreOptions
one_left n [] some h = absurd (omega (arith, some))
one_left n (x ∷ xs) some h = h

pub one_before : (n : ℕ) (left : List ℕ) → IsOption left → AreOptions n (drop (option_len left) left) → AreOptions (suc n) left
unfolding AreOptions
one_before n [] one h = tt
one_before n (x ∷ xs) one h = (one, h)

pub one_more : (n : ℕ) (left : List ℕ) → 0 < length left → options_in (suc n) left ≡ option_in left ∷ options_in n (drop (option_len left) left)
unfolding options_in
one_more n [] some = absurd (omega (arith, some))
one_more n (x ∷ xs) some = refl

-- where none is left, none runs out
pub none_left : (n : ℕ) (left : List ℕ) → length left ≡ 0 → AreOptions n left × (options_in n left ≡ [])
unfolding AreOptions options_in
none_left zero left none = (tt, refl)
none_left (suc n) [] none = (tt, refl)
none_left (suc n) (x ∷ xs) none = absurd (omega (arith, none))

pub no_more : (n : ℕ) (left : List ℕ) → n ≡ 0 → AreOptions n left × (options_in n left ≡ [])
unfolding AreOptions options_in
no_more zero left none = (tt, refl)
no_more (suc n) left none = absurd (omega (arith, none))

-- the first option of what is left is read
one : (octets : List ℕ) (options : List Ipv6OptionRepr) (left : List ℕ) →
    Reads octets options left → 0 < length left → length options < 4 → IsOption left
    → Reads octets (options ++ option_in left ∷ []) (drop (option_len left) left)
one octets options left reads some few is =
    let n : ℕ = 4 - length (options ++ option_in left ∷ []) in
    let len : length (options ++ option_in left ∷ []) ≡ length options + 1 = length-append options (option_in left ∷ []) in
    let next : 4 - length options ≡ suc n = omega (arith, len, few) in
    let all : options_in 4 octets ≡ options ++ (option_in left ∷ options_in n (drop (option_len left) left))
    = reads.values ∙ ap (λ (k : ℕ). options ++ options_in k left) next ∙ ap (λ (xs : List Ipv6OptionRepr). options ++ xs) (one_more n left some) in
    record {
      few = omega (arith, len, few);
      into = λ h. let here = reads.into h in (one_left n left some (rw (sym next) here)).1;
      back = λ h. reads.back (rw next (one_before n left is h));
      values = all ∙ sym (append_assoc options (option_in left ∷ []) (options_in n (drop (option_len left) left)));
    }

pub one_read : (octets : List ℕ) (options : List Ipv6OptionRepr) (left : List ℕ) (option : Ipv6OptionRepr) (after : List ℕ)
    → Reads octets options left → 0 < length left → length options < 4 → IsOption left × ((option, after) ≡ first_option left) →
    Reads octets (options ++ option ∷ []) after
one_read octets options left option after reads some few is =
    let first : option ≡ option_in left = ap (λ (p : Ipv6OptionRepr × List ℕ). p.0) is.1 in
    let rest : after ≡ drop (option_len left) left = ap (λ (p : Ipv6OptionRepr × List ℕ). p.1) is.1 in
    rw (first, rest) (one octets options left reads some few is.0)

-- an option that runs out isn't one of those
pub runs_out : (octets : List ℕ) (options : List Ipv6OptionRepr) (left : List ℕ) →
    Reads octets options left → 0 < length left → length options < 4 → AreOptions 4 octets → IsOption left
runs_out octets options left reads some few all =
    let n : ℕ = 3 - length options in
    let next : 4 - length options ≡ suc n = omega (arith, few) in
    let here = reads.into all in
    (one_left n left some (rw (sym next) here)).0

made : (options : ArrayVec Ipv6OptionRepr) (xs : List Ipv6OptionRepr) →
    options.items ≡ xs → ◌≡◌ {A = ArrayVec Ipv6OptionRepr} options (record { items = xs })
made options xs e = ap (λ (ys : List Ipv6OptionRepr). let v : ArrayVec Ipv6OptionRepr = record { items = ys } in v) e

-- where no option is left to be read, all are
pub all_read : (octets : List ℕ) (options : ArrayVec Ipv6OptionRepr) (left : List ℕ) → Reads octets options.items left
    → AreOptions (4 - length options.items) left × (options_in (4 - length options.items) left ≡ [])
    → AreOptions 4 octets × (options ≡ record { items = options_in 4 octets })
all_read octets options left reads end =
    let items : options.items ≡ options_in 4 octets =
    sym (reads.values ∙ ap (λ (xs : List Ipv6OptionRepr). options.items ++ xs) end.1 ∙ append-nil options.items) in
    (reads.back end.0, made options (options_in 4 octets) items)
