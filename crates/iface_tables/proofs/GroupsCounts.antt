-- How many groups are in a state, and that each report leaves one less.
use Rattle.std.proofs.Common.{◌≡◌, ℕ, ◌+◌, ◌<◌, ◌≤◌, cond, List, [], ◌∷◌, length, get_or, set, option_map, slice_get, swap_remove, Bool, true, false}
use Rattle.std.proofs.Common.{◌⊎◌, Some, None, Option, inl, inr, refl, sym, ap, ◌∙◌, arith}
use Rattle.std.proofs.lemmas.List.Folds.{find_at}
use Rattle.std.proofs.lemmas.List.Sums.{get_or-le-sum_by, passes_at_first, sum_by-cons, sum_by-set, sum_by-swap_remove}
use Rattle.std.proofs.lemmas.Option.{slice_get_cases, slice_get-get_or}
use Rattle.std.specs.List.{find, position_or_len}
use Rattle.ip_address.specs.declared.ip.IpAddress.{IpAddress}
use Rattle.iface_tables.specs.declared.groups.Group.{Group}
use Rattle.iface_tables.specs.declared.groups.GroupState.{GroupState}
use Rattle.iface_tables.specs.declared.groups.GroupState.TheVariants.{Joining, Joined, Leaving}
use Rattle.iface_tables.specs.Groups.{AreDistinct, JoinReportsEnd, LeaveReportsEnd, NoneLeft, count_in, first_in, is_same_state}
use Rattle.iface_tables.specs.Groups.{join_reported_from, leave_reported_from, new_group, index_of, state_of, taken_out, with_state}
use Rattle.iface_tables.proofs.GroupsLaws.{stands_at, state_at}

-- two states that pass the test are one
same_state_is : (s t : GroupState) → is_same_state s t ≡ true → s ≡ t
same_state_is Joining Joining h = refl
same_state_is Joining Joined h = absurd cc
same_state_is Joining Leaving h = absurd cc
same_state_is Joined Joining h = absurd cc
same_state_is Joined Joined h = refl
same_state_is Joined Leaving h = absurd cc
same_state_is Leaving Joining h = absurd cc
same_state_is Leaving Joined h = absurd cc
same_state_is Leaving Leaving h = refl

abbrev is_in : GroupState → Group → Bool
is_in s g = is_same_state g.state s

-- where the first group in a state stands
abbrev first_place : GroupState → List Group → ℕ
first_place s gs = position_or_len (is_in s) gs

-- the first group in a state is the one at the first place
first_at : (s : GroupState) (gs : List Group) → first_in s gs ≡ option_map (λ (g : Group). g.addr) (slice_get gs (first_place s gs))
first_at s gs = ap (option_map (λ (g : Group). g.addr)) (find_at (is_in s) gs)

pub none_left : NoneLeft
none_left s gs none = first_at s gs ∙ by (slice_get_cases gs p).1 where
  p : ℕ
  p = first_place s gs

  by : ((x : Group) × (p < length gs) × (slice_get gs p ≡ Some x) × (get_or gs p x ≡ x)) ⊎ ((length gs ≤ p) × (slice_get gs p ≡ None)) →
      option_map (λ (g : Group). g.addr) (slice_get gs p) ≡ None
  by (inl is) =
      let passes : is_in s (get_or gs p is.0) ≡ true = passes_at_first (is_in s) gs is.0 is.1 in
      let counted : cond (is_in s (get_or gs p is.0)) 1 0 ≤ count_in s gs =
      get_or-le-sum_by (λ (g : Group). cond (is_in s g) 1 0) gs p is.0 is.1 in
      let one : 1 ≤ count_in s gs = rw passes at counted in
      absurd (omega arith)
  by (inr past) = ap (option_map (λ (g : Group). g.addr)) past.1

-- what is known of the first group in a state
record IsFirst (s : GroupState) (gs : List Group) (a : IpAddress) (d : Group) : Type 0 where
  within : first_place s gs < length gs
  passes : is_in s (get_or gs (first_place s gs) d) ≡ true
  index : index_of gs a ≡ first_place s gs
  state : state_of gs a ≡ Some s

is_first : (s : GroupState) (gs : List Group) (a : IpAddress) (d : Group) → AreDistinct gs → first_in s gs ≡ Some a → IsFirst s gs a d
is_first s gs a d distinct first = by (slice_get_cases gs (first_place s gs)).1 where
  known : first_place s gs < length gs → IsFirst s gs a d
  known h =
      let p = first_place s gs in
      let passes : is_in s (get_or gs p d) ≡ true = passes_at_first (is_in s) gs d h in
      let some : Some (get_or gs p d).addr ≡ Some a =
      sym (ap (option_map (λ (g : Group). g.addr)) (slice_get-get_or gs p d h)) ∙ sym (first_at s gs) ∙ first in
      let at : (get_or gs p d).addr ≡ a = cc in
      record {
        within = h;
        passes = passes;
        index = stands_at gs a p d distinct h at;
        state = state_at gs a p d distinct h at ∙ ap (λ (t : GroupState). Some t) (same_state_is _ s passes);
      }

  by : ((x : Group) × (first_place s gs < length gs) × (slice_get gs (first_place s gs) ≡ Some x) × (get_or gs (first_place s gs) x ≡ x))
      ⊎ ((length gs ≤ first_place s gs) × (slice_get gs (first_place s gs) ≡ None)) → IsFirst s gs a d
  by (inl is) = known is.1
  by (inr past) = absurd (let f = sym first ∙ first_at s gs ∙ ap (option_map (λ (g : Group). g.addr)) past.1 in cc)

-- giving the first group in a state another state leaves one less in it
fewer-state : (s t : GroupState) (gs : List Group) (a : IpAddress) → is_same_state t s ≡ false → IsFirst s gs a (new_group a) →
    count_in s gs ≡ count_in s (with_state gs a t) + 1
fewer-state s t gs a other first =
    let p = first_place s gs in
    let y : Group = record { addr = a; state = t } in
    let d = new_group a in
    let e : count_in s (set gs p y) + cond (is_in s (get_or gs p d)) 1 0 ≡ count_in s gs + cond (is_same_state t s) 1 0 =
    sum_by-set (λ (g : Group). cond (is_in s g) 1 0) gs p y d first.within in
    let one : count_in s (set gs p y) + 1 ≡ count_in s gs + 0 = rw (first.passes, other) at e in
    rw first.index (omega arith)

-- so does taking it out
fewer-taken_out : (s : GroupState) (gs : List Group) (a : IpAddress) → IsFirst s gs a (new_group a) → count_in s gs ≡ count_in s (taken_out gs a) + 1
fewer-taken_out s gs a first =
    let p = first_place s gs in
    let d = new_group a in
    let e : count_in s (swap_remove gs p d) + cond (is_in s (get_or gs p d)) 1 0 ≡ count_in s gs =
    sum_by-swap_remove (λ (g : Group). cond (is_in s g) 1 0) gs p d first.within in
    let one : count_in s (swap_remove gs p d) + 1 ≡ count_in s gs = rw first.passes at e in
    rw first.index (sym one)

pub join_reports_end : JoinReportsEnd
join_reports_end gs a distinct first =
    let f = is_first Joining gs a (new_group a) distinct first in
    fewer-state Joining Joined gs a refl f ∙ ap (λ (o : Option GroupState). count_in Joining (join_reported_from o gs a) + 1) (sym f.state)

pub leave_reports_end : LeaveReportsEnd
leave_reports_end gs a distinct first =
    let f = is_first Leaving gs a (new_group a) distinct first in
    fewer-taken_out Leaving gs a f ∙ ap (λ (o : Option GroupState). count_in Leaving (leave_reported_from o gs a) + 1) (sym f.state)

-- where there is no first group in a state, none is in it
pub none_counted : (s : GroupState) (gs : List Group) → first_in s gs ≡ None → count_in s gs ≡ 0
none_counted s [] none = refl
none_counted s (g ∷ gs) none = by (is_in s g) refl none (none_counted s gs) where
  by : (b : Bool) → is_in s g ≡ b → option_map (λ (x : Group). x.addr) (cond b (Some g) (find (is_in s) gs)) ≡ None →
      (first_in s gs ≡ None → count_in s gs ≡ 0) → count_in s (g ∷ gs) ≡ 0
  by true is none rest = absurd cc
  by false is none rest =
      let e : count_in s (g ∷ gs) ≡ 0 + count_in s gs =
      sum_by-cons (λ (x : Group). cond (is_in s x) 1 0) g gs ∙ ap (λ (t : Bool). cond t 1 0 + count_in s gs) is in
      let tail : count_in s gs ≡ 0 = rest none in
      omega arith
