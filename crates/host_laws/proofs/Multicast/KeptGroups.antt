-- Reports of joins and leaves keep the other groups.
use Rattle.std.proofs.Common.{◌≡◌, ◌⊎◌, inl, inr, ℕ, zero, suc, ◌-◌, ◌<◌, nat_eq, Bool, true, false, List, [], ◌∷◌, length, take}
use Rattle.std.proofs.Common.{refl, sym, ap, ◌∙◌, Option, Some, None, arith}
use Rattle.std.proofs.lemmas.Bool.Decides.{nat_tests}
use Rattle.std.proofs.lemmas.Option.{get_or_from_slice_get, slice_get_cases, slice_get_within}
use Rattle.std.specs.Prelude.{option_map, slice_get, slice_set, slice_index_or}
use Rattle.ip_address.specs.declared.ip.IpAddress.{IpAddress}
use Rattle.iface_tables.specs.Groups.{index_of, join_reported, join_reported_from, leave_reported, leave_reported_from, new_group, state_of, taken_out}
use Rattle.iface_tables.specs.Groups.{with_state}
use Rattle.iface_tables.specs.declared.groups.Group.{Group}
use Rattle.iface_tables.specs.declared.groups.GroupState.{GroupState}
use Rattle.iface_tables.specs.declared.groups.GroupState.TheVariants.{Joining, Joined, Leaving}
use Rattle.iface_tables.proofs.GroupsLemmas.{addr_at_index, place_within, state_at_index}
use Rattle.host_laws.specs.Laws.Restraint.Queries.{HasGroup}
use Rattle.host_laws.proofs.Multicast.GroupReports.{all_at, all_here, all_out}

-- a group by its address and state
abbrev group_of : IpAddress → GroupState → Group
group_of a state = record { addr = a; state = state }

-- what stands where
pub set_here : (gs : List Group) (i : ℕ) (v : Group) → i < length gs → slice_get (slice_set gs i v) i ≡ Some v
set_here [] i v less = absurd (omega (arith, less))
set_here (g ∷ gs) zero v less = refl
set_here (g ∷ gs) (suc i) v less = set_here gs i v (omega (arith, less))

set_other : (gs : List Group) (i k : ℕ) (v : Group) → (k ≡ i → ⊥) → slice_get (slice_set gs i v) k ≡ slice_get gs k
set_other [] i k v other = refl
set_other (g ∷ gs) zero zero v other = absurd (other refl)
set_other (g ∷ gs) zero (suc k) v other = refl
set_other (g ∷ gs) (suc i) zero v other = refl
set_other (g ∷ gs) (suc i) (suc k) v other = set_other gs i k v (λ e. other (ap suc e))

take_here : (n : ℕ) (gs : List Group) (k : ℕ) → k < n → slice_get (take n gs) k ≡ slice_get gs k
take_here zero gs k less = absurd (omega (arith, less))
take_here (suc n) [] k less = refl
take_here (suc n) (g ∷ gs) zero less = refl
take_here (suc n) (g ∷ gs) (suc k) less = take_here n gs k (omega (arith, less))

-- at one index stands one group
one_at : (gs : List Group) (k i : ℕ) (g h : Group) → k ≡ i → slice_get gs k ≡ Some g → slice_get gs i ≡ Some h → g ≡ h
one_at gs k i g h at one two = let both : Some g ≡ Some h = sym one ∙ ap (slice_get gs) at ∙ two in cc

-- a group whose state is known
pub at_index : (gs : List Group) (a : IpAddress) (state : GroupState) → state_of gs a ≡ Some state →
    slice_get gs (index_of gs a) ≡ Some (group_of a state)
at_index gs a state is = elim (slice_get_cases gs (index_of gs a)).1 [
  | inl here ↦
      let g = here.0 in
      let addr : g.addr ≡ a = ap (λ (x : Group). x.addr) (sym here.3) ∙ addr_at_index gs a g here.1 in
      let named : Some g.state ≡ Some state =
      ap (option_map (λ (x : Group). x.state)) (sym here.2) ∙ state_at_index gs a ∙ is in
      let state_is : g.state ≡ state = cc in
      here.2 ∙ ap (λ x. Some (group_of x g.state)) addr ∙ ap (λ s. Some (group_of a s)) state_is
  | inr past ↦ absurd (let e = state_at_index gs a in let f = ap (option_map (λ (x : Group). x.state)) past.1 in cc)
]

-- the group that is taken out is leaving; each other stays
stays_in : (gs : List Group) (a b : IpAddress) (state : GroupState) → state_of gs b ≡ Some Leaving → (state ≡ Leaving → ⊥) → HasGroup gs a state →
    HasGroup (taken_out gs b) a state
stays_in gs a b state is other h = by (nat_eq k last) refl where
  k : ℕ
  k = h.0

  p : ℕ
  p = index_of gs b

  last : ℕ
  last = length gs - 1

  this : Group
  this = group_of a state

  moved : Group
  moved = slice_index_or gs last (new_group b)

  k_in : k < length gs
  k_in = slice_get_within gs k this h.1

  p_in : p < length gs
  p_in = place_within gs b (rw is refl)

  apart : k ≡ p → ⊥
  apart e = other (ap (λ (g : Group). g.state) (one_at gs k p this (group_of b Leaving) e h.1 (at_index gs b Leaving is)))

  by : (x : Bool) → nat_eq k last ≡ x → HasGroup (taken_out gs b) a state
  by true e =
      let k_last : k ≡ last = grind (arith, nat_tests) in
      let p_less : p < last = by_apart k_last in
      let moves : moved ≡ this = get_or_from_slice_get gs last this (new_group b) (rw (← k_last) h.1) in
      (p, take_here last (slice_set gs p moved) p p_less ∙ set_here gs p moved p_in ∙ ap Some moves)
    where
      by_apart : k ≡ last → p < last
      by_apart e = let f : p ≡ last → ⊥ = (λ g. apart (e ∙ sym g)) in grind (arith, f, p_in)
  by false e =
      let k_less : k < last = grind (arith, nat_tests, k_in) in
      (k, take_here last (slice_set gs p moved) k k_less ∙ set_other gs p k moved apart ∙ h.1)

-- and each that is left was there
abbrev Stands : List Group → Group → Type 0
Stands gs g = HasGroup gs g.addr g.state

was_in : (gs : List Group) (a b : IpAddress) (state : GroupState) → HasGroup (taken_out gs b) a state → HasGroup gs a state
was_in gs a b state h =
    all_at (Stands gs) (taken_out gs b) h.0 (group_of a state)
    (all_out (Stands gs) gs b (all_here (Stands gs) gs (λ k g here. (k, here)))) h.1

-- what reports do to groups, by lists of these
pub record Stay (gs hs : List Group) : Type 0 where
  pub joined : (a : IpAddress) → HasGroup gs a Joined → HasGroup hs a Joined
  pub joining : (a : IpAddress) → HasGroup gs a Joining → HasGroup hs a Joining ⊎ HasGroup hs a Joined
  pub no_other : (a : IpAddress) → HasGroup hs a Joined → HasGroup gs a Joined ⊎ HasGroup gs a Joining
  pub joins : (a : IpAddress) → HasGroup hs a Joining → HasGroup gs a Joining
  pub leaves : (a : IpAddress) → HasGroup hs a Leaving → HasGroup gs a Leaving

pub stay_themselves : (gs : List Group) → Stay gs gs
stay_themselves gs = record { joined = λ a h. h; joining = λ a h. inl h; no_other = λ a h. inl h; joins = λ a h. h; leaves = λ a h. h }

pub stay_then : {fs gs hs : List Group} → Stay fs gs → Stay gs hs → Stay fs hs
stay_then x y = record {
  joined = λ a h. y.joined a (x.joined a h);
  joining = λ a h. elim (x.joining a h) [
    | inl still ↦ y.joining a still
    | inr done ↦ inr (y.joined a done)
  ];
  no_other = λ a h. elim (y.no_other a h) [
    | inl before ↦ x.no_other a before
    | inr pending ↦ inr (x.joins a pending)
  ];
  joins = λ a h. x.joins a (y.joins a h);
  leaves = λ a h. x.leaves a (y.leaves a h);
}

pub stay_at_join : (gs : List Group) (b : IpAddress) → Stay gs (join_reported gs b)
stay_at_join gs b = by (state_of gs b) refl where
  by : (o : Option GroupState) → state_of gs b ≡ o → Stay gs (join_reported_from o gs b)
  by None is = stay_themselves gs
  by (Some Joined) is = stay_themselves gs
  by (Some Leaving) is = stay_themselves gs
  by (Some Joining) is = record { joined = joined; joining = joining; no_other = no_other; joins = joins; leaves = leaves } where
    p : ℕ
    p = index_of gs b

    now : List Group
    now = with_state gs b Joined

    old_here : slice_get gs p ≡ Some (group_of b Joining)
    old_here = at_index gs b Joining is

    new_here : slice_get now p ≡ Some (group_of b Joined)
    new_here = set_here gs p (group_of b Joined) (place_within gs b (rw is refl))

    same : (k : ℕ) → nat_eq k p ≡ false → slice_get now k ≡ slice_get gs k
    same k e = set_other gs p k (group_of b Joined) (let f : k ≡ p → ⊥ = grind (arith, nat_tests) in f)

    -- a group of either list is the one reported, or in the other list as well
    stays : (a : IpAddress) (state : GroupState) → HasGroup gs a state →
        HasGroup now a state ⊎ (group_of a state ≡ group_of b Joining)
    stays a state h = at (nat_eq h.0 p) refl where
      at : (x : Bool) → nat_eq h.0 p ≡ x → HasGroup now a state ⊎ (group_of a state ≡ group_of b Joining)
      at true e = let k : h.0 ≡ p = grind (arith, nat_tests) in inr (one_at gs h.0 p _ _ k h.1 old_here)
      at false e = inl (h.0, same h.0 e ∙ h.1)

    came : (a : IpAddress) (state : GroupState) → HasGroup now a state →
        HasGroup gs a state ⊎ (group_of a state ≡ group_of b Joined)
    came a state h = at (nat_eq h.0 p) refl where
      at : (x : Bool) → nat_eq h.0 p ≡ x → HasGroup gs a state ⊎ (group_of a state ≡ group_of b Joined)
      at true e = let k : h.0 ≡ p = grind (arith, nat_tests) in inr (one_at now h.0 p _ _ k h.1 new_here)
      at false e = inl (h.0, sym (same h.0 e) ∙ h.1)

    joined : (a : IpAddress) → HasGroup gs a Joined → HasGroup now a Joined
    joined a h = elim (stays a Joined h) [
      | inl still ↦ still
      | inr is ↦ absurd (let bad = ap (λ (g : Group). g.state) is in cc)
    ]

    joining : (a : IpAddress) → HasGroup gs a Joining → HasGroup now a Joining ⊎ HasGroup now a Joined
    joining a h = elim (stays a Joining h) [
      | inl still ↦ inl still
      | inr is ↦ inr (p, new_here ∙ ap (λ (g : Group). Some (group_of g.addr Joined)) (sym is))
    ]

    no_other : (a : IpAddress) → HasGroup now a Joined → HasGroup gs a Joined ⊎ HasGroup gs a Joining
    no_other a h = elim (came a Joined h) [
      | inl before ↦ inl before
      | inr is ↦ inr (p, old_here ∙ ap (λ (g : Group). Some (group_of g.addr Joining)) (sym is))
    ]

    joins : (a : IpAddress) → HasGroup now a Joining → HasGroup gs a Joining
    joins a h = elim (came a Joining h) [
      | inl before ↦ before
      | inr is ↦ absurd (let bad = ap (λ (g : Group). g.state) is in cc)
    ]

    leaves : (a : IpAddress) → HasGroup now a Leaving → HasGroup gs a Leaving
    leaves a h = elim (came a Leaving h) [
      | inl before ↦ before
      | inr is ↦ absurd (let bad = ap (λ (g : Group). g.state) is in cc)
    ]

pub stay_at_leave : (gs : List Group) (b : IpAddress) → Stay gs (leave_reported gs b)
stay_at_leave gs b = by (state_of gs b) refl where
  by : (o : Option GroupState) → state_of gs b ≡ o → Stay gs (leave_reported_from o gs b)
  by None is = stay_themselves gs
  by (Some Joining) is = stay_themselves gs
  by (Some Joined) is = stay_themselves gs
  by (Some Leaving) is = record {
    joined = λ a h. stays_in gs a b Joined is (λ e. absurd cc) h;
    joining = λ a h. inl (stays_in gs a b Joining is (λ e. absurd cc) h);
    no_other = λ a h. inl (was_in gs a b Joined h);
    joins = λ a h. was_in gs a b Joining h;
    leaves = λ a h. was_in gs a b Leaving h;
  }
