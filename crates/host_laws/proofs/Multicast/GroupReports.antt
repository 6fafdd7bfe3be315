-- Groups whose join or leave is pending, while reports of them are sent.
use Rattle.std.proofs.Common.{◌≡◌, ℕ, zero, suc, ◌+◌, ◌-◌, ◌<◌, ◌≤◌, cond, Bool, true, false, List, [], ◌∷◌, length, get_or, take}
use Rattle.std.proofs.Common.{refl, ap, subst, ◌∙◌, Option, Some, None, arith}
use Rattle.std.proofs.lemmas.List.Sums.{sum_by-set, sum_by-swap_remove}
use Rattle.std.specs.Prelude.{find, option_map, slice_get, slice_set, slice_index_or}
use Rattle.std.specs.List.{AllByRecursion, cons_option}
use Rattle.ip_address.specs.declared.cidr.IpCidr.{IpCidr}
use Rattle.ip_address.specs.declared.ip.IpAddress.{IpAddress}
use Rattle.ip_address.specs.declared.ip.IpAddress.TheVariants.{Ipv4, Ipv6}
use Rattle.ip_address.specs.declared.ipv4.Ipv4Address.{Ipv4Address}
use Rattle.net_base.specs.Device.{Event}
use Rattle.iface_tables.specs.Groups.{count_in, first_in, index_of, ipv4_groups, ipv6_groups, is_same_state, of_ipv4, of_ipv6, join_reported, join_reported_from}
use Rattle.iface_tables.specs.Groups.{leave_reported, leave_reported_from, new_group, state_of, taken_out, with_state}
use Rattle.iface_tables.specs.declared.groups.Group.{Group}
use Rattle.iface_tables.specs.declared.groups.GroupState.{GroupState}
use Rattle.iface_tables.specs.declared.groups.GroupState.TheVariants.{Joining, Joined, Leaving}
use Rattle.iface_tables.proofs.GroupsLemmas.{addr_at_index, place_within}
use Rattle.host_machine.specs.Context.Note.{Note}
use Rattle.host_machine.specs.Context.Host.{Host}
use Rattle.host_machine.specs.Packet.Packet.{Packet}
use Rattle.host_machine.specs.Multicast.Joins.{ReportsEach, ReportsAll}
use Rattle.host_machine.specs.Multicast.Joins as multicast
use Rattle.host_laws.specs.Laws.Restraint.Queries.{HasGroup}
use Rattle.host_laws.specs.Laws.Restraint.SentFrames.{IsListed}
use Rattle.host_laws.proofs.Interface.SettledFields.{dispatch_leaves}

-- all groups of a list
module _ (P : Group → Type 0) where
  all_set : (gs : List Group) (i : ℕ) (v : Group) → AllByRecursion P gs → P v → AllByRecursion P (slice_set gs i v)
  all_set [] i v all p = tt
  all_set (g ∷ gs) zero v all p = (p, all.1)
  all_set (g ∷ gs) (suc i) v all p = (all.0, all_set gs i v all.1 p)

  all_take : (n : ℕ) (gs : List Group) → AllByRecursion P gs → AllByRecursion P (take n gs)
  all_take zero [] all = tt
  all_take (suc n) [] all = tt
  all_take zero (g ∷ gs) all = tt
  all_take (suc n) (g ∷ gs) all = (all.0, all_take n gs all.1)

  all_index : (gs : List Group) (k : ℕ) (d : Group) → AllByRecursion P gs → k < length gs → P (slice_index_or gs k d)
  all_index [] k d all less = absurd (omega (arith, less))
  all_index (g ∷ gs) zero d all less = all.0
  all_index (g ∷ gs) (suc k) d all less = all_index gs k d all.1 (omega (arith, less))

  pub all_out : (gs : List Group) (a : IpAddress) → AllByRecursion P gs → AllByRecursion P (taken_out gs a)
  all_out [] a all = all_take (length {A = Group} [] - 1) [] tt
  all_out (g ∷ gs) a all =
      let last = all_index (g ∷ gs) (length (g ∷ gs) - 1) (new_group a) all (omega arith) in
      all_take (length (g ∷ gs) - 1) (slice_set (g ∷ gs) (index_of (g ∷ gs) a) (slice_index_or (g ∷ gs) (length (g ∷ gs) - 1) (new_group a)))
      (all_set (g ∷ gs) (index_of (g ∷ gs) a) (slice_index_or (g ∷ gs) (length (g ∷ gs) - 1) (new_group a)) all last)

  pub all_here : (gs : List Group) → ((k : ℕ) (g : Group) → slice_get gs k ≡ Some g → P g) → AllByRecursion P gs
  all_here [] each = tt
  all_here (g ∷ gs) each = (each 0 g refl, all_here gs (λ k h e. each (suc k) h e))

  pub all_at : (gs : List Group) (k : ℕ) (g : Group) → AllByRecursion P gs → slice_get gs k ≡ Some g → P g
  all_at [] k g all e = absurd cc
  all_at (h ∷ gs) zero g all e = let same : h ≡ g = cc in rw (← same) all.0
  all_at (h ∷ gs) (suc k) g all e = all_at gs k g all.1 e

  -- the first group in a state
  pub record IsOne (state : GroupState) (a : IpAddress) : Type 0 where
    pub group : Group
    pub addr : group.addr ≡ a
    pub state_is : group.state ≡ state
    pub holds : P group

  same_state : (s t : GroupState) → is_same_state s t ≡ true → s ≡ t
  same_state Joining Joining h = refl
  same_state Joining Joined h = absurd cc
  same_state Joining Leaving h = absurd cc
  same_state Joined Joining h = absurd cc
  same_state Joined Joined h = refl
  same_state Joined Leaving h = absurd cc
  same_state Leaving Joining h = absurd cc
  same_state Leaving Joined h = absurd cc
  same_state Leaving Leaving h = refl

  pub first_one : (state : GroupState) (gs : List Group) (a : IpAddress) → AllByRecursion P gs → first_in state gs ≡ Some a → IsOne state a
  first_one state [] a all e = absurd cc
  first_one state (g ∷ gs) a all e = by (is_same_state g.state state) refl (λ f. first_one state gs a all.1 f) e where
    by : (b : Bool) → is_same_state g.state state ≡ b → (first_in state gs ≡ Some a → IsOne state a) →
        option_map (λ (x : Group). x.addr) (cond b (Some g) (find (λ (x : Group). is_same_state x.state state) gs)) ≡ Some a → IsOne state a
    by true is rest f = record { group = g; addr = cc; state_is = same_state g.state state is; holds = all.0 }
    by false is rest f = rest f

-- a group that is pending was so in another table
abbrev pub Was : List Group → GroupState → Group → Type 0
Was base state g = g.state ≡ state → HasGroup base g.addr state

pub was_itself : (base : List Group) (state : GroupState) → AllByRecursion (Was base state) base
was_itself base state =
    all_here (Was base state) base (λ k g here is. (k, here ∙ ap (λ s. Some (record { addr = g.addr; state = s })) is))

pub was_before_joins : (base : List Group) (state : GroupState) → (Joined ≡ state → ⊥) → (gs : List Group) (a : IpAddress) →
    AllByRecursion (Was base state) gs → AllByRecursion (Was base state) (join_reported gs a)
was_before_joins base state other gs a all = by (state_of gs a) where
  by : (o : Option GroupState) → AllByRecursion (Was base state) (join_reported_from o gs a)
  by None = all
  by (Some Joining) = all_set (Was base state) gs (index_of gs a) (record { addr = a; state = Joined }) all (λ e. absurd (other e))
  by (Some Joined) = all
  by (Some Leaving) = all

pub was_before_leaves : (base : List Group) (state : GroupState) (gs : List Group) (a : IpAddress) →
    AllByRecursion (Was base state) gs → AllByRecursion (Was base state) (leave_reported gs a)
was_before_leaves base state gs a all = by (state_of gs a) where
  by : (o : Option GroupState) → AllByRecursion (Was base state) (leave_reported_from o gs a)
  by None = all
  by (Some Joining) = all
  by (Some Joined) = all
  by (Some Leaving) = all_out (Was base state) gs a all

-- a group of another table, in whatever state
abbrev pub Came : List Group → Group → Type 0
Came base g = IsListed base g.addr

pub came_itself : (base : List Group) → AllByRecursion (Came base) base
came_itself base = all_here (Came base) base (λ k g here. (g.state, (k, here)))

pub came_by_join : (base gs : List Group) (a : IpAddress) → AllByRecursion (Came base) gs → AllByRecursion (Came base) (join_reported gs a)
came_by_join base gs a all = by (state_of gs a) refl where
  by : (o : Option GroupState) → state_of gs a ≡ o → AllByRecursion (Came base) (join_reported_from o gs a)
  by None is = all
  by (Some Joined) is = all
  by (Some Leaving) is = all
  by (Some Joining) is =
      let at = place_within gs a (rw is refl) in
      let d = new_group a in
      let one : Came base (slice_index_or gs (index_of gs a) d) = all_index (Came base) gs (index_of gs a) d all at in
      all_set (Came base) gs (index_of gs a) (record { addr = a; state = Joined }) all (subst (IsListed base) (addr_at_index gs a d at) one)

pub came_by_leave : (base gs : List Group) (a : IpAddress) → AllByRecursion (Came base) gs → AllByRecursion (Came base) (leave_reported gs a)
came_by_leave base gs a all = by (state_of gs a) where
  by : (o : Option GroupState) → AllByRecursion (Came base) (leave_reported_from o gs a)
  by None = all
  by (Some Joining) = all
  by (Some Joined) = all
  by (Some Leaving) = all_out (Came base) gs a all

pub came_v4 : (base gs : List Group) (k : ℕ) (a : Ipv4Address) → AllByRecursion (Came base) gs → slice_get (ipv4_groups gs) k ≡ Some a →
    IsListed base (Ipv4 a)
came_v4 base [] k a all e = absurd cc
came_v4 base (g ∷ gs) k a all e = by g.addr refl k (λ j f. came_v4 base gs j a all.1 f) e where
  by : (x : IpAddress) → g.addr ≡ x → (k : ℕ) → ((j : ℕ) → slice_get (ipv4_groups gs) j ≡ Some a → IsListed base (Ipv4 a)) →
      slice_get (cons_option (of_ipv4 x) (ipv4_groups gs)) k ≡ Some a → IsListed base (Ipv4 a)
  by (Ipv4 b) is zero rest f = let same : b ≡ a = cc in subst (IsListed base) (is ∙ ap (λ y. Ipv4 y) same) all.0
  by (Ipv4 b) is (suc k) rest f = rest k f
  by (Ipv6 b) is k rest f = rest k f

pub came_v6 : (base gs : List Group) → AllByRecursion (Came base) gs → AllByRecursion (λ a. IsListed base (Ipv6 a)) (ipv6_groups gs)
came_v6 base [] all = tt
came_v6 base (g ∷ gs) all = by g.addr refl (came_v6 base gs all.1) where
  by : (x : IpAddress) → g.addr ≡ x → AllByRecursion (λ a. IsListed base (Ipv6 a)) (ipv6_groups gs) →
      AllByRecursion (λ a. IsListed base (Ipv6 a)) (cons_option (of_ipv6 x) (ipv6_groups gs))
  by (Ipv4 b) is rest = rest
  by (Ipv6 b) is rest = (subst (IsListed base) is all.0, rest)

-- no report makes more pending
pub fewer_after_join : (state : GroupState) → is_same_state Joined state ≡ false → (gs : List Group) (a : IpAddress) →
    count_in state (join_reported gs a) ≤ count_in state gs
fewer_after_join state other gs a = by (state_of gs a) refl where
  by : (o : Option GroupState) → state_of gs a ≡ o → count_in state (join_reported_from o gs a) ≤ count_in state gs
  by None is = omega arith
  by (Some Joined) is = omega arith
  by (Some Leaving) is = omega arith
  by (Some Joining) is =
      let at = place_within gs a (rw is refl) in
      let e : count_in state (with_state gs a Joined) + cond (is_same_state (get_or gs (index_of gs a) (new_group a)).state state) 1 0
      ≡ count_in state gs + cond (is_same_state Joined state) 1 0 =
      sum_by-set (λ (g : Group). cond (is_same_state g.state state) 1 0) gs (index_of gs a) (record { addr = a; state = Joined }) (new_group a) at in
      let f = rw other at e in omega (arith, f)

pub fewer_after_leave : (state : GroupState) (gs : List Group) (a : IpAddress) → count_in state (leave_reported gs a) ≤ count_in state gs
fewer_after_leave state gs a = by (state_of gs a) refl where
  by : (o : Option GroupState) → state_of gs a ≡ o → count_in state (leave_reported_from o gs a) ≤ count_in state gs
  by None is = omega arith
  by (Some Joined) is = omega arith
  by (Some Joining) is = omega arith
  by (Some Leaving) is =
      let at = place_within gs a (rw is refl) in
      let e : count_in state (taken_out gs a) + cond (is_same_state (get_or gs (index_of gs a) (new_group a)).state state) 1 0 ≡ count_in state gs =
      sum_by-swap_remove (λ (g : Group). cond (is_same_state g.state state) 1 0) gs (index_of gs a) (new_group a) at in omega (arith, e)

-- what each report carries on
module _ {state : GroupState} {packet_for : List IpCidr → IpAddress → Option Packet} {after_report : List Group → IpAddress → List Group}
    (R : List Group → List Group → Type 0) (same : (gs : List Group) → R gs gs)
    (then_report : (gs hs : List Group) (a : IpAddress) → R gs hs → R gs (after_report hs a)) where
  each_carries : {old new : Host} {granted : Bool} {told : List Event} {notes : List Note} →
      ReportsEach state packet_for after_report old granted told notes new → R old.groups new.groups
  each_carries {old = old} multicast.Begins = same old.groups
  each_carries {old = old} (multicast.Silently {mid = mid} a w f p) = then_report old.groups mid.groups a (each_carries w)
  each_carries (multicast.Refused a p w f q) = each_carries w
  each_carries {old = old} (multicast.Reported {mid = mid} a p outcome frames more new w f q d) =
      let kept : new.groups ≡ mid.groups = dispatch_leaves (λ (K : Host). K.groups) (λ H. refl) (λ H. refl) (λ H rest. refl) d in
      then_report old.groups new.groups a (rw kept (each_carries w))

  pub reports_carry : {old new : Host} {told : List Event} {notes : List Note} →
      ReportsAll state packet_for after_report old told notes new → R old.groups new.groups
  reports_carry (multicast.All w n) = each_carries w
  reports_carry (multicast.UpToRefusal w) = each_carries w
