-- Which groups a host has after a join and after a leave.
use Rattle.std.proofs.Common.{ℕ, ◌≡◌, ◌≢◌, ◌⊎◌, inl, inr, Bool, true, false, List, [], ◌∷◌, ◌++◌, length, refl, sym, ap, subst, ◌∙◌}
use Rattle.std.proofs.Common.{Option, Some, None, cond, is_none, ◌&&◌}
use Rattle.std.proofs.lemmas.Option.{slice_get_within, get_or_from_slice_get}
use Rattle.std.specs.Prelude.{slice_get, Ok}
use Rattle.ip_address.specs.declared.ip.IpAddress.{IpAddress}
use Rattle.iface_tables.specs.Groups.{AreDistinct, index_of, is_full, is_member_in, is_refused, new_group, state_of, joined_from, left_from}
use Rattle.iface_tables.specs.Groups.{groups_after_join, groups_after_leave}
use Rattle.iface_tables.specs.declared.groups.Group.{Group}
use Rattle.iface_tables.specs.declared.groups.GroupState.{GroupState}
use Rattle.iface_tables.specs.declared.groups.GroupState.TheVariants.{Joining, Joined, Leaving}
use Rattle.iface_tables.proofs.GroupsLaws.{joins_member, leaves_no_member, others_stay, state_at, stay_distinct}
use Rattle.iface_tables.proofs.GroupsLemmas.{place_within}
use Rattle.host_machine.specs.Context.Host.{Host}
use Rattle.host_machine.specs.Interface.Step.{JoinedGroup, LeftGroup}
use Rattle.host_machine.specs.Multicast.Joins.{JoinsGroup, LeavesGroup, NoGroup, NoPlace, JoinTaken, NoGroupEither, LeaveTaken}
use Rattle.host_laws.specs.Laws.Configured.{GroupsAreJoined, GroupsAreLeft, IsIn, IsOut, KeepsOthers}
use Rattle.host_laws.specs.Laws.Restraint.Queries.{HasGroup}
use Rattle.host_laws.proofs.Multicast.KeptGroups.{at_index, set_here}

-- In a table without a group twice a group is in a state exactly if that is its state

there : (gs : List Group) (a : IpAddress) (state : GroupState) → state_of gs a ≡ Some state → HasGroup gs a state
there gs a state is = (index_of gs a, at_index gs a state is)

state_is : (gs : List Group) (a : IpAddress) (state : GroupState) → AreDistinct gs → HasGroup gs a state → state_of gs a ≡ Some state
state_is gs a state distinct h =
    let g : Group = record { addr = a; state = state } in
    let here = get_or_from_slice_get gs h.0 g (new_group a) h.1 in
    state_at gs a h.0 (new_group a) distinct (slice_get_within gs h.0 g h.1) (ap (λ (x : Group). x.addr) here)
    ∙ ap (λ (x : Group). Some x.state) here

as_states : (old new : List Group) (a : IpAddress) → AreDistinct old → AreDistinct new →
    ((b : IpAddress) → b ≢ a → state_of new b ≡ state_of old b) → KeepsOthers a old new
as_states old new a before after same b state other =
    ((λ h. there new b state (same b other ∙ state_is old b state before h)), λ h. there old b state (sym (same b other) ∙ state_is new b state after h))

member_as : (gs : List Group) (a : IpAddress) (o : Option GroupState) → state_of gs a ≡ o → is_member_in o ≡ true →
    HasGroup gs a Joining ⊎ HasGroup gs a Joined
member_as gs a None is member = cc
member_as gs a (Some Joining) is member = inl (there gs a Joining is)
member_as gs a (Some Joined) is member = inr (there gs a Joined is)
member_as gs a (Some Leaving) is member = cc

leaving_as : (state : GroupState) → is_member_in (Some state) ≡ false → state ≡ Leaving
leaving_as Joining e = cc
leaving_as Joined e = cc
leaving_as Leaving e = refl

-- A join

appended : (gs : List Group) (g : Group) → slice_get (gs ++ g ∷ []) (length gs) ≡ Some g
appended [] g = refl
appended (x ∷ gs) g = appended gs g

is_new : (gs : List Group) (a : IpAddress) (o : Option GroupState) → state_of gs a ≡ o → ((state : GroupState) → HasGroup gs a state → ⊥) → o ≡ None
is_new gs a None is none = refl
is_new gs a (Some state) is none = absurd (none state (there gs a state is))

pending_from : (room : ℕ) (gs : List Group) (a : IpAddress) (o : Option GroupState) → o ≡ None → is_none o && is_full room gs ≡ false →
    HasGroup (joined_from o room gs a) a Joining
pending_from room gs a (Some state) none taken = cc
pending_from room gs a None none taken = by (is_full room gs) taken where
  by : (b : Bool) → true && b ≡ false → HasGroup (cond b gs (gs ++ new_group a ∷ [])) a Joining
  by true e = cc
  by false e = (length gs, appended gs (new_group a))

joined : (room : ℕ) (gs : List Group) (a : IpAddress) → AreDistinct gs → is_refused room gs a ≡ false → IsIn a gs (groups_after_join room gs a)
joined room gs a distinct taken = record {
  member = member_as (groups_after_join room gs a) a (state_of (groups_after_join room gs a) a) refl (joins_member room gs a distinct taken);
  pending = λ none. pending_from room gs a (state_of gs a) (is_new gs a (state_of gs a) refl none) taken;
  others = as_states gs (groups_after_join room gs a) a distinct ((stay_distinct gs a distinct).after_join room)
      (λ b other. (others_stay gs a b distinct (λ e. other (sym e))).join room);
}

-- A leave

left : (gs : List Group) (a : IpAddress) → AreDistinct gs → IsOut a gs (groups_after_leave gs a)
left gs a distinct =
    let after = (stay_distinct gs a distinct).after_leave in
    record {
      member = λ state h. leaving_as state (ap is_member_in (sym (state_is (groups_after_leave gs a) a state after h)) ∙ leaves_no_member gs a distinct);
      pending = λ h.
          let is = state_is gs a Joined distinct h in
          subst (λ o. HasGroup (left_from o gs a) a Leaving) (sym is)
          (index_of gs a, set_here gs (index_of gs a) (record { addr = a; state = Leaving }) (place_within gs a (rw is refl)));
      others = as_states gs (groups_after_leave gs a) a distinct after (λ b other. (others_stay gs a b distinct (λ e. other (sym e))).leave);
    }

-- The steps

by_join : {a : IpAddress} {old new : Host} → JoinsGroup a (Ok tt) old new → AreDistinct old.groups → IsIn a old.groups new.groups
by_join (NoGroup m answer e) distinct = cc
by_join (NoPlace m r answer e) distinct = cc
by_join {a} {old} (JoinTaken m r answer e) distinct = rw e (joined old.group_room old.groups a distinct r)

by_leave : {a : IpAddress} {old new : Host} → LeavesGroup a (Ok tt) old new → AreDistinct old.groups → IsOut a old.groups new.groups
by_leave (NoGroupEither m answer e) distinct = cc
by_leave {a} {old} (LeaveTaken m answer e) distinct = rw e (left old.groups a distinct)

pub groups_joined : GroupsAreJoined
groups_joined a old new told acts notes (JoinedGroup j) distinct = by_join j distinct

pub groups_left : GroupsAreLeft
groups_left a old new told acts notes (LeftGroup l) distinct = by_leave l distinct
