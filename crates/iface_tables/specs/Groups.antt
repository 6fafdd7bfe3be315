-- Multicast groups (RFC 1112 7.1, RFC 2236 6, RFC 3810 4.2): a list, in the order in which it is walked.
use Rattle.std.specs.Prelude.{◌≡◌, ◌≢◌, ℕ, ◌<◌, ◌==◌, ◌&&◌, nat_le, Bool, true, false, if◌then◌else◌}
use Rattle.std.specs.Prelude.{List, [], ◌∷◌, ◌++◌, length, find, ◌+◌, count_by, filter_map, option_map}
use Rattle.std.specs.Prelude.{is_none, slice_index_or, slice_set, Option, Some, None, Result, Ok, Err}
use Rattle.std.specs.List.{position_or_len, swap_remove}
use Rattle.ip_address.specs.declared.ip.IpAddress.{IpAddress}
use Rattle.ip_address.specs.declared.ip.IpAddress.TheVariants.{Ipv4, Ipv6}
use Rattle.ip_address.specs.declared.ipv4.Ipv4Address.{Ipv4Address}
use Rattle.ip_address.specs.declared.ipv6.Ipv6Address.{Ipv6Address}
use Rattle.iface_tables.specs.declared.groups.Group.{Group}
use Rattle.iface_tables.specs.declared.groups.GroupState.{GroupState}
use Rattle.iface_tables.specs.declared.groups.GroupState.TheVariants.{Joining, Joined, Leaving}
use Rattle.iface_tables.specs.declared.groups.GroupTableFull.{GroupTableFull}

-- whether two addresses are equal
abbrev pub is_same : IpAddress → IpAddress → Bool
is_same (Ipv4 a) (Ipv4 b) = a.bits == b.bits
is_same (Ipv4 a) (Ipv6 b) = false
is_same (Ipv6 a) (Ipv4 b) = false
is_same (Ipv6 a) (Ipv6 b) = a.bits == b.bits

-- whether two states are equal
abbrev pub is_same_state : GroupState → GroupState → Bool
is_same_state Joining Joining = true
is_same_state Joined Joined = true
is_same_state Leaving Leaving = true
is_same_state s t = false

-- whether there is no group
abbrev pub is_empty : List Group → Bool
is_empty gs = length gs == 0

-- whether there is no room for another group, where there is room for so many
abbrev pub is_full : ℕ → List Group → Bool
is_full room gs = nat_le room (length gs)

-- a group that was just joined
abbrev pub new_group : IpAddress → Group
new_group a = record { addr = a; state = Joining }

-- whether a group has this address
abbrev pub is_at : IpAddress → Group → Bool
is_at a g = is_same g.addr a

-- the index of a group, or the length
abbrev pub index_of : List Group → IpAddress → ℕ
index_of gs a = position_or_len (is_at a) gs

-- the state of a group, if it is there
abbrev pub state_of : List Group → IpAddress → Option GroupState
state_of gs a = option_map (λ (g : Group). g.state) (find (is_at a) gs)

-- no address occurs twice: two indices with the same address are equal
abbrev pub AreDistinct : List Group → Type 0
AreDistinct gs = (i j : ℕ) (d : Group) →
    i < length gs → j < length gs → (slice_index_or gs i d).addr ≡ (slice_index_or gs j d).addr → i ≡ j

-- the groups with a new one appended
abbrev pub with_new : List Group → IpAddress → List Group
with_new gs a = gs ++ new_group a ∷ []

-- the groups with another state of one that is there
abbrev pub with_state : List Group → IpAddress → GroupState → List Group
with_state gs a s = slice_set gs (index_of gs a) (record { addr = a; state = s })

-- the groups without one that is there: the last moves into its index
abbrev pub taken_out : List Group → IpAddress → List Group
taken_out gs a = swap_remove gs (index_of gs a) (new_group a)

-- whether the interface is a member of a group in this state
abbrev pub is_member_in : Option GroupState → Bool
is_member_in None = false
is_member_in (Some Joining) = true
is_member_in (Some Joined) = true
is_member_in (Some Leaving) = false

-- whether the interface is a member of a group
abbrev pub is_member : List Group → IpAddress → Bool
is_member gs a = is_member_in (state_of gs a)

-- whether a join is refused: the group isn't there, and the table is full
abbrev pub is_refused : ℕ → List Group → IpAddress → Bool
is_refused room gs a = is_none (state_of gs a) && is_full room gs

-- the answer of a join
abbrev pub done_or_full : ℕ → List Group → IpAddress → Result Unit GroupTableFull
done_or_full room gs a = if is_refused room gs a then Err (record {}) else Ok tt

-- the groups after a join, by the state of the group before
abbrev pub joined_from : Option GroupState → ℕ → List Group → IpAddress → List Group
joined_from None room gs a = if is_full room gs then gs else with_new gs a
joined_from (Some Joining) room gs a = gs
joined_from (Some Joined) room gs a = gs
joined_from (Some Leaving) room gs a = with_state gs a Joined

-- the groups after a join, where there is room for so many
abbrev pub groups_after_join : ℕ → List Group → IpAddress → List Group
groups_after_join room gs a = joined_from (state_of gs a) room gs a

-- the groups after a leave, by the state of the group before: a join that wasn't reported needs no report
abbrev pub left_from : Option GroupState → List Group → IpAddress → List Group
left_from None gs a = gs
left_from (Some Joining) gs a = taken_out gs a
left_from (Some Joined) gs a = with_state gs a Leaving
left_from (Some Leaving) gs a = gs

-- the groups after a leave
abbrev pub groups_after_leave : List Group → IpAddress → List Group
groups_after_leave gs a = left_from (state_of gs a) gs a

-- the groups after a join was reported, by the state of the group before
abbrev pub join_reported_from : Option GroupState → List Group → IpAddress → List Group
join_reported_from None gs a = gs
join_reported_from (Some Joining) gs a = with_state gs a Joined
join_reported_from (Some Joined) gs a = gs
join_reported_from (Some Leaving) gs a = gs

-- the groups after a join was reported
abbrev pub join_reported : List Group → IpAddress → List Group
join_reported gs a = join_reported_from (state_of gs a) gs a

-- the groups after a leave was reported, by the state of the group before
abbrev pub leave_reported_from : Option GroupState → List Group → IpAddress → List Group
leave_reported_from None gs a = gs
leave_reported_from (Some Joining) gs a = gs
leave_reported_from (Some Joined) gs a = gs
leave_reported_from (Some Leaving) gs a = taken_out gs a

-- the groups after a leave was reported
abbrev pub leave_reported : List Group → IpAddress → List Group
leave_reported gs a = leave_reported_from (state_of gs a) gs a

-- the first group in a state
abbrev pub first_in : GroupState → List Group → Option IpAddress
first_in s gs = option_map (λ (g : Group). g.addr) (find (λ (g : Group). is_same_state g.state s) gs)

-- the number of groups in a state
abbrev pub count_in : GroupState → List Group → ℕ
count_in s gs = count_by (λ (g : Group). is_same_state g.state s) gs

-- an IPv4 address
abbrev pub of_ipv4 : IpAddress → Option Ipv4Address
of_ipv4 (Ipv4 a) = Some a
of_ipv4 (Ipv6 a) = None

-- an IPv6 address
abbrev pub of_ipv6 : IpAddress → Option Ipv6Address
of_ipv6 (Ipv4 a) = None
of_ipv6 (Ipv6 a) = Some a

-- the IPv4 groups, in their order
abbrev pub ipv4_groups : List Group → List Ipv4Address
ipv4_groups gs = filter_map (λ (g : Group). of_ipv4 g.addr) gs

-- the IPv6 groups, in their order
abbrev pub ipv6_groups : List Group → List Ipv6Address
ipv6_groups gs = filter_map (λ (g : Group). of_ipv6 g.addr) gs

-- no call makes an address occur twice
pub record KeepsDistinct (gs : List Group) (a : IpAddress) : Type 0 where
  pub after_join : (room : ℕ) → AreDistinct (groups_after_join room gs a)
  pub after_leave : AreDistinct (groups_after_leave gs a)
  pub after_join_reported : AreDistinct (join_reported gs a)
  pub after_leave_reported : AreDistinct (leave_reported gs a)

abbrev pub StayDistinct : Type 0
StayDistinct = (gs : List Group) (a : IpAddress) → AreDistinct gs → KeepsDistinct gs a

-- if a group is removed, the last moves into its index, and the others keep their order
abbrev pub LastMovesIntoGap : Type 0
LastMovesIntoGap =
    (front back : List Group) (g last : Group) → AreDistinct (front ++ g ∷ back ++ last ∷ []) →
    taken_out (front ++ g ∷ back ++ last ∷ []) g.addr ≡ front ++ last ∷ back

-- if the last group is removed, none moves
abbrev pub LastGoesAlone : Type 0
LastGoesAlone = (front : List Group) (g : Group) →
    AreDistinct (front ++ g ∷ []) → taken_out (front ++ g ∷ []) g.addr ≡ front

-- after a join that wasn't refused the interface is a member
abbrev pub JoinsMember : Type 0
JoinsMember = (room : ℕ) (gs : List Group) (a : IpAddress) →
    AreDistinct gs → is_refused room gs a ≡ false → is_member (groups_after_join room gs a) a ≡ true

-- after a leave the interface is not a member
abbrev pub LeavesNoMember : Type 0
LeavesNoMember = (gs : List Group) (a : IpAddress) → AreDistinct gs → is_member (groups_after_leave gs a) a ≡ false

-- no call changes the state of another group
pub record KeepsOthers (gs : List Group) (a b : IpAddress) : Type 0 where
  pub join : (room : ℕ) → state_of (groups_after_join room gs a) b ≡ state_of gs b
  pub leave : state_of (groups_after_leave gs a) b ≡ state_of gs b
  pub report_of_join : state_of (join_reported gs a) b ≡ state_of gs b
  pub report_of_leave : state_of (leave_reported gs a) b ≡ state_of gs b

abbrev pub OthersStay : Type 0
OthersStay = (gs : List Group) (a b : IpAddress) → AreDistinct gs → a ≢ b → KeepsOthers gs a b

-- after the report of the first group with a pending join, one less is pending
abbrev pub JoinReportsEnd : Type 0
JoinReportsEnd =
    (gs : List Group) (a : IpAddress) → AreDistinct gs → first_in Joining gs ≡ Some a →
    count_in Joining gs ≡ count_in Joining (join_reported gs a) + 1

-- after the report of the first group with a pending leave, one less is pending
abbrev pub LeaveReportsEnd : Type 0
LeaveReportsEnd =
    (gs : List Group) (a : IpAddress) → AreDistinct gs → first_in Leaving gs ≡ Some a →
    count_in Leaving gs ≡ count_in Leaving (leave_reported gs a) + 1

-- if no group is in a state, there is no first one
abbrev pub NoneLeft : Type 0
NoneLeft = (s : GroupState) (gs : List Group) → count_in s gs ≡ 0 → first_in s gs ≡ None
