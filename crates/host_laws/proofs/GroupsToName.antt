-- What a call that sends, and maintenance, leave of the groups that an IGMP answer has still to name.
use Rattle.std.proofs.Common.{◌≡◌, ℕ, ◌+◌, ◌-◌, ◌≤◌, ◌<◌, Bool, true, false, List, [], ◌∷◌, length, refl, sym, ◌∙◌}
use Rattle.std.proofs.Common.{ap, Option, Some, None, arith}
use Rattle.std.proofs.lemmas.List.Sums.{sum_by-append, sum_by-cons, sum_by-set, sum_by-swap_remove}
use Rattle.std.proofs.lemmas.Option.{slice_get_within}
use Rattle.std.specs.Prelude.{ℤ, ◌≤ℤ◌, map, filter, slice_get, slice_index_or, if◌then◌else◌}
use Rattle.std.specs.List.{sum_by, cons_option}
use Rattle.std.specs.Option.{option_and_then, option_map}
use Rattle.net_base.specs.Device.{Event}
use Rattle.ip_address.specs.declared.cidr.IpCidr.{IpCidr}
use Rattle.ip_address.specs.declared.cidr.IpCidr.TheVariants as cidr
use Rattle.ip_address.specs.declared.hardware.HardwareAddress.{HardwareAddress}
use Rattle.ip_address.specs.declared.hardware.HardwareAddress.TheVariants as hardware
use Rattle.ip_address.specs.declared.ip.IpAddress.{IpAddress}
use Rattle.ip_address.specs.declared.ip.IpAddress.TheVariants.{Ipv4, Ipv6}
use Rattle.ip_address.specs.declared.ipv4.Ipv4Address.{Ipv4Address}
use Rattle.ip_address.specs.Ipv6.{solicited_node}
use Rattle.control_wire.specs.declared.igmp.IgmpVersion.{IgmpVersion}
use Rattle.iface_tables.specs.declared.groups.Group.{Group}
use Rattle.iface_tables.specs.declared.groups.GroupState.{GroupState}
use Rattle.iface_tables.specs.declared.groups.GroupState.TheVariants.{Joining, Joined, Leaving}
use Rattle.iface_tables.specs.declared.report.IgmpReportState.{IgmpReportState}
use Rattle.iface_tables.specs.declared.report.IgmpReportState.TheVariants as igmp
use Rattle.iface_tables.specs.Groups.{groups_after_join, groups_after_leave, index_of, ipv4_groups, is_full}
use Rattle.iface_tables.specs.Groups.{join_reported, joined_from}
use Rattle.iface_tables.specs.Groups.{join_reported_from, leave_reported, leave_reported_from, left_from, new_group}
use Rattle.iface_tables.specs.Groups.{of_ipv4, state_of, taken_out, with_new, with_state}
use Rattle.iface_tables.proofs.GroupsLemmas.{addr_at_index, place_within}
use Rattle.host_machine.specs.Context.Note.{Note}
use Rattle.host_machine.specs.Context.Host.{Host}
use Rattle.host_machine.specs.Context.Addresses.{ipv4_addr}
use Rattle.host_machine.specs.Packet.Packet.{Packet}
use Rattle.host_machine.specs.Multicast.Joins.{ReportsEach, ReportsAll}
use Rattle.host_machine.specs.Context.Membership.{groups_after_joins, groups_after_leaves, groups_for, is_unneeded_group}
use Rattle.host_machine.specs.Multicast.Igmp.{igmp_report, IgmpEgress, igmp_poll_at, igmp_report_after, igmp_timeout_of, next_group, next_report}
use Rattle.host_machine.specs.Multicast.Joins as multicast
use Rattle.host_machine.specs.Multicast.Timeout.{has_passed}
use Rattle.host_machine.specs.Multicast.Igmp as reports
use Rattle.host_laws.specs.Laws.Service.{all_granted}
use Rattle.host_laws.proofs.Receive.FrameReplies.{clash}
use Rattle.host_laws.proofs.Interface.DueWork.{has_come_by}
use Rattle.host_laws.proofs.Interface.GrantedEgress.{dispatched_gone}
use Rattle.host_laws.specs.Progress.{to_name}

-- The number of IPv4 groups

abbrev pub number_v4 : List Group → ℕ
number_v4 groups = length (ipv4_groups groups)

abbrev of_v4 : IpAddress → ℕ
of_v4 (Ipv4 a) = 1
of_v4 (Ipv6 a) = 0

abbrev as_sum : List Group → ℕ
as_sum groups = sum_by (λ (g : Group). of_v4 g.addr) groups

number_is : (groups : List Group) → number_v4 groups ≡ as_sum groups
number_is [] = refl
number_is (g ∷ groups) = by g.addr ∙ ap (λ n. of_v4 g.addr + n) (number_is groups) ∙ sym (sum_by-cons (λ (x : Group). of_v4 x.addr) g groups) where
  by : (a : IpAddress) → length (cons_option (of_ipv4 a) (ipv4_groups groups)) ≡ of_v4 a + number_v4 groups
  by (Ipv4 a) = omega arith
  by (Ipv6 a) = omega arith

state_set : (groups : List Group) (a : IpAddress) (s : GroupState) → index_of groups a < length groups →
    number_v4 (with_state groups a s) ≡ number_v4 groups
state_set groups a s within =
    let at : (slice_index_or groups (index_of groups a) (new_group a)).addr ≡ a = addr_at_index groups a (new_group a) within in
    let sums = sum_by-set (λ (g : Group). of_v4 g.addr) groups (index_of groups a) (record { addr = a; state = s }) (new_group a) within in
    omega (arith, number_is (with_state groups a s), number_is groups, sums, ap of_v4 at)

out_less : (groups : List Group) (a : IpAddress) → index_of groups a < length groups → number_v4 (taken_out groups a) ≤ number_v4 groups
out_less groups a within =
    omega (
      arith,
      number_is (taken_out groups a),
      number_is groups,
      sum_by-swap_remove (λ (g : Group). of_v4 g.addr) groups (index_of groups a) (new_group a) within,
    )

module _ (groups : List Group) (a : IpAddress) where
  is_here : (s : GroupState) → state_of groups a ≡ Some s → index_of groups a < length groups
  is_here s e = place_within groups a (rw e refl)

  pub join_reported_least : number_v4 (join_reported groups a) ≤ number_v4 groups
  join_reported_least = by (state_of groups a) refl where
    by : (o : Option GroupState) → state_of groups a ≡ o → number_v4 (join_reported_from o groups a) ≤ number_v4 groups
    by None e = omega arith
    by (Some Joining) e = omega (arith, state_set groups a Joined (is_here Joining e))
    by (Some Joined) e = omega arith
    by (Some Leaving) e = omega arith

  pub leave_reported_least : number_v4 (leave_reported groups a) ≤ number_v4 groups
  leave_reported_least = by (state_of groups a) refl where
    by : (o : Option GroupState) → state_of groups a ≡ o → number_v4 (leave_reported_from o groups a) ≤ number_v4 groups
    by None e = omega arith
    by (Some Joining) e = omega arith
    by (Some Joined) e = omega arith
    by (Some Leaving) e = out_less groups a (is_here Leaving e)

  leave_least : number_v4 (groups_after_leave groups a) ≤ number_v4 groups
  leave_least = by (state_of groups a) refl where
    by : (o : Option GroupState) → state_of groups a ≡ o → number_v4 (left_from o groups a) ≤ number_v4 groups
    by None e = omega arith
    by (Some Joining) e = out_less groups a (is_here Joining e)
    by (Some Joined) e = omega (arith, state_set groups a Leaving (is_here Joined e))
    by (Some Leaving) e = omega arith

  -- the join of an IPv6 group
  join_least : (room : ℕ) → of_v4 a ≡ 0 → number_v4 (groups_after_join room groups a) ≤ number_v4 groups
  join_least room six = by (state_of groups a) refl where
    unless_full : (b : Bool) → number_v4 (if b then groups else with_new groups a) ≤ number_v4 groups
    unless_full true = omega arith
    unless_full false = omega (
      arith,
      number_is (with_new groups a),
      number_is groups,
      sum_by-append (λ (g : Group). of_v4 g.addr) groups (new_group a ∷ []),
      sum_by-cons (λ (g : Group). of_v4 g.addr) (new_group a) [],
      six,
    )

    by : (o : Option GroupState) → state_of groups a ≡ o → number_v4 (joined_from o room groups a) ≤ number_v4 groups
    by None e = unless_full (is_full room groups)
    by (Some Joining) e = omega arith
    by (Some Joined) e = omega arith
    by (Some Leaving) e = omega (arith, state_set groups a Joined (is_here Leaving e))

leaves_least : (groups : List Group) (addresses : List IpAddress) → number_v4 (groups_after_leaves groups addresses) ≤ number_v4 groups
leaves_least groups [] = omega arith
leaves_least groups (a ∷ addresses) = omega (arith, leaves_least (groups_after_leave groups a) addresses, leave_least groups a)

joins_least : (room : ℕ) (groups : List Group) (own : List IpCidr) → number_v4 (groups_after_joins room groups own) ≤ number_v4 groups
joins_least room groups [] = omega arith
joins_least room groups (cidr.Ipv4 n ∷ own) = joins_least room groups own
joins_least room groups (cidr.Ipv6 n ∷ own) =
    omega (
      arith,
      joins_least room (groups_after_join room groups (Ipv6 (solicited_node n.address))) own,
      join_least groups (Ipv6 (solicited_node n.address)) room refl,
    )

-- a change of addresses changes no IPv4 group
pub groups_for_least : (h : HardwareAddress) (own : List IpCidr) (room : ℕ) (groups : List Group) →
    number_v4 (groups_for h own room groups) ≤ number_v4 groups
groups_for_least hardware.Ip own room groups = omega arith
groups_for_least (hardware.Ethernet e) own room groups =
    let idle : List IpAddress = filter (is_unneeded_group own) (map (λ (g : Group). g.addr) groups) in
    omega (arith, joins_least room (groups_after_leaves groups idle) own, leaves_least groups idle)

module _ (state : GroupState) (packet_for : List IpCidr → IpAddress → Option Packet) (after_report : List Group → IpAddress → List Group)
    (least : (groups : List Group) (a : IpAddress) → number_v4 (after_report groups a) ≤ number_v4 groups) where
  tells_least : {old new : Host} {granted : Bool} {told : List Event} {notes : List Note} →
      ReportsEach state packet_for after_report old granted told notes new → number_v4 new.groups ≤ number_v4 old.groups
  tells_least multicast.Begins = omega arith
  tells_least (multicast.Silently {mid = mid} a w i none) = omega (arith, tells_least w, least mid.groups a)
  tells_least (multicast.Refused a p w i some) = tells_least w
  tells_least (multicast.Reported {mid = mid} a p o f more new w i some d) =
      omega (arith, tells_least w, least new.groups a, ap (λ (K : Host). number_v4 K.groups) (dispatched_gone d))

  pub groups_least : {old new : Host} {told : List Event} {notes : List Note} →
      ReportsAll state packet_for after_report old told notes new → number_v4 new.groups ≤ number_v4 old.groups
  groups_least (multicast.All w none) = tells_least w
  groups_least (multicast.UpToRefusal w) = tells_least w

-- The groups to name

abbrev pub named : Host → ℕ
named H = to_name H.groups H.igmp_report

pub named_least : (groups others : List Group) (r : IgmpReportState) → number_v4 groups ≤ number_v4 others → to_name groups r ≤ to_name others r
named_least groups others igmp.Inactive le = omega arith
named_least groups others (igmp.ToGeneralQuery version timeout interval next_index) le = omega (arith, le)
named_least groups others (igmp.ToSpecificQuery version timeout group) le = omega arith

-- a report that was sent names one
after_less : (H : Host) (p : Packet) → next_report H ≡ Some p →
    to_name H.groups (igmp_report_after H.igmp_report H.moment) < to_name H.groups H.igmp_report
after_less H p some = by H.igmp_report some where
  by : (r : IgmpReportState) → option_and_then (λ (n : IgmpVersion × Ipv4Address). igmp_report H.ip_addrs n.0 n.1) (next_group H r) ≡ Some p →
      to_name H.groups (igmp_report_after r H.moment) < to_name H.groups r
  by igmp.Inactive e = absurd cc
  by (igmp.ToGeneralQuery version timeout interval next_index) e = within (slice_get (ipv4_groups H.groups) next_index) refl e where
    within : (o : Option Ipv4Address) → slice_get (ipv4_groups H.groups) next_index ≡ o →
        option_and_then (λ (n : IgmpVersion × Ipv4Address). igmp_report H.ip_addrs n.0 n.1)
        (option_map (λ (g : Ipv4Address). (version, g)) o) ≡ Some p →
        number_v4 H.groups - (next_index + 1) < number_v4 H.groups - next_index
    within None there e = absurd cc
    within (Some g) there e = omega (arith, slice_get_within (ipv4_groups H.groups) next_index g there)
  by (igmp.ToSpecificQuery version timeout group) e = omega arith

sent_named : (p : Packet) (H mid new : Host) → new.igmp_report ≡ igmp_report_after H.igmp_report H.moment →
    new.groups ≡ mid.groups → mid.groups ≡ H.groups →
    next_report H ≡ Some p → named new < named H
sent_named p H mid new r g same some =
    omega (arith, ap (to_name new.groups) r, ap (λ gs. to_name gs (igmp_report_after H.igmp_report H.moment)) (g ∙ same), after_less H p some)

-- the part that reports to IGMP routers names no more; and if a report is due after it, one less
pub igmp_named : {H new : Host} {told : List Event} {notes : List Note} → IgmpEgress H told notes new → named new ≤ named H
igmp_named (reports.NotDue d e m y) = omega (arith, ap named y)
igmp_named (reports.NoFurtherGroup d g e m y) = omega (arith, ap named y)
igmp_named (reports.NoAddress next d g a e m y) = omega (arith, ap named y)
igmp_named (reports.NotGranted p d r e m y) = omega (arith, ap named y)
igmp_named {H} {new} (reports.Sent p o f mid d r s e y) =
    omega (
      arith,
      sent_named p H mid new (ap (λ (K : Host). K.igmp_report) y) (ap (λ (K : Host). K.groups) y)
          (ap (λ (K : Host). K.groups) (dispatched_gone s)) r,
    )

pub igmp_less : {H new : Host} {told : List Event} {notes : List Note} (x : ℤ) →
    IgmpEgress H told notes new → all_granted told ≡ true → igmp_timeout_of new.igmp_report ≡ Some x → x ≤ℤ H.moment →
    (ipv4_addr H.ip_addrs ≡ None → ⊥) → named new < named H
igmp_less {H} x (reports.NotDue d e m y) all timeout le some =
    let here : igmp_timeout_of H.igmp_report ≡ Some x = sym (ap (λ (K : Host). igmp_timeout_of K.igmp_report) y) ∙ timeout in
    absurd (clash (ap (λ o. has_passed o H.moment) here ∙ has_come_by x H.moment le) d)
igmp_less x (reports.NoFurtherGroup d g e m y) all timeout le some =
    absurd (let bad : None ≡ Some x = sym (ap (λ (K : Host). igmp_timeout_of K.igmp_report) y) ∙ timeout in cc)
igmp_less x (reports.NoAddress next d g a e m y) all timeout le some = absurd (some a)
igmp_less x (reports.NotGranted p d r e m y) all timeout le some = absurd (clash all (ap all_granted e))
igmp_less {H} {new} x (reports.Sent p o f mid d r s e y) all timeout le some =
    sent_named p H mid new (ap (λ (K : Host). K.igmp_report) y) (ap (λ (K : Host). K.groups) y)
    (ap (λ (K : Host). K.groups) (dispatched_gone s)) r

-- a report that has an instant has a time, and an address to send it from
pub report_time : (H : Host) (x : ℤ) → igmp_poll_at H ≡ Some x → igmp_timeout_of H.igmp_report ≡ Some x
report_time H x = by (next_report H) where
  by : (o : Option Packet) → option_and_then (λ p. igmp_timeout_of H.igmp_report) o ≡ Some x → igmp_timeout_of H.igmp_report ≡ Some x
  by None e = absurd cc
  by (Some p) e = e

pub report_address : (H : Host) (x : ℤ) → igmp_poll_at H ≡ Some x → ipv4_addr H.ip_addrs ≡ None → ⊥
report_address H x e none = by (next_group H H.igmp_report) e where
  by : (o : Option (IgmpVersion × Ipv4Address)) →
      option_and_then (λ (p : Packet). igmp_timeout_of H.igmp_report) (option_and_then (λ n. igmp_report H.ip_addrs n.0 n.1) o) ≡ Some x → ⊥
  by None f = absurd cc
  by (Some n) f = let bad : None ≡ Some x = rw none at f in absurd cc
