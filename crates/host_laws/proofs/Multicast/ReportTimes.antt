-- Answers to queries wait for their moment, and each join is told of once.
use Rattle.std.proofs.Common.{◌≡◌, ◌+◌, ◌≤◌, Bool, true, false, List, [], ◌∷◌, ◌++◌, length, length-append, refl, sym}
use Rattle.std.proofs.Common.{◌∙◌, ap, subst}
use Rattle.std.proofs.Common.{Option, Some, arith}
use Rattle.std.specs.Prelude.{ℤ, ◌<ℤ◌}
use Rattle.std.specs.Cmp.{int_cmp_is}
use Rattle.std.specs.declared.cmp.Ordering.TheVariants.{Less}
use Rattle.net_base.specs.Device.{Event, Asked, sent_frames}
use Rattle.ip_address.specs.declared.cidr.IpCidr.{IpCidr}
use Rattle.ip_address.specs.declared.ip.IpAddress.{IpAddress}
use Rattle.iface_tables.specs.Groups.{AreDistinct, count_in, first_in}
use Rattle.iface_tables.specs.declared.groups.Group.{Group}
use Rattle.iface_tables.specs.declared.groups.GroupState.{GroupState}
use Rattle.iface_tables.specs.declared.groups.GroupState.TheVariants.{Joining, Leaving}
use Rattle.iface_tables.specs.declared.report.IgmpReportState.{IgmpReportState}
use Rattle.iface_tables.specs.declared.report.IgmpReportState.TheVariants as igmp
use Rattle.iface_tables.specs.declared.report.MldReportState.{MldReportState}
use Rattle.iface_tables.specs.declared.report.MldReportState.TheVariants as mld
use Rattle.iface_tables.proofs.GroupsCounts.{join_reports_end, leave_reports_end}
use Rattle.iface_tables.proofs.GroupsLaws.{stay_distinct}
use Rattle.host_machine.specs.Context.Note.{Note}
use Rattle.host_machine.specs.Context.Host.{Host}
use Rattle.host_machine.specs.Packet.Frame.{sends}
use Rattle.host_machine.specs.Packet.Packet.{Packet}
use Rattle.host_machine.specs.Multicast.Joins.{ReportsEach, ReportsAll, JoinsEgress, LeavesEgress}
use Rattle.host_machine.specs.Multicast.Joins as multicast
use Rattle.host_machine.specs.Multicast.Igmp.{IgmpEgress, igmp_timeout_of}
use Rattle.host_machine.specs.Multicast.Mld.{MldEgress, mld_timeout_of}
use Rattle.host_machine.specs.Multicast.Timeout.{has_passed}
use Rattle.host_machine.specs.Multicast.Igmp as igmp_rules
use Rattle.host_machine.specs.Multicast.Mld as mld_rules
use Rattle.host_laws.specs.Laws.Restraint.Queries.{IsMldPendingUntil, IsPendingUntil, JoinsAreToldOnce, ReportsWait}
use Rattle.host_laws.proofs.Interface.OneFrameCalls.{dispatched}
use Rattle.host_laws.proofs.Receive.Malformed.{sent_frames-sends}
use Rattle.host_laws.proofs.Runs.Walk.{sent_frames-append}
use Rattle.host_laws.proofs.Interface.SettledFields.{dispatch_leaves}

-- what isn't due
ahead : (now x : ℤ) → now <ℤ x → has_passed (Some x) now ≡ false
ahead now x later = rw (← int_cmp_is now x Less later) refl

igmp_ahead : (report : IgmpReportState) (now x : ℤ) → now <ℤ x → IsPendingUntil report x → has_passed (igmp_timeout_of report) now ≡ false
igmp_ahead igmp.Inactive now x later pending = absurd pending
igmp_ahead (igmp.ToGeneralQuery version timeout interval next_index) now x later pending = rw pending (ahead now x later)
igmp_ahead (igmp.ToSpecificQuery version timeout group) now x later pending = rw pending (ahead now x later)

mld_ahead : (report : MldReportState) (now x : ℤ) → now <ℤ x → IsMldPendingUntil report x → has_passed (mld_timeout_of report) now ≡ false
mld_ahead mld.Inactive now x later pending = absurd pending
mld_ahead (mld.ToGeneralQuery timeout) now x later pending = rw pending (ahead now x later)
mld_ahead (mld.ToSpecificQuery group timeout) now x later pending = rw pending (ahead now x later)

igmp_waits : {H new : Host} {told : List Event} {notes : List Note} → has_passed (igmp_timeout_of H.igmp_report) H.moment ≡ false →
    IgmpEgress H told notes new → (told ≡ []) × (new ≡ H)
igmp_waits off (igmp_rules.NotDue h t n e) = (t, e)
igmp_waits off (igmp_rules.NoFurtherGroup h g t n e) = absurd cc
igmp_waits off (igmp_rules.NoAddress next h g a t n e) = absurd cc
igmp_waits off (igmp_rules.NotGranted p h r t n e) = absurd cc
igmp_waits off (igmp_rules.Sent p outcome frames mid h r d t e) = absurd cc

mld_waits : {H new : Host} {told : List Event} {notes : List Note} → has_passed (mld_timeout_of H.mld_report) H.moment ≡ false →
    MldEgress H told notes new → (told ≡ []) × (new ≡ H)
mld_waits off (mld_rules.NotYet h t n e) = (t, e)
mld_waits off (mld_rules.GivenUp h t n e) = absurd cc
mld_waits off (mld_rules.ReportGoes outcome frames mid h d t e) = absurd cc

pub reports_wait : ReportsWait
reports_wait H new told notes x later = (
  (λ i pending. igmp_waits (igmp_ahead H.igmp_report H.moment x later pending) i),
  (λ m pending. mld_waits (mld_ahead H.mld_report H.moment x later pending) m),
)

-- each report takes a group off those that are pending
pub record ToldOnce (state : GroupState) (old : Host) (told : List Event) (new : Host) : Type 0 where
  pub distinct : AreDistinct new.groups
  pub few : length (sent_frames told) + count_in state new.groups ≤ count_in state old.groups

more_told : (xs ys : List Event) → length (sent_frames (xs ++ ys)) ≡ length (sent_frames xs) + length (sent_frames ys)
more_told xs ys = ap length (sent_frames-append xs ys) ∙ length-append (sent_frames xs) (sent_frames ys)

module _ {state : GroupState} {packet_for : List IpCidr → IpAddress → Option Packet} {after_report : List Group → IpAddress → List Group}
    (one_less : (gs : List Group) (a : IpAddress) → AreDistinct gs → first_in state gs ≡ Some a →
    count_in state gs ≡ count_in state (after_report gs a) + 1)
    (stay : (gs : List Group) (a : IpAddress) → AreDistinct gs → AreDistinct (after_report gs a)) where
  each_once : {old mid : Host} {granted : Bool} {told : List Event} {notes : List Note} → AreDistinct old.groups →
      ReportsEach state packet_for after_report old granted told notes mid → ToldOnce state old told mid
  each_once distinct multicast.Begins = record { distinct = distinct; few = omega arith }
  each_once distinct (multicast.Silently {mid = mid} a w f p) =
      let before = each_once distinct w in
      let less = one_less mid.groups a before.distinct f in
      let few = before.few in
      record { distinct = stay mid.groups a before.distinct; few = omega (arith, few, less) }
  each_once distinct (multicast.Refused {told = told} {mid = mid} a p w f q) =
      let before = each_once distinct w in
      let few = before.few in
      let more = more_told told (Asked mid.moment false ∷ []) in
      record { distinct = before.distinct; few = omega (arith, few, more) }
  each_once {old} distinct (multicast.Reported {told = told} {mid = mid} a p outcome frames more new w f q d) =
      let before = each_once distinct w in
      let same : new.groups ≡ mid.groups = dispatch_leaves (λ (K : Host). K.groups) (λ H. refl) (λ H. refl) (λ H rest. refl) d in
      let less = one_less mid.groups a before.distinct f in
      let one = dispatched d in
      let few = before.few in
      let sum = more_told told (Asked mid.moment true ∷ sends frames) in
      let sent : length (sent_frames (Asked mid.moment true ∷ sends frames)) ≡ length frames = ap length (sent_frames-sends frames) in
      let counted : length (sent_frames (told ++ Asked mid.moment true ∷ sends frames)) + count_in state (after_report mid.groups a)
      ≤ count_in state old.groups = omega (arith, few, less, one, sum, sent) in
      record {
        distinct = subst (λ gs. AreDistinct (after_report gs a)) (sym same) (stay mid.groups a before.distinct);
        few = subst (λ gs. length (sent_frames (told ++ Asked mid.moment true ∷ sends frames)) + count_in state (after_report gs a)
            ≤ count_in state old.groups) (sym same) counted;
      }

  all_once : {old new : Host} {told : List Event} {notes : List Note} → AreDistinct old.groups →
      ReportsAll state packet_for after_report old told notes new → ToldOnce state old told new
  all_once distinct (multicast.All w n) = each_once distinct w
  all_once distinct (multicast.UpToRefusal w) = each_once distinct w

pub joins_told_once : {old new : Host} {told : List Event} {notes : List Note} → AreDistinct old.groups → JoinsEgress old told notes new →
    ToldOnce Joining old told new
joins_told_once distinct j = all_once join_reports_end (λ gs a d. (stay_distinct gs a d).after_join_reported) distinct j

pub leaves_told_once : {old new : Host} {told : List Event} {notes : List Note} → AreDistinct old.groups → LeavesEgress old told notes new →
    ToldOnce Leaving old told new
leaves_told_once distinct l = all_once leave_reports_end (λ gs a d. (stay_distinct gs a d).after_leave_reported) distinct l

pub joins_once : JoinsAreToldOnce
joins_once H new told notes distinct j = (joins_told_once distinct j).few
