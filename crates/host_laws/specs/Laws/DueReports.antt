-- A report in answer to a query goes in the first call that sends at its moment or later (RFC 2236 3, RFC 3810 6.3).
use Rattle.std.specs.Prelude.{◌≡◌, ℕ, ◌≤◌, ◌+◌, ℤ, ◌≤ℤ◌, ◌+ℤ◌, pos, true, List, [], ◌∷◌, ◌++◌, Some, slice_get}
use Rattle.net_base.specs.Checksum.{ip_mtu_of}
use Rattle.net_base.specs.Device.{Event, sent_frames}
use Rattle.ip_address.specs.declared.hardware.HardwareAddress.{HardwareAddress}
use Rattle.ip_address.specs.declared.ipv4.Ipv4Address.{Ipv4Address}
use Rattle.ip_address.specs.declared.ipv6.Ipv6Address.{Ipv6Address}
use Rattle.control_wire.specs.declared.igmp.IgmpVersion.{IgmpVersion}
use Rattle.control_wire.specs.declared.mld.MldRecordType.TheVariants.{ModeIsExclude}
use Rattle.iface_tables.specs.Groups.{ipv4_groups, ipv6_groups}
use Rattle.iface_tables.specs.declared.groups.Group.{Group}
use Rattle.iface_tables.specs.declared.groups.GroupState.TheVariants.{Joined}
use Rattle.iface_tables.specs.declared.report.IgmpReportState.TheVariants as igmp
use Rattle.iface_tables.specs.declared.report.MldReportState.TheVariants as mld
use Rattle.host_machine.specs.declared.results.PollResult.{PollResult}
use Rattle.host_machine.specs.Context.Note.{Note}
use Rattle.host_machine.specs.Context.Host.{Host}
use Rattle.host_machine.specs.Send.Dispatch.{destination_of}
use Rattle.host_machine.specs.Interface.Egress.{Egress}
use Rattle.host_machine.specs.Packet.Frame.{ip_frame}
use Rattle.host_machine.specs.Multicast.Igmp.{igmp_report}
use Rattle.host_machine.specs.Multicast.Mld.{mld_report}
use Rattle.host_machine.specs.Multicast.Timeout.{later_of}
use Rattle.host_machine.specs.Packet.Packet.{Packet, total_len}
use Rattle.host_laws.specs.Laws.Many.{IsManysAddress, IsToMany}
use Rattle.host_laws.specs.Laws.Service.{all_granted}

-- a packet went, whole, to the hardware address of its group
pub record WentToMany (old : Host) (p : Packet) (told : List Event) : Type 0 where
  pub hardware : HardwareAddress
  pub many : IsManysAddress old (destination_of p) hardware
  pub front : List (List ℕ)
  pub back : List (List ℕ)
  pub frames : sent_frames told ≡ front ++ ip_frame old hardware p ∷ back

-- a call that sends, and is granted every transmit token, sends the report of a group whose moment has come, if the host
-- has an address to send it from; then the answer is over
abbrev pub SendsDueReport : ℤ → Host → List Event → Host → Type 0
SendsDueReport t old told new =
    (version : IgmpVersion) (moment : ℤ) (group : Ipv4Address) (p : Packet) →
    all_granted told ≡ true → old.igmp_report ≡ igmp.ToSpecificQuery version moment group → moment ≤ℤ t →
    igmp_report old.ip_addrs version group ≡ Some p → IsToMany old (destination_of p) →
    total_len p ≤ ip_mtu_of old.capabilities →
    WentToMany old p told × (new.igmp_report ≡ igmp.Inactive)

-- so it is over IPv6, where a report may come from the unspecified address (RFC 3810 5.2.13)
abbrev pub SendsDueReportV6 : ℤ → Host → List Event → Host → Type 0
SendsDueReportV6 t old told new =
    (moment : ℤ) (group : Ipv6Address) →
    all_granted told ≡ true → old.mld_report ≡ mld.ToSpecificQuery group moment → moment ≤ℤ t →
    IsToMany old (destination_of (mld_report old.ip_addrs ModeIsExclude (group ∷ []))) →
    total_len (mld_report old.ip_addrs ModeIsExclude (group ∷ [])) ≤ ip_mtu_of old.capabilities →
    WentToMany old (mld_report old.ip_addrs ModeIsExclude (group ∷ [])) told × (new.mld_report ≡ mld.Inactive)

-- neither a join nor a leave is still to be reported
abbrev pub AllAreReported : Host → Type 0
AllAreReported H = (i : ℕ) (g : Group) → slice_get H.groups i ≡ Some g → g.state ≡ Joined

-- in answer to a query for all groups such a call sends the report of the group whose turn it is; the next one's follows
-- an interval later, or at once if that is in the past
abbrev pub SendsNextReport : ℤ → Host → List Event → Host → Type 0
SendsNextReport t old told new =
    (version : IgmpVersion) (moment : ℤ) (interval place : ℕ) (group : Ipv4Address) (p : Packet) →
    all_granted told ≡ true → old.igmp_report ≡ igmp.ToGeneralQuery version moment interval place → moment ≤ℤ t →
    AllAreReported old → slice_get (ipv4_groups old.groups) place ≡ Some group →
    igmp_report old.ip_addrs version group ≡ Some p → IsToMany old (destination_of p) →
    total_len p ≤ ip_mtu_of old.capabilities →
    WentToMany old p told
    × (new.igmp_report ≡ igmp.ToGeneralQuery version (later_of (moment +ℤ pos interval) t) interval (place + 1))

-- over IPv6 it sends one report of all groups (RFC 3810 6.2)
abbrev pub SendsWholeReport : ℤ → Host → List Event → Host → Type 0
SendsWholeReport t old told new =
    (moment : ℤ) → all_granted told ≡ true → old.mld_report ≡ mld.ToGeneralQuery moment → moment ≤ℤ t →
    AllAreReported old → IsToMany old (destination_of (mld_report old.ip_addrs ModeIsExclude (ipv6_groups old.groups))) →
    total_len (mld_report old.ip_addrs ModeIsExclude (ipv6_groups old.groups)) ≤ ip_mtu_of old.capabilities →
    WentToMany old (mld_report old.ip_addrs ModeIsExclude (ipv6_groups old.groups)) told
    × (new.mld_report ≡ mld.Inactive)

-- what a call that sends does for the answers to queries
pub record AnswersQueries (t : ℤ) (old : Host) (told : List Event) (new : Host) : Type 0 where
  pub one : SendsDueReport t old told new
  pub one_v6 : SendsDueReportV6 t old told new
  pub next : SendsNextReport t old told new
  pub whole_v6 : SendsWholeReport t old told new

abbrev pub DueReportsGo : Type 0
DueReportsGo =
    (t : ℤ) (answer : PollResult) (old new : Host) (told : List Event) (notes : List Note) →
    Egress t answer old told notes new → AnswersQueries t old told new
