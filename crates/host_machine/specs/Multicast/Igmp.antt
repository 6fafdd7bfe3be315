-- IGMP (RFC 2236, RFC 1112 appendix I): its messages, queries of routers for groups, and the delayed reports that
-- answer them.
use Rattle.std.specs.Prelude.{List, Option, ◌≡◌, ℕ, ◌+◌, ◌*◌, ◌/◌, ◌==◌, ◌&&◌, nat_lt, ℤ, pos, ◌+ℤ◌, Bool, true, false}
use Rattle.std.specs.Prelude.{[], ◌∷◌, length, slice_get, Some, None, if◌then◌else◌}
use Rattle.std.specs.Option.{option_map, option_and_then}
use Rattle.net_base.specs.Device.{Event, Asked}
use Rattle.ip_address.specs.declared.cidr.IpCidr.{IpCidr}
use Rattle.ip_address.specs.declared.ipv4.Ipv4Address.{Ipv4Address}
use Rattle.control_wire.specs.declared.igmp.IgmpRepr.{IgmpRepr}
use Rattle.control_wire.specs.declared.igmp.IgmpRepr.TheVariants.{MembershipReport, LeaveGroup, MembershipQuery}
use Rattle.control_wire.specs.declared.igmp.IgmpVersion.{IgmpVersion}
use Rattle.ip_address.specs.declared.ip.IpAddress.TheVariants as address
use Rattle.ip_address.specs.Ipv4 as ipv4
use Rattle.ip_wire.specs.declared.ipv4_packet.Ipv4Repr.{Ipv4Repr}
use Rattle.control_wire.specs.declared.igmp.IgmpVersion.TheVariants.{Version1, Version2}
use Rattle.control_wire.specs.Igmp.{IsIgmp, igmp_in, query_version, tenths_of}
use Rattle.iface_tables.specs.Groups.{ipv4_groups}
use Rattle.iface_tables.specs.declared.report.IgmpReportState.{IgmpReportState}
use Rattle.iface_tables.specs.declared.report.IgmpReportState.TheVariants as igmp
use Rattle.host_machine.specs.Context.Addresses.{ipv4_addr, has_multicast_group}
use Rattle.host_machine.specs.Packet.Packet.{Packet, Igmp}
use Rattle.host_machine.specs.Packet.Packet as packet
use Rattle.host_machine.specs.Context.Note.{Note}
use Rattle.host_machine.specs.Context.Host.{Host, with_igmp_report}
use Rattle.host_machine.specs.Receive.Reply.{Reply, IsDropped}
use Rattle.host_machine.specs.Packet.Frame.{sends}
use Rattle.host_machine.specs.Send.Outcome.{Outcome}
use Rattle.host_machine.specs.Send.Dispatch.{Dispatches}
use Rattle.host_machine.specs.Multicast.Timeout.{later_of, has_passed}

-- an IGMP message is sent from the first IPv4 address of the host, if there is one, and no router
-- forwards it (RFC 2236 2)
abbrev pub igmp_packet : List IpCidr → Ipv4Address → IgmpRepr → Option Packet
igmp_packet own dst message =
    option_map (λ src. packet.Ipv4 (record { src_addr = src; dst_addr = dst; hop_limit = 1; payload = Igmp message }))
    (ipv4_addr own)

-- the all-routers group, 224.0.0.2
abbrev pub all_routers : Ipv4Address
all_routers = record { bits = 0xe0000002 }

-- a report is sent to the group that it names, a leave to all routers (RFC 2236 9)
abbrev pub igmp_report : List IpCidr → IgmpVersion → Ipv4Address → Option Packet
igmp_report own version group = igmp_packet own group (MembershipReport group version)

abbrev pub igmp_leave : List IpCidr → Ipv4Address → Option Packet
igmp_leave own group = igmp_packet own all_routers (LeaveGroup group)

-- the maximum response time of a code, in microseconds
abbrev pub answer_time : ℕ → ℕ
answer_time code = tenths_of code * 100000

-- the interval between two reports of a general query, by the number of groups: 0.1 s for IGMPv1, response time /
-- (groups + 1) for IGMPv2
abbrev pub igmp_interval_for : IgmpVersion → ℕ → ℕ → ℕ
igmp_interval_for Version1 time count = 100000
igmp_interval_for Version2 time count = time / (count + 1)

-- a general query: for every group, to all-hosts (RFC 2236 2.4, 9), if there is a group to report
abbrev pub is_igmp_general : Host → Ipv4Address → Ipv4Address → Bool
is_igmp_general H dst group = ipv4.is_unspecified group && (dst.bits == ipv4.all_systems.bits)
    && nat_lt 0 (length (ipv4_groups H.groups))

-- a query for one group of the host, to that group
abbrev pub is_igmp_specific : Host → Ipv4Address → Ipv4Address → Bool
is_igmp_specific H dst group = has_multicast_group H (address.Ipv4 group) && (dst.bits == group.bits)

-- the IGMP report state after a query; unchanged if the query is for no group of the host
abbrev pub igmp_report_for : Host → Ipv4Address → ℕ → Ipv4Address → IgmpReportState
igmp_report_for H dst code group =
    let interval : ℕ = igmp_interval_for (query_version code) (answer_time code) (length (ipv4_groups H.groups)) in
    if is_igmp_general H dst group then igmp.ToGeneralQuery (query_version code) (H.moment +ℤ pos interval) interval 0
    else
    if is_igmp_specific H dst group
    then igmp.ToSpecificQuery (query_version code) (H.moment +ℤ pos (answer_time code / 4)) group else
    H.igmp_report

-- the effect of a message: only a query has one
abbrev pub host_after_igmp : Host → Ipv4Address → IgmpRepr → Host
host_after_igmp H dst (MembershipQuery code group) = with_igmp_report H (igmp_report_for H dst code group)
host_after_igmp H dst (MembershipReport group version) = H
host_after_igmp H dst (LeaveGroup group) = H

pub data ProcessesIgmp (r : Ipv4Repr) (H : Host) (octets : List ℕ) (reply : Option Reply)
    (notes : List Note) (new : Host) : Type 0 where
  Malformed : (IsIgmp octets → ⊥) → IsDropped H reply notes new → ProcessesIgmp r H octets reply notes new
  Taken : IsIgmp octets → reply ≡ None → notes ≡ [] → new ≡ host_after_igmp H r.dst_addr (igmp_in octets) →
      ProcessesIgmp r H octets reply notes new

-- the group to report next, and in which version; none if there is no further group, or no report is pending
abbrev pub next_group : Host → IgmpReportState → Option (IgmpVersion × Ipv4Address)
next_group H igmp.Inactive = None
next_group H (igmp.ToGeneralQuery version timeout interval next_index) =
    option_map (λ g. (version, g)) (slice_get (ipv4_groups H.groups) next_index)
next_group H (igmp.ToSpecificQuery version timeout group) = Some (version, group)

abbrev pub igmp_timeout_of : IgmpReportState → Option ℤ
igmp_timeout_of igmp.Inactive = None
igmp_timeout_of (igmp.ToGeneralQuery version timeout interval next_index) = Some timeout
igmp_timeout_of (igmp.ToSpecificQuery version timeout group) = Some timeout

-- the packet that reports it
abbrev pub next_report : Host → Option Packet
next_report H = option_and_then (λ n. igmp_report H.ip_addrs n.0 n.1) (next_group H H.igmp_report)

-- the report state after a report: a general query goes on with the next group, one interval later but never in the
-- past; anything else ends
abbrev pub igmp_report_after : IgmpReportState → ℤ → IgmpReportState
igmp_report_after igmp.Inactive now = igmp.Inactive
igmp_report_after (igmp.ToGeneralQuery version timeout interval next_index) now =
    igmp.ToGeneralQuery version (later_of (timeout +ℤ pos interval) now) interval (next_index + 1)
igmp_report_after (igmp.ToSpecificQuery version timeout group) now = igmp.Inactive

-- whether a report is due
abbrev pub is_igmp_due : Host → Bool
is_igmp_due H = has_passed (igmp_timeout_of H.igmp_report) H.moment

-- a part of a round: a report that is due is sent, if the device grants a transmit token, and otherwise stays due; if
-- there is no further group to report the answer ends; without an address the report stays due
pub data IgmpEgress (H : Host) (told : List Event) (notes : List Note) (new : Host) : Type 0 where
  NotDue : is_igmp_due H ≡ false → told ≡ [] → notes ≡ [] →
      new ≡ H → IgmpEgress H told notes new
  NoFurtherGroup : is_igmp_due H ≡ true →
      next_group H H.igmp_report ≡ None → told ≡ [] → notes ≡ [] →
      new ≡ with_igmp_report H igmp.Inactive → IgmpEgress H told notes new
  NoAddress : (next : IgmpVersion × Ipv4Address) → is_igmp_due H ≡ true →
      next_group H H.igmp_report ≡ Some next →
      ipv4_addr H.ip_addrs ≡ None → told ≡ [] → notes ≡ [] → new ≡ H → IgmpEgress H told notes new
  NotGranted : (p : Packet) → is_igmp_due H ≡ true →
      next_report H ≡ Some p → told ≡ Asked H.moment false ∷ [] →
      notes ≡ [] → new ≡ H → IgmpEgress H told notes new
  Sent : (p : Packet) (outcome : Outcome) (frames : List (List ℕ)) (mid : Host) → is_igmp_due H ≡ true →
      next_report H ≡ Some p → Dispatches p outcome H frames notes mid → told ≡ Asked H.moment true ∷ sends frames →
      new ≡ with_igmp_report mid (igmp_report_after H.igmp_report H.moment) → IgmpEgress H told notes new

-- when the next report is due: at its time, if there is an address to send it from, and a group to report
abbrev pub igmp_poll_at : Host → Option ℤ
igmp_poll_at H = option_and_then (λ p. igmp_timeout_of H.igmp_report) (next_report H)
