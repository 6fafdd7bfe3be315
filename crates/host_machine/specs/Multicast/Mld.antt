-- MLD (RFC 3810): its reports, queries of routers for groups, and the delayed reports that answer them.
use Rattle.std.specs.Prelude.{ℕ, List, [], ◌∷◌, ◌++◌, length, Option, Some, None, ◌≡◌, ◌*◌, ◌/◌, ◌%◌, ◌^◌, ◌==◌, ◌&&◌}
use Rattle.std.specs.Prelude.{◌||◌, nat_lt, ℤ, pos, ◌+ℤ◌, Bool, true, false, if◌then◌else◌}
use Rattle.net_base.specs.Device.{Event, Asked}
use Rattle.net_base.specs.Rand.{next}
use Rattle.ip_address.specs.declared.cidr.IpCidr.{IpCidr}
use Rattle.ip_address.specs.declared.ipv6.Ipv6Address.{Ipv6Address}
use Rattle.control_wire.specs.declared.mld.MldRecordType.{MldRecordType}
use Rattle.control_wire.specs.Mld.{record_text}
use Rattle.ip_address.specs.declared.ip.IpAddress.TheVariants as address
use Rattle.ip_address.specs.Ipv6 as ipv6
use Rattle.ip_wire.specs.declared.ipv6_packet.Ipv6Repr.{Ipv6Repr}
use Rattle.control_wire.specs.declared.mld.MldRecordType.TheVariants.{ModeIsExclude}
use Rattle.control_wire.specs.declared.mld.MldRepr.{MldRepr}
use Rattle.control_wire.specs.declared.mld.MldRepr.TheVariants.{Query, Report}
use Rattle.iface_tables.specs.Groups.{ipv6_groups}
use Rattle.iface_tables.specs.declared.report.MldReportState.{MldReportState}
use Rattle.iface_tables.specs.declared.report.MldReportState.TheVariants as mld
use Rattle.host_machine.specs.Context.Addresses.{link_local_addr, has_multicast_group}
use Rattle.host_machine.specs.Packet.Packet.{Packet, Mld}
use Rattle.host_machine.specs.Packet.Packet as packet
use Rattle.host_machine.specs.Context.Note.{Note}
use Rattle.host_machine.specs.Context.Host.{Host, has_ip_addr, with_mld_report}
use Rattle.host_machine.specs.Receive.Reply.{Reply, IsDropped}
use Rattle.host_machine.specs.Packet.Frame.{sends}
use Rattle.host_machine.specs.Send.Outcome.{Outcome}
use Rattle.host_machine.specs.Send.Dispatch.{Dispatches}
use Rattle.host_machine.specs.Multicast.Timeout.{has_passed}

-- the group of all MLDv2 routers, ff02::16 (RFC 3810 5.2.14)
abbrev pub mld_routers : Ipv6Address
mld_routers = record { bits = 0xff02_0000_0000_0000_0000_0000_0000_0016 }

-- an address, or :: if there is none
abbrev pub or_unspecified : Option Ipv6Address → Ipv6Address
or_unspecified (Some a) = a
or_unspecified None = record { bits = 0 }

-- the source of MLD reports: the first link-local address, otherwise the unspecified address (RFC 3810 5.2.13)
abbrev pub mld_source : List IpCidr → Ipv6Address
mld_source own = or_unspecified (link_local_addr own)

-- address records of a type, one for each group
abbrev pub records_of : MldRecordType → List Ipv6Address → List ℕ
records_of type [] = []
records_of type (g ∷ groups) = record_text (record { record_type = type; mcast_addr = g }) ++ records_of type groups

-- an MLD report with such records (RFC 3810 5.2)
abbrev pub mld_report : List IpCidr → MldRecordType → List Ipv6Address → Packet
mld_report own type groups = packet.Ipv6 (record {
  src_addr = mld_source own;
  dst_addr = mld_routers;
  hop_limit = 1;
  payload = Mld (length groups) (records_of type groups);
})

-- a random delay of an answer in microseconds, by a code that is taken as milliseconds (RFC 3810 5.1.3,
-- 6.2); none for code 0
abbrev pub delay : ℕ → ℕ → ℕ
delay code random = if code == 0 then 0 else next random / 2 ^ 48 % code * 1000

-- the source of random words, after a draw unless the code is 0
abbrev pub random_after_draw : ℕ → ℕ → ℕ
random_after_draw code random = if code == 0 then random else next random

-- a general query: for every group, to all-nodes or to an own address, if there is a group to report
abbrev pub is_mld_general : Host → Ipv6Address → Ipv6Address → Bool
is_mld_general H dst group =
    ipv6.is_unspecified group && ((dst.bits == ipv6.all_nodes.bits) || has_ip_addr H (address.Ipv6 dst))
    && nat_lt 0 (length (ipv6_groups H.groups))

-- a query for one group of the host, to that group
abbrev pub is_mld_specific : Host → Ipv6Address → Ipv6Address → Bool
is_mld_specific H dst group = has_multicast_group H (address.Ipv6 group) && (dst.bits == group.bits)

-- the MLD report state after a query, with a report at that time; unchanged if the query is for no group of the host
abbrev pub mld_report_for : Host → Ipv6Address → ℤ → Ipv6Address → MldReportState
mld_report_for H dst timeout group =
    if is_mld_general H dst group then mld.ToGeneralQuery timeout else
    if is_mld_specific H dst group then mld.ToSpecificQuery group timeout else
    H.mld_report

-- a query is accepted if no router forwarded it and its source is link-local (RFC 3810 5.1.14)
abbrev pub is_near : Ipv6Repr → Bool
is_near r = (r.hop_limit == 1) && ipv6.is_link_local r.src_addr

abbrev pub host_after_mld_query : Host → Ipv6Repr → ℕ → Ipv6Address → Host
host_after_mld_query H r code group =
    if is_near r
    then record H {
      mld_report = mld_report_for H r.dst_addr (H.moment +ℤ pos (delay code H.random)) group;
      random = random_after_draw code H.random;
    }
    else H

abbrev pub mld_timeout_of : MldReportState → Option ℤ
mld_timeout_of mld.Inactive = None
mld_timeout_of (mld.ToGeneralQuery timeout) = Some timeout
mld_timeout_of (mld.ToSpecificQuery group timeout) = Some timeout

-- the groups to report; for a general query those in the table at that time
abbrev pub reported_groups : Host → MldReportState → List Ipv6Address
reported_groups H mld.Inactive = []
reported_groups H (mld.ToGeneralQuery timeout) = ipv6_groups H.groups
reported_groups H (mld.ToSpecificQuery group timeout) = group ∷ []

abbrev pub next_mld_report : Host → Packet
next_mld_report H = mld_report H.ip_addrs ModeIsExclude (reported_groups H H.mld_report)

-- whether a report is due
abbrev pub is_mld_due : Host → Bool
is_mld_due H = has_passed (mld_timeout_of H.mld_report) H.moment

-- a part of a round: a report that is due is sent, if the device grants a transmit token, and otherwise dropped
pub data MldEgress (H : Host) (told : List Event) (notes : List Note) (new : Host) : Type 0 where
  NotYet : is_mld_due H ≡ false → told ≡ [] → notes ≡ [] →
      new ≡ H → MldEgress H told notes new
  GivenUp : is_mld_due H ≡ true → told ≡ Asked H.moment false ∷ [] → notes ≡ [] →
      new ≡ with_mld_report H mld.Inactive → MldEgress H told notes new
  ReportGoes : (outcome : Outcome) (frames : List (List ℕ)) (mid : Host) → is_mld_due H ≡ true →
      Dispatches (next_mld_report H) outcome H frames notes mid → told ≡ Asked H.moment true ∷ sends frames →
      new ≡ with_mld_report mid mld.Inactive → MldEgress H told notes new

-- the effect of a message: only a query has one
abbrev pub ProcessesMld : Ipv6Repr → MldRepr → Host → Option Reply → List Note → Host → Type 0
ProcessesMld r (Query code group) H reply notes new = (reply ≡ None) × (notes ≡ [])
    × (new ≡ host_after_mld_query H r code group)
ProcessesMld r (Report count) H reply notes new = IsDropped H reply notes new
