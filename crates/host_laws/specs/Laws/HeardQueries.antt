-- What a host must do with a query for groups: it answers within the time that the query gives, if no other query comes
-- (RFC 2236 3, RFC 3810 5.1.3, 6.2). That the report goes at its moment: DueReports.
use Rattle.std.specs.Prelude.{◌≡◌, ℕ, ◌*◌, ◌/◌, ◌^◌, ℤ, pos, ◌+ℤ◌, ◌≤ℤ◌, List, []}
use Rattle.net_base.specs.Device.{Event, sent_frames}
use Rattle.ip_address.specs.declared.hardware.HardwareAddress.{HardwareAddress}
use Rattle.ip_address.specs.declared.ip.IpAddress.TheVariants.{Ipv4, Ipv6}
use Rattle.ip_address.specs.declared.ipv4.Ipv4Address.{Ipv4Address}
use Rattle.ip_address.specs.declared.ipv6.Ipv6Address.{Ipv6Address}
use Rattle.ip_address.specs.declared.protocol.IpProtocol.TheVariants as ip_protocol
use Rattle.ip_wire.specs.declared.ipv4_packet.Ipv4Repr.{Ipv4Repr}
use Rattle.ip_wire.specs.declared.ipv6_packet.Ipv6Repr.{Ipv6Repr}
use Rattle.control_wire.specs.Igmp.{IsIgmp, igmp_in}
use Rattle.control_wire.specs.declared.igmp.IgmpRepr.TheVariants.{MembershipQuery}
use Rattle.control_wire.specs.declared.mld.MldRepr.TheVariants.{Query}
use Rattle.control_wire.specs.Icmpv6.{icmpv6_in}
use Rattle.control_wire.specs.declared.icmpv6.Icmpv6Repr.TheVariants.{Mld}
use Rattle.iface_tables.specs.declared.groups.GroupState.{GroupState}
use Rattle.iface_tables.specs.declared.report.IgmpReportState.{IgmpReportState}
use Rattle.iface_tables.specs.declared.report.IgmpReportState.TheVariants as igmp
use Rattle.iface_tables.specs.declared.report.MldReportState.{MldReportState}
use Rattle.iface_tables.specs.declared.report.MldReportState.TheVariants as mld
use Rattle.host_machine.specs.Context.Host.{Host}
use Rattle.host_machine.specs.Icmp.Icmpv6.{IsMessage}
use Rattle.host_laws.specs.Laws.Many.{IsMember}
use Rattle.host_laws.specs.Laws.Received.{CarriesPacket}
use Rattle.host_laws.specs.Laws.Restraint.Queries.{HasGroup, allowed}
use Rattle.host_laws.specs.Laws.Service.{HasPayloadV6, Takes}

-- IGMP

-- a frame carries a query of IGMP with this code, for this group (RFC 2236 2), in a whole packet from a unicast address.
-- Its checksum isn't looked at: kept, against RFC 2236 2.3
pub record BringsIgmpQuery (own : HardwareAddress) (H : Host) (frame : List ℕ) (r : Ipv4Repr) (code : ℕ)
    (group : Ipv4Address) : Type 0 where
  pub payload : List ℕ
  pub in_packet : CarriesPacket own H frame r payload
  pub protocol_is : r.next_header ≡ ip_protocol.Igmp
  pub is_message : IsIgmp payload
  pub query : igmp_in payload ≡ MembershipQuery code group

-- whom it asks: every host with a group in its table, by 0.0.0.0 and to 224.0.0.1; or the members of one group, to that
-- group (RFC 2236 2.4, 9)
pub data AsksV4 (H : Host) (destination group : Ipv4Address) : Type 0 where
  ForAll : (g : Ipv4Address) (state : GroupState) → group.bits ≡ 0 → destination.bits ≡ 0xe000_0001 →
      HasGroup H.groups (Ipv4 g) state → AsksV4 H destination group
  ForOne : group.bits / 2 ^ 28 ≡ 14 → destination.bits ≡ group.bits → IsMember H.groups (Ipv4 group) →
      AsksV4 H destination group

-- an answer is pending until a moment: for all groups, from the first on, or for one
abbrev pub IsForAll : IgmpReportState → ℤ → Type 0
IsForAll igmp.Inactive x = ⊥
IsForAll (igmp.ToGeneralQuery version timeout interval next_index) x = (timeout ≡ x) × (next_index ≡ 0)
IsForAll (igmp.ToSpecificQuery version timeout group) x = ⊥

abbrev pub IsForOne : Ipv4Address → IgmpReportState → ℤ → Type 0
IsForOne g igmp.Inactive x = ⊥
IsForOne g (igmp.ToGeneralQuery version timeout interval next_index) x = ⊥
IsForOne g (igmp.ToSpecificQuery version timeout group) x = (timeout ≡ x) × (group ≡ g)

abbrev pub Answers : {H : Host} {destination group : Ipv4Address} → AsksV4 H destination group → IgmpReportState → ℤ → Type 0
Answers (ForAll g state nobody to_all listed) report x = IsForAll report x
Answers {group = group} (ForOne is_group to_it member) report x = IsForOne group report x

-- after the call that receives such a query, its answer is pending, until a moment within the time that the query allows;
-- and nothing is sent
abbrev pub HearsIgmpQueries : ℤ → Host → List Event → Host → Type 0
HearsIgmpQueries t old told new =
    (own : HardwareAddress) (frame : List ℕ) (r : Ipv4Repr) (code : ℕ) (group : Ipv4Address) →
    Takes own t frame old told new → BringsIgmpQuery own old frame r code group → (asks : AsksV4 old r.dst_addr group) →
    (x : ℤ) × Answers asks new.igmp_report x × (t ≤ℤ x) × (x ≤ℤ (t +ℤ pos (allowed code))) × (sent_frames told ≡ [])

-- MLD

-- a frame carries a query of MLD with this code, for this group: from a link-local address (fe80::/10), with hop limit 1
-- (RFC 3810 5.1.14). That it is heard without a router alert option is kept, against RFC 3810 6.2
pub record BringsMldQuery (own : HardwareAddress) (H : Host) (frame : List ℕ) (r : Ipv6Repr) (code : ℕ)
    (group : Ipv6Address) : Type 0 where
  pub payload : List ℕ
  pub in_packet : HasPayloadV6 own H frame r ip_protocol.Icmpv6 payload
  pub is_message : IsMessage H r payload
  pub query : (icmpv6_in payload).0 ≡ Mld (Query code group)
  pub hop_limit : r.hop_limit ≡ 1
  pub source : r.src_addr.bits / 2 ^ 118 ≡ 0x3fa

-- whom it asks: every host with a group in its table, by :: and to ff02::1; or the members of one group, to that group
-- (RFC 3810 5.1.15)
pub data AsksV6 (H : Host) (destination group : Ipv6Address) : Type 0 where
  ForAllV6 : (g : Ipv6Address) (state : GroupState) → group.bits ≡ 0 →
      destination.bits ≡ 0xff02_0000_0000_0000_0000_0000_0000_0001 → HasGroup H.groups (Ipv6 g) state →
      AsksV6 H destination group
  ForOneV6 : group.bits / 2 ^ 120 ≡ 0xff → destination.bits ≡ group.bits → IsMember H.groups (Ipv6 group) →
      AsksV6 H destination group

abbrev pub IsForAllV6 : MldReportState → ℤ → Type 0
IsForAllV6 mld.Inactive x = ⊥
IsForAllV6 (mld.ToGeneralQuery timeout) x = timeout ≡ x
IsForAllV6 (mld.ToSpecificQuery group timeout) x = ⊥

abbrev pub IsForOneV6 : Ipv6Address → MldReportState → ℤ → Type 0
IsForOneV6 g mld.Inactive x = ⊥
IsForOneV6 g (mld.ToGeneralQuery timeout) x = ⊥
IsForOneV6 g (mld.ToSpecificQuery group timeout) x = (timeout ≡ x) × (group ≡ g)

abbrev pub AnswersV6 : {H : Host} {destination group : Ipv6Address} → AsksV6 H destination group → MldReportState → ℤ → Type 0
AnswersV6 (ForAllV6 g state nobody to_all listed) report x = IsForAllV6 report x
AnswersV6 {group = group} (ForOneV6 is_group to_it member) report x = IsForOneV6 group report x

-- the time that a query of MLD allows is its code, taken as milliseconds: kept, against RFC 3810 5.1.3, by which a code of
-- 32,768 and more is a mantissa and an exponent
abbrev pub HearsMldQueries : ℤ → Host → List Event → Host → Type 0
HearsMldQueries t old told new =
    (own : HardwareAddress) (frame : List ℕ) (r : Ipv6Repr) (code : ℕ) (group : Ipv6Address) →
    Takes own t frame old told new → BringsMldQuery own old frame r code group → (asks : AsksV6 old r.dst_addr group) →
    (x : ℤ) × AnswersV6 asks new.mld_report x × (t ≤ℤ x) × (x ≤ℤ (t +ℤ pos (code * 1000))) × (sent_frames told ≡ [])

abbrev pub QueriesAreHeard : Type 0
QueriesAreHeard = (t : ℤ) (old new : Host) (told : List Event) →
    HearsIgmpQueries t old told new × HearsMldQueries t old told new
