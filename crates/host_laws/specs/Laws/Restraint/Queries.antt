-- Reports of groups: a pending answer was asked for by a query, and is due within the query's maximum response time,
-- not before (RFC 2236 3, RFC 3810 5.1.3, 6.2). A join is told of once: kept, against RFC 2236 3 and RFC 3810 6.1, by
-- which it is told of again after a while.
use Rattle.std.specs.Prelude.{◌≡◌, ◌⊎◌, ℕ, ◌+◌, ◌*◌, ◌/◌, ◌^◌, ◌≤◌, ℤ, pos, ◌+ℤ◌, ◌≤ℤ◌, ◌<ℤ◌, ◌==◌}
use Rattle.std.specs.Prelude.{List, [], length, slice_get, slice_index, Some, if◌then◌else◌}
use Rattle.net_base.specs.Checksum.{is_rx}
use Rattle.net_base.specs.Device.{Event, sent_frames}
use Rattle.ip_address.specs.declared.ip.IpAddress.{IpAddress}
use Rattle.ip_address.specs.declared.ipv4.Ipv4Address.{Ipv4Address}
use Rattle.ip_address.specs.declared.ipv6.Ipv6Address.{Ipv6Address}
use Rattle.ip_address.specs.declared.protocol.IpProtocol.TheVariants as protocol
use Rattle.ip_wire.specs.declared.ipv4_packet.Ipv4Repr.{Ipv4Repr}
use Rattle.ip_wire.specs.Ipv6Packet.{ipv6_in}
use Rattle.control_wire.specs.Icmpv6.{IsIcmpv6, icmpv6_in}
use Rattle.control_wire.specs.declared.icmpv6.Icmpv6Repr.TheVariants.{Mld}
use Rattle.control_wire.specs.Igmp.{IsIgmp, igmp_in, tenths_of}
use Rattle.control_wire.specs.declared.igmp.IgmpVersion.{IgmpVersion}
use Rattle.control_wire.specs.declared.igmp.IgmpRepr.TheVariants.{MembershipQuery}
use Rattle.control_wire.specs.declared.mld.MldRepr.TheVariants.{Query}
use Rattle.iface_tables.specs.Groups.{AreDistinct, count_in}
use Rattle.iface_tables.specs.declared.groups.Group.{Group}
use Rattle.iface_tables.specs.declared.groups.GroupState.{GroupState}
use Rattle.iface_tables.specs.declared.groups.GroupState.TheVariants.{Joining, Joined, Leaving}
use Rattle.iface_tables.specs.declared.report.IgmpReportState.{IgmpReportState}
use Rattle.iface_tables.specs.declared.report.IgmpReportState.TheVariants as igmp
use Rattle.iface_tables.specs.declared.report.MldReportState.{MldReportState}
use Rattle.iface_tables.specs.declared.report.MldReportState.TheVariants as mld
use Rattle.host_machine.specs.Context.Note.{Note}
use Rattle.host_machine.specs.Context.Host.{Host}
use Rattle.host_machine.specs.Multicast.Joins.{JoinsEgress}
use Rattle.host_machine.specs.Multicast.Igmp.{IgmpEgress}
use Rattle.host_machine.specs.Multicast.Mld.{MldEgress}
use Rattle.host_laws.specs.Laws.Restraint.Neighbors.{HasMessage}
use Rattle.host_laws.specs.Laws.Restraint.Readings.{CarriesV4, CarriesV6, Receives, receiver_v6, sender_v6}
use Rattle.host_laws.specs.Laws.Restraint.Replies.{BringsV4}

-- the frame brought a query of IGMP with this code, for this group
pub record HasIgmpQuery (H : Host) (frame : List ℕ) (code : ℕ) (group : Ipv4Address) : Type 0 where
  pub packet : List ℕ
  pub header : Ipv4Repr
  pub octets : List ℕ
  pub carried : CarriesV4 H.hardware_addr frame packet
  pub brings : BringsV4 packet header octets
  pub of_igmp : header.next_header ≡ protocol.Igmp
  pub is_message : IsIgmp octets
  pub query : igmp_in octets ≡ MembershipQuery code group

-- or one of MLD: from a link-local address (fe80::/10), with hop limit 1, and a right checksum where that is verified
pub record HasMldQuery (H : Host) (frame : List ℕ) (code : ℕ) (group : Ipv6Address) : Type 0 where
  pub packet : List ℕ
  pub octets : List ℕ
  pub carried : CarriesV6 H.hardware_addr frame packet
  pub hop_limit : slice_index packet 7 ≡ 1
  pub source : (ipv6_in packet).0.src_addr.bits / 2 ^ 118 ≡ 0x3fa
  pub has_message : HasMessage packet octets
  pub is_message :
      IsIcmpv6 (is_rx H.capabilities.checksum.icmpv6) (sender_v6 packet) (receiver_v6 packet) octets
  pub query : (icmpv6_in octets).0 ≡ Mld (Query code group)

-- an answer is pending until a moment
abbrev pub IsPendingUntil : IgmpReportState → ℤ → Type 0
IsPendingUntil igmp.Inactive x = ⊥
IsPendingUntil (igmp.ToGeneralQuery version timeout interval next_index) x = timeout ≡ x
IsPendingUntil (igmp.ToSpecificQuery version timeout group) x = timeout ≡ x

abbrev pub IsMldPendingUntil : MldReportState → ℤ → Type 0
IsMldPendingUntil mld.Inactive x = ⊥
IsMldPendingUntil (mld.ToGeneralQuery timeout) x = timeout ≡ x
IsMldPendingUntil (mld.ToSpecificQuery group timeout) x = timeout ≡ x

-- the time that a query of IGMP allows, in microseconds: 10 s without a code, as in version 1 (RFC 2236 4); otherwise
-- its code in tenths of a second
abbrev pub allowed : ℕ → ℕ
allowed code = if code == 0 then 10_000_000 else tenths_of code * 100_000

-- a pending answer is as before; or the frame brought a query, and it is due within the time that this allows, which is
-- in milliseconds for MLD
pub data IgmpIsAsked (t : ℤ) (frame : List ℕ) (old new : Host) : Type 0 where
  AsBefore : new.igmp_report ≡ old.igmp_report → IgmpIsAsked t frame old new
  Within : (code : ℕ) (group : Ipv4Address) (x : ℤ) → HasIgmpQuery old frame code group →
      IsPendingUntil new.igmp_report x → t ≤ℤ x → x ≤ℤ (t +ℤ pos (allowed code)) → IgmpIsAsked t frame old new

pub data MldIsAsked (t : ℤ) (frame : List ℕ) (old new : Host) : Type 0 where
  AsBefore : new.mld_report ≡ old.mld_report → MldIsAsked t frame old new
  Within : (code : ℕ) (group : Ipv6Address) (x : ℤ) → HasMldQuery old frame code group →
      IsMldPendingUntil new.mld_report x → t ≤ℤ x → x ≤ℤ (t +ℤ pos (code * 1000)) → MldIsAsked t frame old new

abbrev pub ReportsAreAsked : Type 0
ReportsAreAsked =
    (t : ℤ) (frame : List ℕ) (old new : Host) (told : List Event) (notes : List Note) →
    Receives t frame old told notes new → IgmpIsAsked t frame old new × MldIsAsked t frame old new

-- the part of a call that sends it does nothing before its moment
abbrev pub ReportsWait : Type 0
ReportsWait =
    (H new : Host) (told : List Event) (notes : List Note) (x : ℤ) → H.moment <ℤ x →
    (IgmpEgress H told notes new → IsPendingUntil H.igmp_report x → (told ≡ []) × (new ≡ H))
    × (MldEgress H told notes new → IsMldPendingUntil H.mld_report x → (told ≡ []) × (new ≡ H))

-- each frame that reports a join takes a group off those whose join is pending
abbrev pub JoinsAreToldOnce : Type 0
JoinsAreToldOnce =
    (H new : Host) (told : List Event) (notes : List Note) → AreDistinct H.groups → JoinsEgress H told notes new →
    length (sent_frames told) + count_in Joining new.groups ≤ count_in Joining H.groups

-- Over a whole call that sends

-- an answer to a query of IGMP after a call at t: it is as before; or its moment has come, and it is over, or goes on
-- with the next group, an interval later or more, not before t
pub data IgmpGoesOn (t : ℤ) (old new : IgmpReportState) : Type 0 where
  AsBefore : new ≡ old → IgmpGoesOn t old new
  Over : (x : ℤ) → IsPendingUntil old x → x ≤ℤ t → new ≡ igmp.Inactive → IgmpGoesOn t old new
  NextGroup : (version : IgmpVersion) (x y : ℤ) (interval index : ℕ) →
      old ≡ igmp.ToGeneralQuery version x interval index → x ≤ℤ t → (x +ℤ pos interval) ≤ℤ y → t ≤ℤ y →
      new ≡ igmp.ToGeneralQuery version y interval (index + 1) → IgmpGoesOn t old new

-- one to a query of MLD: it is as before; or its moment has come, and it is over
pub data MldGoesOn (t : ℤ) (old new : MldReportState) : Type 0 where
  AsBefore : new ≡ old → MldGoesOn t old new
  Over : (x : ℤ) → IsMldPendingUntil old x → x ≤ℤ t → new ≡ mld.Inactive → MldGoesOn t old new

-- a group is in a table, in this state
abbrev pub HasGroup : List Group → IpAddress → GroupState → Type 0
HasGroup groups a state = (k : ℕ) × (slice_get groups k ≡ Some (record { addr = a; state = state }))

-- what a call that sends does to groups: a joined one stays joined; one whose join is pending is joined, or still
-- pending; one whose leave is pending is gone, or still pending, if no group is twice in the table; and there is no other
pub record KeepsGroups (old new : Host) : Type 0 where
  pub joined : (a : IpAddress) → HasGroup old.groups a Joined → HasGroup new.groups a Joined
  pub joining : (a : IpAddress) → HasGroup old.groups a Joining →
      HasGroup new.groups a Joining ⊎ HasGroup new.groups a Joined
  pub no_other : (a : IpAddress) → HasGroup new.groups a Joined →
      HasGroup old.groups a Joined ⊎ HasGroup old.groups a Joining
  pub joins : (a : IpAddress) → HasGroup new.groups a Joining → HasGroup old.groups a Joining
  pub leaves : (a : IpAddress) → HasGroup new.groups a Leaving → HasGroup old.groups a Leaving
