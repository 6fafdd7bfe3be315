-- Which groups a host joins and leaves, and how it reports that to routers (RFC 2236 3, RFC 3810 6.1).
use Rattle.std.specs.Prelude.{◌≡◌, ℕ, Bool, true, false, List, [], ◌∷◌, ◌++◌, Option, Some, None, Result, Ok, Err}
use Rattle.net_base.specs.Device.{Event, Asked}
use Rattle.ip_address.specs.declared.cidr.IpCidr.{IpCidr}
use Rattle.ip_address.specs.declared.ip.IpAddress.{IpAddress}
use Rattle.ip_address.specs.declared.ip.IpAddress.TheVariants.{Ipv4, Ipv6}
use Rattle.ip_address.specs.Ip.{is_multicast}
use Rattle.control_wire.specs.declared.igmp.IgmpVersion.TheVariants.{Version2}
use Rattle.control_wire.specs.declared.mld.MldRecordType.TheVariants.{ChangeToInclude, ChangeToExclude}
use Rattle.iface_tables.specs.declared.groups.Group.{Group}
use Rattle.iface_tables.specs.declared.groups.GroupState.{GroupState}
use Rattle.iface_tables.specs.declared.groups.GroupState.TheVariants.{Joining, Leaving}
use Rattle.iface_tables.specs.Groups.{first_in, is_refused, join_reported, groups_after_join, leave_reported}
use Rattle.iface_tables.specs.Groups.{groups_after_leave}
use Rattle.host_machine.specs.declared.results.MulticastError.{MulticastError}
use Rattle.host_machine.specs.declared.results.MulticastError.TheVariants.{GroupTableFull, Unaddressable}
use Rattle.host_machine.specs.Context.Note.{Note}
use Rattle.host_machine.specs.Context.Host.{Host, with_groups}
use Rattle.host_machine.specs.Packet.Packet.{Packet}
use Rattle.host_machine.specs.Packet.Frame.{sends}
use Rattle.host_machine.specs.Send.Outcome.{Outcome}
use Rattle.host_machine.specs.Send.Dispatch.{Dispatches}
use Rattle.host_machine.specs.Interface.Parts.{Part}
use Rattle.host_machine.specs.Multicast.Igmp.{igmp_report, igmp_leave}
use Rattle.host_machine.specs.Multicast.Mld.{mld_report}

-- a group is joined, unless the table has no room for it, or the address is not multicast
pub data JoinsGroup (a : IpAddress) (answer : Result (Unit {0}) MulticastError) (old new : Host) : Type 0 where
  NoGroup : is_multicast a ≡ false → answer ≡ Err Unaddressable → new ≡ old → JoinsGroup a answer old new
  NoPlace : is_multicast a ≡ true → is_refused old.group_room old.groups a ≡ true → answer ≡ Err GroupTableFull →
      new ≡ old → JoinsGroup a answer old new
  JoinTaken : is_multicast a ≡ true → is_refused old.group_room old.groups a ≡ false → answer ≡ Ok tt →
      new ≡ with_groups old (groups_after_join old.group_room old.groups a) →
      JoinsGroup a answer old new

-- a group is left, if the host is a member, unless the address is not multicast
pub data LeavesGroup (a : IpAddress) (answer : Result (Unit {0}) MulticastError) (old new : Host) : Type 0 where
  NoGroupEither : is_multicast a ≡ false → answer ≡ Err Unaddressable → new ≡ old → LeavesGroup a answer old new
  LeaveTaken : is_multicast a ≡ true → answer ≡ Ok tt →
      new ≡ with_groups old (groups_after_leave old.groups a) → LeavesGroup a answer old new

-- the report of a join: over IPv4, if the host has an address, a membership report (RFC 2236 3); over IPv6 a record
-- that changes to exclude no source (RFC 3810 6.1, 5.2.12)
abbrev pub join_packet : List IpCidr → IpAddress → Option Packet
join_packet own (Ipv4 a) = igmp_report own Version2 a
join_packet own (Ipv6 a) = Some (mld_report own ChangeToExclude (a ∷ []))

-- the report of a leave: over IPv4 a leave; over IPv6 a record that changes to include no source
abbrev pub leave_packet : List IpCidr → IpAddress → Option Packet
leave_packet own (Ipv4 a) = igmp_leave own a
leave_packet own (Ipv6 a) = Some (mld_report own ChangeToInclude (a ∷ []))

-- the groups in a state are reported one after another, each time the first in that state, each with a transmit token,
-- until one is refused; a group that can't be reported, for lack of an address, counts as reported
pub data ReportsEach (state : GroupState) (packet_for : List IpCidr → IpAddress → Option Packet)
    (after_report : List Group → IpAddress → List Group)
    (old : Host) : (granted : Bool) → List Event → List Note → Host → Type 0 where
  Begins : ReportsEach state packet_for after_report old true [] [] old
  Silently : {told : List Event} {notes : List Note} {mid : Host} (a : IpAddress) →
      ReportsEach state packet_for after_report old true told notes mid →
      first_in state mid.groups ≡ Some a → packet_for mid.ip_addrs a ≡ None →
      ReportsEach state packet_for after_report old true told notes (with_groups mid (after_report mid.groups a))
  Refused : {told : List Event} {notes : List Note} {mid : Host} (a : IpAddress) (p : Packet) →
      ReportsEach state packet_for after_report old true told notes mid →
      first_in state mid.groups ≡ Some a → packet_for mid.ip_addrs a ≡ Some p →
      ReportsEach state packet_for after_report old false (told ++ Asked mid.moment false ∷ []) notes mid
  Reported : {told : List Event} {notes : List Note} {mid : Host} (a : IpAddress) (p : Packet)
      (outcome : Outcome) (frames : List (List ℕ))
      (more : List Note) (new : Host) → ReportsEach state packet_for after_report old true told notes mid →
      first_in state mid.groups ≡ Some a → packet_for mid.ip_addrs a ≡ Some p →
      Dispatches p outcome mid frames more new →
      ReportsEach state packet_for after_report old true (told ++ Asked mid.moment true ∷ sends frames) (notes ++ more)
      (with_groups new (after_report new.groups a))

-- all of them, or those up to a refused transmit token
pub data ReportsAll (state : GroupState) (packet_for : List IpCidr → IpAddress → Option Packet)
    (after_report : List Group → IpAddress → List Group)
    (old : Host) (told : List Event) (notes : List Note) (new : Host) : Type 0 where
  All : ReportsEach state packet_for after_report old true told notes new → first_in state new.groups ≡ None →
      ReportsAll state packet_for after_report old told notes new
  UpToRefusal : ReportsEach state packet_for after_report old false told notes new →
      ReportsAll state packet_for after_report old told notes new

-- the parts of a round that report joins, and leaves
abbrev pub JoinsEgress : Part
JoinsEgress = ReportsAll Joining join_packet join_reported

abbrev pub LeavesEgress : Part
LeavesEgress = ReportsAll Leaving leave_packet leave_reported
