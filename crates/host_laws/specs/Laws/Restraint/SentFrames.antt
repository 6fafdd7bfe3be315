-- Each frame that a call sends: why, of which packet it is, and where it goes by the lists of addresses, routes and
-- neighbours.
use Rattle.std.specs.Prelude.{◌≡◌, ◌⊎◌, ℕ, ◌+◌, ◌≤◌, ℤ, ◌≤ℤ◌, List, [], ◌∷◌, ◌++◌, length, slice_get, Option, Some}
use Rattle.std.specs.List.{AllByRecursion}
use Rattle.net_base.specs.Device.{Event, handed_frames}
use Rattle.net_base.specs.Time.{silence_from}
use Rattle.ip_address.specs.declared.cidr.IpCidr.{IpCidr}
use Rattle.ip_address.specs.declared.ethernet_address.EthernetAddress.{EthernetAddress}
use Rattle.ip_address.specs.declared.hardware.HardwareAddress.TheVariants as hardware
use Rattle.ip_address.specs.declared.ip.IpAddress.{IpAddress}
use Rattle.ip_address.specs.declared.ip.IpAddress.TheVariants.{Ipv4, Ipv6}
use Rattle.ip_address.specs.declared.ipv4.Ipv4Address.{Ipv4Address}
use Rattle.ip_address.specs.declared.ipv6.Ipv6Address.{Ipv6Address}
use Rattle.ip_wire.specs.declared.arp.ArpRepr.{ArpRepr}
use Rattle.control_wire.specs.declared.igmp.IgmpVersion.{IgmpVersion}
use Rattle.control_wire.specs.declared.mld.MldRecordType.TheVariants.{ModeIsExclude}
use Rattle.fragmentation.specs.Cuts.{Piece}
use Rattle.iface_tables.specs.Groups.{AreDistinct, count_in}
use Rattle.iface_tables.specs.declared.groups.Group.{Group}
use Rattle.iface_tables.specs.declared.groups.GroupState.{GroupState}
use Rattle.iface_tables.specs.declared.groups.GroupState.TheVariants.{Joining, Leaving}
use Rattle.iface_tables.specs.declared.report.IgmpReportState.{IgmpReportState}
use Rattle.iface_tables.specs.declared.report.IgmpReportState.TheVariants as igmp
use Rattle.iface_tables.specs.declared.report.MldReportState.{MldReportState}
use Rattle.iface_tables.specs.declared.report.MldReportState.TheVariants as mld
use Rattle.host_machine.specs.Context.Note.{Note}
use Rattle.host_machine.specs.Context.Host.{Host, Socket}
use Rattle.host_machine.specs.Receive.Reply.{Reply, Arp, Ip}
use Rattle.host_machine.specs.Packet.Packet.{Packet}
use Rattle.host_machine.specs.Packet.Frame.{arp_frame, piece_frame}
use Rattle.host_machine.specs.Send.Outcome.{Outcome}
use Rattle.host_machine.specs.Send.Dispatch.{Dispatches, destination_of}
use Rattle.host_machine.specs.Multicast.Igmp.{igmp_report}
use Rattle.host_machine.specs.Multicast.Joins.{join_packet, leave_packet}
use Rattle.host_machine.specs.Multicast.Mld.{mld_report}
use Rattle.host_machine.specs.Discovery.RouterSolicitation.{due_solicitation}
use Rattle.host_machine.specs.Sockets.Offers.{packet_from}
use Rattle.host_laws.specs.Laws.Restraint.NextHop.{AreApart, GoesByHop, HopIs, IsGroup, IsOfGroup, IsOneHost}
use Rattle.host_laws.specs.Laws.Restraint.NextHop.{IsSentTo, IsToAll}
use Rattle.host_laws.specs.Laws.Restraint.Queries.{HasGroup, IsMldPendingUntil, IsPendingUntil}
use Rattle.host_laws.specs.Laws.Restraint.Replies.{AnswersByArp}

-- a host sends as another one: it has the same addresses, routes and neighbours, the same device, and is at the same
-- moment. It may have begun the silence after a discovery request
pub record SendsAs (H K : Host) : Type 0 where
  pub capabilities : K.capabilities ≡ H.capabilities
  pub hardware_address : K.hardware_addr ≡ H.hardware_addr
  pub moment : K.moment ≡ H.moment
  pub addresses : K.ip_addrs ≡ H.ip_addrs
  pub routes : K.routes ≡ H.routes
  pub neighbors : K.neighbors.known ≡ H.neighbors.known
  pub silence : (K.neighbors.silent_until ≡ H.neighbors.silent_until)
      ⊎ (K.neighbors.silent_until ≡ silence_from H.moment)

-- A frame in which a host sends a packet, or asks for its next hop: one that sends as this host dispatched the packet,
-- and sent no other frame for it. On Ethernet a packet to one host goes by its next hop, one to a group to the group's
-- hardware address, and one to all hosts to ff:ff:ff:ff:ff:ff
pub record IsOfPacket (H : Host) (packet : Packet) (frame : List ℕ) : Type 0 where
  pub outcome : Outcome
  pub before : Host
  pub after : Host
  pub notes : List Note
  pub same : SendsAs H before
  pub dispatched : Dispatches packet outcome before (frame ∷ []) notes after
  pub by_hop : (own : EthernetAddress) (hop : Option IpAddress) → H.hardware_addr ≡ hardware.Ethernet own →
      IsOneHost H.ip_addrs (destination_of packet) → HopIs H (destination_of packet) hop →
      GoesByHop own H packet hop outcome (frame ∷ [])
  pub to_group : (own : EthernetAddress) → H.hardware_addr ≡ hardware.Ethernet own →
      IsGroup (destination_of packet) → AreApart H.ip_addrs (destination_of packet) →
      (h : EthernetAddress) × IsOfGroup (destination_of packet) h × IsSentTo H (hardware.Ethernet h) packet frame
  pub to_all : (own : EthernetAddress) → H.hardware_addr ≡ hardware.Ethernet own →
      IsToAll H.ip_addrs (destination_of packet) →
      IsSentTo H (hardware.Ethernet (record { 0 = 255 ∷ 255 ∷ 255 ∷ 255 ∷ 255 ∷ 255 ∷ [] })) packet frame
  pub without_addresses : H.hardware_addr ≡ hardware.Ip → IsSentTo H hardware.Ip packet frame

-- Why a call sends a frame, by the host before it, at the call's moment

-- the first pending fragment, to the hardware address of its packet
pub record IsNextPiece (H : Host) (frame : List ℕ) : Type 0 where
  pub piece : Piece
  pub rest : List Piece
  pub next : H.left ≡ piece ∷ rest
  pub is : frame ≡ piece_frame H piece

-- a router solicitation is due
pub record IsSolicitation (H : Host) (frame : List ℕ) : Type 0 where
  pub packet : Packet
  pub due : due_solicitation H ≡ Some packet
  pub sent : IsOfPacket H packet frame

-- the report of a group's join, or leave, is pending
pub record IsReport (state : GroupState) (packet_for : List IpCidr → IpAddress → Option Packet) (H : Host)
    (frame : List ℕ) : Type 0 where
  pub group : IpAddress
  pub pending : HasGroup H.groups group state
  pub packet : Packet
  pub report : packet_for H.ip_addrs group ≡ Some packet
  pub sent : IsOfPacket H packet frame

-- an address is that of a group in the table, in whatever state
abbrev pub IsListed : List Group → IpAddress → Type 0
IsListed groups a = (state : GroupState) × HasGroup groups a state

-- what an answer to a query of IGMP may report: a group of the table, if the query is general; otherwise the group that
-- it is for; in the query's version
abbrev pub MayReport : List Group → IgmpReportState → IgmpVersion → Ipv4Address → Type 0
MayReport groups igmp.Inactive version group = ⊥
MayReport groups (igmp.ToGeneralQuery asked timeout interval next_index) version group =
    (version ≡ asked) × IsListed groups (Ipv4 group)
MayReport groups (igmp.ToSpecificQuery asked timeout asked_for) version group =
    (version ≡ asked) × (group ≡ asked_for)

-- what one to a query of MLD may report
abbrev pub MayReportV6 : List Group → MldReportState → List Ipv6Address → Type 0
MayReportV6 groups mld.Inactive reported = ⊥
MayReportV6 groups (mld.ToGeneralQuery timeout) reported = AllByRecursion (λ g. IsListed groups (Ipv6 g)) reported
MayReportV6 groups (mld.ToSpecificQuery asked_for timeout) reported = reported ≡ asked_for ∷ []

-- the moment of the pending answer to a query of IGMP has come
pub record IsIgmpAnswer (H : Host) (frame : List ℕ) : Type 0 where
  pub timeout : ℤ
  pub pending : IsPendingUntil H.igmp_report timeout
  pub passed : timeout ≤ℤ H.moment
  pub version : IgmpVersion
  pub group : Ipv4Address
  pub asked_for : MayReport H.groups H.igmp_report version group
  pub packet : Packet
  pub report : igmp_report H.ip_addrs version group ≡ Some packet
  pub sent : IsOfPacket H packet frame

-- that of the answer to a query of MLD has
pub record IsMldAnswer (H : Host) (frame : List ℕ) : Type 0 where
  pub timeout : ℤ
  pub pending : IsMldPendingUntil H.mld_report timeout
  pub passed : timeout ≤ℤ H.moment
  pub groups : List Ipv6Address
  pub asked_for : MayReportV6 H.groups H.mld_report groups
  pub sent : IsOfPacket H (mld_report H.ip_addrs ModeIsExclude groups) frame

-- a socket offers a packet
pub record IsOfSocket (H : Host) (frame : List ℕ) : Type 0 where
  pub place : ℕ
  pub socket : Socket
  pub here : slice_get H.sockets.places place ≡ Some (Some socket)
  pub packet : Packet
  pub offered : packet_from H socket ≡ Some packet
  pub sent : IsOfPacket H packet frame

-- the frames that a call sends, in their order: each has one of these reasons. A fragment, a solicitation and an answer
-- are at most one each, and a socket has at most one. Each report of a join or a leave takes a group off those whose
-- join or leave is pending, if no group is twice in the table
pub record SendsInOrder (H : Host) (frames : List (List ℕ)) (new : Host) : Type 0 where
  pub fragment : List (List ℕ)
  pub solicitation : List (List ℕ)
  pub joins : List (List ℕ)
  pub leaves : List (List ℕ)
  pub answer : List (List ℕ)
  pub answer_v6 : List (List ℕ)
  pub packets : List (List ℕ)
  pub all : frames ≡ fragment ++ (solicitation ++ (joins ++ (leaves ++ (answer ++ (answer_v6 ++ packets)))))
  pub fragment_is : AllByRecursion (IsNextPiece H) fragment
  pub solicitation_is : AllByRecursion (IsSolicitation H) solicitation
  pub joins_are : AllByRecursion (IsReport Joining join_packet H) joins
  pub leaves_are : AllByRecursion (IsReport Leaving leave_packet H) leaves
  pub answer_is : AllByRecursion (IsIgmpAnswer H) answer
  pub answer_v6_is : AllByRecursion (IsMldAnswer H) answer_v6
  pub packets_are : AllByRecursion (IsOfSocket H) packets
  pub one_fragment : length fragment ≤ 1
  pub one_solicitation : length solicitation ≤ 1
  pub joins_once : AreDistinct H.groups → length joins + count_in Joining new.groups ≤ count_in Joining H.groups
  pub leaves_once : AreDistinct H.groups → length leaves + count_in Leaving new.groups ≤ count_in Leaving H.groups
  pub one_answer : length answer ≤ 1
  pub one_answer_v6 : length answer_v6 ≤ 1
  pub one_each : length packets ≤ length H.sockets.places

-- the host as it replies to a frame: as before the call, at the call's moment, and with the neighbours that it knows
-- after the call, as the frame may have told of one
abbrev pub replying : ℤ → Host → Host → Host
replying t old new = record old {
  moment = t;
  neighbors = record old.neighbors { known = new.neighbors.known };
}

-- the frame that a call at t sends in reply to the one received: the ARP reply to it; or a frame of the packet that is
-- the reply
pub data IsOfReply (t : ℤ) (reply : Option Reply) (old : Host) (told : List Event) (new : Host)
    (frame : List ℕ) : Type 0 where
  OfArp : (own : EthernetAddress) (received : List ℕ) (r : ArpRepr) → old.hardware_addr ≡ hardware.Ethernet own →
      handed_frames told ≡ received ∷ [] → reply ≡ Some (Arp r) → AnswersByArp own old received r →
      frame ≡ arp_frame r → IsOfReply t reply old told new frame
  OfIp : (packet : Packet) → reply ≡ Some (Ip packet) → IsOfPacket (replying t old new) packet frame →
      IsOfReply t reply old told new frame
