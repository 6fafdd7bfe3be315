-- Datagrams to many hosts: they are queued in the call that receives them (RFC 919, RFC 922, RFC 1112 7.1, RFC 1122 3.3.6,
-- RFC 4291 2.7), and those of a socket go to the hardware address of the group, or to that of all (RFC 1112 6.4, RFC 2464
-- 7).
use Rattle.std.specs.Prelude.{◌≡◌, ◌≢◌, ◌⊎◌, ℕ, ◌<◌, ◌≤◌, ℤ, true, List, [], ◌∷◌, length, slice_get, Some}
use Rattle.std.specs.List.{AllByRecursion}
use Rattle.net_base.specs.Checksum.{ip_mtu_of}
use Rattle.net_base.specs.Device.{Event, sent_frames}
use Rattle.ip_address.specs.declared.ethernet_address.EthernetAddress.{EthernetAddress}
use Rattle.ip_address.specs.declared.hardware.HardwareAddress.{HardwareAddress}
use Rattle.ip_address.specs.declared.hardware.HardwareAddress.TheVariants as hardware
use Rattle.ip_address.specs.declared.ip.IpAddress.{IpAddress}
use Rattle.ip_address.specs.declared.ip.IpAddress.TheVariants.{Ipv4, Ipv6}
use Rattle.ip_address.specs.declared.protocol.IpProtocol.TheVariants as ip_protocol
use Rattle.ip_wire.specs.declared.ip_packet.IpRepr.TheVariants as repr
use Rattle.ip_wire.specs.declared.ipv4_packet.Ipv4Repr.{Ipv4Repr}
use Rattle.ip_wire.specs.declared.udp.UdpRepr.{UdpRepr}
use Rattle.ip_wire.specs.Udp.{udp_in}
use Rattle.ip_wire.specs.declared.ipv6_packet.Ipv6Repr.{Ipv6Repr}
use Rattle.iface_tables.specs.declared.groups.Group.{Group}
use Rattle.iface_tables.specs.declared.groups.GroupState.{GroupState}
use Rattle.iface_tables.specs.declared.groups.GroupState.TheVariants.{Leaving}
use Rattle.sockets.specs.declared.endpoint.IpEndpoint.{IpEndpoint}
use Rattle.sockets.specs.Queue.{is_room}
use Rattle.sockets.specs.declared.socket.SocketOf.TheVariants.{Udp}
use Rattle.sockets.specs.Udp.{UdpSocket}
use Rattle.host_machine.specs.declared.results.PollResult.{PollResult}
use Rattle.host_machine.specs.Context.Note.{Note}
use Rattle.host_machine.specs.Context.Host.{Host, at}
use Rattle.host_machine.specs.Sockets.Udp.{IsDatagram}
use Rattle.host_machine.specs.Send.Dispatch.{destination_of}
use Rattle.host_machine.specs.Interface.Egress.{Egress}
use Rattle.host_machine.specs.Packet.Packet.{Packet, total_len}
use Rattle.host_laws.specs.Laws.Received.{CarriesPacket}
use Rattle.host_laws.specs.Laws.Restraint.NextHop.{AreApart, IsGroup, IsOfGroup, IsToAll}
use Rattle.host_laws.specs.Laws.Restraint.Queries.{HasGroup}
use Rattle.host_laws.specs.Laws.Service.{HasFirst, HasPayloadV6, IsQueued, MayBeAsked, Takes, Went, all_granted}

-- the host is a member of a group: it is in the table, and isn't being left
pub record IsMember (groups : List Group) (a : IpAddress) : Type 0 where
  pub state : GroupState
  pub listed : HasGroup groups a state
  pub stays : AllByRecursion (λ (g : Group). g.addr ≡ a → g.state ≢ Leaving) groups

-- an address of many hosts, of which the host is one: 255.255.255.255 or the broadcast address of a network of it; the
-- groups of all hosts, 224.0.0.1 and ff02::1; or a group that it joined
pub data IsOfMany (H : Host) (a : IpAddress) : Type 0 where
  ToAll : IsToAll H.ip_addrs a → IsOfMany H a
  AllHosts : a ≡ Ipv4 (record { bits = 0xe000_0001 }) → IsOfMany H a
  AllNodes : a ≡ Ipv6 (record { bits = 0xff02_0000_0000_0000_0000_0000_0000_0001 }) → IsOfMany H a
  OfGroup : IsGroup a → IsMember H.groups a → IsOfMany H a

-- the frame carries a datagram in a whole packet from a unicast address, to whatever address
pub record CarriesDatagram (own : HardwareAddress) (H : Host) (frame : List ℕ) (r : Ipv4Repr)
    (ports : UdpRepr) (octets : List ℕ) : Type 0 where
  pub payload : List ℕ
  pub in_packet : CarriesPacket own H frame r payload
  pub protocol_is : r.next_header ≡ ip_protocol.Udp
  pub is_datagram : IsDatagram H (repr.Ipv4 r) payload
  pub values : udp_in payload ≡ (ports, octets)

pub record CarriesDatagramV6 (own : HardwareAddress) (H : Host) (frame : List ℕ) (r : Ipv6Repr)
    (ports : UdpRepr) (octets : List ℕ) : Type 0 where
  pub payload : List ℕ
  pub in_packet : HasPayloadV6 own H frame r ip_protocol.Udp payload
  pub is_datagram : IsDatagram H (repr.Ipv6 r) payload
  pub values : udp_in payload ≡ (ports, octets)

-- the socket at an index is the first of UDP at the datagram's port, whatever its address, and has room
pub record IsFirstAtPort (H : Host) (ports : UdpRepr) (octets : List ℕ) (i : ℕ) (s : UdpSocket) : Type 0 where
  pub here : slice_get H.sockets.places i ≡ Some (Some (Udp s))
  pub port : s.endpoint.port ≡ ports.dst_port
  pub first : (k : ℕ) (other : UdpSocket) → k < i → slice_get H.sockets.places k ≡ Some (Some (Udp other)) →
      other.endpoint.port ≢ ports.dst_port
  pub room : is_room s.rx (length octets) ≡ true

-- then it has the datagram last in its queue, and nothing is sent; in a frame to the host, to all or to a group
abbrev pub QueuesToMany : ℤ → Host → List Event → Host → Type 0
QueuesToMany t old told new =
    (own : HardwareAddress) (frame : List ℕ) (r : Ipv4Repr) (ports : UdpRepr) (octets : List ℕ) (i : ℕ)
    (s : UdpSocket) →
    Takes own t frame old told new → CarriesDatagram own old frame r ports octets → IsOfMany old (Ipv4 r.dst_addr) →
    IsFirstAtPort old ports octets i s →
    IsQueued (Ipv4 r.src_addr) ports octets i s old new × (sent_frames told ≡ [])

abbrev pub QueuesToManyV6 : ℤ → Host → List Event → Host → Type 0
QueuesToManyV6 t old told new =
    (own : HardwareAddress) (frame : List ℕ) (r : Ipv6Repr) (ports : UdpRepr) (octets : List ℕ) (i : ℕ)
    (s : UdpSocket) →
    Takes own t frame old told new → CarriesDatagramV6 own old frame r ports octets → IsOfMany old (Ipv6 r.dst_addr) →
    IsFirstAtPort old ports octets i s →
    IsQueued (Ipv6 r.src_addr) ports octets i s old new × (sent_frames told ≡ [])

abbrev pub DatagramsToManyAreQueued : Type 0
DatagramsToManyAreQueued = (t : ℤ) (old new : Host) (told : List Event) →
    QueuesToMany t old told new × QueuesToManyV6 t old told new

-- a destination of many hosts: all, or a group that no own network has
abbrev pub IsToMany : Host → IpAddress → Type 0
IsToMany H a = IsToAll H.ip_addrs a ⊎ (IsGroup a × AreApart H.ip_addrs a)

-- its hardware address: on Ethernet ff:ff:ff:ff:ff:ff for all, and that of a group
pub data IsManysAddress (H : Host) (a : IpAddress) (h : HardwareAddress) : Type 0 where
  OfAll : (own : EthernetAddress) → H.hardware_addr ≡ hardware.Ethernet own → IsToAll H.ip_addrs a →
      h ≡ hardware.Ethernet (record { 0 = 255 ∷ 255 ∷ 255 ∷ 255 ∷ 255 ∷ 255 ∷ [] }) → IsManysAddress H a h
  OfTheGroup : (own group : EthernetAddress) → H.hardware_addr ≡ hardware.Ethernet own → IsOfGroup a group →
      h ≡ hardware.Ethernet group → IsManysAddress H a h
  WithoutAddresses : H.hardware_addr ≡ hardware.Ip → h ≡ hardware.Ip → IsManysAddress H a h

-- a call that sends, and is granted every transmit token, sends the first datagram of a UDP socket that may be asked, if
-- it is to many hosts: to their hardware address, and no neighbour has to be known
abbrev pub SendsToMany : ℤ → Host → List Event → Host → Type 0
SendsToMany t old told new =
    (i : ℕ) (s : UdpSocket) (p : Packet) (rest : List (IpEndpoint × List ℕ)) →
    all_granted told ≡ true → HasFirst (at old t) i s p rest → MayBeAsked (at old t) i →
    IsToMany old (destination_of p) → total_len p ≤ ip_mtu_of old.capabilities →
    (h : HardwareAddress) × IsManysAddress old (destination_of p) h × Went old i s p h rest told new

abbrev pub DatagramsToManyGo : Type 0
DatagramsToManyGo =
    (t : ℤ) (answer : PollResult) (old new : Host) (told : List Event) (notes : List Note) →
    Egress t answer old told notes new → SendsToMany t old told new
