-- The source of each packet that a host sends: an address of its own (RFC 1122 3.2.1.3, 3.2.2.6, RFC 4443 2.2, RFC 4861
-- 4.1, 4.3, 4.4). Where a rule departs from the RFC, its case says so.
use Rattle.std.specs.Prelude.{◌≡◌, ◌≢◌, ℕ, ◌/◌, ◌^◌, ℤ, List, [], slice_get, Option, Some}
use Rattle.std.specs.List.{AllByRecursion}
use Rattle.net_base.specs.Device.{Event, sent_frames}
use Rattle.ip_address.specs.declared.cidr.IpCidr.{IpCidr}
use Rattle.ip_address.specs.declared.cidr.IpCidr.TheVariants as cidr
use Rattle.ip_address.specs.declared.cidr.Ipv6Cidr.{Ipv6Cidr}
use Rattle.ip_address.specs.declared.ip.IpAddress.{IpAddress}
use Rattle.ip_address.specs.declared.ip.IpAddress.TheVariants.{Ipv6}
use Rattle.ip_wire.specs.declared.tcp.TcpRepr.{TcpRepr}
use Rattle.ip_wire.specs.IpPacket.{src_addr}
use Rattle.sockets.specs.declared.socket.SocketOf.TheVariants as kind
use Rattle.host_machine.specs.declared.results.PollResult.{PollResult}
use Rattle.host_machine.specs.Context.Note.{Note}
use Rattle.host_machine.specs.Context.Host.{Host, Socket, at}
use Rattle.host_machine.specs.Receive.Reply.{Reply, Ip}
use Rattle.host_machine.specs.Send.Dispatch.{destination_of}
use Rattle.host_machine.specs.Interface.Egress.{Egress}
use Rattle.host_machine.specs.Sockets.Offers.{packet_from}
use Rattle.host_machine.specs.Packet.Packet.{Packet, header_of, payload_of}
use Rattle.host_machine.specs.Packet.Packet as packet
use Rattle.host_laws.specs.Laws.Restraint.Chosen.{IsChosenFor}
use Rattle.host_laws.specs.Laws.Restraint.Neighbors.{IsOwn}
use Rattle.host_laws.specs.Laws.Restraint.NextHop.{IsOneHost}
use Rattle.host_laws.specs.Laws.Restraint.Readings.{CarriesV4, CarriesV6, Receives, receiver_v4, receiver_v6}
use Rattle.host_laws.specs.Laws.Restraint.SentFrames.{IsNextPiece, IsOfPacket}

-- the source address of a packet
abbrev pub source_of : Packet → IpAddress
source_of p = src_addr (header_of p)

-- Calls that send

-- a report of MLD from ::, of a host without a link-local address (fe80::/10), as RFC 3810 5.2.13 has it
pub record IsFromNobody (own : List IpCidr) (p : Packet) : Type 0 where
  pub count : ℕ
  pub records : List ℕ
  pub is_report : payload_of p ≡ packet.Mld count records
  pub unspecified : source_of p ≡ Ipv6 (record { bits = 0 })
  pub no_link_local : AllByRecursion (λ c. (n : Ipv6Cidr) → c ≡ cidr.Ipv6 n → n.address.bits / 2 ^ 118 ≢ 0x3fa) own

-- an address that a program gave: that to which it bound the socket; of a raw socket, that in the header which it wrote
abbrev pub IsBoundTo : Socket → IpAddress → Type 0
IsBoundTo (kind.Raw s) a = Unit {0}
IsBoundTo (kind.Icmp s) a = ⊥
IsBoundTo (kind.Udp s) a = s.endpoint.addr ≡ Some a
IsBoundTo (kind.Tcp s) a = s.local.addr ≡ Some a

-- A frame is of a packet from an own address, of such a report, or of a socket's packet from an address that its program
-- gave: kept, against RFC 1122 3.2.1.3, by which that is an own one. Or it is a pending fragment, of a packet that an
-- earlier call sent
pub data IsFromOwn (H : Host) (frame : List ℕ) : Type 0 where
  Chosen : (p : Packet) → IsOfPacket H p frame → IsChosenFor H.ip_addrs (destination_of p) (source_of p) →
      IsFromOwn H frame
  FromNobody : (p : Packet) → IsOfPacket H p frame → IsFromNobody H.ip_addrs p → IsFromOwn H frame
  FromProgram : (i : ℕ) (s : Socket) (p : Packet) → slice_get H.sockets.places i ≡ Some (Some s) →
      packet_from H s ≡ Some p → IsOfPacket H p frame → IsBoundTo s (source_of p) → IsFromOwn H frame
  OfPiece : IsNextPiece H frame → IsFromOwn H frame

abbrev pub SendsFromOwn : ℤ → Host → List Event → Type 0
SendsFromOwn t old told = AllByRecursion (IsFromOwn (at old t)) (sent_frames told)

-- Replies

-- a frame has a packet to this address
pub data IsReceiver (H : Host) (frame : List ℕ) (a : IpAddress) : Type 0 where
  OverIpv4 : (packet : List ℕ) → CarriesV4 H.hardware_addr frame packet → a ≡ receiver_v4 packet → IsReceiver H frame a
  OverIpv6 : (packet : List ℕ) → CarriesV6 H.hardware_addr frame packet → a ≡ receiver_v6 packet → IsReceiver H frame a

-- A reply comes from the destination of the packet that brought it, if that is one host's address; so no echo reply comes
-- from a broadcast's or a group's. For an option that asks for it that may be another host's: kept, against RFC 4443 2.2.
-- Or it comes from the address that the host chooses for the sender, or from an own one that was asked for. A reset
-- comes from the destination, whatever that is: kept, against RFC 1122 4.2.3.10
pub data IsReplyFrom (H : Host) (frame : List ℕ) (p : Packet) : Type 0 where
  FromReceiver : IsReceiver H frame (source_of p) → IsOneHost H.ip_addrs (source_of p) → IsReplyFrom H frame p
  FromChosen : IsChosenFor H.ip_addrs (destination_of p) (source_of p) → IsReplyFrom H frame p
  FromTarget : IsOwn H (source_of p) → IsReplyFrom H frame p
  OfReset : (header : TcpRepr) → payload_of p ≡ packet.Tcp header [] → IsReceiver H frame (source_of p) →
      IsReplyFrom H frame p

abbrev pub RepliesFromOwn : List ℕ → Host → Option Reply → Type 0
RepliesFromOwn frame old reply = (p : Packet) → reply ≡ Some (Ip p) → IsReplyFrom old frame p

-- both

pub record SourcesAreOwn : Type 0 where
  pub sent : (t : ℤ) (answer : PollResult) (old new : Host) (told : List Event) (notes : List Note) →
      Egress t answer old told notes new → SendsFromOwn t old told
  pub replied : (t : ℤ) (frame : List ℕ) (old new : Host) (told : List Event) (notes : List Note) →
      (w : Receives t frame old told notes new) → RepliesFromOwn frame old w.call.response.reply
