-- UDP, reception of datagrams (RFC 768, RFC 1122 4.1.3), over either family.
use Rattle.std.specs.Prelude.{◌≡◌, ℕ, Bool, List, [], Option, None}
use Rattle.net_base.specs.Checksum.{is_rx}
use Rattle.ip_address.specs.declared.cidr.IpCidr.{IpCidr}
use Rattle.ip_wire.specs.declared.ip_packet.IpRepr.{IpRepr}
use Rattle.ip_wire.specs.declared.udp.UdpRepr.{UdpRepr}
use Rattle.ip_wire.specs.IpPacket.{src_addr, dst_addr}
use Rattle.ip_wire.specs.Udp.{IsUdp, udp_in}
use Rattle.sockets.specs.declared.endpoint.IpEndpoint.{IpEndpoint}
use Rattle.sockets.specs.Kinds.{down_udp, up_udp}
use Rattle.sockets.specs.Udp as socket
use Rattle.host_machine.specs.Context.Note.{Note}
use Rattle.host_machine.specs.Context.Host.{Host, Storage, with_places}
use Rattle.host_machine.specs.Context.Addresses.{is_broadcast}
use Rattle.host_machine.specs.Sockets.Delivery.{DeliversFirst, NoneAccepts, changed, holds}
use Rattle.host_machine.specs.Receive.Reply.{Reply, IsDropped}
use Rattle.host_machine.specs.Icmp.Unreachable.{port_unreachable}

-- the payload of a packet with this header is a datagram
abbrev pub IsDatagram : Host → IpRepr → List ℕ → Type 0
IsDatagram H r octets = IsUdp (is_rx H.capabilities.checksum.udp) (src_addr r) (dst_addr r) octets

-- the sender of a datagram
abbrev pub sender : IpRepr → UdpRepr → IpEndpoint
sender r ports = record { addr = src_addr r; port = ports.src_port }

-- an entry whose socket accepts a datagram, by the packet's destination and its own port
abbrev pub accepts : List IpCidr → IpRepr → UdpRepr → Storage → Bool
accepts own r ports place = holds down_udp (λ s. socket.accepts (is_broadcast own) s (dst_addr r) ports.dst_port) place

-- the entry after its socket got a datagram, with its sender
abbrev pub storage_after_delivery : IpRepr → UdpRepr → List ℕ → Storage → Storage
storage_after_delivery r ports payload place =
    changed down_udp up_udp (socket.socket_after_delivery (sender r ports) payload) place

-- how the payload of a packet with this header is processed: the first socket that accepts gets the datagram's payload,
-- with its sender; without one an error is sent, unless a raw socket accepted the packet
pub data ProcessesUdp (handled_by_raw_socket : Bool) (r : IpRepr) (H : Host) (octets : List ℕ) (reply : Option Reply)
    (notes : List Note) (new : Host) : Type 0 where
  Malformed : (IsDatagram H r octets → ⊥) → IsDropped H reply notes new →
      ProcessesUdp handled_by_raw_socket r H octets reply notes new
  Delivered : (places : List Storage) → IsDatagram H r octets →
      DeliversFirst (accepts H.ip_addrs r (udp_in octets).0)
      (storage_after_delivery r (udp_in octets).0 (udp_in octets).1) H.sockets.places places →
      reply ≡ None → notes ≡ [] → new ≡ with_places H places →
      ProcessesUdp handled_by_raw_socket r H octets reply notes new
  NotAccepted : IsDatagram H r octets → NoneAccepts (accepts H.ip_addrs r (udp_in octets).0) H.sockets.places →
      reply ≡ port_unreachable handled_by_raw_socket H.ip_addrs r octets → notes ≡ [] → new ≡ H →
      ProcessesUdp handled_by_raw_socket r H octets reply notes new
