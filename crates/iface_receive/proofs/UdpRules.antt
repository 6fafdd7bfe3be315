-- What datagrams bring about, over plain variables.
use Rattle.std.proofs.Common.{◌≡◌, ℕ, Bool, List, []}
use Rattle.std.proofs.Common.{Option, None, refl, ap}
use Rattle.net_base.specs.Checksum.{is_rx}
use Rattle.ip_wire.specs.declared.ip_packet.IpRepr.{IpRepr}
use Rattle.ip_wire.specs.IpPacket.{src_addr, dst_addr}
use Rattle.ip_wire.specs.declared.udp.UdpRepr.{UdpRepr}
use Rattle.ip_wire.specs.Udp.{IsUdp, udp_in}
use Rattle.host_machine.specs.Context.Host.{Host, Storage, with_places}
use Rattle.host_machine.specs.Receive.Reply.{Reply}
use Rattle.host_machine.specs.Sockets.Delivery.{DeliversFirst, NoneAccepts}
use Rattle.host_machine.specs.Sockets.Udp as udp
use Rattle.host_machine.specs.Sockets.Udp.{ProcessesUdp, Delivered, NotAccepted}
use Rattle.host_machine.specs.Icmp.Unreachable.{port_unreachable}
use Rattle.iface_context.proofs.Processing.{dropped}

-- a datagram is given to the first socket that accepts it
pub udp_delivered : (raw : Bool) (H : Host) (r : IpRepr) (octets payload : List ℕ) (ports : UdpRepr) (checked : Bool) (places : List Storage) →
    checked ≡ is_rx H.capabilities.checksum.udp → IsUdp checked (src_addr r) (dst_addr r) octets × ((ports, payload) ≡ udp_in octets) →
    DeliversFirst (udp.accepts H.ip_addrs r ports) (udp.storage_after_delivery r ports payload) H.sockets.places places →
    ProcessesUdp raw r H octets None [] (with_places H places)
udp_delivered raw H r octets payload ports checked places tests is delivered =
    let same_ports : ports ≡ (udp_in octets).0 = ap (λ (p : UdpRepr × List ℕ). p.0) is.1 in
    let same_payload : payload ≡ (udp_in octets).1 = ap (λ (p : UdpRepr × List ℕ). p.1) is.1 in
    Delivered places (rw tests at is.0) (rw (same_ports, same_payload) at delivered) refl refl refl

-- octets that are no datagram
pub udp_malformed : (raw : Bool) (H : Host) (r : IpRepr) (octets : List ℕ) (checked : Bool) → checked ≡ is_rx H.capabilities.checksum.udp →
    (IsUdp checked (src_addr r) (dst_addr r) octets → ⊥) → ProcessesUdp raw r H octets None [] H
udp_malformed raw H r octets checked tests none = udp.Malformed (rw tests at none) (dropped H)

-- or nobody accepts it
pub udp_not_accepted : (raw : Bool) (H : Host) (r : IpRepr) (octets payload : List ℕ) (ports : UdpRepr) (checked : Bool)
    (places : List Storage) (reply : Option Reply) →
    checked ≡ is_rx H.capabilities.checksum.udp → IsUdp checked (src_addr r) (dst_addr r) octets × ((ports, payload) ≡ udp_in octets) →
    NoneAccepts (udp.accepts H.ip_addrs r ports) H.sockets.places → places ≡ H.sockets.places → reply ≡ port_unreachable raw H.ip_addrs r octets →
    ProcessesUdp raw r H octets reply [] (with_places H places)
udp_not_accepted raw H r octets payload ports checked places reply tests is nobody same replies =
    let same_ports : ports ≡ (udp_in octets).0 = ap (λ (p : UdpRepr × List ℕ). p.0) is.1 in
    NotAccepted (rw tests at is.0) (rw same_ports at nobody) replies refl (ap (with_places H) same)
