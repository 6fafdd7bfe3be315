-- A datagram over IPv6 that comes for a socket is in its queue, and one for a closed port brings the error.
use Rattle.std.proofs.Common.{◌≡◌, ◌⊎◌, inl, inr, ℕ, ◌+◌, ◌≤◌, true, List, [], ◌∷◌, length, refl, sym, ◌∙◌, ap, subst, Some, None, arith}
use Rattle.std.specs.Prelude.{slice_get, slice_set, take}
use Rattle.std.specs.Option.{option_map}
use Rattle.std.proofs.lemmas.Option.{slice_get-map}
use Rattle.net_base.specs.Checksum.{is_tx, ip_mtu_of}
use Rattle.ip_address.specs.declared.cidr.IpCidr.{IpCidr}
use Rattle.ip_address.specs.declared.hardware.HardwareAddress.{HardwareAddress}
use Rattle.ip_address.specs.declared.ip.IpAddress.TheVariants.{Ipv6}
use Rattle.ip_address.specs.declared.protocol.IpProtocol.TheVariants as ip_protocol
use Rattle.ip_wire.specs.declared.ip_packet.IpRepr.TheVariants as repr
use Rattle.ip_wire.specs.declared.udp.UdpRepr.{UdpRepr}
use Rattle.ip_wire.specs.declared.ipv6_packet.Ipv6Repr.{Ipv6Repr}
use Rattle.control_wire.specs.declared.icmpv6.Icmpv6Repr.TheVariants as icmpv6
use Rattle.control_wire.specs.declared.icmpv6.Icmpv6DstUnreachable.TheVariants.{PortUnreachable}
use Rattle.iface_tables.specs.Neighbor.{answer_of}
use Rattle.sockets.specs.declared.socket.SocketOf.TheVariants.{Udp}
use Rattle.sockets.specs.Udp.{UdpSocket}
use Rattle.host_machine.specs.Context.Host.{Host, Storage, at, without_expired}
use Rattle.host_machine.specs.Context.Addresses.{is_for_host}
use Rattle.host_machine.specs.Sockets.Delivery.{IsFirst, NoneAccepts, to_this}
use Rattle.host_machine.specs.Sockets.Raw as raw
use Rattle.host_machine.specs.Sockets.Udp.{ProcessesUdp, IsDatagram, accepts, storage_after_delivery}
use Rattle.host_machine.specs.Receive.Reply.{Ip}
use Rattle.host_machine.specs.Icmp.Unreachable.{port_unreachable}
use Rattle.host_machine.specs.Receive.Response.{Responds}
use Rattle.host_machine.specs.Packet.Frame.{ip_frame}
use Rattle.host_machine.specs.Packet.Packet.{Packet, Icmpv6}
use Rattle.host_machine.specs.Packet.Packet as packet
use Rattle.host_laws.specs.Laws.Service.{ClosedPortsV6AreAnswered, DatagramsV6AreQueued, HasWay, IsAcceptedBy}
use Rattle.host_laws.proofs.Receive.FrameReplies.{goes_whole, hop_as, v6_of, way_by}
use Rattle.host_laws.proofs.Receive.FrameRepliesV6.{apart, met, met_apart, met_found, payload_served}
use Rattle.host_laws.proofs.Interface.GrantedEgress.{unicast_for}
use Rattle.host_laws.proofs.Sockets.DatagramDelivery.{deaf, first_still, has_room, none_still, raw_apart, same_bits, take_few}
use Rattle.host_laws.proofs.Sockets.DatagramDelivery.{there, udp_delivered, udp_refused}
use Rattle.host_laws.proofs.Sockets.DatagramDelivery as v4

-- a socket at the port, of any address or of the destination
hears : (own : List IpCidr) (r : Ipv6Repr) (ports : UdpRepr) (s : UdpSocket) →
    s.endpoint.port ≡ ports.dst_port → (s.endpoint.addr ≡ None) ⊎ (s.endpoint.addr ≡ Some (Ipv6 r.dst_addr)) →
    accepts own (repr.Ipv6 r) ports (Some (Udp s)) ≡ true
hears own r ports s port (inl any) = rw (port, any, same_bits ports.dst_port) refl
hears own r ports s port (inr one) = rw (port, one, same_bits ports.dst_port, same_bits r.dst_addr.bits) refl

is_first : (H : Host) (r : Ipv6Repr) (ports : UdpRepr) (octets : List ℕ) (i : ℕ) (s : UdpSocket) →
    IsAcceptedBy H (Ipv6 r.dst_addr) ports octets i s → IsFirst (accepts H.ip_addrs (repr.Ipv6 r) ports) H.sockets.places i (Some (Udp s))
is_first H r ports octets i s h = record {
  is_there = h.here;
  accepts = hears H.ip_addrs r ports s h.port h.addr;
  none_before = λ k other less is. deaf H.ip_addrs (repr.Ipv6 r) ports other (λ x e. h.first k x less (is ∙ ap (λ p. Some p) e));
}

pub datagrams_v6_queued : DatagramsV6AreQueued
datagrams_v6_queued t old new told own frame r ports octets i s w d heard_by =
    let k = v6_of own w d.in_packet.packet.taken d.in_packet.packet.is_packet in
    let H : Host = without_expired old t in
    let source : HardwareAddress = k.source in
    let mid : Host = met source r d.payload H in
    let raws : Host = raw.host_after_raw_delivery (repr.Ipv6 r) d.payload H in
    let same : apart mid old.neighbors ≡ apart raws old.neighbors = met_apart source r d.payload H old.neighbors in
    let for_us : is_for_host H (Ipv6 r.dst_addr) ≡ true = rw d.given refl in
    let message : ProcessesUdp (raw.is_taken (repr.Ipv6 r) H) (repr.Ipv6 r) mid d.payload k.reply k.notes k.taken =
    payload_served ip_protocol.Udp k d.in_packet (λ bad. omega (arith, bad)) for_us in
    let heard : Storage →
    Storage = to_this (raw.takes (repr.Ipv6 r)) (raw.storage_after_delivery (is_tx old.capabilities.checksum.ipv4) (repr.Ipv6 r) d.payload) in
    let first_raw : IsFirst (accepts old.ip_addrs (repr.Ipv6 r) ports) raws.sockets.places i (Some (Udp s)) =
    first_still (accepts old.ip_addrs (repr.Ipv6 r) ports) heard (raw_apart old.ip_addrs (repr.Ipv6 r)
    (repr.Ipv6 r) ports (is_tx old.capabilities.checksum.ipv4) d.payload) old.sockets.places (is_first old r ports octets i s heard_by) in
    let first : IsFirst (accepts mid.ip_addrs (repr.Ipv6 r) ports) mid.sockets.places i (Some (Udp s)) =
    subst (λ (K : Host). IsFirst (accepts K.ip_addrs (repr.Ipv6 r) ports) K.sockets.places i (Some (Udp s))) (sym same) first_raw in
    let is_datagram : IsDatagram mid (repr.Ipv6 r) d.payload =
    subst (λ (K : Host). IsDatagram K (repr.Ipv6 r) d.payload) (sym same) d.is_datagram in
    let was = udp_delivered ports octets i s message is_datagram d.values first in
    let went : Responds None k.taken k.frames k.more new = subst (λ x. Responds x k.taken k.frames k.more new) was.silent k.responds in
    let now : Storage = storage_after_delivery (repr.Ipv6 r) ports octets (Some (Udp s)) in
    let places : new.sockets.places ≡ slice_set raws.sockets.places i now =
    ap (λ (K : Host). K.sockets.places) (went.2 ∙ was.host_is) ∙ ap (λ (K : Host). slice_set K.sockets.places i now) same in (
      record {
        got = ap (λ ps. slice_get ps i) places
            ∙ there raws.sockets.places i (Some (Udp s)) now first_raw.is_there
            ∙ ap (λ packets. Some (Some (Udp (record s { rx = record s.rx { packets = packets } }))))
            (has_room (repr.Ipv6 r) ports octets s _ heard_by.room);
        others = λ j other ne is. ap (λ ps. slice_get ps j) places
            ∙ v4.apart raws.sockets.places i j now ne
            ∙ slice_get-map heard old.sockets.places j ∙ ap (option_map heard) is;
      },
      k.sends_them ∙ went.0,
    )

-- a closed port
pub ports_v6_told : ClosedPortsV6AreAnswered
ports_v6_told t old new told own frame r ports octets h w itself d to_one nobody not_accepted reach fits =
    let k = v6_of own w d.in_packet.packet.taken d.in_packet.packet.is_packet in
    let H : Host = without_expired old t in
    let source : HardwareAddress = k.source in
    let mid : Host = met source r d.payload H in
    let raws : Host = raw.host_after_raw_delivery (repr.Ipv6 r) d.payload H in
    let same : apart mid old.neighbors ≡ apart raws old.neighbors = met_apart source r d.payload H old.neighbors in
    let error : Packet = packet.Ipv6 (record {
      src_addr = r.dst_addr;
      dst_addr = r.src_addr;
      hop_limit = 64;
      payload = Icmpv6 (icmpv6.DstUnreachable PortUnreachable r) (take 1192 d.payload);
    }) in
    let for_us : is_for_host H (Ipv6 r.dst_addr) ≡ true = rw d.given refl in
    let message : ProcessesUdp (raw.is_taken (repr.Ipv6 r) H) (repr.Ipv6 r) mid d.payload k.reply k.notes k.taken =
    payload_served ip_protocol.Udp k d.in_packet (λ bad. omega (arith, bad)) for_us in
    let heard : Storage →
    Storage = to_this (raw.takes (repr.Ipv6 r)) (raw.storage_after_delivery (is_tx old.capabilities.checksum.ipv4) (repr.Ipv6 r) d.payload) in
    let none_raw : NoneAccepts (accepts old.ip_addrs (repr.Ipv6 r) ports) raws.sockets.places =
    none_still (accepts old.ip_addrs (repr.Ipv6 r) ports) heard (raw_apart old.ip_addrs (repr.Ipv6 r)
    (repr.Ipv6 r) ports (is_tx old.capabilities.checksum.ipv4) d.payload) old.sockets.places
    (λ i other is. deaf old.ip_addrs (repr.Ipv6 r) ports other (λ x e. nobody i x (is ∙ ap (λ p. Some p) e))) in
    let none : NoneAccepts (accepts mid.ip_addrs (repr.Ipv6 r) ports) mid.sockets.places =
    subst (λ (K : Host). NoneAccepts (accepts K.ip_addrs (repr.Ipv6 r) ports) K.sockets.places) (sym same) none_raw in
    let is_datagram : IsDatagram mid (repr.Ipv6 r) d.payload =
    subst (λ (K : Host). IsDatagram K (repr.Ipv6 r) d.payload) (sym same) d.is_datagram in
    let was = udp_refused ports octets message is_datagram d.values none in
    let replies : k.reply ≡ Some (Ip error) = was.replies ∙ ap (λ b. port_unreachable b mid.ip_addrs (repr.Ipv6 r) d.payload) not_accepted
    ∙ rw to_one refl in
    let there_it : Responds (Some (Ip error)) k.taken k.frames k.more new = subst (λ x. Responds x k.taken k.frames k.more new) replies k.responds in
    let went : Responds (Some (Ip error)) mid k.frames k.more new =
    subst (λ K. Responds (Some (Ip error)) K k.frames k.more new) was.host_is there_it in
    let one = unicast_for old.ip_addrs (Ipv6 r.src_addr) d.in_packet.packet.sender in
    let addrs : mid.ip_addrs ≡ old.ip_addrs = ap (λ (K : Host). K.ip_addrs) same in
    let moment : mid.moment ≡ t = ap (λ (x : Host). x.moment) same in
    let way : HasWay own mid (Ipv6 r.src_addr) h = way_by {H = at old t} own (λ near. record {
      hop = near.hop;
      next = hop_as {H = at old t} {K = mid} addrs (ap (λ (x : Host). x.routes) same) moment near.next;
      known = ap (λ m. answer_of mid.neighbors near.hop m) moment ∙ met_found source r d.payload H near.hop h near.known;
    }) reach in
    let few : length (take 1192 d.payload) ≤ 1192 = take_few 1192 d.payload in
    let capabilities : mid.capabilities ≡ old.capabilities = ap (λ (K : Host). K.capabilities) same in
    let short : 40 + (48 + length (take 1192 d.payload)) ≤ ip_mtu_of mid.capabilities =
    subst (λ c. 40 + (48 + length (take 1192 d.payload)) ≤ ip_mtu_of c) (sym capabilities) (omega (arith, fits, few)) in
    let gone =
    goes_whole {p = error} own h went.1 (ap (λ (x : Host). x.hardware_addr) same ∙ w.on_medium) one.specified one.not_multicast way short in
    k.sends_them ∙ gone.frames_are ∙ ap (λ (x : Host). ip_frame x h error ∷ []) same
