-- A datagram to many hosts that comes for a socket is in its queue.
use Rattle.std.proofs.Common.{◌≡◌, ◌≢◌, ℕ, zero, suc, Bool, true, false, List, [], ◌∷◌, refl, sym, ◌∙◌, ap, subst, Option, Some, None, arith}
use Rattle.std.specs.Prelude.{ℤ, ◌==◌, ◌||◌, ◌/◌, ◌^◌, slice_get, slice_set, if◌then◌else◌}
use Rattle.std.specs.List.{AllByRecursion, find}
use Rattle.std.specs.Option.{option_map}
use Rattle.std.proofs.lemmas.Bool.Decides.{Decides-eqb}
use Rattle.std.proofs.lemmas.Option.{slice_get-map}
use Rattle.net_base.specs.Checksum.{is_rx, is_tx}
use Rattle.net_base.specs.Device.{Event}
use Rattle.ip_address.specs.Ip.{is_multicast}
use Rattle.ip_address.specs.Ipv4 as ipv4_address
use Rattle.ip_address.specs.Ipv6 as ipv6_address
use Rattle.ip_address.specs.declared.cidr.IpCidr.{IpCidr}
use Rattle.ip_address.specs.declared.hardware.HardwareAddress.{HardwareAddress}
use Rattle.ip_address.specs.declared.ip.IpAddress.{IpAddress}
use Rattle.ip_address.specs.declared.ip.IpAddress.TheVariants.{Ipv4, Ipv6}
use Rattle.ip_address.specs.declared.protocol.IpProtocol.TheVariants as ip_protocol
use Rattle.ip_wire.specs.declared.ip_packet.IpRepr.{IpRepr}
use Rattle.ip_wire.specs.declared.ip_packet.IpRepr.TheVariants as repr
use Rattle.ip_wire.specs.declared.ipv4_packet.Ipv4Repr.{Ipv4Repr}
use Rattle.ip_wire.specs.declared.udp.UdpRepr.{UdpRepr}
use Rattle.ip_wire.specs.IpPacket.{dst_addr, src_addr}
use Rattle.ip_wire.specs.Udp.{IsUdp, udp_in}
use Rattle.iface_tables.specs.Groups.{is_at, is_member, is_member_in, is_same}
use Rattle.iface_tables.specs.declared.groups.Group.{Group}
use Rattle.iface_tables.specs.declared.groups.GroupState.{GroupState}
use Rattle.iface_tables.specs.declared.groups.GroupState.TheVariants.{Joined, Joining, Leaving}
use Rattle.sockets.specs.declared.socket.SocketOf.TheVariants.{Udp}
use Rattle.sockets.specs.Udp.{UdpSocket, is_accepted_at}
use Rattle.host_machine.specs.Context.Note.{Note}
use Rattle.host_machine.specs.Context.Host.{Host, Storage, has_ip_addr, without_expired}
use Rattle.host_machine.specs.Context.Addresses.{has_multicast_group, has_solicited_node, is_broadcast, is_for_host, is_loopback}
use Rattle.host_machine.specs.Context.Addresses.{may_be_source}
use Rattle.host_machine.specs.Sockets.Delivery.{IsFirst, to_this}
use Rattle.host_machine.specs.Receive.Ipv4.{ProcessesDatagram, ProcessesProtocol}
use Rattle.host_machine.specs.Receive.Ipv4 as ip
use Rattle.host_machine.specs.Sockets.Raw as raw
use Rattle.host_machine.specs.Discovery.Renewal.{sender_renewed}
use Rattle.host_machine.specs.Receive.Reply.{Reply}
use Rattle.host_machine.specs.Receive.Response.{Responds}
use Rattle.host_machine.specs.Sockets.Udp.{ProcessesUdp, IsDatagram, accepts, storage_after_delivery}
use Rattle.host_laws.specs.Laws.Many.{DatagramsToManyAreQueued, IsFirstAtPort, IsMember, IsOfMany, QueuesToMany, QueuesToManyV6}
use Rattle.host_laws.specs.Laws.Many as law
use Rattle.host_laws.specs.Laws.Restraint.NextHop.{IsGroup}
use Rattle.host_laws.specs.Laws.Restraint.Queries.{HasGroup}
use Rattle.host_laws.specs.Laws.Service.{IsQueued}
use Rattle.host_laws.proofs.Sockets.DatagramDelivery.{apart, deaf, first_still, has_room, raw_apart, same_bits, there, udp_delivered}
use Rattle.host_laws.proofs.Receive.FrameReplies.{clash, ipv4_taken, v4_of, v6_of}
use Rattle.host_laws.proofs.Receive.FrameRepliesV6.{met, payload_served}
use Rattle.host_laws.proofs.Receive.ReceivedFrames.{renewal}
use Rattle.host_laws.proofs.Send.HopsByLists.{all_broadcast}

-- Members of groups

address_same : (a : IpAddress) → is_same a a ≡ true
address_same (Ipv4 a) = same_bits a.bits
address_same (Ipv6 a) = same_bits a.bits

address_is : (a b : IpAddress) → is_same a b ≡ true → a ≡ b
address_is (Ipv4 a) (Ipv4 b) e = ap (λ n. Ipv4 (record { bits = n })) ((Decides-eqb a.bits b.bits).0 e)
address_is (Ipv4 a) (Ipv6 b) e = absurd cc
address_is (Ipv6 a) (Ipv4 b) e = absurd cc
address_is (Ipv6 a) (Ipv6 b) e = ap (λ n. Ipv6 (record { bits = n })) ((Decides-eqb a.bits b.bits).0 e)

not_leaving : (s : GroupState) → s ≢ Leaving → is_member_in (Some s) ≡ true
not_leaving Joining other = refl
not_leaving Joined other = refl
not_leaving Leaving other = absurd (other refl)

member_in : (gs : List Group) (a : IpAddress) (state : GroupState) → HasGroup gs a state →
    AllByRecursion (λ (g : Group). g.addr ≡ a → g.state ≢ Leaving) gs → is_member gs a ≡ true
member_in [] a state h all = absurd cc
member_in (g ∷ gs) a state h all = here (is_same g.addr a) refl (λ there. member_in gs a state there all.1) where
  further : (k : ℕ) → slice_get (g ∷ gs) k ≡ Some (record { addr = a; state = state }) → is_same g.addr a ≡ false → HasGroup gs a state
  further zero e off =
      let same : g.addr ≡ a = cc in
      absurd (clash (subst (λ x. is_same g.addr x ≡ true) same (address_same g.addr)) off)
  further (suc k) e off = (k, e)

  here : (b : Bool) → is_same g.addr a ≡ b → (HasGroup gs a state → is_member gs a ≡ true) →
      is_member_in (option_map (λ (x : Group). x.state) (if b then Some g else find (is_at a) gs)) ≡ true
  here true e rest = not_leaving g.state (all.0 (address_is g.addr a e))
  here false e rest = rest (further h.0 h.1 e)

pub member_of : (groups : List Group) (a : IpAddress) → IsMember groups a → is_member groups a ≡ true
member_of groups a m = member_in groups a m.state m.listed m.stays

-- An address of many is for the host, and a socket at whatever address accepts it

or_left : (x y : Bool) → x ≡ true → (x || y) ≡ true
or_left true y e = refl
or_left false y e = absurd cc

or_right : (x y : Bool) → y ≡ true → (x || y) ≡ true
or_right true y e = refl
or_right false y e = e

pub group_heard : (H : Host) (a : IpAddress) → is_member H.groups a ≡ true → has_multicast_group H a ≡ true
group_heard H (Ipv4 a) e = or_right (a.bits == ipv4_address.all_systems.bits) (is_member H.groups (Ipv4 a)) e
group_heard H (Ipv6 a) e =
    or_right ((a.bits == ipv6_address.all_nodes.bits) || has_solicited_node H.ip_addrs a) (is_member H.groups (Ipv6 a)) e

for_group : (H : Host) (a : IpAddress) → has_multicast_group H a ≡ true → is_for_host H a ≡ true
for_group H a e =
    or_left (has_ip_addr H a || has_multicast_group H a || is_broadcast H.ip_addrs a) (is_loopback a)
    (or_left (has_ip_addr H a || has_multicast_group H a) (is_broadcast H.ip_addrs a)
    (or_right (has_ip_addr H a) (has_multicast_group H a) e))

for_all : (H : Host) (a : IpAddress) → is_broadcast H.ip_addrs a ≡ true → is_for_host H a ≡ true
for_all H a e =
    or_left (has_ip_addr H a || has_multicast_group H a || is_broadcast H.ip_addrs a) (is_loopback a)
    (or_right (has_ip_addr H a || has_multicast_group H a) (is_broadcast H.ip_addrs a) e)

group_is : (a : IpAddress) → IsGroup a → is_multicast a ≡ true
group_is (Ipv4 a) g = (Decides-eqb (a.bits / 2 ^ 28) 14).1 g
group_is (Ipv6 a) g = (Decides-eqb (a.bits / 2 ^ 120) 0xff).1 g

pub record IsHeard (H : Host) (a : IpAddress) : Type 0 where
  pub for_host : is_for_host H a ≡ true
  pub many : (is_broadcast H.ip_addrs a || is_multicast a) ≡ true

pub heard_of : (H : Host) (a : IpAddress) → IsOfMany H a → IsHeard H a
heard_of H a (law.ToAll all) =
    let b = all_broadcast H.ip_addrs a all in
    record { for_host = for_all H a b; many = or_left (is_broadcast H.ip_addrs a) (is_multicast a) b }
heard_of H a (law.AllHosts e) = record {
  for_host = subst (λ x. is_for_host H x ≡ true) (sym e) (for_group H (Ipv4 (record { bits = 0xe000_0001 })) refl);
  many = subst (λ x. (is_broadcast H.ip_addrs x || is_multicast x) ≡ true) (sym e)
      (or_right (is_broadcast H.ip_addrs (Ipv4 (record { bits = 0xe000_0001 }))) true refl);
}
heard_of H a (law.AllNodes e) = record {
  for_host = subst (λ x. is_for_host H x ≡ true) (sym e)
      (for_group H (Ipv6 (record { bits = 0xff02_0000_0000_0000_0000_0000_0000_0001 })) refl);
  many = subst (λ x. (is_broadcast H.ip_addrs x || is_multicast x) ≡ true) (sym e) refl;
}
heard_of H a (law.OfGroup group member) = record {
  for_host = for_group H a (group_heard H a (member_of H.groups a member));
  many = or_right (is_broadcast H.ip_addrs a) (is_multicast a) (group_is a group);
}

at_any : (own : List IpCidr) (given : Option IpAddress) (a : IpAddress) → (is_broadcast own a || is_multicast a) ≡ true →
    is_accepted_at (is_broadcast own) given a ≡ true
at_any own None a e = refl
at_any own (Some g) a e = or_assoc (_) (is_broadcast own a) (is_multicast a) e where
  or_assoc : (x y z : Bool) → (y || z) ≡ true → (x || y || z) ≡ true
  or_assoc true y z e = refl
  or_assoc false true z e = refl
  or_assoc false false z e = e

first_at_port : (H : Host) (r : IpRepr) (ports : UdpRepr) (octets : List ℕ) (i : ℕ) (s : UdpSocket) → IsFirstAtPort H ports octets i s →
    (is_broadcast H.ip_addrs (dst_addr r) || is_multicast (dst_addr r)) ≡ true →
    IsFirst (accepts H.ip_addrs r ports) H.sockets.places i (Some (Udp s))
first_at_port H r ports octets i s f many = record {
  is_there = f.here;
  accepts = rw (f.port, same_bits ports.dst_port) (at_any H.ip_addrs s.endpoint.addr (dst_addr r) many);
  none_before = λ k other less is. deaf H.ip_addrs r ports other (λ x e. f.first k x less (is ∙ ap (λ p. Some p) e));
}

-- what raw sockets leave
abbrev heard_raw : IpRepr → List ℕ → Host → Host
heard_raw r payload H = raw.host_after_raw_delivery r payload H

-- in the call that took it
module _ {b : Bool} {r : IpRepr} {payload : List ℕ} {reply : Option Reply} {notes : List Note} {taken : Host} {frames : List (List ℕ)}
    (source : HardwareAddress) (more : List Note) (H new : Host) (ports : UdpRepr) (octets : List ℕ) (i : ℕ) (s : UdpSocket) where
  datagram_heard : ProcessesUdp b r (sender_renewed source r (heard_raw r payload H)) payload reply notes taken → Responds reply taken frames more new →
      IsDatagram H r payload → udp_in payload ≡ (ports, octets) → IsFirstAtPort H ports octets i s →
      (is_broadcast H.ip_addrs (dst_addr r) || is_multicast (dst_addr r)) ≡ true →
      IsQueued (src_addr r) ports octets i s H new × (frames ≡ [])
  datagram_heard message responds is_datagram values f many =
      let x = renewal source r (heard_raw r payload H) in
      let heard : Storage → Storage = to_this (raw.takes r) (raw.storage_after_delivery (is_tx H.capabilities.checksum.ipv4) r payload) in
      let first_raw : IsFirst (accepts H.ip_addrs r ports) (heard_raw r payload H).sockets.places i (Some (Udp s)) =
      first_still (accepts H.ip_addrs r ports) heard (raw_apart H.ip_addrs r r ports (is_tx H.capabilities.checksum.ipv4) payload) H.sockets.places
      (first_at_port H r ports octets i s f many) in
      let places_same : (sender_renewed source r (heard_raw r payload H)).sockets.places ≡ (heard_raw r payload H).sockets.places = ap (λ (K : Host). K.sockets.places) x.is in
      let addrs : (sender_renewed source r (heard_raw r payload H)).ip_addrs ≡ H.ip_addrs = ap (λ (K : Host). K.ip_addrs) x.is in
      let first : IsFirst (accepts (sender_renewed source r (heard_raw r payload H)).ip_addrs r ports) (sender_renewed source r (heard_raw r payload H)).sockets.places i (Some (Udp s)) =
      subst (λ o. IsFirst (accepts o r ports) (sender_renewed source r (heard_raw r payload H)).sockets.places i (Some (Udp s))) (sym addrs)
      (subst (λ ps. IsFirst (accepts H.ip_addrs r ports) ps i (Some (Udp s))) (sym places_same) first_raw) in
      let datagram : IsDatagram (sender_renewed source r (heard_raw r payload H)) r payload =
      subst (λ c. IsUdp (is_rx c) (src_addr r) (dst_addr r) payload) (sym (ap (λ (K : Host). K.capabilities.checksum.udp) x.is)) is_datagram in
      let was = udp_delivered ports octets i s message datagram values first in
      let went : Responds None taken frames more new = subst (λ z. Responds z taken frames more new) was.silent responds in
      let now : Storage = storage_after_delivery r ports octets (Some (Udp s)) in
      let places : new.sockets.places ≡ slice_set (heard_raw r payload H).sockets.places i now =
      ap (λ (K : Host). K.sockets.places) (went.2 ∙ was.host_is) ∙ ap (λ ps. slice_set ps i now) places_same in (
        record {
          got = ap (λ ps. slice_get ps i) places
              ∙ there (heard_raw r payload H).sockets.places i (Some (Udp s)) now first_raw.is_there
              ∙ ap (λ packets. Some (Some (Udp (record s { rx = record s.rx { packets = packets } }))))
              (has_room r ports octets s _ f.room);
          others = λ j other ne is. ap (λ ps. slice_get ps j) places
              ∙ apart (heard_raw r payload H).sockets.places i j now ne
              ∙ slice_get-map heard H.sockets.places j ∙ ap (option_map heard) is;
        },
        went.0,
      )

-- where the datagram is for the host
pub accepted : {source : HardwareAddress} {r : Ipv4Repr} {H new : Host} {payload : List ℕ} {reply : Option Reply} {notes : List Note} →
    ProcessesDatagram source r H payload reply notes new → is_for_host H (Ipv4 r.dst_addr) ≡ true →
    ProcessesProtocol r.next_header (raw.is_taken (repr.Ipv4 r) H) r
    (sender_renewed source (repr.Ipv4 r) (raw.host_after_raw_delivery (repr.Ipv4 r) payload H)) payload reply notes new
accepted (ip.NotForUs n d) for_us = absurd (clash for_us n)
accepted (ip.Accepted f t) for_us = t

-- over IPv4
queued_v4 : (t : ℤ) (old new : Host) (told : List Event) → QueuesToMany t old told new
queued_v4 t old new told own frame r ports octets i s w d of f =
    let k = v4_of own w d.in_packet.taken d.in_packet.is_packet in
    let H : Host = without_expired old t in
    let heard = heard_of H (Ipv4 r.dst_addr) (still of) in
    let may : may_be_source old.ip_addrs r.src_addr ≡ true = rw d.in_packet.sender refl in
    let datagram = ipv4_taken r d.payload k.takes d.in_packet.is_packet d.in_packet.header d.in_packet.whole d.in_packet.behind may in
    let any = accepted datagram heard.for_host in
    let mid : Host = sender_renewed k.source (repr.Ipv4 r) (raw.host_after_raw_delivery (repr.Ipv4 r) d.payload H) in
    let message : ProcessesUdp (raw.is_taken (repr.Ipv4 r) H) (repr.Ipv4 r) mid d.payload k.reply k.notes k.taken =
    subst (λ q. ProcessesProtocol q (raw.is_taken (repr.Ipv4 r) H) r mid d.payload k.reply k.notes k.taken) d.protocol_is any in
    let x = datagram_heard k.source k.more H new ports octets i s message k.responds d.is_datagram d.values
    (record { here = f.here; port = f.port; first = f.first; room = f.room }) heard.many in
    (record { got = x.0.got; others = x.0.others }, k.sends_them ∙ x.1) where
      still : IsOfMany old (Ipv4 r.dst_addr) → IsOfMany (without_expired old t) (Ipv4 r.dst_addr)
      still (law.ToAll all) = law.ToAll all
      still (law.AllHosts e) = law.AllHosts e
      still (law.AllNodes e) = law.AllNodes e
      still (law.OfGroup group member) = law.OfGroup group member

-- over IPv6
queued_v6 : (t : ℤ) (old new : Host) (told : List Event) → QueuesToManyV6 t old told new
queued_v6 t old new told own frame r ports octets i s w d of f =
    let k = v6_of own w d.in_packet.packet.taken d.in_packet.packet.is_packet in
    let H : Host = without_expired old t in
    let heard = heard_of H (Ipv6 r.dst_addr) (still of) in
    let message : ProcessesUdp (raw.is_taken (repr.Ipv6 r) H) (repr.Ipv6 r) (met k.source r d.payload H) d.payload k.reply k.notes k.taken =
    payload_served ip_protocol.Udp k d.in_packet (λ bad. omega (arith, bad)) heard.for_host in
    let x = datagram_heard k.source k.more H new ports octets i s message k.responds d.is_datagram d.values
    (record { here = f.here; port = f.port; first = f.first; room = f.room }) heard.many in
    (record { got = x.0.got; others = x.0.others }, k.sends_them ∙ x.1) where
      still : IsOfMany old (Ipv6 r.dst_addr) → IsOfMany (without_expired old t) (Ipv6 r.dst_addr)
      still (law.ToAll all) = law.ToAll all
      still (law.AllHosts e) = law.AllHosts e
      still (law.AllNodes e) = law.AllNodes e
      still (law.OfGroup group member) = law.OfGroup group member

pub many_queued : DatagramsToManyAreQueued
many_queued t old new told = (queued_v4 t old new told, queued_v6 t old new told)
