-- A datagram that comes for a socket is in its queue, and one for a closed port brings the error.
use Rattle.std.proofs.Common.{◌≡◌, ◌≢◌, ◌⊎◌, inl, inr, ℕ, zero, suc, ◌+◌, ◌≤◌, ◌==◌, Bool, true, false}
use Rattle.std.proofs.Common.{List, [], ◌∷◌, ◌++◌, refl, sym, ◌∙◌, ap, subst, Option, Some, None, arith, length}
use Rattle.std.proofs.lemmas.Bool.Decides.{nat_tests}
use Rattle.std.proofs.lemmas.List.{length-take}
use Rattle.std.proofs.lemmas.Option.{slice_get-map}
use Rattle.std.specs.Prelude.{take, map, nat_lt, slice_get, slice_set, if◌then◌else◌, cond}
use Rattle.std.specs.Option.{option_map}
use Rattle.net_base.specs.Checksum.{is_tx, ip_mtu_of}
use Rattle.ip_address.specs.declared.cidr.IpCidr.{IpCidr}
use Rattle.ip_address.specs.declared.hardware.HardwareAddress.{HardwareAddress}
use Rattle.ip_address.specs.declared.ip.IpAddress.TheVariants.{Ipv4}
use Rattle.ip_wire.specs.declared.ipv4_packet.Ipv4Repr.{Ipv4Repr}
use Rattle.ip_wire.specs.declared.ip_packet.IpRepr.{IpRepr}
use Rattle.ip_wire.specs.declared.ip_packet.IpRepr.TheVariants as repr
use Rattle.ip_wire.specs.declared.udp.UdpRepr.{UdpRepr}
use Rattle.ip_wire.specs.Udp.{udp_in}
use Rattle.control_wire.specs.declared.icmpv4.Icmpv4Repr.TheVariants.{DstUnreachable}
use Rattle.control_wire.specs.declared.icmpv4.Icmpv4DstUnreachable.TheVariants.{PortUnreachable}
use Rattle.sockets.specs.declared.socket.SocketOf.TheVariants.{Raw, Icmp, Udp, Tcp}
use Rattle.sockets.specs.Udp.{UdpSocket}
use Rattle.host_machine.specs.Context.Note.{Note}
use Rattle.host_machine.specs.Context.Host.{Host, Storage, at, without_expired, with_places}
use Rattle.host_machine.specs.Receive.Reply.{Reply, Ip}
use Rattle.host_machine.specs.Packet.Packet.{Packet, Icmpv4}
use Rattle.host_machine.specs.Packet.Packet as packet
use Rattle.host_machine.specs.Sockets.Delivery.{DeliversFirst, IsFirst, NoneAccepts, to_this}
use Rattle.host_machine.specs.Sockets.Raw as raw
use Rattle.host_machine.specs.Sockets.Udp.{ProcessesUdp, IsDatagram, accepts, storage_after_delivery, sender}
use Rattle.host_machine.specs.Sockets.Udp as udp
use Rattle.host_machine.specs.Icmp.Unreachable.{port_unreachable}
use Rattle.host_machine.specs.Receive.Ipv4.{ProcessesProtocol}
use Rattle.host_machine.specs.Receive.Response.{Responds}
use Rattle.host_laws.specs.Laws.Service.{ClosedPortsAreAnswered, DatagramsAreQueued, HasWay, IsAcceptedBy, IsQueued}
use Rattle.host_laws.proofs.Receive.FrameReplies.{clash, goes_whole, hop_as, met, one_of, packet_served, reached_still, v4_of, way_by}

-- the first place that accepts is one
pub first_is_one : {test : Storage → Bool} {places : List Storage} {i j : ℕ} {p q : Storage} → IsFirst test places i p → IsFirst test places j q → i ≡ j
first_is_one {test} {places} {i} {j} {p} {q} f g = by (nat_lt i j) (nat_lt j i) refl refl where
  by : (b c : Bool) → nat_lt i j ≡ b → nat_lt j i ≡ c → i ≡ j
  by true c less more = absurd (clash f.accepts (g.none_before i p (grind (arith, nat_tests)) f.is_there))
  by false true less more = absurd (clash g.accepts (f.none_before j q (grind (arith, nat_tests)) g.is_there))
  by false false less more = grind (arith, nat_tests)

-- places that are changed so that the test stays
module _ (test : Storage → Bool) (change : Storage → Storage) (same : (p : Storage) → test (change p) ≡ test p) (places : List Storage) where
  before_change : (k : ℕ) (other : Storage) → slice_get (map change places) k ≡ Some other → (P : Storage → Type 0) →
      ((p : Storage) → slice_get places k ≡ Some p → P (change p)) → P other
  before_change k other is P all = by (slice_get places k) refl where
    by : (o : Option Storage) → slice_get places k ≡ o → P other
    by None e = let bad : None ≡ Some other = sym (slice_get-map change places k ∙ ap (option_map change) e) ∙ is in absurd cc
    by (Some p) e =
        let one : Some (change p) ≡ Some other = sym (slice_get-map change places k ∙ ap (option_map change) e) ∙ is in
        let it : change p ≡ other = cc in
        subst P it (all p e)

  pub none_still : NoneAccepts test places → NoneAccepts test (map change places)
  none_still none k other is = before_change k other is (λ o. test o ≡ false) (λ p e. same p ∙ none k p e)

  pub first_still : {i : ℕ} {p : Storage} → IsFirst test places i p → IsFirst test (map change places) i (change p)
  first_still {i} {p} f = record {
    is_there = slice_get-map change places i ∙ ap (option_map change) f.is_there;
    accepts = same p ∙ f.accepts;
    none_before = λ k other less is. before_change k other is (λ o. test o ≡ false) (λ q e. same q ∙ f.none_before k q less e);
  }

-- a place where raw sockets heard a packet takes the same datagrams
pub raw_apart : (own : List IpCidr) (q r : IpRepr) (ports : UdpRepr) (summed : Bool) (payload : List ℕ) (p : Storage) →
    accepts own r ports (to_this (raw.takes q) (raw.storage_after_delivery summed q payload) p) ≡ accepts own r ports p
raw_apart own q r ports summed payload None = refl
raw_apart own q r ports summed payload (Some (Raw s)) = by (raw.takes q (Some (Raw s))) where
  by : (b : Bool) → accepts own r ports (if b then raw.storage_after_delivery summed q payload (Some (Raw s)) else Some (Raw s))
      ≡ accepts own r ports (Some (Raw s))
  by true = refl
  by false = refl
raw_apart own q r ports summed payload (Some (Icmp s)) = refl
raw_apart own q r ports summed payload (Some (Udp s)) = refl
raw_apart own q r ports summed payload (Some (Tcp s)) = refl

-- what a socket hears, by its port and its address
pub same_bits : (n : ℕ) → (n == n) ≡ true
same_bits n = grind (arith, nat_tests)

hears : (own : List IpCidr) (r : Ipv4Repr) (ports : UdpRepr) (s : UdpSocket) →
    s.endpoint.port ≡ ports.dst_port → (s.endpoint.addr ≡ None) ⊎ (s.endpoint.addr ≡ Some (Ipv4 r.dst_addr)) →
    accepts own (repr.Ipv4 r) ports (Some (Udp s)) ≡ true
hears own r ports s port (inl any) = rw (port, any, same_bits ports.dst_port) refl
hears own r ports s port (inr one) = rw (port, one, same_bits ports.dst_port, same_bits r.dst_addr.bits) refl

other_bits : (m n : ℕ) → m ≢ n → (m == n) ≡ false
other_bits m n ne = by (m == n) refl where
  by : (b : Bool) → (m == n) ≡ b → b ≡ false
  by true e = absurd (ne (grind (arith, nat_tests)))
  by false e = refl

-- a place at which no UDP socket listens at the port
pub deaf : (own : List IpCidr) (r : IpRepr) (ports : UdpRepr) (p : Storage) →
    ((s : UdpSocket) → p ≡ Some (Udp s) → s.endpoint.port ≢ ports.dst_port) → accepts own r ports p ≡ false
deaf own r ports None other = refl
deaf own r ports (Some (Raw s)) other = refl
deaf own r ports (Some (Icmp s)) other = refl
deaf own r ports (Some (Udp s)) other = rw (other_bits s.endpoint.port ports.dst_port (other s refl)) refl
deaf own r ports (Some (Tcp s)) other = refl

is_first : (H : Host) (r : Ipv4Repr) (ports : UdpRepr) (octets : List ℕ) (i : ℕ) (s : UdpSocket) →
    IsAcceptedBy H (Ipv4 r.dst_addr) ports octets i s → IsFirst (accepts H.ip_addrs (repr.Ipv4 r) ports) H.sockets.places i (Some (Udp s))
is_first H r ports octets i s h = record {
  is_there = h.here;
  accepts = hears H.ip_addrs r ports s h.port h.addr;
  none_before = λ k other less is. deaf H.ip_addrs (repr.Ipv4 r) ports other (λ x e. h.first k x less (is ∙ ap (λ p. Some p) e));
}

none_accepts : (H : Host) (r : Ipv4Repr) (ports : UdpRepr) →
    ((k : ℕ) (other : UdpSocket) → slice_get H.sockets.places k ≡ Some (Some (Udp other)) → other.endpoint.port ≢ ports.dst_port) →
    NoneAccepts (accepts H.ip_addrs (repr.Ipv4 r) ports) H.sockets.places
none_accepts H r ports none k other is = deaf H.ip_addrs (repr.Ipv4 r) ports other (λ x e. none k x (is ∙ ap (λ p. Some p) e))

pub record WasDelivered (r : IpRepr) (ports : UdpRepr) (octets : List ℕ) (i : ℕ) (s : UdpSocket) (H : Host)
    (reply : Option Reply) (new : Host) : Type 0 where
  pub silent : reply ≡ None
  pub host_is : new ≡ with_places H (slice_set H.sockets.places i (storage_after_delivery r ports octets (Some (Udp s))))

pub udp_delivered : {handled_by_raw_socket : Bool} {r : IpRepr} {H new : Host} {payload : List ℕ} {reply : Option Reply} {notes : List Note}
    (ports : UdpRepr) (octets : List ℕ) (i : ℕ) (s : UdpSocket) →
    ProcessesUdp handled_by_raw_socket r H payload reply notes new → IsDatagram H r payload → udp_in payload ≡ (ports, octets) →
    IsFirst (accepts H.ip_addrs r ports) H.sockets.places i (Some (Udp s)) →
    WasDelivered r ports octets i s H reply new
udp_delivered ports octets i s (udp.Malformed m d) is values first = absurd (m is)
udp_delivered {r = r} {H = H} {new = new} ports octets i s (udp.Delivered places d f rep n e) is values first =
    let g : DeliversFirst (accepts H.ip_addrs r ports) (storage_after_delivery r ports octets) H.sockets.places places =
    subst (λ v. DeliversFirst (accepts H.ip_addrs r v.0) (storage_after_delivery r v.0 v.1) H.sockets.places places) values f in
    let at_one : g.index ≡ i = first_is_one g.first first in
    let there : Some g.place ≡ Some (Some (Udp s)) = sym g.first.is_there ∙ ap (slice_get H.sockets.places) at_one ∙ first.is_there in
    let same : g.place ≡ Some (Udp s) = cc in
    record {
      silent = rep;
      host_is = e ∙ ap (with_places H) (g.changed ∙ ap (λ k. slice_set H.sockets.places k (storage_after_delivery r ports octets g.place)) at_one
          ∙ ap (λ p. slice_set H.sockets.places i (storage_after_delivery r ports octets p)) same);
    }
udp_delivered {r = r} {H = H} {payload = payload} ports octets i s (udp.NotAccepted d none rep n e) is values first =
    let refused : accepts H.ip_addrs r (udp_in payload).0 (Some (Udp s)) ≡ false = none i (Some (Udp s)) first.is_there in
    absurd (clash (ap (λ v. accepts H.ip_addrs r v.0 (Some (Udp s))) values ∙ first.accepts) refused)

pub there : (xs : List Storage) (i : ℕ) (x y : Storage) → slice_get xs i ≡ Some x → slice_get (slice_set xs i y) i ≡ Some y
there [] i x y h = absurd (let none : None ≡ Some x = h in cc)
there (z ∷ xs) zero x y h = refl
there (z ∷ xs) (suc i) x y h = there xs i x y h

pub apart : (xs : List Storage) (i k : ℕ) (y : Storage) → (k ≡ i → ⊥) → slice_get (slice_set xs i y) k ≡ slice_get xs k
apart [] i k y other = refl
apart (z ∷ xs) zero zero y other = absurd (other refl)
apart (z ∷ xs) zero (suc k) y other = refl
apart (z ∷ xs) (suc i) zero y other = refl
apart (z ∷ xs) (suc i) (suc k) y other = apart xs i k y (λ e. other (ap suc e))

-- what a delivered place is, where there is room
pub has_room : (r : IpRepr) (ports : UdpRepr) (octets : List ℕ) (s : UdpSocket) (b : Bool) → b ≡ true →
    cond b (s.rx.packets ++ (sender r ports, octets) ∷ []) s.rx.packets ≡ s.rx.packets ++ (sender r ports, octets) ∷ []
has_room r ports octets s true e = refl
has_room r ports octets s false e = absurd cc

-- at a host that takes it
pub datagram_heard : {b : Bool} {payload : List ℕ} {reply : Option Reply} {notes : List Note} {taken : Host}
    {frames : List (List ℕ)} (source : HardwareAddress) (more : List Note) (H new : Host) (r : Ipv4Repr)
    (ports : UdpRepr) (octets : List ℕ) (i : ℕ) (s : UdpSocket) →
    ProcessesUdp b (repr.Ipv4 r) (met source r payload H) payload reply notes taken → Responds reply taken frames more new →
    IsDatagram H (repr.Ipv4 r) payload → udp_in payload ≡ (ports, octets) → IsAcceptedBy H (Ipv4 r.dst_addr) ports octets i s →
    IsQueued (Ipv4 r.src_addr) ports octets i s H new × (frames ≡ [])
datagram_heard {payload = payload} {taken = taken} {frames = frames} source more H new r ports octets i s message responds
    is_datagram values heard_by =
    let mid : Host = met source r payload H in
    let heard : Storage →
    Storage = to_this (raw.takes (repr.Ipv4 r)) (raw.storage_after_delivery (is_tx H.capabilities.checksum.ipv4) (repr.Ipv4 r) payload) in
    let first : IsFirst (accepts H.ip_addrs (repr.Ipv4 r) ports) mid.sockets.places i (Some (Udp s)) =
    first_still (accepts H.ip_addrs (repr.Ipv4 r) ports) heard (raw_apart H.ip_addrs (repr.Ipv4 r)
    (repr.Ipv4 r) ports (is_tx H.capabilities.checksum.ipv4) payload) H.sockets.places (is_first H r ports octets i s heard_by) in
    let was = udp_delivered ports octets i s message is_datagram values first in
    let went : Responds None taken frames more new = subst (λ x. Responds x taken frames more new) was.silent responds in
    let places : new.sockets.places ≡ slice_set mid.sockets.places i (storage_after_delivery (repr.Ipv4 r) ports octets (Some (Udp s))) =
    ap (λ (K : Host). K.sockets.places) (went.2 ∙ was.host_is) in (
      record {
        got = ap (λ ps. slice_get ps i) places
            ∙ there mid.sockets.places i (Some (Udp s)) (storage_after_delivery (repr.Ipv4 r) ports octets (Some (Udp s))) first.is_there
            ∙ ap (λ packets. Some (Some (Udp (record s { rx = record s.rx { packets = packets } }))))
            (has_room (repr.Ipv4 r) ports octets s _ heard_by.room);
        others = λ j other ne is. ap (λ ps. slice_get ps j) places
            ∙ apart mid.sockets.places i j (storage_after_delivery (repr.Ipv4 r) ports octets (Some (Udp s))) ne
            ∙ slice_get-map heard H.sockets.places j ∙ ap (option_map heard) is;
      },
      went.0,
    )

pub datagrams_queued : DatagramsAreQueued
datagrams_queued t old new told own frame r ports octets i s w itself d heard_by =
    let k = v4_of own w d.in_packet.taken d.in_packet.is_packet in
    let H : Host = without_expired old t in
    let mid : Host = met k.source r d.payload H in
    let any = packet_served k d.in_packet in
    let message : ProcessesUdp (raw.is_taken (repr.Ipv4 r) H) (repr.Ipv4 r) mid d.payload k.reply k.notes k.taken =
    subst (λ q. ProcessesProtocol q (raw.is_taken (repr.Ipv4 r) H) r mid d.payload k.reply k.notes k.taken) d.protocol_is any in
    let x = datagram_heard k.source k.more H new r ports octets i s message k.responds d.is_datagram d.values (record {
      here = heard_by.here;
      port = heard_by.port;
      addr = heard_by.addr;
      first = heard_by.first;
      room = heard_by.room;
    }) in
    (record { got = x.0.got; others = x.0.others }, k.sends_them ∙ x.1)

-- a closed port
pub take_few : (n : ℕ) (xs : List ℕ) → length (take n xs) ≤ n
take_few zero xs = search (arith, length-take)
take_few (suc n) [] = omega arith
take_few (suc n) (x ∷ xs) = let l = take_few n xs in omega (arith, l)

pub record WasRefused (handled_by_raw_socket : Bool) (r : IpRepr) (payload : List ℕ) (H : Host) (reply : Option Reply) (new : Host) : Type 0 where
  pub replies : reply ≡ port_unreachable handled_by_raw_socket H.ip_addrs r payload
  pub host_is : new ≡ H

pub udp_refused : {handled_by_raw_socket : Bool} {r : IpRepr} {H new : Host} {payload : List ℕ} {reply : Option Reply}
    {notes : List Note} (ports : UdpRepr) (octets : List ℕ) →
    ProcessesUdp handled_by_raw_socket r H payload reply notes new → IsDatagram H r payload → udp_in payload ≡ (ports, octets) →
    NoneAccepts (accepts H.ip_addrs r ports) H.sockets.places →
    WasRefused handled_by_raw_socket r payload H reply new
udp_refused ports octets (udp.Malformed m d) is values nobody = absurd (m is)
udp_refused {r = r} {H = H} {payload = payload} ports octets (udp.Delivered places d f rep n e) is values nobody =
    let refused = nobody f.index f.place f.first.is_there in
    absurd (clash f.first.accepts (ap (λ v. accepts H.ip_addrs r v.0 f.place) values ∙ refused))
udp_refused ports octets (udp.NotAccepted d none rep n e) is values nobody = record { replies = rep; host_is = e }

pub ports_told : ClosedPortsAreAnswered
ports_told t old new told own frame r ports octets h w itself d nobody not_accepted reach fits =
    let k = v4_of own w d.in_packet.taken d.in_packet.is_packet in
    let H : Host = without_expired old t in
    let source : HardwareAddress = k.source in
    let mid : Host = met source r d.payload H in
    let error : Packet = packet.Ipv4 (record {
      src_addr = r.dst_addr;
      dst_addr = r.src_addr;
      hop_limit = 64;
      payload = Icmpv4 (DstUnreachable PortUnreachable r) (take 528 d.payload);
    }) in
    let any = packet_served k d.in_packet in
    let message : ProcessesUdp (raw.is_taken (repr.Ipv4 r) H) (repr.Ipv4 r) mid d.payload k.reply k.notes k.taken =
    subst (λ q. ProcessesProtocol q (raw.is_taken (repr.Ipv4 r) H) r mid d.payload k.reply k.notes k.taken) d.protocol_is any in
    let heard : Storage →
    Storage = to_this (raw.takes (repr.Ipv4 r)) (raw.storage_after_delivery (is_tx old.capabilities.checksum.ipv4) (repr.Ipv4 r) d.payload) in
    let none : NoneAccepts (accepts old.ip_addrs (repr.Ipv4 r) ports) mid.sockets.places =
    none_still (accepts old.ip_addrs (repr.Ipv4 r) ports) heard (raw_apart old.ip_addrs (repr.Ipv4 r)
    (repr.Ipv4 r) ports (is_tx old.capabilities.checksum.ipv4) d.payload) old.sockets.places (none_accepts old r ports nobody) in
    let was = udp_refused ports octets message d.is_datagram d.values none in
    let replies : k.reply ≡ Some (Ip error) = was.replies ∙ ap (λ b. port_unreachable b old.ip_addrs (repr.Ipv4 r) d.payload) not_accepted
    ∙ rw (d.in_packet.sender, d.in_packet.receiver) refl in
    let one = one_of old.ip_addrs r.src_addr d.in_packet.sender in
    let there_it : Responds (Some (Ip error)) k.taken k.frames k.more new = subst (λ x. Responds x k.taken k.frames k.more new) replies k.responds in
    let went : Responds (Some (Ip error)) mid k.frames k.more new =
    subst (λ K. Responds (Some (Ip error)) K k.frames k.more new) was.host_is there_it in
    let way : HasWay own mid (Ipv4 r.src_addr) h = way_by {H = at old t} own (λ near. reached_still {H = H} source r d.payload
    (record { hop = near.hop; next = hop_as {H = at old t} {K = H} refl refl refl near.next; known = near.known })) reach in
    let few : length (take 528 d.payload) ≤ 528 = take_few 528 d.payload in
    let short : 20 + (28 + length (take 528 d.payload)) ≤ ip_mtu_of old.capabilities = omega (arith, fits, few) in
    let gone = goes_whole {p = error} own h went.1 w.on_medium one.specified one.not_multicast way short in
    k.sends_them ∙ gone.frames_are
