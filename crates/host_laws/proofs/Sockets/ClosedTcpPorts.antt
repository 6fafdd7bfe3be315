-- A segment to a port at which no socket is gets its reset.
use Rattle.std.proofs.Common.{◌≡◌, ◌≢◌, ℕ, ◌≤◌, ◌/◌, ◌%◌, Bool, true, false, List, [], ◌∷◌, refl, sym, ◌∙◌, ap, subst, Option, Some, None, arith, length}
use Rattle.std.specs.Prelude.{ℤ, ◌==◌, ◌&&◌, ◌||◌, slice_index}
use Rattle.std.specs.List.{AllByRecursion, list_any}
use Rattle.std.specs.Option.{option_map}
use Rattle.std.proofs.lemmas.Bool.Decides.{Decides-eqb}
use Rattle.net_base.specs.Checksum.{ip_mtu_of, is_tx}
use Rattle.net_base.specs.Device.{Event}
use Rattle.ip_wire.specs.Octets.{u16_at}
use Rattle.ip_address.specs.Protocol.{number_of}
use Rattle.ip_address.specs.declared.hardware.HardwareAddress.{HardwareAddress}
use Rattle.ip_address.specs.declared.ip.IpAddress.TheVariants.{Ipv4, Ipv6}
use Rattle.ip_address.specs.declared.protocol.IpProtocol.{IpProtocol}
use Rattle.ip_address.specs.declared.protocol.IpProtocol.TheVariants as ip_protocol
use Rattle.ip_address.specs.declared.protocol.IpVersion.{IpVersion}
use Rattle.ip_address.specs.declared.protocol.IpVersion.TheVariants as version
use Rattle.ip_wire.specs.declared.ip_packet.IpRepr.{IpRepr}
use Rattle.ip_wire.specs.declared.ip_packet.IpRepr.TheVariants as repr
use Rattle.ip_wire.specs.declared.tcp.TcpRepr.{TcpRepr}
use Rattle.ip_wire.specs.Tcp.{tcp_in}
use Rattle.iface_tables.specs.Neighbor.{answer_of}
use Rattle.sockets.specs.Raw as raw_socket
use Rattle.sockets.specs.declared.socket.SocketOf.TheVariants.{Raw, Icmp, Udp, Tcp}
use Rattle.sockets.specs.Tcp.{TcpSocket, reset_of}
use Rattle.host_machine.specs.Context.Note.{Note}
use Rattle.host_machine.specs.Context.Host.{Host, Storage, at, without_expired}
use Rattle.host_machine.specs.Context.Addresses.{is_for_host}
use Rattle.host_machine.specs.Sockets.Delivery.{NoneAccepts, to_this}
use Rattle.host_machine.specs.Receive.Ipv4.{ProcessesProtocol}
use Rattle.host_machine.specs.Sockets.Raw as raw
use Rattle.host_machine.specs.Receive.Reply.{Reply, Ip}
use Rattle.host_machine.specs.Receive.Response.{Responds}
use Rattle.host_machine.specs.Sockets.Tcp.{ProcessesTcp, IsSegment, accepts, reset_for, segment_back}
use Rattle.host_machine.specs.Sockets.Tcp as tcp
use Rattle.host_machine.specs.Packet.Frame.{ip_frame}
use Rattle.host_machine.specs.Packet.Packet.{Packet}
use Rattle.host_machine.specs.Packet.Packet as packet
use Rattle.host_laws.specs.Laws.Resets.{ClosedTcpPortsAreReset, IsToClosedPort, ResetsClosedPorts, ResetsClosedPortsV6}
use Rattle.host_laws.specs.Laws.Restraint.Replies.{IsNoRawFor}
use Rattle.host_laws.specs.Laws.Service.{HasWay}
use Rattle.host_laws.proofs.Sockets.DatagramDelivery.{none_still}
use Rattle.host_laws.proofs.Receive.FrameReplies.{clash, goes_whole, hop_as, met, one_of, packet_served, reached_still, v4_of, v6_of, way_by}
use Rattle.host_laws.proofs.Receive.FrameRepliesV6.{apart as apart6, met as met6, met_apart, met_found, payload_served}
use Rattle.host_laws.proofs.Sockets.ResetNumbers.{is_answered, no_reset_by, reset_is}
use Rattle.host_laws.proofs.Sockets.SocketDelivery.{raw_apart}
use Rattle.host_laws.proofs.Interface.GrantedEgress.{unicast_for}

-- no raw socket takes a packet
different : (v w : IpVersion) → (v ≡ w → ⊥) → raw_socket.is_same_version v w ≡ false
different version.Ipv4 version.Ipv4 other = absurd (other refl)
different version.Ipv4 version.Ipv6 other = refl
different version.Ipv6 version.Ipv4 other = refl
different version.Ipv6 version.Ipv6 other = absurd (other refl)

other_number : (m n : ℕ) → m ≢ n → (m == n) ≡ false
other_number m n ne = by (m == n) refl where
  by : (b : Bool) → (m == n) ≡ b → (m == n) ≡ false
  by true e = absurd (ne ((Decides-eqb m n).0 e))
  by false e = e

not_both : (x y : Bool) → (x ≡ true → y ≡ false) → (x && y) ≡ false
not_both true y f = f refl
not_both false y f = refl

version_by : (v w : IpVersion) → raw_socket.is_same_version v w ≡ true → v ≡ w
version_by version.Ipv4 version.Ipv4 e = refl
version_by version.Ipv4 version.Ipv6 e = absurd cc
version_by version.Ipv6 version.Ipv4 e = absurd cc
version_by version.Ipv6 version.Ipv6 e = refl

neither : (x y : Bool) → x ≡ false → y ≡ false → (x || y) ≡ false
neither false false e f = refl
neither false true e f = absurd cc
neither true y e f = absurd cc

pub untaken_by : (v : IpVersion) (p : IpProtocol) (places : List Storage) → AllByRecursion (IsNoRawFor v p) places →
    list_any (raw.accepts v p) places ≡ false
untaken_by v p [] all = refl
untaken_by v p (None ∷ places) all = untaken_by v p places all.1
untaken_by v p (Some (Raw s) ∷ places) all =
    neither (raw_socket.accepts s v p) (list_any (raw.accepts v p) places)
    (not_both (raw_socket.is_same_version s.version v) (number_of s.protocol == number_of p)
    (λ e. other_number (number_of s.protocol) (number_of p) (all.0 (version_by s.version v e))))
    (untaken_by v p places all.1)
untaken_by v p (Some (Icmp s) ∷ places) all = untaken_by v p places all.1
untaken_by v p (Some (Udp s) ∷ places) all = untaken_by v p places all.1
untaken_by v p (Some (Tcp s) ∷ places) all = untaken_by v p places all.1

-- no TCP socket hears a segment to a closed port
deaf : (r : IpRepr) (segment : List ℕ) (p : Storage) → ((s : TcpSocket) → p ≡ Some (Tcp s) → s.local.port ≢ u16_at segment 2) →
    accepts r (tcp_in segment).0 p ≡ false
deaf r segment None other = refl
deaf r segment (Some (Raw s)) other = refl
deaf r segment (Some (Icmp s)) other = refl
deaf r segment (Some (Udp s)) other = refl
deaf r segment (Some (Tcp s)) other = rw (other_number s.local.port (u16_at segment 2) (other s refl)) refl

none_accepts : (H : Host) (r : IpRepr) (segment : List ℕ) → IsToClosedPort H segment →
    NoneAccepts (accepts r (tcp_in segment).0) H.sockets.places
none_accepts H r segment closed k other is = deaf r segment other (λ s e. closed k s (is ∙ ap (λ p. Some p) e))

record WasReset (r : IpRepr) (segment : List ℕ) (H : Host) (reply : Option Reply) (new : Host) : Type 0 where
  replies : reply ≡ Some (Ip (packet.sent_back r (packet.Tcp (reset_of (tcp_in segment).0 (length (tcp_in segment).1)) [])))
  host_is : new ≡ H

was_reset : {b : Bool} {r : IpRepr} {H new : Host} {segment : List ℕ} {reply : Option Reply} {notes : List Note} →
    ProcessesTcp b r H segment reply notes new → tcp.is_between_unspecified r ≡ false → IsSegment H r segment →
    slice_index segment 13 / 4 % 2 ≡ 0 → b ≡ false → NoneAccepts (accepts r (tcp_in segment).0) H.sockets.places →
    WasReset r segment H reply new
was_reset (tcp.BetweenUnspecified u d) known is no_reset untaken none = absurd (clash u known)
was_reset (tcp.Malformed u m d) known is no_reset untaken none = absurd (m is)
was_reset {r = r} {segment = segment} (tcp.Delivered index place u i f e n same) known is no_reset untaken none =
    absurd (clash f.accepts (none index place f.is_there))
was_reset {b} {r} {segment = segment} (tcp.NotAccepted u i nobody e n same) known is no_reset untaken none =
    let answers = is_answered (tcp_in segment).0.control (tcp_in segment).0 (length (tcp_in segment).1)
    (no_reset_by (slice_index segment 13) no_reset) in
    record {
      replies = e ∙ ap (λ x. option_map (segment_back r) (reset_for x (tcp_in segment).0 (tcp_in segment).1)) untaken
          ∙ ap (option_map (segment_back r)) answers;
      host_is = same;
    }

-- over IPv4
reset_v4 : (t : ℤ) (old new : Host) (told : List Event) → ResetsClosedPorts t old told new
reset_v4 t old new told own frame r header octets h w itself d no_reset closed untaken reach fits =
    let k = v4_of own w d.in_packet.taken d.in_packet.is_packet in
    let H : Host = without_expired old t in
    let source : HardwareAddress = k.source in
    let mid : Host = met source r d.payload H in
    let reset : TcpRepr = reset_of (tcp_in d.payload).0 (length (tcp_in d.payload).1) in
    let answer : Packet =
    packet.Ipv4 (record { src_addr = r.dst_addr; dst_addr = r.src_addr; hop_limit = 64; payload = packet.Tcp reset [] }) in
    let any = packet_served k d.in_packet in
    let message : ProcessesTcp (raw.is_taken (repr.Ipv4 r) H) (repr.Ipv4 r) mid d.payload k.reply k.notes k.taken =
    subst (λ q. ProcessesProtocol q (raw.is_taken (repr.Ipv4 r) H) r mid d.payload k.reply k.notes k.taken) d.protocol_is any in
    let one = one_of old.ip_addrs r.src_addr d.in_packet.sender in
    let known : tcp.is_between_unspecified (repr.Ipv4 r) ≡ false =
    rw (one.specified, (one_of old.ip_addrs r.dst_addr d.in_packet.receiver).specified) refl in
    let heard : Storage →
    Storage = to_this (raw.takes (repr.Ipv4 r)) (raw.storage_after_delivery (is_tx old.capabilities.checksum.ipv4) (repr.Ipv4 r) d.payload) in
    let none : NoneAccepts (accepts (repr.Ipv4 r) (tcp_in d.payload).0) mid.sockets.places =
    none_still (accepts (repr.Ipv4 r) (tcp_in d.payload).0) heard
    (raw_apart (repr.Ipv4 r) (repr.Ipv4 r) (tcp_in d.payload).0 (is_tx old.capabilities.checksum.ipv4) d.payload) old.sockets.places
    (none_accepts old (repr.Ipv4 r) d.payload closed) in
    let was = was_reset message known d.is_segment no_reset (untaken_by version.Ipv4 r.next_header old.sockets.places untaken) none in
    let replies : k.reply ≡ Some (Ip answer) = was.replies in
    let there_it : Responds (Some (Ip answer)) k.taken k.frames k.more new = subst (λ x. Responds x k.taken k.frames k.more new) replies k.responds in
    let went : Responds (Some (Ip answer)) mid k.frames k.more new =
    subst (λ K. Responds (Some (Ip answer)) K k.frames k.more new) was.host_is there_it in
    let way : HasWay own mid (Ipv4 r.src_addr) h = way_by {H = at old t} own (λ near. reached_still {H = H} source r d.payload
    (record { hop = near.hop; next = hop_as {H = at old t} {K = H} refl refl refl near.next; known = near.known })) reach in
    let gone = goes_whole {p = answer} own h went.1 w.on_medium one.specified one.not_multicast way fits in
    (reset, reset_is d.payload d.is_segment.flags, k.sends_them ∙ gone.frames_are)

-- over IPv6
reset_v6 : (t : ℤ) (old new : Host) (told : List Event) → ResetsClosedPortsV6 t old told new
reset_v6 t old new told own frame r header octets h w itself d no_reset closed untaken reach fits =
    let k = v6_of own w d.in_packet.packet.taken d.in_packet.packet.is_packet in
    let H : Host = without_expired old t in
    let source : HardwareAddress = k.source in
    let mid : Host = met6 source r d.payload H in
    let raws : Host = raw.host_after_raw_delivery (repr.Ipv6 r) d.payload H in
    let same : apart6 mid old.neighbors ≡ apart6 raws old.neighbors = met_apart source r d.payload H old.neighbors in
    let reset : TcpRepr = reset_of (tcp_in d.payload).0 (length (tcp_in d.payload).1) in
    let answer : Packet =
    packet.Ipv6 (record { src_addr = r.dst_addr; dst_addr = r.src_addr; hop_limit = 64; payload = packet.Tcp reset [] }) in
    let for_us : is_for_host H (Ipv6 r.dst_addr) ≡ true = rw d.given refl in
    let message : ProcessesTcp (raw.is_taken (repr.Ipv6 r) H) (repr.Ipv6 r) mid d.payload k.reply k.notes k.taken =
    payload_served ip_protocol.Tcp k d.in_packet (λ bad. omega (arith, bad)) for_us in
    let one = unicast_for old.ip_addrs (Ipv6 r.src_addr) d.in_packet.packet.sender in
    let known : tcp.is_between_unspecified (repr.Ipv6 r) ≡ false =
    rw (one.specified, (unicast_for old.ip_addrs (Ipv6 r.dst_addr) d.receiver).specified) refl in
    let heard : Storage →
    Storage = to_this (raw.takes (repr.Ipv6 r)) (raw.storage_after_delivery (is_tx old.capabilities.checksum.ipv4) (repr.Ipv6 r) d.payload) in
    let none_raw : NoneAccepts (accepts (repr.Ipv6 r) (tcp_in d.payload).0) raws.sockets.places =
    none_still (accepts (repr.Ipv6 r) (tcp_in d.payload).0) heard
    (raw_apart (repr.Ipv6 r) (repr.Ipv6 r) (tcp_in d.payload).0 (is_tx old.capabilities.checksum.ipv4) d.payload) old.sockets.places
    (none_accepts old (repr.Ipv6 r) d.payload closed) in
    let none : NoneAccepts (accepts (repr.Ipv6 r) (tcp_in d.payload).0) mid.sockets.places =
    subst (λ (K : Host). NoneAccepts (accepts (repr.Ipv6 r) (tcp_in d.payload).0) K.sockets.places) (sym same) none_raw in
    let segment_is : IsSegment mid (repr.Ipv6 r) d.payload =
    subst (λ (K : Host). IsSegment K (repr.Ipv6 r) d.payload) (sym same) d.is_segment in
    let was = was_reset message known segment_is no_reset (untaken_by version.Ipv6 r.next_header old.sockets.places untaken) none in
    let replies : k.reply ≡ Some (Ip answer) = was.replies in
    let there_it : Responds (Some (Ip answer)) k.taken k.frames k.more new = subst (λ x. Responds x k.taken k.frames k.more new) replies k.responds in
    let went : Responds (Some (Ip answer)) mid k.frames k.more new =
    subst (λ K. Responds (Some (Ip answer)) K k.frames k.more new) was.host_is there_it in
    let addrs : mid.ip_addrs ≡ old.ip_addrs = ap (λ (K : Host). K.ip_addrs) same in
    let moment : mid.moment ≡ t = ap (λ (x : Host). x.moment) same in
    let way : HasWay own mid (Ipv6 r.src_addr) h = way_by {H = at old t} own (λ near. record {
      hop = near.hop;
      next = hop_as {H = at old t} {K = mid} addrs (ap (λ (x : Host). x.routes) same) moment near.next;
      known = ap (λ m. answer_of mid.neighbors near.hop m) moment ∙ met_found source r d.payload H near.hop h near.known;
    }) reach in
    let capabilities : mid.capabilities ≡ old.capabilities = ap (λ (K : Host). K.capabilities) same in
    let short : 60 ≤ ip_mtu_of mid.capabilities = subst (λ c. 60 ≤ ip_mtu_of c) (sym capabilities) fits in
    let gone =
    goes_whole {p = answer} own h went.1 (ap (λ (x : Host). x.hardware_addr) same ∙ w.on_medium) one.specified one.not_multicast way short in
    (reset, reset_is d.payload d.is_segment.flags, k.sends_them ∙ gone.frames_are ∙ ap (λ (x : Host). ip_frame x h answer ∷ []) same)

pub ports_reset : ClosedTcpPortsAreReset
ports_reset t old new told = (reset_v4 t old new told, reset_v6 t old new told)
