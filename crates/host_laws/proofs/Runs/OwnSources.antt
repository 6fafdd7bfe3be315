-- The source of each packet that a host sends is its own.
use Rattle.std.proofs.Common.{◌≡◌, ◌≢◌, ◌⊎◌, ℕ, ◌/◌, ◌^◌, Bool, true, false, List, [], ◌∷◌, ◌++◌, length, refl, sym, ◌∙◌, ap, subst, inl, inr, Option, Some, None}
use Rattle.std.specs.Prelude.{ℤ, cond, if◌then◌else◌}
use Rattle.std.specs.List.{AllByRecursion}
use Rattle.std.specs.Option.{option_map, option_and_then}
use Rattle.std.proofs.lemmas.Bool.Decides.{Decides-eqb}
use Rattle.std.proofs.lemmas.Option.{option_and_then_some}
use Rattle.net_base.specs.Device.{Event}
use Rattle.ip_address.specs.Ipv6.{is_link_local}
use Rattle.ip_address.specs.declared.cidr.IpCidr.{IpCidr}
use Rattle.ip_address.specs.declared.cidr.IpCidr.TheVariants as cidr
use Rattle.ip_address.specs.declared.cidr.Ipv6Cidr.{Ipv6Cidr}
use Rattle.ip_address.specs.declared.hardware.HardwareAddress.{HardwareAddress}
use Rattle.ip_address.specs.declared.hardware.HardwareAddress.TheVariants as hardware
use Rattle.ip_address.specs.declared.ip.IpAddress.{IpAddress}
use Rattle.ip_address.specs.declared.ip.IpAddress.TheVariants.{Ipv4, Ipv6}
use Rattle.ip_address.specs.declared.ipv4.Ipv4Address.{Ipv4Address}
use Rattle.ip_address.specs.declared.ipv6.Ipv6Address.{Ipv6Address}
use Rattle.ip_address.specs.declared.protocol.IpProtocol.{IpProtocol}
use Rattle.ip_address.specs.declared.protocol.IpVersion.{IpVersion}
use Rattle.control_wire.specs.declared.igmp.IgmpRepr.{IgmpRepr}
use Rattle.control_wire.specs.declared.igmp.IgmpRepr.TheVariants.{LeaveGroup, MembershipReport}
use Rattle.control_wire.specs.declared.igmp.IgmpVersion.TheVariants.{Version2}
use Rattle.control_wire.specs.declared.mld.MldRecordType.{MldRecordType}
use Rattle.control_wire.specs.declared.mld.MldRecordType.TheVariants.{ChangeToExclude, ChangeToInclude, ModeIsExclude}
use Rattle.ip_wire.specs.declared.ipv4_packet.Ipv4Repr.{Ipv4Repr}
use Rattle.ip_wire.specs.Ipv4Packet.{ipv4_in}
use Rattle.sockets.specs.Queue.{first_of}
use Rattle.sockets.specs.Source.{of_family}
use Rattle.sockets.specs.Source as source
use Rattle.sockets.specs.Icmp as icmp
use Rattle.sockets.specs.Tcp as tcp
use Rattle.sockets.specs.Udp as udp
use Rattle.sockets.specs.Kinds.{Offered, IcmpOffer, TcpOffer, UdpOffer, offered_packet}
use Rattle.sockets.specs.declared.socket.SocketOf.TheVariants.{Raw, Icmp, Udp, Tcp}
use Rattle.host_machine.specs.Context.Note.{Note}
use Rattle.host_machine.specs.Context.Host.{Host, Socket, without_expired}
use Rattle.host_machine.specs.Context.Addresses.{ipv4_addr, link_local_addr, source_for}
use Rattle.host_machine.specs.Receive.Reply.{Reply, Arp, Ip}
use Rattle.host_machine.specs.Send.Dispatch.{destination_of}
use Rattle.host_machine.specs.Sockets.Icmp.{echo_payload}
use Rattle.host_machine.specs.Sockets.Offers.{packet_between, packet_from, packet_of}
use Rattle.host_machine.specs.Multicast.Igmp.{all_routers, igmp_packet}
use Rattle.host_machine.specs.Multicast.Joins.{join_packet, leave_packet}
use Rattle.host_machine.specs.Multicast.Mld.{mld_report, mld_routers, or_unspecified, records_of}
use Rattle.host_machine.specs.Packet.Packet.{IpPayload, Packet}
use Rattle.host_machine.specs.Packet.Packet as packet
use Rattle.host_machine.specs.Discovery.RouterSolicitation.{due_solicitation, router_solicitation, solicitation_by, solicitation_from}
use Rattle.iface_tables.specs.Slaac.{rs_required}
use Rattle.host_laws.specs.Laws.Restraint.Chosen.{IsChosenFor, Given}
use Rattle.host_laws.specs.Laws.Restraint.Neighbors.{IsOwn}
use Rattle.host_laws.specs.Laws.Restraint.Readings.{Receives}
use Rattle.host_laws.specs.Laws.Restraint.Replies.{BringsSegment, BringsV4, GoesBack}
use Rattle.host_laws.specs.Laws.Restraint.Replies as replies
use Rattle.host_laws.specs.Laws.Restraint.SentFrames.{IsOfPacket, IsOfSocket, SendsInOrder}
use Rattle.host_laws.specs.Laws.Restraint.Sources.{IsBoundTo, IsFromNobody, IsFromOwn, IsReceiver, IsReplyFrom, RepliesFromOwn}
use Rattle.host_laws.specs.Laws.Restraint.Sources.{SourcesAreOwn, source_of}
use Rattle.host_laws.specs.Laws.Restraint.Sources as law
use Rattle.host_laws.proofs.Receive.ReplyLaws.{own_before, reply_origin}
use Rattle.host_laws.proofs.Receive.ReplyOrigins.{Origin, Silent, ByArp, ByAdvertisement, ByEcho, ByError}
use Rattle.host_laws.proofs.Receive.ReplyOrigins.{ByEchoV6, ByErrorV6, BySegment}
use Rattle.host_laws.proofs.Runs.FramesOfCalls.{sends_in_order}
use Rattle.host_laws.proofs.Context.ChosenSources.{chosen_for, first_assigned, link_local_assigned}

-- Lists

joined : (P : List ℕ → Type 0) (xs ys : List (List ℕ)) → AllByRecursion P xs → AllByRecursion P ys → AllByRecursion P (xs ++ ys)
joined P [] ys all more = more
joined P (x ∷ xs) ys all more = (all.0, joined P xs ys all.1 more)

each : (P Q : List ℕ → Type 0) (xs : List (List ℕ)) → ((x : List ℕ) → P x → Q x) → AllByRecursion P xs → AllByRecursion Q xs
each P Q [] f all = tt
each P Q (x ∷ xs) f all = (f x all.0, each P Q xs f all.1)

-- Packets that the interface sends for itself

abbrev FromItself : List IpCidr → Packet → Type 0
FromItself own p = IsChosenFor own (destination_of p) (source_of p) ⊎ IsFromNobody own p

itself : {H : Host} {frame : List ℕ} (p : Packet) → IsOfPacket H p frame → FromItself H.ip_addrs p → IsFromOwn H frame
itself p sent (inl chosen) = law.Chosen p sent chosen
itself p sent (inr nobody) = law.FromNobody p sent nobody

router_source : (H : Host) (p : Packet) → due_solicitation H ≡ Some p → IsChosenFor H.ip_addrs (destination_of p) (source_of p)
router_source H p e = by (rs_required H.slaac H.moment) e where
  by_address : (h : HardwareAddress) → solicitation_by h H.ip_addrs ≡ Some p → IsChosenFor H.ip_addrs (destination_of p) (source_of p)
  by_address hardware.Ip q = absurd cc
  by_address (hardware.Ethernet own) q = by_source (link_local_addr H.ip_addrs) refl q where
    by_source : (o : Option Ipv6Address) → link_local_addr H.ip_addrs ≡ o →
        option_and_then (λ s. Some (solicitation_from own s)) o ≡ Some p → IsChosenFor H.ip_addrs (destination_of p) (source_of p)
    by_source None f x = absurd cc
    by_source (Some a) f x =
        let same : solicitation_from own a ≡ p = cc in
        subst (λ z. IsChosenFor H.ip_addrs (destination_of z) (source_of z)) same (Given (link_local_assigned H.ip_addrs a f))

  by_enabled : (b : Bool) → (if b then solicitation_by H.hardware_addr H.ip_addrs else None) ≡ Some p →
      IsChosenFor H.ip_addrs (destination_of p) (source_of p)
  by_enabled true q = by_address H.hardware_addr q
  by_enabled false q = absurd cc

  by : (b : Bool) → (if b then router_solicitation H else None) ≡ Some p → IsChosenFor H.ip_addrs (destination_of p) (source_of p)
  by true q = by_enabled H.slaac_enabled q
  by false q = absurd cc

igmp_source : (own : List IpCidr) (dst : Ipv4Address) (message : IgmpRepr) (p : Packet) → igmp_packet own dst message ≡ Some p → FromItself own p
igmp_source own dst message p e = by (ipv4_addr own) refl e where
  by : (o : Option Ipv4Address) → ipv4_addr own ≡ o →
      option_map (λ src. packet.Ipv4 (record { src_addr = src; dst_addr = dst; hop_limit = 1; payload = packet.Igmp message })) o ≡ Some p → FromItself own p
  by None f q = absurd cc
  by (Some a) f q =
      let same : packet.Ipv4 (record { src_addr = a; dst_addr = dst; hop_limit = 1; payload = packet.Igmp message }) ≡ p = cc in
      subst (FromItself own) same (inl (Given (first_assigned own a f)))

no_link_local : (own : List IpCidr) → link_local_addr own ≡ None →
    AllByRecursion (λ c. (n : Ipv6Cidr) → c ≡ cidr.Ipv6 n → n.address.bits / 2 ^ 118 ≢ 0x3fa) own
no_link_local [] e = tt
no_link_local (cidr.Ipv4 n ∷ own) e = ((λ m q. absurd cc), no_link_local own e)
no_link_local (cidr.Ipv6 n ∷ own) e = by (is_link_local n.address) refl (no_link_local own) e where
  by : (b : Bool) → is_link_local n.address ≡ b → (link_local_addr own ≡ None →
      AllByRecursion (λ c. (n : Ipv6Cidr) → c ≡ cidr.Ipv6 n → n.address.bits / 2 ^ 118 ≢ 0x3fa) own) →
      (if b then Some n.address else link_local_addr own) ≡ None →
      AllByRecursion (λ c. (n : Ipv6Cidr) → c ≡ cidr.Ipv6 n → n.address.bits / 2 ^ 118 ≢ 0x3fa) (cidr.Ipv6 n ∷ own)
  by true f rest q = absurd cc
  by false f rest q = (
    (λ m same is.
        let one : n ≡ m = cc in
        let bad : is_link_local n.address ≡ true =
        (Decides-eqb (n.address.bits / 2 ^ 118) 0x3fa).1 (ap (λ (x : Ipv6Cidr). x.address.bits / 2 ^ 118) one ∙ is) in cc),
    rest q,
  )

mld_source : (own : List IpCidr) (type : MldRecordType) (groups : List Ipv6Address) → FromItself own (mld_report own type groups)
mld_source own type groups = by (link_local_addr own) refl where
  by : (o : Option Ipv6Address) → link_local_addr own ≡ o → FromItself own (packet.Ipv6 (record {
    src_addr = or_unspecified o;
    dst_addr = mld_routers;
    hop_limit = 1;
    payload = packet.Mld (length groups) (records_of type groups);
  }))
  by None f = inr (record { count = length groups; records = records_of type groups; is_report = refl; unspecified = refl; no_link_local = no_link_local own f })
  by (Some a) f = inl (Given (link_local_assigned own a f))

join_source : (own : List IpCidr) (group : IpAddress) (p : Packet) → join_packet own group ≡ Some p → FromItself own p
join_source own (Ipv4 a) p e = igmp_source own a (MembershipReport a Version2) p e
join_source own (Ipv6 a) p e =
    let same : mld_report own ChangeToExclude (a ∷ []) ≡ p = cc in subst (FromItself own) same (mld_source own ChangeToExclude (a ∷ []))

leave_source : (own : List IpCidr) (group : IpAddress) (p : Packet) → leave_packet own group ≡ Some p → FromItself own p
leave_source own (Ipv4 a) p e = igmp_source own all_routers (LeaveGroup a) p e
leave_source own (Ipv6 a) p e =
    let same : mld_report own ChangeToInclude (a ∷ []) ≡ p = cc in subst (FromItself own) same (mld_source own ChangeToInclude (a ∷ []))

-- Packets of sockets

map_some : {A B P : Type 0} (f : A → B) (o : Option A) (y : B) → option_map f o ≡ Some y → ((x : A) → o ≡ Some x → f x ≡ y → P) → P
map_some f None y e use_it = absurd cc
map_some f (Some x) y e use_it = let same : f x ≡ y = cc in use_it x refl same

-- a packet between two addresses is so
record IsOfTwo (src dst : IpAddress) (p : Packet) : Type 0 where
  from : source_of p ≡ src
  to : destination_of p ≡ dst

between : (src dst : IpAddress) (hop_limit : ℕ) (payload : IpPayload) (p : Packet) → packet_between src dst hop_limit payload ≡ Some p → IsOfTwo src dst p
between (Ipv4 src) (Ipv4 dst) hop_limit payload p e =
    let same : packet.Ipv4 (record { src_addr = src; dst_addr = dst; hop_limit = hop_limit; payload = payload }) ≡ p = cc in
    subst (IsOfTwo (Ipv4 src) (Ipv4 dst)) same (record { from = refl; to = refl })
between (Ipv4 src) (Ipv6 dst) hop_limit payload p e = absurd cc
between (Ipv6 src) (Ipv4 dst) hop_limit payload p e = absurd cc
between (Ipv6 src) (Ipv6 dst) hop_limit payload p e =
    let same : packet.Ipv6 (record { src_addr = src; dst_addr = dst; hop_limit = hop_limit; payload = payload }) ≡ p = cc in
    subst (IsOfTwo (Ipv6 src) (Ipv6 dst)) same (record { from = refl; to = refl })

family_is : (peer a b : IpAddress) → of_family peer a ≡ Some b → a ≡ b
family_is (Ipv4 p) (Ipv4 a) b e = cc
family_is (Ipv4 p) (Ipv6 a) b e = absurd cc
family_is (Ipv6 p) (Ipv4 a) b e = absurd cc
family_is (Ipv6 p) (Ipv6 a) b e = cc

-- the source of a packet to a peer, with a given address or without one
given_or_chosen : (own : List IpCidr) (given : Option IpAddress) (peer a : IpAddress) → source.source_of (source_for own) given peer ≡ Some a →
    (given ≡ Some a) ⊎ IsChosenFor own peer a
given_or_chosen own (Some g) peer a e = inl (ap Some (family_is peer g a e))
given_or_chosen own None peer a e = inr (option_and_then_some (of_family peer) (source_for own peer) a e
    (λ b is f. chosen_for own peer a (is ∙ ap Some (family_is peer b a f))))

abbrev HasSource : Host → Socket → Packet → Type 0
HasSource H s p = IsBoundTo s (source_of p) ⊎ IsChosenFor H.ip_addrs (destination_of p) (source_of p)

by_offer : (H : Host) (s : Socket) (p : Packet) (P : Type 0) → packet_from H s ≡ Some p →
    ((offer : Offered) → offered_packet H.moment (source_for H.ip_addrs) s ≡ Some offer → packet_of offer ≡ Some p → P) → P
by_offer H s p P e use_it = option_and_then_some packet_of (offered_packet H.moment (source_for H.ip_addrs) s) p e use_it

socket_source : (H : Host) (s : Socket) (p : Packet) → packet_from H s ≡ Some p → HasSource H s p
socket_source H (Raw s) p e = inl tt
socket_source H (Icmp s) p e = by_offer H (Icmp s) p (HasSource H (Icmp s) p) e (λ offer is made.
    map_some IcmpOffer (icmp.offered_packet (source_for H.ip_addrs) s) offer is (λ m there same. by m there (subst (λ o. packet_of o ≡ Some p) (sym same) made))) where
      by : (m : icmp.Sent) → icmp.offered_packet (source_for H.ip_addrs) s ≡ Some m → packet_of (IcmpOffer m) ≡ Some p → HasSource H (Icmp s) p
      by m there made = option_and_then_some (icmp.sent_if (source_for H.ip_addrs) s) (first_of s.tx.packets) m there (λ q first sends.
          option_and_then_some (λ x. option_map (icmp.packet_to_send s q.0 x) (source.source_of (source_for H.ip_addrs) None q.0))
          (icmp.echo_to q.0 q.1) m sends (λ echo echoes f.
          map_some (icmp.packet_to_send s q.0 echo) (source.source_of (source_for H.ip_addrs) None q.0) m f (λ a from is.
          option_and_then_some (packet_between m.src_addr m.dst_addr m.hop_limit) (echo_payload m.repr m.payload) p made (λ payload carries goes.
          let two = between m.src_addr m.dst_addr m.hop_limit payload p goes in
          let src : source_of p ≡ a = two.from ∙ ap (λ (x : icmp.Sent). x.src_addr) (sym is) in
          let dst : destination_of p ≡ q.0 = two.to ∙ ap (λ (x : icmp.Sent). x.dst_addr) (sym is) in
          chosen a q.0 src dst (given_or_chosen H.ip_addrs None q.0 a from))))) where
            chosen : (a peer : IpAddress) → source_of p ≡ a → destination_of p ≡ peer → (None ≡ Some a) ⊎ IsChosenFor H.ip_addrs peer a → HasSource H (Icmp s) p
            chosen a peer src dst (inl bad) = absurd cc
            chosen a peer src dst (inr c) = inr (rw (src, dst) c)
socket_source H (Udp s) p e = by_offer H (Udp s) p (HasSource H (Udp s) p) e (λ offer is made.
    map_some UdpOffer (udp.offered_packet (source_for H.ip_addrs) s) offer is (λ d there same. by d there (subst (λ o. packet_of o ≡ Some p) (sym same) made))) where
      by : (d : udp.Datagram) → udp.offered_packet (source_for H.ip_addrs) s ≡ Some d → packet_of (UdpOffer d) ≡ Some p → HasSource H (Udp s) p
      by d there made = option_and_then_some (λ x. option_map (udp.datagram s x)
          (source.source_of (source_for H.ip_addrs) s.endpoint.addr x.0.addr)) (first_of s.tx.packets) d there (λ q first f.
          map_some (udp.datagram s q) (source.source_of (source_for H.ip_addrs) s.endpoint.addr q.0.addr) d f (λ a from is.
          let two = between d.src.addr d.dst.addr d.hop_limit (packet.Udp (record { src_port = d.src.port; dst_port = d.dst.port }) d.payload) p made in
          let src : source_of p ≡ a = two.from ∙ ap (λ (x : udp.Datagram). x.src.addr) (sym is) in
          let dst : destination_of p ≡ q.0.addr = two.to ∙ ap (λ (x : udp.Datagram). x.dst.addr) (sym is) in
          either a q.0.addr src dst (given_or_chosen H.ip_addrs s.endpoint.addr q.0.addr a from))) where
            either : (a peer : IpAddress) → source_of p ≡ a → destination_of p ≡ peer → (s.endpoint.addr ≡ Some a) ⊎ IsChosenFor H.ip_addrs peer a →
                HasSource H (Udp s) p
            either a peer src dst (inl g) = inl (g ∙ ap Some (sym src))
            either a peer src dst (inr c) = inr (rw (src, dst) c)
socket_source H (Tcp s) p e = by_offer H (Tcp s) p (HasSource H (Tcp s) p) e (λ offer is made.
    map_some TcpOffer (tcp.offered_packet H.moment (source_for H.ip_addrs) s) offer is (λ d there same.
    by_hold (tcp.is_held H.moment s) d there (subst (λ o. packet_of o ≡ Some p) (sym same) made))) where
      by : (d : tcp.Sent) → tcp.first (source_for H.ip_addrs) s ≡ Some d → packet_of (TcpOffer d) ≡ Some p → HasSource H (Tcp s) p
      by d there made = option_and_then_some (λ x. option_map (tcp.packet_to_send s x)
          (source.source_of (source_for H.ip_addrs) s.local.addr x.0.remote.addr)) (first_of s.tx.packets) d there (λ q first f.
          map_some (tcp.packet_to_send s q) (source.source_of (source_for H.ip_addrs) s.local.addr q.0.remote.addr) d f (λ a from is.
          let two = between d.src_addr d.dst_addr d.hop_limit (packet.Tcp d.repr d.payload) p made in
          let src : source_of p ≡ a = two.from ∙ ap (λ (x : tcp.Sent). x.src_addr) (sym is) in
          let dst : destination_of p ≡ q.0.remote.addr = two.to ∙ ap (λ (x : tcp.Sent). x.dst_addr) (sym is) in
          either a q.0.remote.addr src dst (given_or_chosen H.ip_addrs s.local.addr q.0.remote.addr a from))) where
            either : (a peer : IpAddress) → source_of p ≡ a → destination_of p ≡ peer → (s.local.addr ≡ Some a) ⊎ IsChosenFor H.ip_addrs peer a →
                HasSource H (Tcp s) p
            either a peer src dst (inl g) = inl (g ∙ ap Some (sym src))
            either a peer src dst (inr c) = inr (rw (src, dst) c)

      by_hold : (b : Bool) (d : tcp.Sent) → cond b None (tcp.first (source_for H.ip_addrs) s) ≡ Some d → packet_of (TcpOffer d) ≡ Some p → HasSource H (Tcp s) p
      by_hold true d there made = absurd cc
      by_hold false d there made = by d there made

of_socket : {H : Host} {frame : List ℕ} → IsOfSocket H frame → IsFromOwn H frame
of_socket {H} {frame} o = by (socket_source H o.socket o.packet o.offered) where
  by : HasSource H o.socket o.packet → IsFromOwn H frame
  by (inl given) = law.FromProgram o.place o.socket o.packet o.here o.offered o.sent given
  by (inr chosen) = law.Chosen o.packet o.sent chosen

-- A call that sends
in_order : {H new : Host} {frames : List (List ℕ)} → SendsInOrder H frames new → AllByRecursion (IsFromOwn H) frames
in_order {H} s = subst (AllByRecursion (IsFromOwn H)) (sym s.all)
    (joined (IsFromOwn H) s.fragment _ (each _ _ s.fragment (λ frame x. law.OfPiece x) s.fragment_is)
    (joined (IsFromOwn H) s.solicitation _
    (each _ _ s.solicitation (λ frame x. law.Chosen x.packet x.sent (router_source H x.packet x.due)) s.solicitation_is)
    (joined (IsFromOwn H) s.joins _
    (each _ _ s.joins (λ frame x. itself x.packet x.sent (join_source H.ip_addrs x.group x.packet x.report)) s.joins_are)
    (joined (IsFromOwn H) s.leaves _
    (each _ _ s.leaves (λ frame x. itself x.packet x.sent (leave_source H.ip_addrs x.group x.packet x.report)) s.leaves_are)
    (joined (IsFromOwn H) s.answer _
    (each _ _ s.answer (λ frame x. itself x.packet x.sent (igmp_source H.ip_addrs x.group (MembershipReport x.group x.version) x.packet x.report)) s.answer_is)
    (joined (IsFromOwn H) s.answer_v6 _
    (each _ _ s.answer_v6 (λ frame x. itself (mld_report H.ip_addrs ModeIsExclude x.groups) x.sent (mld_source H.ip_addrs ModeIsExclude x.groups)) s.answer_v6_is)
    (each _ _ s.packets (λ frame x. of_socket x) s.packets_are)))))))

-- A reply

receiver_before : {old : Host} {frame : List ℕ} {a : IpAddress} (t : ℤ) → IsReceiver (without_expired old t) frame a → IsReceiver old frame a
receiver_before t (law.OverIpv4 packet carried e) = law.OverIpv4 packet carried e
receiver_before t (law.OverIpv6 packet carried e) = law.OverIpv6 packet carried e

from_before : {old : Host} {frame : List ℕ} {p : Packet} (t : ℤ) → IsReplyFrom (without_expired old t) frame p → IsReplyFrom old frame p
from_before t (law.FromReceiver at_it host) = law.FromReceiver (receiver_before t at_it) host
from_before t (law.FromChosen chosen) = law.FromChosen chosen
from_before t (law.FromTarget own) = law.FromTarget (own_before t own)
from_before t (law.OfReset header is at_it) = law.OfReset header is (receiver_before t at_it)

-- where a reset goes back from
segment_from : {H : Host} {frame : List ℕ} {q : Packet} (c : (segment : List ℕ) × (v : IpVersion) × (next : IpProtocol) × (sender : ℕ) × (receiver : ℕ)
    × BringsSegment H frame segment v next sender receiver × GoesBack v sender receiver q) → IsReceiver H frame (source_of q)
segment_from {H} {frame} {q} (segment, v, next, sender, receiver, brings, back) = by segment v next sender receiver q brings back where
  same_destination : {packet : List ℕ} {r : Ipv4Repr} {payload : List ℕ} → BringsV4 packet r payload → r.dst_addr ≡ (ipv4_in packet).0.dst_addr
  same_destination (replies.Whole w e p) = ap (λ (x : Ipv4Repr). x.dst_addr) e
  same_destination (replies.Reassembled f e) = ap (λ (x : Ipv4Repr). x.dst_addr) e

  by : (segment : List ℕ) (v : IpVersion) (next : IpProtocol) (sender receiver : ℕ) (q : Packet) →
      BringsSegment H frame segment v next sender receiver → GoesBack v sender receiver q → IsReceiver H frame (source_of q)
  by segment _ _ _ _ (packet.Ipv4 q) (replies.OverIpv4 packet r carried b is) back =
      law.OverIpv4 packet carried (ap (λ n. Ipv4 (record { bits = n })) back.1 ∙ ap Ipv4 (same_destination b))
  by segment _ _ _ _ (packet.Ipv6 q) (replies.OverIpv4 packet r carried b is) back = absurd back
  by segment _ _ _ _ (packet.Ipv4 q) (replies.OverIpv6 packet carried b) back = absurd back
  by segment _ _ _ _ (packet.Ipv6 q) (replies.OverIpv6 packet carried b) back =
      law.OverIpv6 packet carried (ap (λ n. Ipv6 (record { bits = n })) back.1)

same_packet : {p q : Packet} {reply : Option Reply} → reply ≡ Some (Ip p) → reply ≡ Some (Ip q) → p ≡ q
same_packet {p} {q} e f = let both : Some (Ip p) ≡ Some (Ip q) = sym e ∙ f in cc

replied_from : (t : ℤ) (frame : List ℕ) (old new : Host) (told : List Event) (notes : List Note) (w : Receives t frame old told notes new) →
    RepliesFromOwn frame old w.call.response.reply
replied_from t frame old new told notes w p is = from_before t (by (reply_origin w)) where
  by : Origin (without_expired old t) frame w.call.response.reply → IsReplyFrom (without_expired old t) frame p
  by (Silent e) = let bad : None ≡ Some (Ip p) = sym e ∙ is in absurd cc
  by (ByArp mine s here e a) = let bad : Some (Arp s) ≡ Some (Ip p) = sym e ∙ is in absurd cc
  by (ByAdvertisement mine q m here e c a) =
      subst (IsReplyFrom (without_expired old t) frame) (same_packet e is)
      (law.FromTarget (subst (λ x. IsOwn (without_expired old t) (Ipv6 x)) (sym a.from_it) a.own_address))
  by (ByEcho q ident seq_no o e c s answers) = subst (IsReplyFrom (without_expired old t) frame) (same_packet e is) s
  by (ByError q m o e c cause) = subst (IsReplyFrom (without_expired old t) frame) (same_packet e is) (law.FromReceiver
      (law.OverIpv4 cause.packet cause.carried (ap Ipv4 (cause.from_receiver ∙ at_destination cause.brings)))
      (subst (λ a. replies.IsOneHostV4 old.ip_addrs (bits_of a)) (sym cause.from_receiver) cause.receiver)) where
        bits_of : Ipv4Address → ℕ
        bits_of a = a.bits

        at_destination : {packet : List ℕ} {r : Ipv4Repr} {payload : List ℕ} → BringsV4 packet r payload → r.dst_addr ≡ (ipv4_in packet).0.dst_addr
        at_destination (replies.Whole w e p) = ap (λ (x : Ipv4Repr). x.dst_addr) e
        at_destination (replies.Reassembled f e) = ap (λ (x : Ipv4Repr). x.dst_addr) e
  by (ByEchoV6 q ident seq_no o e c s answers) = subst (IsReplyFrom (without_expired old t) frame) (same_packet e is) s
  by (ByErrorV6 q m o e c few cause s) = subst (IsReplyFrom (without_expired old t) frame) (same_packet e is) s
  by (BySegment q header e c cause) = subst (IsReplyFrom (without_expired old t) frame) (same_packet e is) (law.OfReset header c
      (segment_from (cause.segment, cause.of_version, cause.next, cause.sender, cause.receiver, cause.brings, cause.goes_back)))

pub sources_own : SourcesAreOwn
sources_own = record {
  sent = λ t answer old new told notes e. in_order (sends_in_order t answer old new told notes e).frames;
  replied = λ t frame old new told notes w. replied_from t frame old new told notes w;
}
