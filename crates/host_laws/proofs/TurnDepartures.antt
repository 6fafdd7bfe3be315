-- What the turns of sockets do to UDP sockets: what left their transmit queues departed.
use Rattle.std.proofs.Common.{◌≡◌, ◌<◌, ℕ, Bool, List, [], ◌∷◌, refl, sym, ◌∙◌, ap, subst}
use Rattle.std.proofs.Common.{Option, Some, None, Ok, Err, option_map, option_and_then, is_ok}
use Rattle.net_base.specs.Device.{Event, sent_frames}
use Rattle.ip_address.specs.declared.ip.IpAddress.{IpAddress}
use Rattle.ip_address.specs.Ip.{is_unspecified}
use Rattle.sockets.specs.declared.endpoint.IpEndpoint.{IpEndpoint}
use Rattle.sockets.specs.Queue.{Queued, first_of, queue_after_pop}
use Rattle.sockets.specs.Source.{source_of}
use Rattle.sockets.specs.Kinds.{down_udp, offered_packet, UdpOffer}
use Rattle.sockets.specs.Kinds as kinds
use Rattle.sockets.specs.declared.socket.SocketOf.TheVariants.{Raw, Icmp, Udp, Tcp}
use Rattle.sockets.specs.Udp.{UdpSocket, without_first_to_send}
use Rattle.sockets.specs.Udp as udp
use Rattle.host_machine.specs.declared.results.Turn.{Turn}
use Rattle.host_machine.specs.Context.Note.{Note, cut_notes}
use Rattle.host_machine.specs.Context.Host.{Host, Socket}
use Rattle.host_machine.specs.Context.Addresses.{source_for}
use Rattle.net_base.specs.Checksum.{ip_mtu_of}
use Rattle.host_machine.specs.Packet.Packet.{Packet, PacketV4, IsFormed, header_v4, payload_len, total_len, Udp as UdpPayload}
use Rattle.host_machine.specs.Packet.Packet as packet
use Rattle.std.specs.Prelude.{length, ◌+◌, ◌-◌, ◌/◌}
use Rattle.std.specs.List.{AllByRecursion}
use Rattle.std.proofs.Common.{inl, inr, arith}
use Rattle.net_base.specs.Checksum.{is_tx}
use Rattle.net_base.specs.declared.phy.DeviceCapabilities.{DeviceCapabilities}
use Rattle.ip_address.specs.declared.hardware.HardwareAddress.{HardwareAddress}
use Rattle.ip_address.specs.Hardware.{IsOf}
use Rattle.ip_wire.specs.declared.ip_packet.IpRepr.TheVariants as repr
use Rattle.ip_wire.specs.declared.udp.UdpRepr.{UdpRepr}
use Rattle.ip_wire.specs.IpPacket.{src_addr, dst_addr}
use Rattle.ip_wire.specs.Udp as udp_wire
use Rattle.fragmentation.specs.Cuts.{Piece, HasForm, pieces_of}
use Rattle.host_machine.specs.Packet.Frame.{payload_text}
use Rattle.host_machine.specs.Context.Pieces.{piece_size, datagram_of}
use Rattle.host_laws.proofs.Discovery.NotedRequests.{sends_one}
use Rattle.host_machine.proofs.Receive.Pieces.{contains_in}
use Rattle.host_machine.proofs.Receive.Parts.{size_positive}
use Rattle.host_machine.proofs.Context.PendingParts.{pieces_are}
use Rattle.host_laws.proofs.Interface.Turns.{between_is}
use Rattle.host_machine.specs.Context.Real.{IsPart, IsRegular}
use Rattle.host_laws.specs.Senders.{CarryOnly}
use Rattle.host_laws.proofs.Accounts.{nothing_carried, unsent_carry}
use Rattle.host_laws.proofs.FramesWithoutUdp.{piece_none}
use Rattle.host_machine.specs.Packet.Frame.{ip_frame, piece_frame}
use Rattle.host_machine.specs.Send.Dispatch.{may_be_cut}
use Rattle.host_machine.specs.Sockets.Turns.{SocketTurn}
use Rattle.host_machine.specs.Sockets.Offers.{packet_between, packet_from, socket_after_asking}
use Rattle.host_machine.specs.Sockets.Offers as offers_rules
use Rattle.host_machine.specs.Sockets.Turns as turns_rules
use Rattle.host_laws.specs.Laws.Order.{IsAmong, NoneOfNone, OneOf}
use Rattle.host_laws.specs.Laws.TwoHosts.{cuts}
use Rattle.host_laws.proofs.Receive.Malformed.{sent_frames-sends}
use Rattle.host_laws.specs.Departures.{Departure, Departs, Dropped, InOneFrame, InPieces, cuts_of}
use Rattle.host_laws.specs.Departures.{frames_of, packet_of}
use Rattle.host_laws.specs.Departures as spec
use Rattle.host_laws.proofs.Ways.{Goes, between}
use Rattle.host_laws.proofs.Ways as ways
use Rattle.host_laws.proofs.Lists.{none_among}

-- how long a datagram's text is
pub datagram_len : (summed : Bool) (src dst : IpAddress) (ports : UdpRepr) (octets : List ℕ) →
    length (udp_wire.text summed src dst ports octets) ≡ 8 + length octets
unfolding udp_wire.header_with
datagram_len summed src dst ports octets = omega arith

-- what left a socket, at a turn: its datagram and how it left, if one did
pub record Leaving (H : Host) (s : UdpSocket) (frames : List (List ℕ)) (notes : List Note) (i : ℕ) : Type 0 where
  pub departure : Departure
  pub at_index : departure.index ≡ i
  pub front : (rest : List (IpEndpoint × List ℕ)) × (s.tx.packets ≡ (departure.destination, departure.payload) ∷ rest)
  pub leaves : Departs H s departure
  pub went : IsAmong (frames_of (departure ∷ [])) frames
  pub cut : IsAmong (cuts_of (departure ∷ [])) (cuts (cut_notes notes))
  pub only : IsRegular H → CarryOnly H.capabilities.medium (departure ∷ []) frames (cuts (cut_notes notes))

-- a socket as it was, or without the first of its datagrams
pub data Turned (H : Host) (i : ℕ) (s : UdpSocket) (s' : UdpSocket) (frames : List (List ℕ)) (notes : List Note) : Type 0 where
  Stays : s' ≡ s → (IsRegular H → CarryOnly H.capabilities.medium [] frames (cuts (cut_notes notes))) → Turned H i s s' frames notes
  Loses : Leaving H s frames notes i → s' ≡ without_first_to_send s → Turned H i s s' frames notes

-- the first datagram in the queue
record First (s : UdpSocket) : Type 0 where
  destination : IpEndpoint
  payload : List ℕ
  rest : List (IpEndpoint × List ℕ)
  is : s.tx.packets ≡ (destination, payload) ∷ rest

first_is : (ps : List (IpEndpoint × List ℕ)) (x : IpEndpoint × List ℕ) → first_of ps ≡ Some x → (rest : List (IpEndpoint × List ℕ)) × (ps ≡ x ∷ rest)
first_is [] x e = absurd cc
first_is (p ∷ ps) x e = let is : p ≡ x = cc in (ps, ap (λ q. q ∷ ps) is)

-- an empty queue stays so
popped_empty : (q : Queued IpEndpoint) → q.packets ≡ [] → queue_after_pop q ≡ q
popped_empty q e = ap (λ ps. record q { packets = ps }) (rw e refl ∙ sym e)

-- a datagram as the payload of a packet has the octets that its length says
text_of_udp : (c : DeviceCapabilities) (q : PacketV4) {ports : UdpRepr} {octets : List ℕ} →
    q.payload ≡ UdpPayload ports octets → length (payload_text c (repr.Ipv4 (header_v4 q)) q.payload) ≡ payload_len q.payload
text_of_udp c q {ports} {octets} e = ap (λ p. length (payload_text c (repr.Ipv4 (header_v4 q)) p)) e
    ∙ datagram_len (is_tx c.checksum.udp) (src_addr (repr.Ipv4 (header_v4 q))) (dst_addr (repr.Ipv4 (header_v4 q))) ports octets
    ∙ ap payload_len (sym e)

-- by the socket's first datagram and its source
asked_udp : (H : Host) (i : ℕ) (s : UdpSocket) (frames : List (List ℕ)) (notes : List Note) →
    frames ≡ [] → notes ≡ [] → udp.offered_packet (source_for H.ip_addrs) s ≡ None → Turned H i s (without_first_to_send s) frames notes
asked_udp H i s frames notes no_frame unnoted none = by s.tx.packets refl where
  by : (ps : List (IpEndpoint × List ℕ)) → s.tx.packets ≡ ps → Turned H i s (without_first_to_send s) frames notes
  by [] e = Stays (ap (λ q. record s { tx = q }) (popped_empty s.tx e)) (λ r. nothing_carried notes no_frame (ap cut_notes unnoted))
  by (p ∷ ps) e = by_source (source_of (source_for H.ip_addrs) s.endpoint.addr p.0.addr) refl where
    by_source : (o : Option IpAddress) → source_of (source_for H.ip_addrs) s.endpoint.addr p.0.addr ≡ o →
        Turned H i s (without_first_to_send s) frames notes
    by_source None is = Loses (record {
      departure = record { index = i; destination = p.0; payload = p.1; way = Dropped };
      at_index = refl;
      front = (ps, e);
      leaves = spec.NoSource is refl;
      went = none_among frames;
      cut = none_among (cuts (cut_notes notes));
      only = λ r. nothing_carried notes no_frame (ap cut_notes unnoted);
    }) refl
    by_source (Some src) is = let some : udp.offered_packet (source_for H.ip_addrs) s ≡ Some (udp.datagram s p src) = rw (e, is) refl in absurd cc

-- what it offers: its first datagram, from a source
record Offers (H : Host) (s : UdpSocket) (o : udp.Datagram) : Type 0 where
  first : IpEndpoint × List ℕ
  rest : List (IpEndpoint × List ℕ)
  src : IpAddress
  front : s.tx.packets ≡ first ∷ rest
  source : source_of (source_for H.ip_addrs) s.endpoint.addr first.0.addr ≡ Some src
  is : o ≡ udp.datagram s first src

offers : (H : Host) (s : UdpSocket) (o : udp.Datagram) → udp.offered_packet (source_for H.ip_addrs) s ≡ Some o → Offers H s o
offers H s o some = by s.tx.packets refl where
  by : (ps : List (IpEndpoint × List ℕ)) → s.tx.packets ≡ ps → Offers H s o
  by [] e = let none : udp.offered_packet (source_for H.ip_addrs) s ≡ None = rw e refl in absurd cc
  by (p ∷ ps) e = by_source (source_of (source_for H.ip_addrs) s.endpoint.addr p.0.addr) refl where
    by_source : (a : Option IpAddress) → source_of (source_for H.ip_addrs) s.endpoint.addr p.0.addr ≡ a → Offers H s o
    by_source None is = let none : udp.offered_packet (source_for H.ip_addrs) s ≡ None = rw (e, is) refl in absurd cc
    by_source (Some src) is =
        let one : udp.offered_packet (source_for H.ip_addrs) s ≡ Some (udp.datagram s p src) = rw (e, is) refl in
        record { first = p; rest = ps; src = src; front = e; source = is; is = cc }

-- its packet counts as gone
sent_udp : (H : Host) (i : ℕ) (s : UdpSocket) (o : udp.Datagram) (p : Packet) (frames : List (List ℕ)) (notes : List Note) →
    Offers H s o → offers_rules.packet_of (UdpOffer o) ≡ Some p → Goes H p frames notes →
    Turned H i s (without_first_to_send s) frames notes
sent_udp H i s o p frames notes f e g = Loses (by g) refl where
  packet_is : packet_between f.src f.first.0.addr s.hop_limit
      (UdpPayload (record { src_port = s.endpoint.port; dst_port = f.first.0.port }) f.first.1) ≡ Some p
  packet_is = subst (λ d. offers_rules.packet_of (UdpOffer d) ≡ Some p) f.is e

  -- the first piece of its packet, which was cut since it is longer
  text_len : (q : PacketV4) →
      q.payload ≡ UdpPayload (record { src_port = s.endpoint.port; dst_port = f.first.0.port }) f.first.1 → (h : HardwareAddress) (id : ℕ) →
      length (datagram_of H h id q).payload ≡ payload_len q.payload
  text_len q is h id = text_of_udp H.capabilities q is

  first_part : (h : HardwareAddress) (id : ℕ) (q : PacketV4) (first : Piece) (rest : List Piece) → IsOf H.capabilities.medium h →
      packet_between f.src f.first.0.addr s.hop_limit (UdpPayload (record { src_port = s.endpoint.port; dst_port = f.first.0.port }) f.first.1)
      ≡ Some (packet.Ipv4 q) →
      ip_mtu_of H.capabilities < total_len (packet.Ipv4 q) → pieces_of (datagram_of H h id q) ≡ first ∷ rest → HasForm (datagram_of H h id q) →
      IsRegular H → IsPart H.capabilities.medium first
  first_part h id q first rest to is long pieces form r =
      let payload = between_is f.src f.first.0.addr s.hop_limit _ (packet.Ipv4 q) is in
      let len = text_len q payload h id in
      let mtu = r.mtu in
      let more : piece_size H.capabilities < length (datagram_of H h id q).payload = omega (arith, len, long) in
      let all : AllByRecursion (IsPart H.capabilities.medium) (first ∷ rest) = rw pieces at (pieces_are H.capabilities.medium (datagram_of H h id q)
      ((ip_mtu_of H.capabilities - 20) / 8) form to refl (size_positive (ip_mtu_of H.capabilities) r.mtu) more) in
      all.0

  by : Goes H p frames notes → Leaving H s frames notes i
  by (ways.InAFrame h to l formed w c) = record {
    departure = record { index = i; destination = f.first.0; payload = f.first.1; way = InOneFrame h (ip_frame H h p) };
    at_index = refl;
    front = (f.rest, f.front);
    leaves = spec.GoesWhole f.src p h f.source packet_is l formed refl;
    went = rw w (OneOf (ip_frame H h p) NoneOfNone);
    cut = none_among (cuts (cut_notes notes));
    only = λ r. rw (w, c) (record {
      frames_are = (inr (h, to r.real, contains_in (InOneFrame h (ip_frame H h p) ∷ []) (InOneFrame h (ip_frame H h p)) (inl refl)), tt);
      cuts_are = tt;
    });
  }
  by (ways.Cut q h id first rest to is l m pieces form formed w c) = record {
    departure = record { index = i; destination = f.first.0; payload = f.first.1; way = InPieces (datagram_of H h id q) (piece_frame H first) };
    at_index = refl;
    front = (f.rest, f.front);
    leaves = spec.GoesInPieces f.src q h id first rest f.source (packet_is ∙ ap (λ x. Some x) is)
        (subst (λ (x : Packet). ip_mtu_of H.capabilities < total_len x) is l) (sym (ap may_be_cut is) ∙ m) pieces (subst IsFormed is formed) refl;
    went = rw w (OneOf (piece_frame H first) NoneOfNone);
    cut = rw c (OneOf (datagram_of H h id q) NoneOfNone);
    only = λ r. rw (w, c) (record {
      frames_are = (
        inl (piece_none H.capabilities.medium H first r.real.own (first_part h id q first rest (to r.real) (packet_is ∙ ap (λ x. Some x) is)
            (subst (λ (x : Packet). ip_mtu_of H.capabilities < total_len x) is l) pieces form r)),
        tt,
      );
      cuts_are = ((λ n. contains_in (datagram_of H h id q ∷ []) (datagram_of H h id q) (inl refl)), tt);
    });
  }
  by (ways.ToUnspecifiedAddress n w c) = record {
    departure = record { index = i; destination = f.first.0; payload = f.first.1; way = Dropped };
    at_index = refl;
    front = (f.rest, f.front);
    leaves = spec.ToUnspecified (ap is_unspecified (sym (between f.src f.first.0.addr s.hop_limit _ p packet_is)) ∙ n) refl;
    went = none_among frames;
    cut = none_among (cuts (cut_notes notes));
    only = λ r. record { frames_are = rw w tt; cuts_are = rw c tt };
  }
  by (ways.Longer l m w c) = record {
    departure = record { index = i; destination = f.first.0; payload = f.first.1; way = Dropped };
    at_index = refl;
    front = (f.rest, f.front);
    leaves = spec.TooLong f.src p f.source packet_is l m refl;
    went = none_among frames;
    cut = none_among (cuts (cut_notes notes));
    only = λ r. record { frames_are = rw w tt; cuts_are = rw c tt };
  }

-- a UDP socket's turn
pub record TurnedUdp (H : Host) (i : ℕ) (s : UdpSocket) (after : Socket) (frames : List (List ℕ)) (notes : List Note) : Type 0 where
  pub socket : UdpSocket
  pub is : after ≡ Udp socket
  pub turned : Turned H i s socket frames notes

pub turned : (H : Host) (i : ℕ) (s : UdpSocket) {after : Socket} {turn : Turn} {told : List Event} {notes : List Note} {new : Host} →
    SocketTurn (Udp s) turn after H told notes new →
    TurnedUdp H i s after (sent_frames told) notes
turned H i s {after} {turn} {told} {notes} {new} t = by (udp.offered_packet (source_for H.ip_addrs) s) refl t where
  by : (o : Option udp.Datagram) → udp.offered_packet (source_for H.ip_addrs) s ≡ o → SocketTurn (Udp s) turn after H told notes new →
      TurnedUdp H i s after (sent_frames told) notes
  by None none (turns_rules.Silent p x o n e r) =
      record { socket = without_first_to_send s; is = r ∙ rw none refl; turned = asked_udp H i s (sent_frames told) notes (ap sent_frames o) n none }
  by None none (turns_rules.Refused p q x o n e r) = let no : packet_from H (Udp s) ≡ None = rw none refl in absurd cc
  by None none (turns_rules.Sent p outcome frames q d x o r) = let no : packet_from H (Udp s) ≡ None = rw none refl in absurd cc
  by (Some d) some (turns_rules.Silent p x o n e r) =
      record { socket = s; is = r ∙ rw some refl; turned = Stays refl (λ x. nothing_carried notes (ap sent_frames o) (ap cut_notes n)) }
  by (Some d) some (turns_rules.Refused p q x o n e r) =
      record { socket = s; is = r ∙ rw some refl; turned = Stays refl (λ x. nothing_carried notes (ap sent_frames o) (ap cut_notes n)) }
  by (Some d) some (turns_rules.Sent p (Ok tt) frames q dispatched x o r) =
      let packet : offers_rules.packet_of (UdpOffer d) ≡ Some p =
      subst (λ (a : Option udp.Datagram). option_and_then offers_rules.packet_of (option_map UdpOffer a) ≡ Some p) some q in
      let frames_are : sent_frames told ≡ frames = ap sent_frames o ∙ sent_frames-sends frames in
      record {
        socket = without_first_to_send s;
        is = r ∙ rw some refl;
        turned = rw frames_are (sent_udp H i s d p frames notes (offers H s d some) packet (ways.gone dispatched));
      }
  by (Some d) some (turns_rules.Sent p (Err error) frames q dispatched x o r) =
      let frames_are : sent_frames told ≡ frames = ap sent_frames o ∙ sent_frames-sends frames in
      record {
        socket = s;
        is = r ∙ rw some refl;
        turned = Stays refl (λ x. rw frames_are (unsent_carry p error H frames notes (sends_one p (Err error) H new frames notes x.real dispatched)));
      }

-- a socket of another kind is none after its turn
other : (H : Host) (s : Socket) → down_udp s ≡ None → down_udp (socket_after_asking H s) ≡ None
other H (Raw s) e = refl
other H (Icmp s) e = refl
other H (Udp s) e = absurd cc
other H (Tcp s) e = refl

told_other : (b : Bool) (s : Socket) → down_udp s ≡ None → down_udp (kinds.socket_after_told b s) ≡ None
told_other b (Raw s) e = refl
told_other b (Icmp s) e = refl
told_other b (Udp s) e = absurd cc
told_other b (Tcp s) e = refl

pub turned_other : {H new : Host} {s s' : Socket} {turn : Turn} {told : List Event} {notes : List Note} →
    down_udp s ≡ None → SocketTurn s turn s' H told notes new → down_udp s' ≡ None
turned_other {H} {s = s} e (turns_rules.Silent p t o n x r) = ap down_udp r ∙ other H s e
turned_other {H} {s = s} e (turns_rules.Refused p q t o n x r) = ap down_udp r ∙ other H s e
turned_other {H} {s = s} e (turns_rules.Sent p outcome frames q d t o r) = ap down_udp r
    ∙ told_other (is_ok outcome) (socket_after_asking H s) (other H s e)
