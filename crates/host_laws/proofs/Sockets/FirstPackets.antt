-- The first packet of a socket of any kind is sent.
use Rattle.std.proofs.Common.{◌≡◌, ◌≤◌, ℕ, true, List, [], ◌∷◌, ◌++◌, refl, sym, ◌∙◌, ap, subst, append_assoc, Some, arith}
use Rattle.std.specs.Prelude.{slice_get}
use Rattle.net_base.specs.Checksum.{ip_mtu_of}
use Rattle.net_base.specs.Device.{Event, sent_frames}
use Rattle.ip_address.specs.declared.hardware.HardwareAddress.{HardwareAddress}
use Rattle.host_machine.specs.declared.results.Turn.{Turn}
use Rattle.host_machine.specs.Context.Note.{Note}
use Rattle.host_machine.specs.Context.Host.{Host, Socket, at, no_sockets}
use Rattle.host_machine.specs.Context.Addresses.{is_unicast}
use Rattle.host_machine.specs.Packet.Packet.{Packet, Icmpv4, total_len}
use Rattle.host_machine.specs.Packet.Packet as packet
use Rattle.host_machine.specs.Packet.Frame.{ip_frame}
use Rattle.host_machine.specs.Send.Dispatch.{destination_of}
use Rattle.host_machine.specs.Sockets.Turns.{Serves, SocketTurn}
use Rattle.host_machine.specs.Sockets.Offers.{packet_from, socket_after_asking}
use Rattle.host_machine.specs.Sockets.Turns as egress
use Rattle.control_wire.specs.declared.icmpv4.Icmpv4Repr.TheVariants.{EchoRequest}
use Rattle.sockets.specs.Kinds.{socket_after_told}
use Rattle.sockets.specs.declared.socket.SocketOf.TheVariants.{Icmp}
use Rattle.host_laws.specs.Laws.Service.{FirstEchoesGo, FirstPacketsGo, HasWay, MayBeAsked, all_granted}
use Rattle.host_laws.proofs.Receive.FrameReplies.{clash, way_by}
use Rattle.host_laws.proofs.Sockets.QueueDecrease.{sent_less}
use Rattle.std.proofs.lemmas.Option.{slice_get_within}
use Rattle.host_laws.proofs.Interface.GrantedEgress.{SameAt, each_turn, given_parts, may_as, permitted, reached_as, same_at, same_then}
use Rattle.host_laws.proofs.Interface.GrantedEgress.{sans, sent_frames-append, there, to_sockets, turn_goes, turn_way}

served_goes : {i : ℕ} {turn : Turn} {H new : Host} {told_it : List Event} {notes : List Note} (own : HardwareAddress) (s : Socket) (p : Packet)
    (h : HardwareAddress) → Serves i turn H told_it notes new →
    slice_get H.sockets.places i ≡ Some (Some s) → MayBeAsked H i → packet_from H s ≡ Some p →
    all_granted told_it ≡ true → H.hardware_addr ≡ own →
    is_unicast H.ip_addrs (destination_of p) ≡ true → HasWay own H (destination_of p) h → total_len p ≤ ip_mtu_of H.capabilities →
    (sent_frames told_it ≡ ip_frame H h p ∷ [])
    × (slice_get new.sockets.places i ≡ Some (Some (socket_after_told true (socket_after_asking H s))))
served_goes own s p h (egress.Free f d e m y) here may is all on one r short = absurd cc
served_goes {i} {turn} {H} own s p h (egress.Waits s' known f l w d e m y) here may is all on one r short =
    absurd (clash (permitted H i may known l) w)
served_goes {i} {turn} {H} {new} {told_it} {notes} own s p h (egress.Served s' s'' known mid f l w z y) here may is all on one r short =
    let both : Some (Some s') ≡ Some (Some s) = sym f ∙ here in
    let same : s' ≡ s = cc in
    let it = turn_goes own p h (subst (λ x. SocketTurn x turn s'' H told_it notes mid) same z) is all on one r short in
    let at_mid : slice_get mid.sockets.places i ≡ Some (Some s) = ap (λ (K : Host). slice_get K.sockets.places i) (turn_way z) ∙ here in (
      it.frames,
      ap (λ (K : Host). slice_get K.sockets.places i) y ∙ there mid.sockets.places i (Some s) (Some s'') at_mid
          ∙ ap (λ x. Some (Some x)) it.socket,
    )

pub first_packets_go : FirstPacketsGo
first_packets_go t answer old new told_all notes e own i s p h all on is_here from may one reach short =
    let k = to_sockets e in
    let last_given : all_granted k.told_last ≡ true = (given_parts k.behind.front k.told_last (sym (ap all_granted k.behind.is) ∙ all)).1 in
    let sockets_are : k.mid.sockets ≡ old.sockets = ap (λ (K : Host). K.sockets) k.way in
    let here_mid : slice_get k.mid.sockets.places i ≡ Some (Some s) = ap (λ x. slice_get x.places i) sockets_are ∙ is_here in
    let a = each_turn k.sends_them last_given i (slice_get_within k.mid.sockets.places i (Some s) here_mid) in
    let rest_is : sans a.mid ≡ sans (at old t) = a.rest ∙ ap (λ (K : Host). record K { sockets = no_sockets }) k.way in
    let same : SameAt i (at old t) a.mid = same_then (same_at {k = i} {old = at old t} {new = k.mid} sockets_are) a.same in
    let given_it : all_granted a.told_it ≡ true =
    (given_parts a.told_it a.back (given_parts a.front (a.told_it ++ a.back) (sym (ap all_granted a.split) ∙ last_given)).1).0 in
    let packet_is : packet_from a.mid s ≡ Some p = ap (λ (x : Host). packet_from x s) rest_is ∙ from in
    let g = served_goes own s p h a.served (same.place ∙ is_here) (may_as i rest_is same may) packet_is given_it
    (ap (λ (x : Host). x.hardware_addr) rest_is ∙ on)
    (ap (λ (x : Host). is_unicast x.ip_addrs (destination_of p)) rest_is ∙ one) (way_by own (reached_as rest_is) reach)
    (subst (λ c. total_len p ≤ ip_mtu_of c) (sym (ap (λ (x : Host). x.capabilities) rest_is)) short) in
    let frame_is : ip_frame a.mid h p ≡ ip_frame old h p = ap (λ (x : Host). ip_frame x h p) rest_is in
    record {
      front = sent_frames k.behind.front ++ sent_frames a.front;
      back = sent_frames a.back;
      frames = ap sent_frames k.behind.is ∙ sent_frames-append k.behind.front k.told_last
          ∙ ap (λ x. sent_frames k.behind.front ++ x) (ap sent_frames a.split ∙ sent_frames-append a.front (a.told_it ++ a.back) ∙ ap
          (λ x. sent_frames a.front ++ x) (sent_frames-append a.told_it a.back ∙ ap (λ x. x ++ sent_frames a.back) (g.0 ∙ ap (λ f. f ∷ []) frame_is)))
          ∙ sym (append_assoc (sent_frames k.behind.front) (sent_frames a.front) (ip_frame old h p ∷ sent_frames a.back));
      after = socket_after_told true (socket_after_asking a.mid s);
      left = a.stays.place ∙ g.1;
      less = sent_less a.mid s p packet_is;
    }

pub first_echoes_go : FirstEchoesGo
first_echoes_go t answer old new told_all notes e own i s a b ident seq_no octets h all on first may one reach short =
    let echo : Packet = packet.Ipv4 (record {
      src_addr = a;
      dst_addr = b;
      hop_limit = s.hop_limit;
      payload = Icmpv4 (EchoRequest ident seq_no) octets;
    }) in
    let from : packet_from (at old t) (Icmp s) ≡ Some echo = rw (first.first, first.is_message, first.values, first.source) refl in
    first_packets_go t answer old new told_all notes e own i (Icmp s) echo h all on first.here from may one reach (omega (arith, short))
