-- An echo reply that comes for an ICMP socket is in its queue.
use Rattle.std.proofs.Common.{◌≡◌, ℕ, Bool, true, false, List, [], ◌∷◌, ◌++◌, refl, sym, ◌∙◌, ap, subst, Option, Some, None}
use Rattle.std.proofs.lemmas.Option.{slice_get-map}
use Rattle.std.specs.Prelude.{cond, slice_get}
use Rattle.std.specs.Option.{option_map}
use Rattle.net_base.specs.Checksum.{is_rx, is_tx}
use Rattle.ip_address.specs.declared.hardware.HardwareAddress.{HardwareAddress}
use Rattle.ip_address.specs.declared.ip.IpAddress.{IpAddress}
use Rattle.ip_address.specs.declared.ip.IpAddress.TheVariants.{Ipv4, Ipv6}
use Rattle.ip_wire.specs.declared.ipv4_packet.Ipv4Repr.{Ipv4Repr}
use Rattle.ip_wire.specs.declared.ip_packet.IpRepr.{IpRepr}
use Rattle.ip_wire.specs.declared.ip_packet.IpRepr.TheVariants as repr
use Rattle.control_wire.specs.declared.icmpv4.Icmpv4Repr.TheVariants.{EchoReply}
use Rattle.control_wire.specs.declared.icmp.IcmpRepr.{IcmpRepr}
use Rattle.control_wire.specs.declared.icmp.IcmpRepr.TheVariants.{Ipv4 as Ipv4Message, Ipv6 as Ipv6Message}
use Rattle.control_wire.specs.Icmpv4.{IsIcmpv4, icmpv4_in}
use Rattle.control_wire.specs.Icmpv6.{icmpv6_in}
use Rattle.sockets.specs.Icmp.{IcmpSocket}
use Rattle.sockets.specs.Icmp as socket
use Rattle.sockets.specs.declared.socket.SocketOf.TheVariants.{Icmp}
use Rattle.host_machine.specs.Context.Note.{Note}
use Rattle.host_machine.specs.Context.Host.{Host, Storage, without_expired}
use Rattle.host_machine.specs.Sockets.Delivery.{to_this}
use Rattle.host_machine.specs.Context.Addresses.{is_for_host}
use Rattle.host_machine.specs.Receive.Reply.{Reply, IsDropped}
use Rattle.host_machine.specs.Sockets.Raw as raw
use Rattle.host_machine.specs.Icmp.Delivery as icmp
use Rattle.host_machine.specs.Icmp.Icmpv4.{ProcessesIcmpv4, answer_to, host_after_delivery}
use Rattle.host_machine.specs.Icmp.Icmpv4 as v4
use Rattle.host_machine.specs.Icmp.Icmpv6.{IsMessage, ProcessesMessage}
use Rattle.host_machine.specs.Icmp.Icmpv6 as v6
use Rattle.host_machine.specs.Receive.Ipv4.{ProcessesProtocol}
use Rattle.host_machine.specs.Receive.Response.{Responds}
use Rattle.host_laws.specs.Laws.Received.{EchoRepliesV6AreQueued}
use Rattle.host_laws.specs.Laws.Service.{EchoRepliesAreQueued}
use Rattle.host_laws.proofs.Sockets.DatagramDelivery.{same_bits}
use Rattle.host_laws.proofs.Receive.FrameReplies.{met, packet_served, v4_of, v6_of}
use Rattle.host_laws.proofs.Receive.FrameRepliesV6.{apart as apart6, met as met6, met_apart, message_served, message_taken}

-- raw sockets leave an ICMP socket as it is
raw_leaves : (q : IpRepr) (summed : Bool) (payload : List ℕ) (s : IcmpSocket) →
    to_this (raw.takes q) (raw.storage_after_delivery summed q payload) (Some (Icmp s)) ≡ Some (Icmp s)
raw_leaves q summed payload s = refl

-- an ICMP socket that accepts a message, and has room, has it last
gets_last : (message : IcmpRepr) (contents : List ℕ) (remote : IpAddress) (octets : List ℕ) (s : IcmpSocket) (b c : Bool) →
    socket.accepts s message contents ≡ true → b ≡ true → c ≡ b →
    cond c (s.rx.packets ++ (remote, octets) ∷ []) s.rx.packets ≡ s.rx.packets ++ (remote, octets) ∷ []
gets_last message contents remote octets s b true a e f = refl
gets_last message contents remote octets s b false a e f = absurd (let bad : false ≡ true = f ∙ e in cc)

record WasTakenIn (r : Ipv4Repr) (message : List ℕ) (H : Host) (reply : Option Reply) (new : Host) : Type 0 where
  silent : reply ≡ None
  host_is : new ≡ host_after_delivery r message H

reply_taken : {r : Ipv4Repr} {H new : Host} {message : List ℕ} {reply : Option Reply} {notes : List Note} (ident seq_no : ℕ) →
    ProcessesIcmpv4 r H message reply notes new → IsIcmpv4 (is_rx H.capabilities.checksum.icmpv4) message →
    (icmpv4_in message).0 ≡ EchoReply ident seq_no → WasTakenIn r message H reply new
reply_taken ident seq_no (v4.Malformed m d) is values = absurd (m is)
reply_taken {r} {H} {message = message} ident seq_no (v4.Taken i rep n e) is values = record {
  silent = rep ∙ ap (λ m. answer_to H.ip_addrs r m (icmpv4_in message).1) values;
  host_is = e;
}

pub replies_queued : EchoRepliesAreQueued
replies_queued t old new told own frame r ident seq_no message i s w to_it d is_here endpoint room =
    let k = v4_of own w d.in_packet.taken d.in_packet.is_packet in
    let H : Host = without_expired old t in
    let mid : Host = met k.source r message H in
    let any = packet_served k d.in_packet in
    let it : ProcessesIcmpv4 r mid message k.reply k.notes k.taken =
    subst (λ q. ProcessesProtocol q (raw.is_taken (repr.Ipv4 r) H) r mid message k.reply k.notes k.taken) d.protocol_is any in
    let was = reply_taken ident seq_no it d.is_message d.values in
    let went : Responds None k.taken k.frames k.more new = subst (λ x. Responds x k.taken k.frames k.more new) was.silent k.responds in
    let heard : Storage →
    Storage = to_this (raw.takes (repr.Ipv4 r)) (raw.storage_after_delivery (is_tx old.capabilities.checksum.ipv4) (repr.Ipv4 r) message) in
    let told_it : Storage →
    Storage = to_this (icmp.accepts (Ipv4Message (icmpv4_in message).0) (icmpv4_in message).1) (icmp.storage_after_delivery (Ipv4 r.src_addr) message) in
    let accepts : socket.accepts s (Ipv4Message (icmpv4_in message).0) (icmpv4_in message).1 ≡ true = rw (endpoint, d.values, same_bits ident) refl in
    let at_mid : slice_get mid.sockets.places i ≡ Some (Some (Icmp s)) = slice_get-map heard old.sockets.places i ∙ ap (option_map heard) is_here in
    let after : told_it (Some (Icmp s)) ≡ Some (Icmp (record s { rx = record s.rx { packets = s.rx.packets ++ (Ipv4 r.src_addr, message) ∷ [] } })) =
    rw (accepts, room) refl in (
      ap (λ (K : Host). slice_get K.sockets.places i) (went.2 ∙ was.host_is)
          ∙ slice_get-map told_it mid.sockets.places i ∙ ap (option_map told_it) at_mid ∙ ap (λ p. Some p) after,
      k.sends_them ∙ went.0,
    )

-- over IPv6
pub replies_v6_queued : EchoRepliesV6AreQueued
replies_v6_queued t old new told own frame r ident seq_no message i s w d is_here endpoint room =
    let k = v6_of own w d.in_packet.packet.taken d.in_packet.packet.is_packet in
    let H : Host = without_expired old t in
    let source : HardwareAddress = k.source in
    let mid : Host = met6 source r message H in
    let raws : Host = raw.host_after_raw_delivery (repr.Ipv6 r) message H in
    let same : apart6 mid old.neighbors ≡ apart6 raws old.neighbors = met_apart source r message H old.neighbors in
    let for_us : is_for_host H (Ipv6 r.dst_addr) ≡ true = rw d.given refl in
    let it = message_taken (message_served k d.in_packet for_us) (subst (λ (K : Host). IsMessage K r message) (sym same) d.is_message) in
    let dropped : IsDropped (v6.host_after_delivery r message mid) k.reply k.notes k.taken =
    subst (λ m. ProcessesMessage r m (icmpv6_in message).1 (v6.host_after_delivery r message mid) k.reply k.notes k.taken) d.values it in
    let went : Responds None k.taken k.frames k.more new = subst (λ x. Responds x k.taken k.frames k.more new) dropped.silent k.responds in
    let heard : Storage →
    Storage = to_this (raw.takes (repr.Ipv6 r)) (raw.storage_after_delivery (is_tx old.capabilities.checksum.ipv4) (repr.Ipv6 r) message) in
    let told_it : Storage →
    Storage = to_this (icmp.accepts (Ipv6Message (icmpv6_in message).0) (icmpv6_in message).1) (icmp.storage_after_delivery (Ipv6 r.src_addr) message) in
    let accepts : socket.accepts s (Ipv6Message (icmpv6_in message).0) (icmpv6_in message).1 ≡ true = rw (endpoint, d.values, same_bits ident) refl in
    let at_mid : slice_get mid.sockets.places i ≡ Some (Some (Icmp s)) = ap (λ (K : Host). slice_get K.sockets.places i) same
    ∙ slice_get-map heard old.sockets.places i ∙ ap (option_map heard) is_here in
    let after : told_it (Some (Icmp s)) ≡ Some (Icmp (record s { rx = record s.rx { packets = s.rx.packets ++ (Ipv6 r.src_addr, message) ∷ [] } })) =
    rw (accepts, room) refl in (
      ap (λ (K : Host). slice_get K.sockets.places i) (went.2 ∙ dropped.unchanged)
          ∙ slice_get-map told_it mid.sockets.places i ∙ ap (option_map told_it) at_mid ∙ ap (λ p. Some p) after,
      k.sends_them ∙ went.0,
    )
