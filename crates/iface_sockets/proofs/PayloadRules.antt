-- What segments bring about, over plain variables.
use Rattle.std.proofs.Common.{◌≡◌, ℕ, zero, suc, Bool, true, false, List, [], ◌∷◌, slice_get}
use Rattle.std.proofs.Common.{slice_set, Option, Some, None, length, ◌<◌, inl, inr, refl, ap, subst, sym, ◌∙◌, arith}
use Rattle.std.specs.Option.{option_and_then, option_map}
use Rattle.net_base.specs.Checksum.{is_rx}
use Rattle.ip_wire.specs.declared.ip_packet.IpRepr.{IpRepr}
use Rattle.ip_wire.specs.IpPacket.{src_addr, dst_addr}
use Rattle.host_machine.specs.Context.Host.{Host, Storage, with_places}
use Rattle.host_machine.specs.Receive.Reply.{Reply}
use Rattle.host_machine.specs.Sockets.Delivery.{NoneAccepts}
use Rattle.host_machine.specs.Sockets.Udp.{Delivered, NotAccepted}
use Rattle.host_machine.specs.Sockets.Tcp as tcp
use Rattle.ip_wire.specs.Tcp.{IsTcp, tcp_in}
use Rattle.ip_wire.specs.declared.tcp.TcpRepr.{TcpRepr}
use Rattle.iface_sockets.specs.Segment.{IsTaken}
use Rattle.iface_context.proofs.Processing.{dropped}
use Rattle.sockets.specs.Kinds.{down_tcp}
use Rattle.sockets.specs.declared.socket.SocketOf.TheVariants.{Raw, Icmp, Udp, Tcp}
use Rattle.host_machine.proofs.Sockets.OtherPorts.{IsElsewhere, not_tcp}
use Rattle.host_machine.proofs.Sockets.SocketIteration.{at_place}
use Rattle.host_machine.proofs.Sockets.TcpSegments.{Tellable, is_tcp}

there : (ps : List Storage) (i : ℕ) → i < length ps → slice_get ps i ≡ Some (at_place ps i)
there [] i within = absurd (omega arith)
there (p ∷ ps) zero within = refl
there (p ∷ ps) (suc i) within = there ps i (omega arith)

-- a place at which there is something is one of them
pub is_within : (ps : List Storage) (k : ℕ) (other : Storage) → slice_get ps k ≡ Some other → k < length ps
is_within [] k other is = absurd cc
is_within (p ∷ ps) zero other is = omega arith
is_within (p ∷ ps) (suc k) other is = let within = is_within ps k other is in omega (arith, within)

-- without a TCP socket a place accepts no segment
pub no_tcp : (r : IpRepr) (t : TcpRepr) (place : Storage) → option_and_then down_tcp place ≡ None → tcp.accepts r t place ≡ false
no_tcp r t None none = refl
no_tcp r t (Some (Raw s)) none = refl
no_tcp r t (Some (Icmp s)) none = refl
no_tcp r t (Some (Udp s)) none = refl
no_tcp r t (Some (Tcp s)) none = absurd cc

-- nor does one at another port
pub elsewhere : (r : IpRepr) (t : TcpRepr) (port : ℕ) (place : Storage) → t.dst_port ≡ port → IsElsewhere (Some port) place →
    tcp.accepts r t place ≡ false
elsewhere r t port place is other = not_tcp r t place (subst (λ (p : ℕ). IsElsewhere (Some p) place) (sym is) other)

-- the socket at an index is the first that accepts a segment
pub segment_taken : (r : IpRepr) (t : TcpRepr) (payload : List ℕ) (old now new : List Storage) (i : ℕ) (taken : Bool) (answer : Option TcpRepr) →
    now ≡ old → i < length old →
    ((k : ℕ) (other : Storage) → k < i → slice_get old k ≡ Some other → tcp.accepts r t other ≡ false) →
    taken ≡ tcp.accepts r t (at_place now i) → taken ≡ true →
    new ≡ slice_set now i (tcp.storage_after_delivery r t payload (at_place now i)) →
    answer ≡ tcp.socket_reply t payload (at_place now i) → IsTaken r t payload old new answer
segment_taken r t payload old now new i taken answer same within before accepts is delivered replied = record {
  index = i;
  place = at_place old i;
  first = record {
    is_there = there old i within;
    accepts = ap (λ ps. tcp.accepts r t (at_place ps i)) (sym same) ∙ sym accepts ∙ is;
    none_before = before;
  };
  changed = rw same at delivered;
  answers = rw same at replied;
}

-- a segment is given to the first socket that accepts it, and may be answered
pub tcp_delivered : (raw : Bool) (H : Host) (r : IpRepr) (octets payload : List ℕ) (t : TcpRepr) (checked : Bool) (places : List Storage)
    (answer : Option TcpRepr) (reply : Option Reply) →
    tcp.is_between_unspecified r ≡ false → checked ≡ is_rx H.capabilities.checksum.tcp →
    IsTcp checked (src_addr r) (dst_addr r) octets × ((t, payload) ≡ tcp_in octets) →
    IsTaken r t payload H.sockets.places places answer → reply ≡ option_map (tcp.segment_back r) answer →
    tcp.ProcessesTcp raw r H octets reply [] (with_places H places)
tcp_delivered raw H r octets payload t checked places answer reply specified tests is taken replies =
    let same_header : t ≡ (tcp_in octets).0 = ap (λ (p : TcpRepr × List ℕ). p.0) is.1 in
    let same_payload : payload ≡ (tcp_in octets).1 = ap (λ (p : TcpRepr × List ℕ). p.1) is.1 in
    let whole : IsTaken r (tcp_in octets).0 (tcp_in octets).1 H.sockets.places places answer = rw (same_header, same_payload) at taken in
    tcp.Delivered whole.index whole.place specified
    (rw tests at is.0) whole.first (replies ∙ ap (option_map (tcp.segment_back r)) whole.answers) refl (ap (with_places H) whole.changed)

-- or nobody accepts it
pub tcp_not_accepted : (raw : Bool) (H : Host) (r : IpRepr) (octets payload : List ℕ) (t : TcpRepr) (checked : Bool) (places : List Storage)
    (answer : Option TcpRepr) (reply : Option Reply) →
    tcp.is_between_unspecified r ≡ false → checked ≡ is_rx H.capabilities.checksum.tcp →
    IsTcp checked (src_addr r) (dst_addr r) octets × ((t, payload) ≡ tcp_in octets) →
    NoneAccepts (tcp.accepts r t) H.sockets.places → places ≡ H.sockets.places → answer ≡ tcp.reset_for raw t payload →
    reply ≡ option_map (tcp.segment_back r) answer →
    tcp.ProcessesTcp raw r H octets reply [] (with_places H places)
tcp_not_accepted raw H r octets payload t checked places answer reply specified tests is nobody same answers replies =
    let same_header : t ≡ (tcp_in octets).0 = ap (λ (p : TcpRepr × List ℕ). p.0) is.1 in
    let same_payload : payload ≡ (tcp_in octets).1 = ap (λ (p : TcpRepr × List ℕ). p.1) is.1 in
    tcp.NotAccepted specified (rw tests at is.0) (rw same_header at nobody)
    (rw (same_header, same_payload) at (replies ∙ ap (option_map (tcp.segment_back r)) answers)) refl (ap (with_places H) same)

-- it is left, whether it is one or not, where a raw socket has it and no TCP socket may take it
pub tcp_left : (H : Host) (r : IpRepr) (octets : List ℕ) → tcp.is_between_unspecified r ≡ false →
    NoneAccepts (tcp.accepts r (tcp_in octets).0) H.sockets.places → tcp.ProcessesTcp true r H octets None [] H
tcp_left H r octets specified nobody = by (is_tcp (is_rx H.capabilities.checksum.tcp) (src_addr r) (dst_addr r) octets) where
  by : Tellable (IsTcp (is_rx H.capabilities.checksum.tcp) (src_addr r) (dst_addr r) octets) → tcp.ProcessesTcp true r H octets None [] H
  by (inl is) = tcp.NotAccepted specified is nobody refl refl refl
  by (inr never_so) = tcp.Malformed specified never_so (dropped H)

-- octets that are no segment
pub tcp_malformed : (raw : Bool) (H : Host) (r : IpRepr) (octets : List ℕ) (checked : Bool) →
    tcp.is_between_unspecified r ≡ false → checked ≡ is_rx H.capabilities.checksum.tcp →
    (IsTcp checked (src_addr r) (dst_addr r) octets → ⊥) → tcp.ProcessesTcp raw r H octets None [] H
tcp_malformed raw H r octets checked specified tests none = tcp.Malformed specified (rw tests at none) (dropped H)
