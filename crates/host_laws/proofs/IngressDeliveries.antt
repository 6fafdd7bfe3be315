-- What calls that take frames do to UDP sockets: they gain what came in the frames.
use Rattle.std.proofs.Common.{◌≡◌, ℕ, ◌==◌, ◌&&◌, Bool, true, false, List, [], ◌∷◌, ◌++◌, refl}
use Rattle.std.proofs.Common.{sym, ◌∙◌, ap, subst, Option, Some, None, option_map, if◌then◌else◌}
use Rattle.std.specs.Prelude.{ℤ}
use Rattle.std.specs.List.{AllByRecursion}
use Rattle.std.proofs.lemmas.List.{append-nil}
use Rattle.net_base.specs.Device.{Event, Reception, Received, handed_frames}
use Rattle.ip_wire.specs.declared.ip_packet.IpRepr.{IpRepr}
use Rattle.ip_wire.specs.IpPacket.{src_addr, dst_addr}
use Rattle.ip_wire.specs.Udp.{udp_in}
use Rattle.sockets.specs.declared.endpoint.IpListenEndpoint.{IpListenEndpoint}
use Rattle.sockets.specs.Udp.{UdpSocket, accepts, socket_after_delivery, is_accepted_at}
use Rattle.fragmentation.specs.Reassembly.{SlotNote}
use Rattle.host_machine.specs.declared.results.PollIngressSingleResult.{PollIngressSingleResult}
use Rattle.host_machine.specs.Context.Note.{Note, slot_notes}
use Rattle.host_machine.specs.Context.Host.{Host, SocketSet, at, without_expired, with_next_id}
use Rattle.host_machine.specs.Context.Addresses.{is_broadcast, is_for_host}
use Rattle.host_machine.specs.Receive.Reply.{Reply, Arp, Ip}
use Rattle.host_machine.specs.Packet.Frame.{sends}
use Rattle.host_machine.specs.Send.Outcome.{Outcome, IsUnsent}
use Rattle.host_machine.specs.Send.Dispatch.{Emits, DispatchesByHop, DispatchesEthernet, SendsOver, Dispatches}
use Rattle.host_machine.specs.Send.Requests.{Discovers}
use Rattle.host_machine.specs.Send.Dispatch as dispatch
use Rattle.host_machine.specs.Send.Requests as requests
use Rattle.ip_address.specs.declared.hardware.HardwareAddress.{HardwareAddress}
use Rattle.ip_address.specs.declared.hardware.HardwareAddress.TheVariants as hardware
use Rattle.host_machine.specs.Packet.Packet.{Packet}
use Rattle.host_machine.specs.Receive.Response.{Responds}
use Rattle.host_machine.specs.Interface.Ingress.{Ingress}
use Rattle.host_machine.specs.Interface.Parts.{Part}
use Rattle.host_laws.proofs.Context.NotesBySubject.{slot_notes-append}
use Rattle.host_laws.proofs.Receive.Malformed.{handed_frames-sends}
use Rattle.host_laws.proofs.Receive.SlotEffects.{handed_frames-append}
use Rattle.host_laws.specs.Deliveries.{BringsPacket, BringsUdp, Delivery, Deliver, Gets, IsAccepted}
use Rattle.host_laws.specs.Deliveries.{NoFrame, NoSocketGets, OneGets, to_index, udp_at, with_deliveries}
use Rattle.host_laws.specs.Deliveries as spec
use Rattle.host_laws.proofs.DatagramHandover.{Same, seen}
use Rattle.host_laws.proofs.FrameDatagrams.{Brought, Took, took}
use Rattle.host_laws.proofs.FrameDatagrams as brought
use Rattle.host_laws.proofs.Lists.{deliver-append, endpoint_stays, eq_of, id_mapped, option_map_then, to_index-append, with_deliveries-append}

-- a dispatch leaves what deliveries read, and the sockets, and notes nothing of slots
pub record NotAccepted (old : Host) (notes : List Note) (new : Host) : Type 0 where
  pub seen_is : seen new ≡ seen old
  pub sockets_are : new.sockets ≡ old.sockets
  pub unnoted : slot_notes notes ≡ []

still : {old new : Host} {notes : List Note} → new ≡ old → notes ≡ [] → NotAccepted old notes new
still e n = record { seen_is = ap seen e; sockets_are = ap (λ (K : Host). K.sockets) e; unnoted = ap slot_notes n }

changed : {old mid new : Host} {notes : List Note} → new ≡ mid → seen mid ≡ seen old → mid.sockets ≡ old.sockets →
    slot_notes notes ≡ [] → NotAccepted old notes new
changed e s t n = record { seen_is = ap seen e ∙ s; sockets_are = ap (λ (K : Host). K.sockets) e ∙ t; unnoted = n }

unsent : {H new : Host} {frames : List (List ℕ)} {notes : List Note} → IsUnsent H frames notes new → NotAccepted H notes new
unsent u = still u.unchanged u.unnoted

emitted : {id : ℕ} {p : Packet} {h : HardwareAddress} {outcome : Outcome} {H new : Host} {frames : List (List ℕ)} {notes : List Note} →
    Emits id p h outcome H frames notes new → NotAccepted H notes new
emitted (dispatch.Whole fits formed o f n e) = still e n
emitted (dispatch.InPieces q first rest is long fits pieces form formed o f n e) = changed e refl refl (ap slot_notes n)
emitted (dispatch.TooLong long longer o u) = unsent u

discovered : {own : _} {hop : _} {outcome : Outcome} {H new : Host} {frames : List (List ℕ)} {notes : List Note} →
    Discovers own hop outcome H frames notes new → NotAccepted H notes new
discovered (requests.Asked target source i s o f n e) = changed e refl refl (ap slot_notes n)
discovered (requests.NoSource target i s o u) = unsent u
discovered (requests.Solicited target i o f n e) = changed e refl refl (ap slot_notes n)

by_hop : {id : ℕ} {own : _} {p : Packet} {hop : _} {outcome : Outcome} {H new : Host} {frames : List (List ℕ)} {notes : List Note} →
    DispatchesByHop id own p hop outcome H frames notes new → NotAccepted H notes new
by_hop (dispatch.Known h k e) = emitted e
by_hop (dispatch.Silent k o u) = unsent u
by_hop (dispatch.Unknown k d) = discovered d

by_ethernet : {id : ℕ} {own : _} {p : Packet} {outcome : Outcome} {H new : Host} {frames : List (List ℕ)} {notes : List Note} →
    DispatchesEthernet id own p outcome H frames notes new → NotAccepted H notes new
by_ethernet (dispatch.ToMulticast h m e) = emitted e
by_ethernet (dispatch.NoHop m i o u) = unsent u
by_ethernet (dispatch.ByHop hop m i s) = by_hop s

over : (id : ℕ) (h : HardwareAddress) (p : Packet) (outcome : Outcome) (H : Host) (frames : List (List ℕ)) (notes : List Note) (new : Host) →
    SendsOver id h p outcome H frames notes new → NotAccepted H notes new
over id (hardware.Ethernet own) p outcome H frames notes new s = by_ethernet s
over id hardware.Ip p outcome H frames notes new s = emitted s

pub dispatched : {p : Packet} {outcome : Outcome} {H new : Host} {frames : List (List ℕ)} {notes : List Note} →
    Dispatches p outcome H frames notes new → NotAccepted H notes new
dispatched (dispatch.ToUnspecified n o u) = unsent u
dispatched {p} {outcome} {H} {new} {frames} {notes} (dispatch.ToSpecified more s d n) =
    let u = over H.ipv4_id H.hardware_addr p outcome (with_next_id H) frames more new d in
    record { seen_is = u.seen_is; sockets_are = u.sockets_are; unnoted = ap slot_notes n ∙ u.unnoted }

pub responded : (reply : Option Reply) (H : Host) (frames : List (List ℕ)) (notes : List Note) (new : Host) →
    Responds reply H frames notes new → NotAccepted H notes new
responded None H frames notes new r = still r.2 r.1
responded (Some (Arp packet)) H frames notes new r = still r.2 r.1
responded (Some (Ip packet)) H frames notes new r = dispatched r.1

-- a socket that hears the destination of a datagram, among these
abbrev AcceptedIn : Host → SocketSet → Delivery → Type 0
AcceptedIn B sockets d = IsAccepted (record B { sockets = sockets }) d

-- what part of a call gained, from a host that is as the call's in what deliveries read
pub record Gained (B old : Host) (told : List Event) (notes : List Note) (new : Host) : Type 0 where
  pub seen_is : seen new ≡ seen B
  pub deliveries : List Delivery
  pub came : Deliver B (handed_frames told) (slot_notes notes) deliveries
  pub heard : AllByRecursion (AcceptedIn B old.sockets) deliveries
  pub udp_is : (i : ℕ) → udp_at new.sockets i ≡ option_map (with_deliveries (to_index i deliveries)) (udp_at old.sockets i)

abbrev pub Gains : Host → Part
Gains B old told notes new = seen old ≡ seen B → Gained B old told notes new

-- where nothing is handed over
pub gained_none : (B old : Host) (told : List Event) (notes : List Note) (new : Host) →
    handed_frames told ≡ [] → slot_notes notes ≡ [] → seen new ≡ seen old → new.sockets ≡ old.sockets → Gains B old told notes new
gained_none B old told notes new h n e s = λ like. record {
  seen_is = e ∙ like;
  deliveries = [];
  came = subst (λ fs. Deliver B fs (slot_notes notes) []) (sym h) (subst (λ ns. Deliver B [] ns []) (sym n) NoFrame);
  heard = tt;
  udp_is = λ i. ap (λ t. udp_at t i) s ∙ id_mapped (udp_at old.sockets i);
}

-- a datagram that is heard by a socket that had gained others before is heard by the socket as it was
heard_before : (B : Host) (old mid : SocketSet) (d : Delivery) (ds : List Delivery) →
    udp_at mid d.index ≡ option_map (with_deliveries (to_index d.index ds)) (udp_at old d.index) → AcceptedIn B mid d → AcceptedIn B old d
heard_before B old mid d ds e h = by (udp_at old d.index) refl where
  by : (o : Option UdpSocket) → udp_at old d.index ≡ o → AcceptedIn B old d
  by None none =
      let no : udp_at mid d.index ≡ None = e ∙ ap (option_map (with_deliveries (to_index d.index ds))) none in
      let some : udp_at mid d.index ≡ Some h.socket = h.there in
      absurd cc
  by (Some s) some =
      let one : udp_at mid d.index ≡ Some (with_deliveries (to_index d.index ds) s) = e
      ∙ ap (option_map (with_deliveries (to_index d.index ds))) some in
      let two : udp_at mid d.index ≡ Some h.socket = h.there in
      let is : h.socket ≡ with_deliveries (to_index d.index ds) s = cc in
      let ends : h.socket.endpoint ≡ s.endpoint = ap (λ (x : UdpSocket). x.endpoint) is ∙ endpoint_stays (to_index d.index ds) s in
      record {
        socket = s;
        there = some;
        hears = subst (λ (x : IpListenEndpoint).
            ((x.port == d.destination.port) && is_accepted_at (is_broadcast B.ip_addrs) x.addr d.destination.addr) ≡ true) ends h.hears;
      }

all_heard_before : (B : Host) (old mid : SocketSet) (ds es : List Delivery) →
    ((i : ℕ) → udp_at mid i ≡ option_map (with_deliveries (to_index i ds)) (udp_at old i)) →
    AllByRecursion (AcceptedIn B mid) es → AllByRecursion (AcceptedIn B old) es
all_heard_before B old mid ds [] e all = tt
all_heard_before B old mid ds (d ∷ es) e all = (heard_before B old mid d ds (e d.index) all.0, all_heard_before B old mid ds es e all.1)

pub all-append : {A : Type 0} (P : A → Type 0) (xs ys : List A) → AllByRecursion P xs → AllByRecursion P ys → AllByRecursion P (xs ++ ys)
all-append P [] ys a b = b
all-append P (x ∷ xs) ys a b = (a.0, all-append P xs ys a.1 b)

pub gained_on : (B a b c : Host) (ts us : List Event) (xs ys : List Note) → Gains B a ts xs b → Gains B b us ys c → Gains B a (ts ++ us) (xs ++ ys) c
gained_on B a b c ts us xs ys one two = λ like.
    let x = one like in
    let y = two x.seen_is in
    record {
      seen_is = y.seen_is;
      deliveries = x.deliveries ++ y.deliveries;
      came = rw (handed_frames-append, slot_notes-append) (deliver-append x.came y.came);
      heard = all-append (AcceptedIn B a.sockets) x.deliveries y.deliveries x.heard
          (all_heard_before B a.sockets b.sockets x.deliveries y.deliveries x.udp_is y.heard);
      udp_is = λ i. y.udp_is i ∙ ap (option_map (with_deliveries (to_index i y.deliveries))) (x.udp_is i)
          ∙ option_map_then (with_deliveries (to_index i y.deliveries)) (with_deliveries (to_index i x.deliveries))
          (with_deliveries (to_index i (x.deliveries ++ y.deliveries)))
          (λ s. sym (ap (λ ds. with_deliveries ds s) (to_index-append i x.deliveries y.deliveries)
          ∙ with_deliveries-append (to_index i x.deliveries) (to_index i y.deliveries) s)) (udp_at a.sockets i);
    }

-- what a frame brings, as it is read by the call's host
packet_alike : {H B : Host} {frame : List ℕ} {r : IpRepr} {octets : List ℕ} →
    seen H ≡ seen B → BringsPacket H frame r octets → BringsPacket B frame r octets
packet_alike {H} {B} e (spec.OverIpv4 packet c i s g n r o) =
    let h : H.hardware_addr ≡ B.hardware_addr = ap (λ (K : Host). K.hardware_addr) e in
    let k : H.capabilities ≡ B.capabilities = ap (λ (K : Host). K.capabilities) e in
    let a : H.ip_addrs ≡ B.ip_addrs = ap (λ (K : Host). K.ip_addrs) e in
    spec.OverIpv4 packet (rw (← h) c) (rw (← k) i) (rw (← a) s) g n r o
packet_alike {H} {B} e (spec.OverIpv6 packet c i u n r o) =
    let h : H.hardware_addr ≡ B.hardware_addr = ap (λ (K : Host). K.hardware_addr) e in
    spec.OverIpv6 packet (rw (← h) c) i u n r o
packet_alike {H} {B} e (spec.AfterOptions packet c i u z o s n r p) =
    let h : H.hardware_addr ≡ B.hardware_addr = ap (λ (K : Host). K.hardware_addr) e in
    spec.AfterOptions packet (rw (← h) c) i u z o s n r p

brings_alike : {H B : Host} {frame : List ℕ} {noted : List SlotNote} {r : IpRepr} {octets : List ℕ} →
    seen H ≡ seen B → BringsUdp H frame noted r octets → BringsUdp B frame noted r octets
brings_alike e (spec.AtOnce b) = spec.AtOnce (packet_alike e b)
brings_alike {H} {B} e (spec.InFragments packet earlier c i s g n l r) =
    let h : H.hardware_addr ≡ B.hardware_addr = ap (λ (K : Host). K.hardware_addr) e in
    let k : H.capabilities ≡ B.capabilities = ap (λ (K : Host). K.capabilities) e in
    let a : H.ip_addrs ≡ B.ip_addrs = ap (λ (K : Host). K.ip_addrs) e in
    spec.InFragments packet earlier (rw (← h) c) (rw (← k) i) (rw (← a) s) g n l r

-- the delivery that a frame brings
abbrev delivery : {H new : Host} {frame : List ℕ} {noted : List SlotNote} → Brought H frame noted new → Delivery
delivery b = record {
  index = b.hands.index;
  source = record { addr = src_addr b.header; port = (udp_in b.octets).0.src_port };
  destination = record { addr = dst_addr b.header; port = (udp_in b.octets).0.dst_port };
  payload = (udp_in b.octets).1;
}

gets : {H B new : Host} {frame : List ℕ} {noted : List SlotNote} → seen H ≡ seen B → (b : Brought H frame noted new) → Gets B frame noted (delivery b)
gets {H} {B} e b =
    let k : H.capabilities ≡ B.capabilities = ap (λ (K : Host). K.capabilities) e in
    record {
      header = b.header;
      octets = b.octets;
      brought = brings_alike e b.brings;
      is_udp = rw (← k) b.hands.is_udp;
      for_host = subst (λ (K : Host). is_for_host K (dst_addr b.header) ≡ true) e b.for_host;
      source_is = refl;
      destination_is = refl;
      payload_is = refl;
    }

-- at one index of one delivery
one_put : (i : ℕ) (d : Delivery) (s : UdpSocket) (o : Option UdpSocket) → (d.index ≡ i → o ≡ Some s) →
    (if d.index == i then Some (socket_after_delivery d.source d.payload s) else o) ≡ option_map (with_deliveries (to_index i (d ∷ []))) o
one_put i d s o there = by (d.index == i) refl where
  by : (b : Bool) → (d.index == i) ≡ b →
      (if b then Some (socket_after_delivery d.source d.payload s) else o) ≡ option_map (with_deliveries (if b then d ∷ [] else [])) o
  by true e = sym (ap (option_map (with_deliveries (d ∷ []))) (there (eq_of d.index i e)))
  by false e = id_mapped o

-- a call that takes a frame
quiet : (B H : Host) (told : List Event) (notes : List Note) (new : Host) →
    Deliver B (handed_frames told) (slot_notes notes) [] → Same H new → Gains B H told notes new
quiet B H told notes new c s = λ like. record {
  seen_is = s.seen_is ∙ like;
  deliveries = [];
  came = c;
  heard = tt;
  udp_is = λ i. s.udp_is i ∙ id_mapped (udp_at H.sockets i);
}

taken_gains : (B H : Host) (r : Reception) (notes : List Note) (new : Host) (t : ℤ) →
    Took H (slot_notes notes) new r → Gains B H (Received t r ∷ []) notes new
taken_gains B H r notes new t (brought.NoFrame h n s) = quiet B H (Received t r ∷ []) notes new (rw (h t, n) NoFrame) s
taken_gains B H r notes new t (brought.Unmoved frame f s) =
    quiet B H (Received t r ∷ []) notes new
    (rw f (subst (λ ns. Deliver B (frame ∷ []) ns []) (append-nil (slot_notes notes)) (NoSocketGets frame (slot_notes notes) NoFrame))) s
taken_gains B H r notes new t (brought.OneFrame frame f b) = λ like. record {
  seen_is = b.hands.seen_is ∙ like;
  deliveries = delivery b ∷ [];
  came = rw f (subst (λ ns. Deliver B (frame ∷ []) ns (delivery b ∷ [])) (append-nil (slot_notes notes))
      (OneGets frame (slot_notes notes) (delivery b) (gets like b) NoFrame));
  heard = (record { socket = b.hands.socket; there = b.hands.there; hears = heard like }, tt);
  udp_is = λ i. b.hands.udp_is i
      ∙ one_put i (delivery b) b.hands.socket (udp_at H.sockets i) (λ e. ap (λ k. udp_at H.sockets k) (sym e) ∙ b.hands.there);
} where
  heard : seen H ≡ seen B → accepts (is_broadcast B.ip_addrs) b.hands.socket (dst_addr b.header) (udp_in b.octets).0.dst_port ≡ true
  heard like = subst
      (λ (K : Host). accepts (is_broadcast K.ip_addrs) b.hands.socket (dst_addr b.header) (udp_in b.octets).0.dst_port ≡ true) like b.hands.hears

-- before the frame is taken slots that have ended are dropped, at the call's moment
abbrev pub IsAt : Host → ℤ → Type 0
IsAt B t = seen (at B t) ≡ seen B

-- from a host of another moment, too
pub ingress_gained : (B : Host) (t : ℤ) (answer : PollIngressSingleResult) (old new : Host) (told : List Event) (notes : List Note) →
    Ingress t answer old told notes new → seen (at old t) ≡ seen B → Gained B old told notes new
ingress_gained B t answer old new told notes i like =
    let r = i.response in
    let second = taken_gains B (without_expired old t) i.reception r.notes_taking r.taken t
    (took (without_expired old t) i.reception r.reply r.notes_taking r.taken r.takes) in
    let u = responded r.reply r.taken i.frames r.notes_responding new r.responds in
    let third = gained_none B r.taken (sends i.frames) r.notes_responding new (handed_frames-sends i.frames) u.unnoted u.seen_is u.sockets_are in
    let both = gained_on B (without_expired old t) r.taken new (Received t i.reception ∷ [])
    (sends i.frames) r.notes_taking r.notes_responding second third like in
    rw (i.events, r.all_notes)
    (record { seen_is = both.seen_is; deliveries = both.deliveries; came = both.came; heard = both.heard; udp_is = both.udp_is })

pub ingress_gains : (B : Host) (t : ℤ) → IsAt B t → (answer : PollIngressSingleResult) (old new : Host) (told : List Event) (notes : List Note) →
    Ingress t answer old told notes new → Gains B old told notes new
ingress_gains B t is answer old new told notes i = λ like. ingress_gained B t answer old new told notes i (ap (λ (K : Host). at K t) like ∙ is)
