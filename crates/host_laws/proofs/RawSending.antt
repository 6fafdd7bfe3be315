-- What parts of a call send: packets that raw sockets had queued, and frames that have what those have which none sent.
use Rattle.std.proofs.Common.{inl, inr, ◌≡◌, ℕ, ◌*◌, ◌<◌, true, false, List, [], ◌∷◌, ◌++◌, length, drop, refl, sym, ◌∙◌, ap, subst, arith}
use Rattle.std.proofs.Common.{Option, Some, None, Ok, Err, option_map, option_and_then, is_ok}
use Rattle.std.specs.Prelude.{◌⊎◌, ◌+◌, ◌-◌, ◌/◌, cond, is_none}
use Rattle.std.specs.List.{AllByRecursion}
use Rattle.std.proofs.lemmas.List.{append_assoc, length-map}
use Rattle.net_base.specs.Checksum.{ip_mtu_of}
use Rattle.net_base.specs.declared.phy.DeviceCapabilities.{DeviceCapabilities}
use Rattle.net_base.specs.declared.phy.Medium.{Medium}
use Rattle.ip_address.specs.declared.hardware.HardwareAddress.{HardwareAddress}
use Rattle.ip_address.specs.Hardware.{IsOf}
use Rattle.ip_wire.specs.declared.ip_packet.IpRepr.{IpRepr}
use Rattle.ip_wire.specs.declared.ip_packet.IpRepr.TheVariants as repr
use Rattle.ip_wire.specs.IpPacket.{next_header}
use Rattle.sockets.specs.Queue.{first_of}
use Rattle.sockets.specs.Raw.{RawSocket, Sent, packet_to_send, offered_packet, socket_after_offer, socket_after_told, without_first_to_send}
use Rattle.sockets.specs.Icmp as icmp_socket
use Rattle.sockets.specs.Udp as udp_socket
use Rattle.sockets.specs.Tcp as tcp_socket
use Rattle.sockets.specs.declared.socket.SocketOf.TheVariants.{Raw, Icmp, Udp, Tcp}
use Rattle.sockets.specs.Kinds.{RawOffer, IcmpOffer, UdpOffer}
use Rattle.fragmentation.specs.Fragments.{Fragment}
use Rattle.fragmentation.specs.Cuts.{Datagram, Piece, HasForm, cut, count, pieces_of, piece_of}
use Rattle.host_machine.specs.declared.results.DispatchError.{DispatchError}
use Rattle.host_machine.specs.Context.Note.{Note, OfCuts, Cut, PieceSent}
use Rattle.host_machine.specs.Context.Addresses.{source_for}
use Rattle.host_machine.specs.Context.Host.{Host, Socket, SocketSet, with_left}
use Rattle.host_machine.specs.Packet.Packet.{IpPayload, Packet, PacketV4, IsFormed, header_v4, payload_of, payload_len, total_len}
use Rattle.host_machine.specs.Packet.Packet as packet
use Rattle.host_machine.specs.Packet.Frame.{ip_frame, piece_frame, payload_text}
use Rattle.host_machine.specs.Send.Outcome.{Outcome}
use Rattle.host_machine.specs.Send.Dispatch.{Dispatches}
use Rattle.host_machine.specs.Context.Pieces.{datagram_of, piece_size}
use Rattle.host_machine.specs.Sockets.Offers.{packet_from, packet_of}
use Rattle.host_machine.specs.Context.Real.{IsRegular}
use Rattle.host_laws.specs.Laws.Steps.{SendsOneThing, ThePacket, ItsFirstPiece, ARequest}
use Rattle.host_laws.specs.Laws.Steps as laws
use Rattle.host_machine.proofs.Receive.Pieces.{IsIn, count_below, in_left, in_right, length-pieces_from}
use Rattle.host_laws.proofs.Runs.TwoHosts.{in_map}
use Rattle.host_machine.proofs.Receive.Parts.{size_positive}
use Rattle.host_machine.proofs.Send.Reached.{Reached}
use Rattle.host_laws.proofs.Runs.Walk.{dispatched}
use Rattle.host_laws.proofs.Discovery.NotedRequests.{sends_one}
use Rattle.host_laws.proofs.Interface.OwnMessages.{is_own}
use Rattle.host_laws.proofs.Interface.Turns.{between_is, icmp_is, tcp_is}
use Rattle.host_laws.proofs.Accounts.{cuts_follow, dispatch_follows, follows}
use Rattle.host_laws.proofs.FramesWithoutUdp.{request_at_most}
use Rattle.host_laws.proofs.RawFrames.{packet_for}
use Rattle.host_laws.proofs.RawHandover.{Speaker, ByRaw, ByTcp, changed, speaker_at, unchanged}
use Rattle.host_laws.proofs.RawReception.{changed_twice}
use Rattle.host_laws.proofs.NoSegments.{echo_no_segment}
use Rattle.host_laws.proofs.RawReplies.{HasNoTcp, is_segment}
use Rattle.host_laws.proofs.Unspoken.{Other, Unspoken, is_raw}
use Rattle.host_laws.proofs.Ways.{Goes}
use Rattle.host_laws.proofs.Ways as ways

-- a frame is that of a packet that left the front of a raw socket's queue
pub record IsQueued (m : Medium) (old new : SocketSet) (frame : List ℕ) : Type 0 where
  pub index : ℕ
  pub socket : RawSocket
  pub there : speaker_at old index ≡ Some (ByRaw socket)
  pub after : RawSocket
  pub there_after : speaker_at new index ≡ Some (ByRaw after)
  pub left : List (Unit {0} × List ℕ)
  pub front : left ++ after.tx.packets ≡ socket.tx.packets
  pub octets : List ℕ
  pub has_left : IsIn (tt, octets) left
  pub sent : Sent
  pub is_read : packet_to_send socket octets ≡ Some sent
  pub host : Host
  pub far : HardwareAddress
  pub own_of : IsOf m host.hardware_addr
  pub far_of : IsOf m far
  pub formed : IsFormed (packet_for sent)
  pub frame_is : frame ≡ ip_frame host far (packet_for sent)

-- or it has what frames have that none sent
abbrev pub Speaks : Unspoken → Medium → SocketSet → SocketSet → List ℕ → Type 0
Speaks u m old new frame = u.Holds m frame ⊎ IsQueued m old new frame

-- raw sockets keep version and protocol, and have to send what they had, less what left the front; TCP sockets stay
pub record Moves (old new : SocketSet) : Type 0 where
  pub change : ℕ → RawSocket → RawSocket
  pub speakers : (i : ℕ) → speaker_at new i ≡ option_map (changed (change i)) (speaker_at old i)
  pub version : (i : ℕ) (s : RawSocket) → (change i s).version ≡ s.version
  pub protocol : (i : ℕ) (s : RawSocket) → (change i s).protocol ≡ s.protocol
  pub queue : (i : ℕ) (s : RawSocket) → (left : List (Unit {0} × List ℕ)) × (left ++ (change i s).tx.packets ≡ s.tx.packets)

abbrev pub moves_none : {old new : SocketSet} → ((i : ℕ) → speaker_at new i ≡ speaker_at old i) → Moves old new
moves_none {old} e = record {
  change = λ i s. s;
  speakers = λ i. e i ∙ unchanged (speaker_at old i);
  version = λ i s. refl;
  protocol = λ i s. refl;
  queue = λ i s. ([], refl);
}

pub moves_on : {a b c : SocketSet} → Moves a b → Moves b c → Moves a c
moves_on {a} x y = record {
  change = λ i s. y.change i (x.change i s);
  speakers = λ i. y.speakers i ∙ ap (option_map (changed (y.change i))) (x.speakers i)
      ∙ changed_twice (x.change i) (y.change i) (λ s. y.change i (x.change i s)) (λ s. refl) (speaker_at a i);
  version = λ i s. y.version i (x.change i s) ∙ x.version i s;
  protocol = λ i s. y.protocol i (x.change i s) ∙ x.protocol i s;
  queue = λ i s. let one = x.queue i s in
      let two = y.queue i (x.change i s) in
      (one.0 ++ two.0, append_assoc one.0 two.0 _ ∙ ap (λ l. one.0 ++ l) two.1 ∙ one.1);
}

-- the raw socket as it was before
pub record Before (f : RawSocket → RawSocket) (o : Option Speaker) (s : RawSocket) : Type 0 where
  pub socket : RawSocket
  pub there : o ≡ Some (ByRaw socket)
  pub is : f socket ≡ s

pub raw_before : (f : RawSocket → RawSocket) (o : Option Speaker) (s : RawSocket) → option_map (changed f) o ≡ Some (ByRaw s) → Before f o s
raw_before f None s e = absurd cc
raw_before f (Some (ByRaw t)) s e = let is : f t ≡ s = cc in record { socket = t; there = refl; is = is }
raw_before f (Some ByTcp) s e = absurd cc

-- what is read of octets to send is by version and protocol alone
read_alike : (s t : RawSocket) (octets : List ℕ) → s.version ≡ t.version → s.protocol ≡ t.protocol → packet_to_send s octets ≡ packet_to_send t octets
read_alike s t octets v p = ap (λ x. packet_to_send (record s { version = x }) octets) v
    ∙ ap (λ x. packet_to_send (record s { version = t.version; protocol = x }) octets) p

queued_before : {m : Medium} {a b c : SocketSet} {frame : List ℕ} → Moves a b → IsQueued m b c frame → IsQueued m a c frame
queued_before {m} {a} {b} {c} moves q =
    let before = raw_before (moves.change q.index) (speaker_at a q.index) q.socket (sym (moves.speakers q.index) ∙ q.there) in
    let v = moves.version q.index before.socket in
    let p = moves.protocol q.index before.socket in
    let one = moves.queue q.index before.socket in
    record {
      index = q.index;
      socket = before.socket;
      there = before.there;
      after = q.after;
      there_after = q.there_after;
      left = one.0 ++ q.left;
      front = append_assoc one.0 q.left q.after.tx.packets
          ∙ ap (λ l. one.0 ++ l) (q.front ∙ ap (λ (s : RawSocket). s.tx.packets) (sym before.is)) ∙ one.1;
      octets = q.octets;
      has_left = in_right one.0 q.left (tt, q.octets) q.has_left;
      sent = q.sent;
      is_read = sym (ap (λ (s : RawSocket). packet_to_send s q.octets) (sym before.is)
          ∙ read_alike (moves.change q.index before.socket) before.socket q.octets v p) ∙ q.is_read;
      host = q.host;
      far = q.far;
      own_of = q.own_of;
      far_of = q.far_of;
      formed = q.formed;
      frame_is = q.frame_is;
    }

queued_after : {m : Medium} {a b c : SocketSet} {frame : List ℕ} → Moves b c → IsQueued m a b frame → IsQueued m a c frame
queued_after {m} {a} {b} {c} moves q =
    let two = moves.queue q.index q.after in
    record {
      index = q.index;
      socket = q.socket;
      there = q.there;
      after = moves.change q.index q.after;
      there_after = moves.speakers q.index ∙ ap (option_map (changed (moves.change q.index))) q.there_after;
      left = q.left ++ two.0;
      front = append_assoc q.left two.0 (moves.change q.index q.after).tx.packets ∙ ap (λ l. q.left ++ l) two.1 ∙ q.front;
      octets = q.octets;
      has_left = in_left q.left two.0 (tt, q.octets) q.has_left;
      sent = q.sent;
      is_read = q.is_read;
      host = q.host;
      far = q.far;
      own_of = q.own_of;
      far_of = q.far_of;
      formed = q.formed;
      frame_is = q.frame_is;
    }

pub all_before : (u : Unspoken) (m : Medium) (a b c : SocketSet) (frames : List (List ℕ)) → Moves a b →
    AllByRecursion (Speaks u m b c) frames → AllByRecursion (Speaks u m a c) frames
all_before u m a b c [] moves all = tt
all_before u m a b c (frame ∷ frames) moves all = (by all.0, all_before u m a b c frames moves all.1) where
  by : Speaks u m b c frame → Speaks u m a c frame
  by (inl none) = inl none
  by (inr q) = inr (queued_before moves q)

pub all_after : (u : Unspoken) (m : Medium) (a b c : SocketSet) (frames : List (List ℕ)) → Moves b c →
    AllByRecursion (Speaks u m a b) frames → AllByRecursion (Speaks u m a c) frames
all_after u m a b c [] moves all = tt
all_after u m a b c (frame ∷ frames) moves all = (by all.0, all_after u m a b c frames moves all.1) where
  by : Speaks u m a b frame → Speaks u m a c frame
  by (inl none) = inl none
  by (inr q) = inr (queued_after moves q)

-- a payload of the host's own
pub own_other : {Segments : Type 0} (payload : IpPayload) → is_own payload ≡ true → (Segments → is_segment payload ≡ false) → Other Segments payload
own_other payload own none = record { no_raw = by payload own; no_segment = none } where
  by : (payload : IpPayload) → is_own payload ≡ true → is_raw payload ≡ false
  by (packet.Icmpv4 message octets) own = refl
  by (packet.Icmpv6 message octets) own = refl
  by (packet.Udp header octets) own = refl
  by (packet.Tcp header octets) own = refl
  by (packet.Raw number octets) own = absurd cc
  by (packet.Igmp message) own = refl
  by (packet.Mld count records) own = refl

-- pending fragments stay parts
rest_is : (u : Unspoken) (d : Datagram) (y : ℕ) (first : Piece) (rest : List Piece) →
    pieces_of d ≡ first ∷ rest → HasForm d → d.size ≡ y * 8 → 0 < d.size → AllByRecursion u.Part rest
rest_is u d y first [] e form size pos = tt
rest_is u d y first (second ∷ others) e form size pos =
    let several : length (pieces_of d) ≡ length (first ∷ second ∷ others) = ap length e in
    let counted : length (pieces_of d) ≡ count d.size (length d.payload) = length-map (cut d.size d.payload) (piece_of d)
    ∙ length-pieces_from d.size d.payload 0 (count d.size (length d.payload)) in
    let two : 1 < count d.size (length d.payload) = omega (arith, several, counted) in
    let more : d.size < length d.payload = omega (arith, count_below d.size (length d.payload) 1 pos two) in
    let all : AllByRecursion u.Part (first ∷ second ∷ others) = rw e at (u.parts d y form size pos more) in
    all.1

abbrev Pending : Unspoken → Host → List (List ℕ) → List Note → Host → Type 0
Pending u old frames notes new = IsRegular old → AllByRecursion u.Part old.left → IsRegular new × AllByRecursion u.Part new.left

pub dispatch_pending : (u : Unspoken) {p : Packet} {outcome : Outcome} {H new : Host} {frames : List (List ℕ)} {notes : List Note} →
    Dispatches p outcome H frames notes new → IsRegular H → AllByRecursion u.Part H.left → AllByRecursion u.Part new.left
dispatch_pending u {p} {outcome} {H} {new} {frames} {notes} d r all =
    (dispatched (Pending u) (λ old new k r all. let e = ap (λ (K : Host). K.left) k.same in
    ((follows old new (ap (λ (K : Host). K.capabilities) k.same) e (k.real r.real) r).regular, rw e all))
    (λ a b c fs gs xs ys one two r all. let x = one r all in two x.0 x.1)
    (λ H own source target mine r all. (r, all))
    (λ H hop unknown r all. (record { real = record { own = r.real.own; neighbors = r.real.neighbors }; mtu = r.mtu; left = r.left }, all))
    (λ H r all. (record { real = record { own = r.real.own; neighbors = r.real.neighbors }; mtu = r.mtu; left = r.left }, all))
    (λ H h p reached r all. (r, all)) (cuts u) d r all).1 where
      cuts : (u : Unspoken) (H : Host) (h : HardwareAddress) (id : ℕ) (p : PacketV4) (first : Piece) (rest : List Piece) →
          pieces_of (datagram_of H h id p) ≡ first ∷ rest → HasForm (datagram_of H h id p) → Reached H h →
          Pending u H (piece_frame H first ∷ []) (OfCuts (Cut (datagram_of H h id p)) ∷ OfCuts (PieceSent first) ∷ []) (with_left H rest)
      cuts u H h id p first rest e form reached r all = (
        (cuts_follow H h id p first rest e form reached r).regular,
        rest_is u (datagram_of H h id p) ((ip_mtu_of H.capabilities - 20) / 8) first rest e form refl (size_positive (ip_mtu_of H.capabilities) r.mtu),
      )

-- what a host has to be in order to send so
pub record Ready (u : Unspoken) (H : Host) : Type 0 where
  pub regular : IsRegular H
  pub pending : AllByRecursion u.Part H.left
  pub no_tcp : u.Segments → HasNoTcp H.sockets

-- what was sent, and what remains
pub record Sends (u : Unspoken) (old : Host) (frames : List (List ℕ)) (new : Host) : Type 0 where
  pub all : AllByRecursion (Speaks u old.capabilities.medium old.sockets new.sockets) frames
  pub same : new.capabilities ≡ old.capabilities
  pub regular : IsRegular new
  pub pending : AllByRecursion u.Part new.left

-- a packet of another protocol
first_piece : (d : Datagram) {first : Piece} {rest : List Piece} → pieces_of d ≡ first ∷ rest → (f : Fragment) × (first ≡ piece_of d f)
first_piece d {first} {rest} e = let r = in_map (piece_of d) (cut d.size d.payload) first (rw e (inl refl)) in (r.0, r.2)

pub other_frames : (u : Unspoken) (p : Packet) (outcome : Outcome) (H : Host) (after : SocketSet) (frames : List (List ℕ)) (notes : List Note) →
    IsRegular H → Other u.Segments (payload_of p) → SendsOneThing p outcome H frames notes →
    AllByRecursion (Speaks u H.capabilities.medium H.sockets after) frames
other_frames u p outcome H after frames notes r other (laws.Nothing f a c) = rw f tt
other_frames u p outcome H after frames notes r other (ThePacket h to o f a c) =
    rw f (inl (u.packet_holds H.capabilities.medium H h p r.real.own to other), tt)
other_frames u p outcome H after frames notes r other (ItsFirstPiece h q first rest to of pieces o f a c) =
    let m = H.capabilities.medium in
    let is = first_piece (datagram_of H h H.ipv4_id q) pieces in
    let none : Other u.Segments q.payload = subst (λ (x : Packet). Other u.Segments (payload_of x)) of other in
    let part : u.Part first = rw is.1 (u.other_part H h H.ipv4_id q is.0 none) in
    let there : IsOf m first.destination = rw is.1 to in
    rw f (inl (u.piece_holds m H first r.real.own there part), tt)
other_frames u p outcome H after frames notes r other (ARequest frame is silent o f a c) =
    rw f (inl (u.at_most_holds H.capabilities.medium frame (request_at_most H.capabilities.medium frame is)), tt)

pub other_sends : (u : Unspoken) {p : Packet} {outcome : Outcome} {H new : Host} {frames : List (List ℕ)} {notes : List Note} →
    Other u.Segments (payload_of p) → Dispatches p outcome H frames notes new → IsRegular H → AllByRecursion u.Part H.left → Sends u H frames new
other_sends u {p} {outcome} {H} {new} {frames} {notes} other d r all =
    let f = dispatch_follows d r in
    record {
      all = other_frames u p outcome H new.sockets frames notes r other (sends_one p outcome H new frames notes r.real d);
      same = f.same;
      regular = f.regular;
      pending = dispatch_pending u d r all;
    }

-- the packet that a raw socket offers is the first in its queue
record FirstQueued (s : RawSocket) (p : Packet) : Type 0 where
  octets : List ℕ
  rest : List (Unit {0} × List ℕ)
  front : s.tx.packets ≡ (tt, octets) ∷ rest
  sent : Sent
  is_read : packet_to_send s octets ≡ Some sent
  packet_is : packet_for sent ≡ p

first_queued : (s : RawSocket) (p : Packet) → option_and_then packet_of (option_map RawOffer (offered_packet s)) ≡ Some p → FirstQueued s p
first_queued s p e = by s.tx.packets refl where
  by : (ps : List (Unit {0} × List ℕ)) → s.tx.packets ≡ ps → FirstQueued s p
  by [] is = let none : option_and_then packet_of (option_map RawOffer (offered_packet s)) ≡ None = rw is refl in absurd cc
  by (x ∷ xs) is = read (packet_to_send s x.1) refl where
    offered : offered_packet s ≡ packet_to_send s x.1
    offered = ap (λ l. option_and_then (λ (q : Unit {0} × List ℕ). packet_to_send s q.1) (first_of l)) is

    read : (o : Option Sent) → packet_to_send s x.1 ≡ o → FirstQueued s p
    read None none =
        let no : option_and_then packet_of (option_map RawOffer (offered_packet s)) ≡ None =
        ap (λ y. option_and_then packet_of (option_map RawOffer y)) (offered ∙ none) in
        absurd cc
    read (Some y) some =
        let one : option_and_then packet_of (option_map RawOffer (offered_packet s)) ≡ Some (packet_for y) =
        ap (λ y. option_and_then packet_of (option_map RawOffer y)) (offered ∙ some) in
        record { octets = x.1; rest = xs; front = is; sent = y; is_read = some; packet_is = cc }

pub raw_payload : (x : Sent) → payload_of (packet_for x) ≡ packet.Raw (next_header x.header) x.payload
raw_payload x = by x.header where
  by : (h : IpRepr) → payload_of (packet_for (record { header = h; payload = x.payload })) ≡ packet.Raw (next_header h) x.payload
  by (repr.Ipv4 h) = refl
  by (repr.Ipv6 h) = refl

text_len : (c : DeviceCapabilities) (q : PacketV4) (x : Sent) → q.payload ≡ packet.Raw (next_header x.header) x.payload →
    length (payload_text c (repr.Ipv4 (header_v4 q)) q.payload) ≡ payload_len q.payload
text_len c q x e = ap (λ p. length (payload_text c (repr.Ipv4 (header_v4 q)) p)) e ∙ ap payload_len (sym e)

raw_frames : (u : Unspoken) (H : Host) (after : SocketSet) (i : ℕ) (s : RawSocket) (p : Packet) (frames : List (List ℕ)) (notes : List Note) →
    speaker_at H.sockets i ≡ Some (ByRaw s) → speaker_at after i ≡ Some (ByRaw (without_first_to_send s)) →
    IsRegular H → FirstQueued s p → Goes H p frames notes → AllByRecursion (Speaks u H.capabilities.medium H.sockets after) frames
raw_frames u H after i s p frames notes there later r q (ways.InAFrame h to l formed w c) = rw w (
  inr (record {
    index = i;
    socket = s;
    there = there;
    after = without_first_to_send s;
    there_after = later;
    left = (tt, q.octets) ∷ [];
    front = ap (λ l. (tt, q.octets) ∷ drop 1 l) q.front ∙ sym q.front;
    octets = q.octets;
    has_left = inl refl;
    sent = q.sent;
    is_read = q.is_read;
    host = H;
    far = h;
    own_of = r.real.own;
    far_of = to r.real;
    formed = subst IsFormed (sym q.packet_is) formed;
    frame_is = ap (ip_frame H h) (sym q.packet_is);
  }),
  tt,
)
raw_frames u H after i s p frames notes there later r q (ways.Cut v h id first rest to is l m pieces form formed w c) =
    let payload : v.payload ≡ packet.Raw (next_header q.sent.header) q.sent.payload = sym (ap payload_of (q.packet_is ∙ is)) ∙ raw_payload q.sent in
    let len : length (datagram_of H h id v).payload ≡ payload_len v.payload = text_len H.capabilities v q.sent payload in
    let long : ip_mtu_of H.capabilities < 20 + payload_len v.payload = subst (λ (x : Packet). ip_mtu_of H.capabilities < total_len x) is l in
    let mtu = r.mtu in
    let more : piece_size H.capabilities < length (datagram_of H h id v).payload = omega (arith, len, long) in
    let all : AllByRecursion u.Part (first ∷ rest) = rw pieces at (u.parts (datagram_of H h id v)
    ((ip_mtu_of H.capabilities - 20) / 8) form refl (size_positive (ip_mtu_of H.capabilities) r.mtu) more) in
    let at_first = first_piece (datagram_of H h id v) pieces in
    let there : IsOf H.capabilities.medium first.destination = rw at_first.1 (to r.real) in
    rw w (inl (u.piece_holds H.capabilities.medium H first r.real.own there all.0), tt)
raw_frames u H after i s p frames notes there later r q (ways.ToUnspecifiedAddress o w c) = rw w tt
raw_frames u H after i s p frames notes there later r q (ways.Longer l m w c) = rw w tt

deferred_frames : (u : Unspoken) → (p : Packet) (error : DispatchError) (H : Host) (after : SocketSet) (frames : List (List ℕ)) (notes : List Note) →
    SendsOneThing p (Err error) H frames notes → AllByRecursion (Speaks u H.capabilities.medium H.sockets after) frames
deferred_frames u p error H after frames notes (laws.Nothing f a c) = rw f tt
deferred_frames u p error H after frames notes (ThePacket h to o f a c) = absurd cc
deferred_frames u p error H after frames notes (ItsFirstPiece h q first rest to of pieces o f a c) = absurd cc
deferred_frames u p error H after frames notes (ARequest frame is silent o f a c) =
    rw f (inl (u.at_most_holds H.capabilities.medium frame (request_at_most H.capabilities.medium frame is)), tt)

pub raw_all : (u : Unspoken) → (H : Host) (after : SocketSet) (i : ℕ) (s : RawSocket) (p : Packet) (outcome : Outcome) (frames : List (List ℕ))
    (notes : List Note) (new : Host) → speaker_at H.sockets i ≡ Some (ByRaw s) →
    speaker_at after i ≡ Some (ByRaw (socket_after_told (is_ok outcome) (socket_after_offer s))) →
    packet_from H (Raw s) ≡ Some p → Dispatches p outcome H frames notes new → IsRegular H →
    AllByRecursion (Speaks u H.capabilities.medium H.sockets after) frames
raw_all u H after i s p (Ok tt) frames notes new there later q d r =
    raw_frames u H after i s p frames notes there (later ∙ ap (λ x. Some (ByRaw (without_first_to_send x))) (still_there (offered_packet s) q))
    r (first_queued s p q) (ways.gone d) where
      still_there : (o : Option Sent) → option_and_then packet_of (option_map RawOffer o) ≡ Some p →
          cond (is_none o) (without_first_to_send s) s ≡ s
      still_there None e = absurd cc
      still_there (Some x) e = refl
raw_all u H after i s p (Err error) frames notes new there later q d r =
    deferred_frames u p error H after frames notes (sends_one p (Err error) H new frames notes r.real d)

-- what a socket of another kind offers
icmp_other : {Segments : Type 0} (o : Option icmp_socket.Sent) (p : Packet) →
    option_and_then packet_of (option_map IcmpOffer o) ≡ Some p → Other Segments (payload_of p)
icmp_other o p e = own_other (payload_of p) (icmp_is o p e) (λ six. echo_no_segment o p e)

udp_other : {Segments : Type 0} (o : Option udp_socket.Datagram) (p : Packet) →
    option_and_then packet_of (option_map UdpOffer o) ≡ Some p → Other Segments (payload_of p)
udp_other None p e = absurd cc
udp_other {Segments} (Some d) p e =
    subst (Other Segments) (sym (between_is d.src.addr d.dst.addr d.hop_limit _ p e)) (record { no_raw = refl; no_segment = λ six. refl })

pub offered_other : (u : Unspoken) (H : Host) (s : Socket) (p : Packet) → packet_from H s ≡ Some p →
    ((t : RawSocket) → s ≡ Raw t → ⊥) → (u.Segments → (t : tcp_socket.TcpSocket) → s ≡ Tcp t → ⊥) → Other u.Segments (payload_of p)
offered_other u H (Raw s) p e raw tcp = absurd (raw s refl)
offered_other u H (Icmp s) p e raw tcp = icmp_other (icmp_socket.offered_packet (source_for H.ip_addrs) s) p e
offered_other u H (Udp s) p e raw tcp = udp_other (udp_socket.offered_packet (source_for H.ip_addrs) s) p e
offered_other u H (Tcp s) p e raw tcp =
    own_other (payload_of p) (tcp_is (tcp_socket.offered_packet H.moment (source_for H.ip_addrs) s) p e) (λ six. absurd (tcp six s refl))
