-- What a call that sends does to raw sockets, from the turn of one to the whole call, and what it sends besides.
use Rattle.std.proofs.Common.{inl, ◌≡◌, ℕ, ◌==◌, Bool, true, false, List, [], ◌∷◌, ◌++◌, refl, sym, ◌∙◌, ap, subst}
use Rattle.std.proofs.Common.{Option, Some, None, option_map, option_and_then, slice_get, slice_set, if◌then◌else◌, drop, arith}
use Rattle.std.specs.Prelude.{ℤ, cond, is_none, is_ok}
use Rattle.std.specs.List.{AllByRecursion}
use Rattle.std.proofs.lemmas.Bool.Decides.{nat_tests}
use Rattle.std.proofs.lemmas.List.{append_assoc}
use Rattle.net_base.specs.Device.{Event, Asked, sent_frames}
use Rattle.net_base.specs.declared.phy.DeviceCapabilities.{DeviceCapabilities}
use Rattle.ip_address.specs.declared.cidr.IpCidr.{IpCidr}
use Rattle.ip_address.specs.declared.ip.IpAddress.{IpAddress}
use Rattle.iface_tables.specs.declared.groups.Group.{Group}
use Rattle.iface_tables.specs.declared.groups.GroupState.{GroupState}
use Rattle.sockets.specs.declared.socket.SocketOf.TheVariants.{Raw, Icmp, Udp, Tcp}
use Rattle.sockets.specs.Kinds as kinds
use Rattle.sockets.specs.Raw.{RawSocket, offered_packet, socket_after_offer, socket_after_told, without_first_to_send}
use Rattle.sockets.specs.Tcp.{TcpSocket}
use Rattle.host_machine.specs.declared.results.PollResult.{PollResult}
use Rattle.host_machine.specs.declared.results.Turn.{Turn}
use Rattle.host_machine.specs.Context.Note.{Note}
use Rattle.host_machine.specs.Context.Host.{Host, Socket, SocketSet, Storage, at}
use Rattle.host_machine.specs.Packet.Packet.{Packet, payload_of}
use Rattle.host_machine.specs.Packet.Frame.{sends}
use Rattle.host_machine.specs.Send.Outcome.{Outcome}
use Rattle.host_machine.specs.Send.Dispatch.{Dispatches}
use Rattle.host_machine.specs.Sockets.Turns.{SocketTurn, Serves, Walks, SocketEgress}
use Rattle.host_machine.specs.Send.Fragments.{Ipv4Egress}
use Rattle.host_machine.specs.Interface.Egress.{Round, Egress}
use Rattle.host_machine.specs.Sockets.Offers.{packet_from, socket_after_asking}
use Rattle.host_machine.specs.Sockets.Turns as turns
use Rattle.host_machine.specs.Send.Fragments as fragments
use Rattle.host_machine.specs.Multicast.Joins as multicast
use Rattle.host_machine.specs.Multicast.Igmp.{IgmpEgress}
use Rattle.host_machine.specs.Multicast.Mld.{MldEgress}
use Rattle.host_machine.specs.Multicast.Igmp as igmp
use Rattle.host_machine.specs.Multicast.Mld as mld
use Rattle.host_machine.specs.Discovery.RouterSolicitation.{NdiscRsEgress}
use Rattle.host_machine.specs.Discovery.RouterSolicitation as slaac
use Rattle.host_machine.specs.Interface.Parts.{Part}
use Rattle.host_machine.specs.Context.Real.{IsPart, IsRegular}
use Rattle.host_laws.proofs.Interface.PollCalls.{both}
use Rattle.host_laws.proofs.Receive.Malformed.{sent_frames-sends}
use Rattle.host_laws.proofs.Discovery.NotedRequests.{sends_one}
use Rattle.host_laws.proofs.Runs.Walk.{sent_frames-append}
use Rattle.host_laws.proofs.Interface.OwnMessages.{is_own}
use Rattle.host_laws.proofs.Interface.Turns.{join_is, leave_is, report_is, solicitation_is, turn_sockets}
use Rattle.host_laws.specs.RawArrivals.{receiver_at, without_sending}
use Rattle.host_laws.proofs.Accounts.{dispatch_follows, still}
use Rattle.host_laws.proofs.IdleParts.{Idle, dispatch_idle}
use Rattle.host_laws.proofs.IngressDeliveries.{all-append}
use Rattle.host_laws.proofs.Lists.{eq_of}
use Rattle.host_laws.proofs.NoSegments.{join_no_segment, leave_no_segment, report_no_segment, solicitation_no_segment}
use Rattle.host_laws.proofs.Places.{kind_of, one_changed, one_stays}
use Rattle.host_laws.proofs.RawHandover.{Speaker, ByRaw, ByTcp, changed, raw_is, raw_of, speaker, speaker_at, unchanged}
use Rattle.host_laws.proofs.RawReplies.{is_segment, no_tcp_after}
use Rattle.host_laws.proofs.Unspoken.{Unspoken}
use Rattle.host_laws.proofs.RawSending.{Moves, Ready, Sends, Speaks, all_after, all_before, dispatch_pending, moves_none, moves_on}
use Rattle.host_laws.proofs.RawSending.{offered_other, other_frames, other_sends, own_other, raw_all}

-- sockets as what they have received says
receiver_by : (f : RawSocket → RawSocket) (g : RawSocket → RawSocket) →
    ((s : RawSocket) → without_sending (f s) ≡ g (without_sending s)) → (o : Option Speaker) →
    option_map without_sending (option_and_then raw_of (option_map (changed f) o)) ≡ option_map g (option_map without_sending (option_and_then raw_of o))
receiver_by f g same None = refl
receiver_by f g same (Some (ByRaw s)) = ap (λ x. Some x) (same s)
receiver_by f g same (Some ByTcp) = refl

pub receivers : (old new : SocketSet) (i : ℕ) (f g : RawSocket → RawSocket) → speaker_at new i ≡ option_map (changed f) (speaker_at old i) →
    ((s : RawSocket) → without_sending (f s) ≡ g (without_sending s)) → receiver_at new i ≡ option_map g (receiver_at old i)
receivers old new i f g e same =
    ap (option_map without_sending) (raw_is new i ∙ ap (option_and_then raw_of) e)
    ∙ receiver_by f g same (speaker_at old i)
    ∙ ap (λ o. option_map g (option_map without_sending o)) (sym (raw_is old i))

same_receiver : (o : Option RawSocket) → option_map (λ s. s) o ≡ o
same_receiver None = refl
same_receiver (Some s) = refl

-- what part of a call that sends does
pub record Sending (u : Unspoken) (old : Host) (told : List Event) (new : Host) : Type 0 where
  pub moves : Moves old.sockets new.sockets
  pub hardware : new.hardware_addr ≡ old.hardware_addr
  pub receivers_are : (i : ℕ) → receiver_at new.sockets i ≡ receiver_at old.sockets i
  pub sends_so : Ready u old → Sends u old (sent_frames told) new

abbrev pub SendsPart : Unspoken → Part
SendsPart u old told notes new = Sending u old told new

pub ready_on : {u : Unspoken} {old new : Host} {frames : List (List ℕ)} → Moves old.sockets new.sockets → Ready u old → Sends u old frames new → Ready u new
ready_on {old = old} {new = new} moves ready x =
    record { regular = x.regular; pending = x.pending; no_tcp = λ six. no_tcp_after old.sockets new.sockets moves.change moves.speakers (ready.no_tcp six) }

pub sends_on : {u : Unspoken} {a b c : Host} {fs gs : List (List ℕ)} → Moves a.sockets b.sockets → Moves b.sockets c.sockets →
    Sends u a fs b → Sends u b gs c → Sends u a (fs ++ gs) c
sends_on {u} {a} {b} {c} {fs} {gs} first second x y = record {
  all = all-append (Speaks u a.capabilities.medium a.sockets c.sockets) fs gs
      (all_after u a.capabilities.medium a.sockets b.sockets c.sockets fs second x.all)
      (all_before u a.capabilities.medium a.sockets b.sockets c.sockets gs first
      (subst (λ (d : DeviceCapabilities). AllByRecursion (Speaks u d.medium b.sockets c.sockets) gs) x.same y.all));
  same = y.same ∙ x.same;
  regular = y.regular;
  pending = y.pending;
}

pub sending_on : (u : Unspoken) (a b c : Host) (ts us : List Event) (xs ys : List Note) →
    SendsPart u a ts xs b → SendsPart u b us ys c → SendsPart u a (ts ++ us) (xs ++ ys) c
sending_on u a b c ts us xs ys x y = record {
  moves = moves_on x.moves y.moves;
  hardware = y.hardware ∙ x.hardware;
  receivers_are = λ i. y.receivers_are i ∙ x.receivers_are i;
  sends_so = λ ready. let one = x.sends_so ready in
      rw sent_frames-append (sends_on x.moves y.moves one (y.sends_so (ready_on x.moves ready one)));
}

-- where the sockets stay
idle_sending : (u : Unspoken) {old new : Host} {told : List Event} → Idle old new → (Ready u old → Sends u old (sent_frames told) new) → Sending u old told new
idle_sending u i s = record {
  moves = moves_none (λ j. ap (λ t. speaker_at t j) i.sockets_are);
  hardware = ap (λ (K : Host). K.hardware_addr) i.base_is;
  receivers_are = λ j. ap (λ t. receiver_at t j) i.sockets_are;
  sends_so = s;
}

-- where nothing is sent, and nothing changes that is read
pub record Stays (old new : Host) : Type 0 where
  pub capabilities : new.capabilities ≡ old.capabilities
  pub hardware : new.hardware_addr ≡ old.hardware_addr
  pub known : new.neighbors.known ≡ old.neighbors.known
  pub left : new.left ≡ old.left
  pub sockets : new.sockets ≡ old.sockets

pub stay : {old new : Host} → new.capabilities ≡ old.capabilities → new.hardware_addr ≡ old.hardware_addr →
    new.neighbors.known ≡ old.neighbors.known → new.left ≡ old.left → new.sockets ≡ old.sockets → Stays old new
stay c h k l s = record { capabilities = c; hardware = h; known = k; left = l; sockets = s }

pub nothing_sent : (u : Unspoken) {old new : Host} {told : List Event} → sent_frames told ≡ [] → Stays old new → Sending u old told new
nothing_sent u {old} {new} t s = record {
  moves = moves_none (λ j. ap (λ x. speaker_at x j) s.sockets);
  hardware = s.hardware;
  receivers_are = λ j. ap (λ x. receiver_at x j) s.sockets;
  sends_so = λ ready. let f = still old new s.capabilities s.hardware s.known s.left ready.regular in
      record { all = rw t tt; same = f.same; regular = f.regular; pending = rw s.left ready.pending };
}

same_sent : (u : Unspoken) {old new : Host} {told : List Event} → sent_frames told ≡ [] → new ≡ old → Sending u old told new
same_sent u t e = rw e (nothing_sent u t (stay refl refl refl refl refl))

-- before what changes nothing that is read
then_stays : (u : Unspoken) {old mid new K : Host} {told : List Event} → Sending u old told mid → new ≡ K → Stays mid K → Sending u old told new
then_stays u {old} {mid} {new} {K} {told} x e s = rw e (record {
  moves = moves_on x.moves (moves_none (λ j. ap (λ t. speaker_at t j) s.sockets));
  hardware = s.hardware ∙ x.hardware;
  receivers_are = λ j. ap (λ t. receiver_at t j) s.sockets ∙ x.receivers_are j;
  sends_so = λ ready.
      let y = x.sends_so ready in
      let f = still mid K s.capabilities s.hardware s.known s.left y.regular in
      record {
        all = subst (λ after. AllByRecursion (Speaks u old.capabilities.medium old.sockets after) (sent_frames told)) (sym s.sockets) y.all;
        same = f.same ∙ y.same;
        regular = f.regular;
        pending = rw s.left y.pending;
      };
})

-- of a message of the host's own
own_sending : (u : Unspoken) → {p : Packet} {outcome : Outcome} {H new : Host} {frames : List (List ℕ)} {notes : List Note}
    (told : List Event) → sent_frames told ≡ frames →
    is_own (payload_of p) ≡ true → is_segment (payload_of p) ≡ false → Dispatches p outcome H frames notes new → Sending u H told new
own_sending u {p} told t own none d = idle_sending u (dispatch_idle d)
    (λ ready. rw t (other_sends u (own_other (payload_of p) own (λ six. none)) d ready.regular ready.pending))

over_sends : (granted : Bool) (t : ℤ) (frames : List (List ℕ)) → sent_frames (Asked t granted ∷ sends frames) ≡ frames
over_sends granted t frames = sent_frames-sends frames

-- the turn of a raw socket: the first packet may leave its queue
abbrev after_turn : Bool → Bool → RawSocket → RawSocket
after_turn told is_done s = if told then socket_after_told is_done (socket_after_offer s) else socket_after_offer s

abbrev first_of_all : List (Unit {0} × List ℕ) → List (Unit {0} × List ℕ)
first_of_all [] = []
first_of_all (x ∷ xs) = x ∷ []

first_and_rest : (xs : List (Unit {0} × List ℕ)) → first_of_all xs ++ drop 1 xs ≡ xs
first_and_rest [] = refl
first_and_rest (x ∷ xs) = refl

abbrev LessOf : (RawSocket → RawSocket) → RawSocket → Type 0
LessOf f s = (left : List (Unit {0} × List ℕ)) × (left ++ (f s).tx.packets ≡ s.tx.packets)

offer_still : (s : RawSocket) → without_sending (socket_after_offer s) ≡ without_sending s
offer_still s = by (is_none (offered_packet s)) where
  by : (b : Bool) → without_sending (cond b (without_first_to_send s) s) ≡ without_sending s
  by true = refl
  by false = refl

told_still : (b : Bool) (s : RawSocket) → without_sending (socket_after_told b s) ≡ without_sending s
told_still true s = refl
told_still false s = refl

offer_queue : (s : RawSocket) → LessOf socket_after_offer s
offer_queue s = by (is_none (offered_packet s)) where
  by : (b : Bool) → (left : List (Unit {0} × List ℕ)) × (left ++ (cond b (without_first_to_send s) s).tx.packets ≡ s.tx.packets)
  by true = (first_of_all s.tx.packets, first_and_rest s.tx.packets)
  by false = ([], refl)

told_queue : (b : Bool) (s : RawSocket) → LessOf (socket_after_told b) s
told_queue true s = (first_of_all s.tx.packets, first_and_rest s.tx.packets)
told_queue false s = ([], refl)

turn_still : (told b : Bool) (s : RawSocket) → without_sending (after_turn told b s) ≡ without_sending s
turn_still true b s = told_still b (socket_after_offer s) ∙ offer_still s
turn_still false b s = offer_still s

turn_queue : (told b : Bool) (s : RawSocket) → LessOf (after_turn told b) s
turn_queue true b s =
    let one = offer_queue s in
    let two = told_queue b (socket_after_offer s) in
    (one.0 ++ two.0, append_assoc one.0 two.0 _ ∙ ap (λ l. one.0 ++ l) two.1 ∙ one.1)
turn_queue false b s = offer_queue s

-- at its index alone
abbrev at_index : ℕ → (RawSocket → RawSocket) → ℕ → RawSocket → RawSocket
at_index i f j s = if i == j then f s else s

index_still : (i : ℕ) (f : RawSocket → RawSocket) → ((s : RawSocket) → without_sending (f s) ≡ without_sending s) → (j : ℕ) (s : RawSocket) →
    without_sending (at_index i f j s) ≡ without_sending s
index_still i f same j s = by (i == j) where
  by : (b : Bool) → without_sending (if b then f s else s) ≡ without_sending s
  by true = same s
  by false = refl

index_queue : (i : ℕ) (f : RawSocket → RawSocket) → ((s : RawSocket) → LessOf f s) → (j : ℕ) (s : RawSocket) → LessOf (at_index i f j) s
index_queue i f less j s = by (i == j) where
  by : (b : Bool) → (left : List (Unit {0} × List ℕ)) × (left ++ (if b then f s else s).tx.packets ≡ s.tx.packets)
  by true = less s
  by false = ([], refl)

index_speakers : (i : ℕ) (f : RawSocket → RawSocket) (s : RawSocket) (j : ℕ) (o : Option Speaker) → (i ≡ j → o ≡ Some (ByRaw s)) →
    (if i == j then Some (ByRaw (f s)) else o) ≡ option_map (changed (at_index i f j)) o
index_speakers i f s j o there = by (i == j) refl where
  by : (b : Bool) → (i == j) ≡ b → (if b then Some (ByRaw (f s)) else o) ≡ option_map (changed (λ t. if b then f t else t)) o
  by true e = sym (ap (option_map (changed f)) (there (eq_of i j e)))
  by false e = unchanged o

abbrev index_moves : {old new : SocketSet} (i : ℕ) (f : RawSocket → RawSocket) (s : RawSocket) → ((t : RawSocket) → without_sending (f t) ≡ without_sending t) →
    ((t : RawSocket) → LessOf f t) → speaker_at old i ≡ Some (ByRaw s) →
    ((j : ℕ) → speaker_at new j ≡ (if i == j then Some (ByRaw (f s)) else speaker_at old j)) → Moves old new
index_moves {old} i f s same less there e = record {
  change = at_index i f;
  speakers = λ j. e j ∙ index_speakers i f s j (speaker_at old j) (λ is. ap (λ k. speaker_at old k) (sym is) ∙ there);
  version = λ j t. ap (λ (x : RawSocket). x.version) (index_still i f same j t);
  protocol = λ j t. ap (λ (x : RawSocket). x.protocol) (index_still i f same j t);
  queue = index_queue i f less;
}

-- what is sent at it, and what remains after it
record TurnSends (u : Unspoken) (H : Host) (after : SocketSet) (frames : List (List ℕ)) (mid : Host) : Type 0 where
  all : AllByRecursion (Speaks u H.capabilities.medium H.sockets after) frames
  same : mid.capabilities ≡ H.capabilities
  regular : IsRegular mid
  pending : AllByRecursion u.Part mid.left

no_turn : (u : Unspoken) (H : Host) (after : SocketSet) (told : List Event) (mid : Host) → sent_frames told ≡ [] → mid ≡ H → Ready u H →
    TurnSends u H after (sent_frames told) mid
no_turn u H after told mid t e ready =
    rw (t, e) (record { all = tt; same = refl; regular = ready.regular; pending = ready.pending })

turn_sends : (u : Unspoken) → (i : ℕ) (s : Socket) {s' : Socket} {turn : Turn} {H mid : Host} {told : List Event} {notes : List Note}
    (after : SocketSet) → slice_get H.sockets.places i ≡ Some (Some s) → speaker_at after i ≡ speaker s' →
    SocketTurn s turn s' H told notes mid → Ready u H → TurnSends u H after (sent_frames told) mid
turn_sends u i s {H = H} {mid = mid} {told = told} after there later (turns.Silent p t o m e r) ready =
    no_turn u H after told mid (ap sent_frames o) e ready
turn_sends u i s {H = H} {mid = mid} {told = told} after there later (turns.Refused p q t o m e r) ready =
    no_turn u H after told mid (ap sent_frames o) e ready
turn_sends u i s {s' = s'} {H = H} {mid = mid} {notes = notes} after there later (turns.Sent p outcome frames q d t o r) ready =
    let f = dispatch_follows d ready.regular in
    rw (ap sent_frames o ∙ sent_frames-sends frames)
    (record { all = by s there q r; same = f.same; regular = f.regular; pending = dispatch_pending u d ready.regular ready.pending }) where
      speaks : (t : Socket) → slice_get H.sockets.places i ≡ Some (Some t) → speaker_at H.sockets i ≡ speaker t
      speaks t is = ap (λ o. option_and_then speaker (option_and_then (λ (p : Storage). p) o)) is

      other : (t : Socket) → packet_from H t ≡ Some p → ((w : RawSocket) → t ≡ Raw w → ⊥) → (u.Segments → (w : TcpSocket) → t ≡ Tcp w → ⊥) →
          AllByRecursion (Speaks u H.capabilities.medium H.sockets after) frames
      other t from raw tcp = other_frames u p outcome H after frames notes ready.regular (offered_other u H t p from raw tcp)
          (sends_one p outcome H mid frames notes ready.regular.real d)

      by : (t : Socket) → slice_get H.sockets.places i ≡ Some (Some t) → packet_from H t ≡ Some p →
          s' ≡ kinds.socket_after_told (is_ok outcome) (socket_after_asking H t) → AllByRecursion (Speaks u H.capabilities.medium H.sockets after) frames
      by (Raw w) is from r = raw_all u H after i w p outcome frames notes mid (speaks (Raw w) is) (later ∙ ap speaker r) from d ready.regular
      by (Icmp w) is from r = other (Icmp w) from (λ v e. cc) (λ six v e. cc)
      by (Udp w) is from r = other (Udp w) from (λ v e. cc) (λ six v e. cc)
      by (Tcp w) is from r = other (Tcp w) from (λ v e. cc) (λ six v e. absurd (ready.no_tcp six i (speaks (Tcp w) is)))

-- what becomes of a socket's place
record Turned (s s' : Socket) : Type 0 where
  told : Bool
  is_done : Bool
  raw : (w : RawSocket) → s ≡ Raw w → speaker s' ≡ Some (ByRaw (after_turn told is_done w))
  other : ((w : RawSocket) → s ≡ Raw w → ⊥) → speaker s' ≡ speaker s

asked : (H : Host) (s : Socket) {s' : Socket} → s' ≡ socket_after_asking H s → Turned s s'
asked H (Raw w) e = record {
  told = false;
  is_done = false;
  raw = λ v is. let same : w ≡ v = cc in ap speaker e ∙ ap (λ x. Some (ByRaw (socket_after_offer x))) same;
  other = λ none. absurd (none w refl);
}
asked H (Icmp w) e = record { told = false; is_done = false; raw = λ v is. absurd cc; other = λ none. ap speaker e }
asked H (Udp w) e = record { told = false; is_done = false; raw = λ v is. absurd cc; other = λ none. ap speaker e }
asked H (Tcp w) e = record { told = false; is_done = false; raw = λ v is. absurd cc; other = λ none. ap speaker e }

turned : {s s' : Socket} {turn : Turn} {H mid : Host} {told : List Event} {notes : List Note} → SocketTurn s turn s' H told notes mid → Turned s s'
turned {s} {H = H} (turns.Silent p t o n e r) = asked H s r
turned {s} {H = H} (turns.Refused p q t o n e r) = asked H s r
turned {s} {H = H} (turns.Sent p outcome frames q d t o r) = answered s r where
  answered : (s : Socket) {s' : Socket} → s' ≡ kinds.socket_after_told (is_ok outcome) (socket_after_asking H s) → Turned s s'
  answered (Raw w) e = record {
    told = true;
    is_done = is_ok outcome;
    raw = λ v is. let same : w ≡ v = cc in ap speaker e ∙ ap (λ x. Some (ByRaw (socket_after_told (is_ok outcome) (socket_after_offer x)))) same;
    other = λ none. absurd (none w refl);
  }
  answered (Icmp w) e = record { told = true; is_done = true; raw = λ v is. absurd cc; other = λ none. ap speaker e }
  answered (Udp w) e = record { told = true; is_done = true; raw = λ v is. absurd cc; other = λ none. ap speaker e }
  answered (Tcp w) e = record { told = true; is_done = true; raw = λ v is. absurd cc; other = λ none. ap speaker e }

eq_same : (i : ℕ) → (i == i) ≡ true
eq_same i = grind (arith, nat_tests)

-- the turn as a part
served_moves : (H new : Host) (i : ℕ) (s s' : Socket) → slice_get H.sockets.places i ≡ Some (Some s) → Turned s s' →
    ((j : ℕ) → speaker_at new.sockets j ≡ kind_of speaker (slice_set H.sockets.places i (Some s')) j) →
    (m : Moves H.sockets new.sockets) × ((j : ℕ) (t : RawSocket) → without_sending (m.change j t) ≡ without_sending t)
served_moves H new i s s' there t e = by s there t where
  kept : (s : Socket) → slice_get H.sockets.places i ≡ Some (Some s) → speaker s' ≡ speaker s →
      (m : Moves H.sockets new.sockets) × ((j : ℕ) (t : RawSocket) → without_sending (m.change j t) ≡ without_sending t)
  kept s there same = (moves_none (λ j. e j ∙ one_stays speaker H.sockets.places i (Some s) (Some s') there same j), λ j t. refl)

  by : (s : Socket) → slice_get H.sockets.places i ≡ Some (Some s) → Turned s s' →
      (m : Moves H.sockets new.sockets) × ((j : ℕ) (t : RawSocket) → without_sending (m.change j t) ≡ without_sending t)
  by (Raw w) there t = (
    index_moves i (after_turn t.told t.is_done) w (turn_still t.told t.is_done) (turn_queue t.told t.is_done)
        (ap (λ o. option_and_then speaker (option_and_then (λ (p : Storage). p) o)) there)
        (λ j. e j ∙ one_changed speaker H.sockets.places i (Some (Raw w)) (Some s') there j
        ∙ ap (λ o. if i == j then o else speaker_at H.sockets j) (t.raw w refl)),
    index_still i (after_turn t.told t.is_done) (turn_still t.told t.is_done),
  )
  by (Icmp w) there t = kept (Icmp w) there (t.other (λ v is. cc))
  by (Udp w) there t = kept (Udp w) there (t.other (λ v is. cc))
  by (Tcp w) there t = kept (Tcp w) there (t.other (λ v is. cc))

serves : (u : Unspoken) → (i : ℕ) {turn : Turn} {H new : Host} {told : List Event} {notes : List Note} →
    Serves i turn H told notes new → SendsPart u H told notes new
serves u i (turns.Free s t o m e) = same_sent u (ap sent_frames o) e
serves u i (turns.Waits s known h k p t o m e) = same_sent u (ap sent_frames o) e
serves u i {turn} {H} {new} {told} {notes} (turns.Served s s' known mid there k p t e) =
    let at_mid : mid.sockets ≡ H.sockets = turn_sockets t in
    let set : (j : ℕ) → speaker_at new.sockets j ≡ kind_of speaker (slice_set H.sockets.places i (Some s')) j =
    λ j. ap (λ (K : Host). speaker_at K.sockets j) e ∙ ap (λ (x : SocketSet). kind_of speaker (slice_set x.places i (Some s')) j) at_mid in
    let m = served_moves H new i s s' there (turned t) set in
    let later : speaker_at new.sockets i ≡ speaker s' = set i ∙ one_changed speaker H.sockets.places i (Some s) (Some s') there i
    ∙ ap (λ b. if b then speaker s' else speaker_at H.sockets i) (eq_same i) in
    let idle = turn_idle t in
    let hardware : new.hardware_addr ≡ mid.hardware_addr = ap (λ (K : Host). K.hardware_addr) e in
    record {
      moves = m.0;
      hardware = hardware ∙ ap (λ (K : Host). K.hardware_addr) idle.base_is;
      receivers_are = λ j. receivers H.sockets new.sockets j (m.0.change j) (λ s. s) (m.0.speakers j) (m.1 j) ∙ same_receiver (receiver_at H.sockets j);
      sends_so = λ ready.
          let x = turn_sends u i s new.sockets there later t ready in
          let f = still mid new (ap (λ (K : Host). K.capabilities) e) hardware (ap (λ (K : Host). K.neighbors.known) e)
          (ap (λ (K : Host). K.left) e) x.regular in
          record { all = x.all; same = f.same ∙ x.same; regular = f.regular; pending = rw (ap (λ (K : Host). K.left) e) x.pending };
    } where
      turn_idle : {s s' : Socket} {turn : Turn} {H new : Host} {told : List Event} {notes : List Note} →
          SocketTurn s turn s' H told notes new → Idle H new
      turn_idle (turns.Silent p t o u e r) = rw e (record { base_is = refl; sockets_are = refl })
      turn_idle (turns.Refused p q t o u e r) = rw e (record { base_is = refl; sockets_are = refl })
      turn_idle (turns.Sent p outcome frames q d t o r) = dispatch_idle d

pub begins : (u : Unspoken) (H : Host) → SendsPart u H [] [] H
begins u H = same_sent u refl refl

walked : (u : Unspoken) → {old new : Host} {k : ℕ} {granted changed : Bool} {told : List Event} {notes : List Note} →
    Walks old k granted changed told notes new → SendsPart u old told notes new
walked u {old} turns.Begins = begins u old
walked u {old} {new} (turns.Goes {n = k} {told_so = told_so} {notes_so = so} {mid = mid} turn told notes _ w s t) =
    sending_on u old mid new told_so told so notes (walked u w) (serves u k s)
walked u {old} {new} (turns.Stops {n = k} {told_so = told_so} {notes_so = so} {mid = mid} turn told notes _ w s t) =
    sending_on u old mid new told_so told so notes (walked u w) (serves u k s)

sockets_send : (u : Unspoken) → {old new : Host} {changed : Bool} {told : List Event} {notes : List Note} →
    SocketEgress old changed told notes new → SendsPart u old told notes new
sockets_send u (turns.Whole w) = walked u w
sockets_send u (turns.Stopped k w) = walked u w

-- the parts of a round but sockets
pieces_send : (u : Unspoken) {H new : Host} {told : List Event} {notes : List Note} → Ipv4Egress H told notes new → SendsPart u H told notes new
pieces_send u (fragments.NoPiece l t m e) = same_sent u (ap sent_frames t) e
pieces_send u (fragments.NotGranted piece rest l t m e) = same_sent u (ap sent_frames t) e
pieces_send u {H} {new} {told} {notes} (fragments.PieceGoes piece rest l t m e) = rw (t, e) (record {
  moves = moves_none (λ j. refl);
  hardware = refl;
  receivers_are = λ j. refl;
  sends_so = λ ready.
      let all : AllByRecursion (IsPart H.capabilities.medium) (piece ∷ rest) = rw l at ready.regular.left in
      let parts : AllByRecursion u.Part (piece ∷ rest) = rw l at ready.pending in
      let r = ready.regular in
      record {
        all = (inl (u.piece_holds H.capabilities.medium H piece r.real.own all.0.destination parts.0), tt);
        same = refl;
        regular = record { real = record { own = r.real.own; neighbors = r.real.neighbors }; mtu = r.mtu; left = all.1 };
        pending = parts.1;
      };
})

routers_send : (u : Unspoken) → {H new : Host} {told : List Event} {notes : List Note} →
    NdiscRsEgress H told notes new → SendsPart u H told notes new
routers_send u (slaac.NotDue d t m e) = same_sent u (ap sent_frames t) e
routers_send u (slaac.NotGranted p d t m e) = same_sent u (ap sent_frames t) e
routers_send u {H} {new} {told} {notes} (slaac.Goes p outcome frames mid h d t e) =
    then_stays u (own_sending u told (ap sent_frames t ∙ over_sends true H.moment frames)
    (solicitation_is H p h) (solicitation_no_segment H p h) d) e (stay refl refl refl refl refl)

module _ (u : Unspoken) {packet_for : List IpCidr → IpAddress → Option Packet}
    (plain : (own : List IpCidr) (a : IpAddress) (p : Packet) → packet_for own a ≡ Some p → is_own (payload_of p) ≡ true)
    (none : (own : List IpCidr) (a : IpAddress) (p : Packet) → packet_for own a ≡ Some p → is_segment (payload_of p) ≡ false) where
  groups_send : {state : GroupState} {after_report : List Group → IpAddress → List Group} {old new : Host}
      {granted : Bool} {told : List Event} {notes : List Note} →
      multicast.ReportsEach state packet_for after_report old granted told notes new → SendsPart u old told notes new
  groups_send {old = old} multicast.Begins = begins u old
  groups_send (multicast.Silently a w f p) = then_stays u (groups_send w) refl (stay refl refl refl refl refl)
  groups_send {old = old} (multicast.Refused {told = told} {notes = notes} {mid = mid} a p w f q) =
      sending_on u old mid mid told (Asked mid.moment false ∷ []) notes [] (groups_send w) (same_sent u refl refl)
  groups_send {after_report = after_report} {old = old}
      (multicast.Reported {told = told} {notes = notes} {mid = mid} a p outcome frames more new w f q d) =
      then_stays u (sending_on u old mid new told (Asked mid.moment true ∷ sends frames) notes more (groups_send w)
      (own_sending u (Asked mid.moment true ∷ sends frames) (over_sends true mid.moment frames)
      (plain mid.ip_addrs a p q) (none mid.ip_addrs a p q) d)) refl (stay refl refl refl refl refl)

  all_send : {state : GroupState} {after_report : List Group → IpAddress → List Group}
      {old new : Host} {told : List Event} {notes : List Note} →
      multicast.ReportsAll state packet_for after_report old told notes new → SendsPart u old told notes new
  all_send (multicast.All w m) = groups_send w
  all_send (multicast.UpToRefusal w) = groups_send w

igmp_sends : (u : Unspoken) → {H new : Host} {told : List Event} {notes : List Note} →
    IgmpEgress H told notes new → SendsPart u H told notes new
igmp_sends u (igmp.NotDue h t m e) = same_sent u (ap sent_frames t) e
igmp_sends u {H} (igmp.NoFurtherGroup h g t m e) = then_stays u (same_sent u (ap sent_frames t) refl) e (stay refl refl refl refl refl)
igmp_sends u (igmp.NoAddress next h g a t m e) = same_sent u (ap sent_frames t) e
igmp_sends u (igmp.NotGranted p h r t m e) = same_sent u (ap sent_frames t) e
igmp_sends u {H} {new} {told} {notes} (igmp.Sent p outcome frames mid h r d t e) =
    then_stays u (own_sending u told (ap sent_frames t ∙ over_sends true H.moment frames)
    (report_is H p r) (report_no_segment H p r) d) e (stay refl refl refl refl refl)

mld_sends : (u : Unspoken) → {H new : Host} {told : List Event} {notes : List Note} →
    MldEgress H told notes new → SendsPart u H told notes new
mld_sends u (mld.NotYet h t m e) = same_sent u (ap sent_frames t) e
mld_sends u {H} (mld.GivenUp h t m e) = then_stays u (same_sent u (ap sent_frames t) refl) e (stay refl refl refl refl refl)
mld_sends u {H} {new} {told} {notes} (mld.ReportGoes outcome frames mid h d t e) =
    then_stays u (own_sending u told (ap sent_frames t ∙ over_sends true H.moment frames) refl refl d) e (stay refl refl refl refl refl)

round : (u : Unspoken) → {changed : Bool} {old new : Host} {told : List Event} {notes : List Note} →
    Round changed old told notes new → SendsPart u old told notes new
round u {old = old} {new = new} {told = told} {notes = notes} r =
    both (SendsPart u) (begins u) (sending_on u) (λ o m t ns p. pieces_send u p)
    (both (SendsPart u) (begins u) (sending_on u) (λ o m t ns p. routers_send u p)
    (both (SendsPart u) (begins u) (sending_on u) (λ o m t ns p. all_send u join_is join_no_segment p)
    (both (SendsPart u) (begins u) (sending_on u) (λ o m t ns p. all_send u leave_is leave_no_segment p)
    (both (SendsPart u) (begins u) (sending_on u) (λ o m t ns p. igmp_sends u p)
    (both (SendsPart u) (begins u) (sending_on u) (λ o m t ns p. mld_sends u p)
    (λ o m t ns p. sockets_send u p)))))) old new told notes r

pub egress_sends : (u : Unspoken) → (t : ℤ) (answer : PollResult) (old new : Host) (told : List Event) (notes : List Note) →
    Egress t answer old told notes new → SendsPart u old told notes new
egress_sends u t answer old new told notes e =
    sending_on u old (at old t) new [] told [] notes (nothing_sent u refl (stay refl refl refl refl refl)) (round u e.round)
