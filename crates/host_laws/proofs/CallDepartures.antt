-- What a call that sends does to UDP sockets, from the turn of one to the whole call.
use Rattle.std.proofs.Common.{◌≡◌, ℕ, ◌==◌, Bool, true, false, List, [], ◌∷◌, refl, sym, ◌∙◌, ap}
use Rattle.std.proofs.Common.{Option, Some, None, option_map, option_and_then, slice_get, slice_set, if◌then◌else◌}
use Rattle.std.specs.Prelude.{ℤ}
use Rattle.net_base.specs.Device.{Event, sent_frames}
use Rattle.sockets.specs.declared.endpoint.IpEndpoint.{IpEndpoint}
use Rattle.sockets.specs.Kinds.{down_udp}
use Rattle.sockets.specs.declared.socket.SocketOf.TheVariants.{Raw, Icmp, Udp, Tcp}
use Rattle.sockets.specs.Udp.{UdpSocket, without_first_to_send}
use Rattle.host_machine.specs.declared.results.PollResult.{PollResult}
use Rattle.host_machine.specs.declared.results.Turn.{Turn}
use Rattle.host_machine.specs.Context.Note.{Note, cut_notes}
use Rattle.host_machine.specs.Context.Host.{Host, Socket, Storage, SocketSet}
use Rattle.host_machine.specs.Sockets.Turns.{SocketTurn, Serves, Walks, SocketEgress, with_socket}
use Rattle.host_machine.specs.Interface.Egress.{Round, Egress}
use Rattle.host_machine.specs.Sockets.Turns as egress
use Rattle.host_laws.specs.Laws.Order.{IsBeginning}
use Rattle.host_laws.specs.Laws.TwoHosts.{cuts}
use Rattle.host_laws.proofs.Interface.PollCalls.{both}
use Rattle.host_machine.specs.Context.Real.{IsRegular}
use Rattle.host_laws.specs.Deliveries.{udp_at}
use Rattle.host_laws.specs.Departures.{Departure, entries, from_index, without}
use Rattle.host_laws.proofs.Places.{set_other, set_same, udp_of}
use Rattle.sockets.specs.Queue.{first_of}
use Rattle.socket_set.specs.SocketMeta.{Wait}
use Rattle.sockets.specs.Icmp as icmp_socket
use Rattle.sockets.specs.Tcp as tcp_socket
use Rattle.host_machine.specs.Context.Addresses.{source_for}
use Rattle.host_machine.specs.Context.Host.{at}
use Rattle.host_machine.specs.Packet.Packet.{Packet, payload_of}
use Rattle.host_machine.specs.Sockets.Offers.{packet_from}
use Rattle.host_laws.proofs.Receive.Malformed.{sent_frames-sends}
use Rattle.host_laws.proofs.Sockets.RawProtocols.{get_speaks}
use Rattle.host_laws.proofs.Interface.Turns.{first_is, icmp_is, tcp_is, join_is, leave_is, served_speaks, turn_sockets}
use Rattle.host_laws.specs.Senders.{CarryOnly, NoSocketWritesUdp, may_be_udp}
use Rattle.host_laws.proofs.FramesWithoutUdp.{has_udp, own_has_none}
use Rattle.host_laws.proofs.Accounts.{AccountsFor, Follows, accounts_after, accounts_same, all_account, dispatch_follows, igmp_accounts}
use Rattle.host_laws.proofs.Accounts.{mld_accounts, nothing_carried, packet_accounts, piece_accounts, routers_account, still}
use Rattle.host_laws.proofs.IdleParts.{Idle, base, dispatch_idle, idle, piece_idle, routers_idle, all_idle, igmp_idle, mld_idle}
use Rattle.host_laws.proofs.TurnDepartures.{Turned, Stays, Loses, turned, turned_other}
use Rattle.host_laws.proofs.Lists.{eq_of, id_mapped, none_among}
use Rattle.host_laws.proofs.EgressDepartures.{LosesOver, departs_alike, lost_none, lost_on}

turn_idle : {s s' : Socket} {turn : Turn} {H new : Host} {told : List Event} {notes : List Note} → SocketTurn s turn s' H told notes new → Idle H new
turn_idle (egress.Silent p t o n e r) = idle e
turn_idle (egress.Refused p q t o n e r) = idle e
turn_idle (egress.Sent p outcome frames q d t o r) = dispatch_idle d

-- where one datagram left one socket
one_gone : (i : ℕ) (d : Departure) (s : UdpSocket) (o : Option UdpSocket) →
    (d.index ≡ i → o ≡ Some s) → (if d.index == i then Some (without_first_to_send s) else o) ≡ option_map (without (from_index i (d ∷ []))) o
one_gone i d s o there = by (d.index == i) refl where
  by : (b : Bool) → (d.index == i) ≡ b → (if b then Some (without_first_to_send s) else o) ≡ option_map (without (if b then d ∷ [] else [])) o
  by true e = sym (ap (option_map (without (d ∷ []))) (there (eq_of d.index i e)))
  by false e = id_mapped o

one_front : (i : ℕ) (d : Departure) (s v : UdpSocket) → (rest : List (IpEndpoint × List ℕ)) →
    s.tx.packets ≡ (d.destination, d.payload) ∷ rest → (d.index ≡ i → v ≡ s) →
    IsBeginning (entries (from_index i (d ∷ []))) v.tx.packets
one_front i d s v rest front there = by (d.index == i) refl where
  by : (b : Bool) → (d.index == i) ≡ b → IsBeginning (entries (if b then d ∷ [] else [])) v.tx.packets
  by true e = (rest, sym front ∙ ap (λ (x : UdpSocket). x.tx.packets) (sym (there (eq_of d.index i e))))
  by false e = (v.tx.packets, refl)

-- what is read of the host goes on behind a turn
abbrev GoesOn : Host → Host → Type 0
GoesOn old new = IsRegular old → NoSocketWritesUdp old → Follows old new × NoSocketWritesUdp new

turn_goes_on : (i : ℕ) {s s' : Socket} {turn : Turn} {H mid new : Host} {told : List Event} {notes : List Note} (wait : Wait) →
    slice_get H.sockets.places i ≡ Some (Some s) → SocketTurn s turn s' H told notes mid →
    new ≡ with_socket mid i s' wait → GoesOn H new
turn_goes_on i {s} {s'} {turn} {H} {mid} {new} {told} {notes} wait there t e = rw e (λ r none.
    let f = by t r in
    let at_mid : NoSocketWritesUdp mid = rw (turn_sockets t) none in (
      record {
        same = f.same;
        regular =
            record { real = record { own = f.regular.real.own; neighbors = f.regular.real.neighbors }; mtu = f.regular.mtu; left = f.regular.left };
      },
      served_speaks may_be_udp i there t at_mid,
    )) where
      by : SocketTurn s turn s' H told notes mid → IsRegular H → Follows H mid
      by (egress.Silent p t o n e r) = λ x. rw e (record { same = refl; regular = x })
      by (egress.Refused p q t o n e r) = λ x. rw e (record { same = refl; regular = x })
      by (egress.Sent p outcome frames q d t o r) = dispatch_follows d

turn_accounts : {H new : Host} {ds : List Departure} {frames : List (List ℕ)} {notes : List Note} →
    (IsRegular H → CarryOnly H.capabilities.medium ds frames (cuts (cut_notes notes))) → GoesOn H new → AccountsFor H ds frames notes new
turn_accounts only goes = λ r none. let x = goes r none in record { carry = only r; same = x.0.same; regular = x.0.regular; nobody = x.1 }

-- the turn of the socket at an index
one_turn : (B H : Host) (i : ℕ) (s s' : UdpSocket) (told : List Event) (notes : List Note) (new : Host) →
    udp_at H.sockets i ≡ Some s → Turned H i s s' (sent_frames told) notes → GoesOn H new → base new ≡ base H →
    ((j : ℕ) → udp_at new.sockets j ≡ (if i == j then Some s' else udp_at H.sockets j)) → LosesOver B H told notes new
one_turn B H i s s' told notes new there (Stays e only) goes b after = λ like. record {
  base_is = b ∙ like;
  departures = [];
  left = tt;
  went = none_among (sent_frames told);
  cut = none_among (cuts (cut_notes notes));
  fronts = λ j v at_j. (v.tx.packets, refl);
  udp_is = λ j. after j ∙ stays j;
  accounts = turn_accounts only goes;
} where
  stays : (j : ℕ) → (if i == j then Some s' else udp_at H.sockets j) ≡ option_map (without []) (udp_at H.sockets j)
  stays j = by (i == j) refl where
    by : (c : Bool) → (i == j) ≡ c → (if c then Some s' else udp_at H.sockets j) ≡ option_map (without []) (udp_at H.sockets j)
    by true same = ap (λ x. Some x) e ∙ sym there ∙ ap (λ k. udp_at H.sockets k) (eq_of i j same) ∙ id_mapped (udp_at H.sockets j)
    by false apart = id_mapped (udp_at H.sockets j)
one_turn B H i s s' told notes new there (Loses l e) goes b after = λ like. record {
  base_is = b ∙ like;
  departures = l.departure ∷ [];
  left = (
    record {
      socket = s;
      there = ap (λ k. udp_at H.sockets k) l.at_index ∙ there;
      leaves = departs_alike H (record B { sockets = H.sockets }) s s l.departure like refl refl l.leaves;
    },
    tt,
  );
  went = l.went;
  cut = l.cut;
  fronts = λ j v at_j. one_front j l.departure s v l.front.0 l.front.1 (λ same. is_it j v at_j same);
  udp_is = λ j. after j ∙ ap (λ k. if k == j then Some s' else udp_at H.sockets j) (sym l.at_index)
      ∙ ap (λ x. if l.departure.index == j then Some x else udp_at H.sockets j) e
      ∙ one_gone j l.departure s (udp_at H.sockets j) (λ same. ap (λ k. udp_at H.sockets k) (sym same ∙ l.at_index) ∙ there);
  accounts = turn_accounts l.only goes;
} where
  is_it : (j : ℕ) (v : UdpSocket) → udp_at H.sockets j ≡ Some v → l.departure.index ≡ j → v ≡ s
  is_it j v at_j same =
      let one : udp_at H.sockets j ≡ Some s = ap (λ k. udp_at H.sockets k) (sym same ∙ l.at_index) ∙ there in
      cc

-- what a socket of another kind sends carries no UDP
other_has_none : (H : Host) (i : ℕ) (s : Socket) (p : Packet) → slice_get H.sockets.places i ≡ Some (Some s) → down_udp s ≡ None →
    NoSocketWritesUdp H → packet_from H s ≡ Some p → has_udp (payload_of p) ≡ false
other_has_none H i (Raw s) p there none nobody e =
    let r = first_is s (first_of s.tx.packets) p e in
    rw (r.is, r.same) (get_speaks may_be_udp H.sockets.places i (Some (Raw s)) there nobody)
other_has_none H i (Icmp s) p there none nobody e = own_has_none (payload_of p) (icmp_is (icmp_socket.offered_packet (source_for H.ip_addrs) s) p e)
other_has_none H i (Udp s) p there none nobody e = absurd cc
other_has_none H i (Tcp s) p there none nobody e =
    own_has_none (payload_of p) (tcp_is (tcp_socket.offered_packet H.moment (source_for H.ip_addrs) s) p e)

other_carries : (i : ℕ) {s s' : Socket} {turn : Turn} {H mid : Host} {told : List Event} {notes : List Note} →
    slice_get H.sockets.places i ≡ Some (Some s) → down_udp s ≡ None → NoSocketWritesUdp H →
    SocketTurn s turn s' H told notes mid → IsRegular H → CarryOnly H.capabilities.medium [] (sent_frames told) (cuts (cut_notes notes))
other_carries i {s} {s'} {turn} {H} {mid} {told} {notes} there none nobody (egress.Silent p t o n e r) =
    λ x. nothing_carried notes (ap sent_frames o) (ap cut_notes n)
other_carries i {s} {s'} {turn} {H} {mid} {told} {notes} there none nobody (egress.Refused p q t o n e r) =
    λ x. nothing_carried notes (ap sent_frames o) (ap cut_notes n)
other_carries i {s} {s'} {turn} {H} {mid} {told} {notes} there none nobody (egress.Sent p outcome frames q d t o r) = λ x.
    rw (ap sent_frames o ∙ sent_frames-sends frames) (packet_accounts (other_has_none H i s p there none nobody q) d x nobody).carry

-- by kind: only a UDP socket loses a datagram
kept_kind : (H : Host) (i : ℕ) (s s' : Socket) → slice_get H.sockets.places i ≡ Some (Some s) → down_udp s' ≡ down_udp s → (j : ℕ) →
    udp_of (slice_set H.sockets.places i (Some s')) j ≡ udp_at H.sockets j
kept_kind H i s s' there same j = set_same H.sockets.places i (Some s) (Some s') there same j

other_served : (B H : Host) (i : ℕ) (s s' : Socket) (turn : Turn) (told : List Event) (notes : List Note) (mid new : Host) →
    slice_get H.sockets.places i ≡ Some (Some s) → down_udp s ≡ None → SocketTurn s turn s' H told notes mid → GoesOn H new →
    base new ≡ base mid → ((j : ℕ) → udp_at new.sockets j ≡ udp_of (slice_set mid.sockets.places i (Some s')) j) → LosesOver B H told notes new
other_served B H i s s' turn told notes mid new there none t goes b after = λ like.
    let i' = turn_idle t in record {
      base_is = b ∙ i'.base_is ∙ like;
      departures = [];
      left = tt;
      went = none_among (sent_frames told);
      cut = none_among (cuts (cut_notes notes));
      fronts = λ j v at_j. (v.tx.packets, refl);
      udp_is = λ j. after j ∙ ap (λ (x : SocketSet). udp_of (slice_set x.places i (Some s')) j) i'.sockets_are
          ∙ kept_kind H i s s' there (turned_other none t ∙ sym none) j ∙ id_mapped (udp_at H.sockets j);
      accounts = λ r nobody. turn_accounts (λ x. other_carries i there none nobody t x) goes r nobody;
    }

served : (B H : Host) (i : ℕ) (s s' : Socket) (turn : Turn) (told : List Event) (notes : List Note) (mid new : Host) →
    slice_get H.sockets.places i ≡ Some (Some s) → SocketTurn s turn s' H told notes mid → GoesOn H new →
    base new ≡ base mid → ((j : ℕ) → udp_at new.sockets j ≡ udp_of (slice_set mid.sockets.places i (Some s')) j) → LosesOver B H told notes new
served B H i (Udp u) s' turn told notes mid new there t goes b after =
    let one = turned H i u t in
    let i' = turn_idle t in
    one_turn B H i u one.socket told notes new
    (ap (λ o. option_and_then down_udp (option_and_then (λ (place : Storage). place) o)) there) one.turned goes (b ∙ i'.base_is)
    (λ j. after j ∙ ap (λ (t : SocketSet). udp_of (slice_set t.places i (Some s')) j) i'.sockets_are
    ∙ set_other H.sockets.places i (Some (Udp u)) (Some s') there j
    ∙ ap (λ o. if i == j then o else udp_at H.sockets j) (ap down_udp one.is))
served B H i (Raw u) s' turn told notes mid new there t goes b after = other_served B H i (Raw u) s' turn told notes mid new there refl t goes b after
served B H i (Icmp u) s' turn told notes mid new there t goes b after =
    other_served B H i (Icmp u) s' turn told notes mid new there refl t goes b after
served B H i (Tcp u) s' turn told notes mid new there t goes b after = other_served B H i (Tcp u) s' turn told notes mid new there refl t goes b after

-- the place of an index has its turn
place_served : (B H : Host) (i : ℕ) (turn : Turn) (told : List Event) (notes : List Note) (new : Host) →
    Serves i turn H told notes new → LosesOver B H told notes new
place_served B H i turn told notes new (egress.Free s t o n e) = lost_none B H told notes new (idle e) (accounts_same (ap sent_frames o) n e)
place_served B H i turn told notes new (egress.Waits s known h k p t o n e) =
    lost_none B H told notes new (idle e) (accounts_same (ap sent_frames o) n e)
place_served B H i turn told notes new (egress.Served s s' known mid there k p t e) =
    served B H i s s' turn told notes mid new there t (turn_goes_on i _ there t e) (ap base e) (λ j. ap (λ (K : Host). udp_at K.sockets j) e)

pub nothing_lost : (B H : Host) → LosesOver B H [] [] H
nothing_lost B H = lost_none B H [] [] H (idle refl) (accounts_same refl refl refl)

walked : (B : Host) {old new : Host} {n : ℕ} {granted changed : Bool} {told : List Event} {notes : List Note} →
    Walks old n granted changed told notes new → LosesOver B old told notes new
walked B {old} egress.Begins = nothing_lost B old
walked B {old} {new} (egress.Goes {n = n} {told_so = told_so} {notes_so = so} {mid = mid} turn told notes _ w s t) =
    lost_on B old mid new told_so told so notes (walked B w) (place_served B mid n turn told notes new s)
walked B {old} {new} (egress.Stops {n = n} {told_so = told_so} {notes_so = so} {mid = mid} turn told notes _ w s t) =
    lost_on B old mid new told_so told so notes (walked B w) (place_served B mid n turn told notes new s)

sockets_lose : (B : Host) {old new : Host} {changed : Bool} {told : List Event} {notes : List Note} →
    SocketEgress old changed told notes new → LosesOver B old told notes new
sockets_lose B (egress.Whole w) = walked B w
sockets_lose B (egress.Stopped n w) = walked B w

round : (B : Host) {changed : Bool} {old new : Host} {told : List Event} {notes : List Note} →
    Round changed old told notes new → LosesOver B old told notes new
round B {old = old} {new = new} {told = told} {notes = notes} r =
    both (LosesOver B) (nothing_lost B) (lost_on B) (λ o n t ns p. lost_none B o t ns n (piece_idle p) (piece_accounts p))
    (both (LosesOver B) (nothing_lost B) (lost_on B) (λ o n t ns p. lost_none B o t ns n (routers_idle p) (routers_account p))
    (both (LosesOver B) (nothing_lost B) (lost_on B) (λ o n t ns p. lost_none B o t ns n (all_idle p) (all_account join_is p))
    (both (LosesOver B) (nothing_lost B) (lost_on B) (λ o n t ns p. lost_none B o t ns n (all_idle p) (all_account leave_is p))
    (both (LosesOver B) (nothing_lost B) (lost_on B) (λ o n t ns p. lost_none B o t ns n (igmp_idle p) (igmp_accounts p))
    (both (LosesOver B) (nothing_lost B) (lost_on B) (λ o n t ns p. lost_none B o t ns n (mld_idle p) (mld_accounts p))
    (λ o n t ns p. sockets_lose B p)))))) old new told notes r

pub egress_loses : (B : Host) (t : ℤ) (answer : PollResult) (old new : Host) (told : List Event) (notes : List Note) →
    Egress t answer old told notes new → LosesOver B old told notes new
egress_loses B t answer old new told notes e = λ like.
    let l = round B e.round like in
    record {
      base_is = l.base_is;
      departures = l.departures;
      left = l.left;
      went = l.went;
      cut = l.cut;
      fronts = l.fronts;
      udp_is = l.udp_is;
      accounts = accounts_after (λ r. still old (at old t) refl refl refl refl r) (λ none. none) l.accounts;
    }
