-- What parts of a call send: the frames of departures, and others that carry no UDP.
use Rattle.std.proofs.Common.{inl, inr, ◌≡◌, ℕ, ◌*◌, ◌<◌, Bool, true, false, List, [], ◌∷◌, ◌++◌}
use Rattle.std.proofs.Common.{length, refl, sym, ◌∙◌, ap, subst, Option, Some, None, Err, arith}
use Rattle.std.specs.Prelude.{ℤ, ◌⊎◌, ◌-◌, ◌/◌}
use Rattle.std.specs.List.{AllByRecursion}
use Rattle.std.proofs.lemmas.List.{length-map, append-nil}
use Rattle.net_base.specs.Checksum.{ip_mtu_of}
use Rattle.net_base.specs.Device.{Event, Reception, Asked, sent_frames}
use Rattle.net_base.specs.declared.phy.DeviceCapabilities.{DeviceCapabilities}
use Rattle.net_base.specs.declared.phy.Medium.{Medium}
use Rattle.ip_address.specs.declared.cidr.IpCidr.{IpCidr}
use Rattle.ip_address.specs.declared.hardware.HardwareAddress.{HardwareAddress}
use Rattle.ip_address.specs.declared.ip.IpAddress.{IpAddress}
use Rattle.ip_address.specs.Hardware.{IsOf}
use Rattle.ip_address.specs.Protocol.{number_of}
use Rattle.iface_tables.specs.declared.groups.Group.{Group}
use Rattle.iface_tables.specs.declared.groups.GroupState.{GroupState}
use Rattle.fragmentation.specs.Fragments.{Fragment}
use Rattle.fragmentation.specs.Cuts.{Datagram, Piece, HasForm, cut, count, pieces_of, piece_of}
use Rattle.host_machine.specs.declared.results.PollIngressSingleResult.{PollIngressSingleResult}
use Rattle.host_machine.specs.declared.results.DispatchError.{DispatchError}
use Rattle.host_machine.specs.Context.Note.{Note, OfCuts, Cut, PieceSent, cut_notes}
use Rattle.host_machine.specs.Context.Host.{Host, without_expired, with_left}
use Rattle.host_machine.specs.Packet.Packet.{Packet, PacketV4, payload_of}
use Rattle.host_machine.specs.Packet.Frame.{piece_frame, sends}
use Rattle.host_machine.specs.Send.Outcome.{Outcome}
use Rattle.host_machine.specs.Send.Dispatch.{Dispatches}
use Rattle.host_machine.specs.Context.Pieces.{datagram_of}
use Rattle.host_machine.specs.Context.Real.{IsReal, IsPart, IsRegular}
use Rattle.host_machine.specs.Receive.Reply.{Reply, Arp, Ip}
use Rattle.host_machine.specs.Receive.Response.{Responds}
use Rattle.host_machine.specs.Interface.Ingress.{Takes, Ingress}
use Rattle.host_laws.specs.Laws.Steps.{SendsOneThing, ThePacket, ItsFirstPiece, ARequest}
use Rattle.host_laws.specs.Laws.Steps as laws
use Rattle.host_machine.specs.Multicast.Joins as multicast
use Rattle.host_machine.specs.Multicast.Igmp.{IgmpEgress}
use Rattle.host_machine.specs.Multicast.Mld.{MldEgress}
use Rattle.host_machine.specs.Multicast.Igmp as igmp
use Rattle.host_machine.specs.Multicast.Mld as mld
use Rattle.host_machine.specs.Discovery.RouterSolicitation.{NdiscRsEgress}
use Rattle.host_machine.specs.Discovery.RouterSolicitation as slaac
use Rattle.host_machine.specs.Send.Fragments.{Ipv4Egress}
use Rattle.host_machine.specs.Send.Fragments as egress
use Rattle.host_laws.specs.Laws.TwoHosts.{cuts}
use Rattle.host_laws.proofs.Context.NotesBySubject.{cut_notes-append, cut_notes-slots}
use Rattle.host_laws.proofs.Context.UnchangedFields.{Keeps}
use Rattle.host_laws.proofs.Receive.Malformed.{sent_frames-sends}
use Rattle.host_machine.proofs.Receive.Pieces.{is_in, contains_in, in_left, in_right, count_below, length-pieces_from}
use Rattle.host_laws.proofs.Runs.TwoHosts.{in_map, cuts-append}
use Rattle.host_machine.proofs.Receive.Parts.{size_positive}
use Rattle.host_machine.proofs.Context.PendingParts.{pieces_are}
use Rattle.host_machine.proofs.Send.Reached.{Reached}
use Rattle.host_laws.proofs.Runs.Walk.{dispatched, taken, sent_frames-append}
use Rattle.host_laws.proofs.Runs.SentPieces.{GoodReply, takes_good, takes_real}
use Rattle.host_machine.proofs.Send.Reached.{reached_of}
use Rattle.host_laws.proofs.Discovery.NotedRequests.{sends_one}
use Rattle.host_laws.proofs.Runs.RunRequests.{takes_attends}
use Rattle.host_laws.proofs.Interface.Turns.{dispatched_sockets, report_is, solicitation_is}
use Rattle.host_laws.proofs.Interface.OwnMessages.{is_own}
use Rattle.host_laws.specs.Departures.{Departure}
use Rattle.host_laws.specs.Senders.{NoSocketWritesUdp, CarriesNoUdp, CarryOnly, WentIn, may_be_udp, ways}
use Rattle.host_laws.proofs.IngressDeliveries.{all-append}
use Rattle.host_laws.proofs.Lists.{cuts_of-append}
use Rattle.host_laws.proofs.FramesWithoutUdp.{has_udp, own_has_none, packet_none, piece_none, arp_none, request_none, v4_none}
use Rattle.host_laws.specs.Departures.{cuts_of}

-- where nothing is sent
pub nothing_carried : {m : Medium} {ds : List Departure} {frames : List (List ℕ)} (notes : List Note) →
    frames ≡ [] → cut_notes notes ≡ [] → CarryOnly m ds frames (cuts (cut_notes notes))
nothing_carried notes f c = rw (f, c) (record { frames_are = tt; cuts_are = tt })

-- of two parts one after the other
ways-append : (ds es : List Departure) → ways (ds ++ es) ≡ ways ds ++ ways es
ways-append [] es = refl
ways-append (d ∷ ds) es = ap (λ ws. d.way ∷ ws) (ways-append ds es)

all_then : {X : Type 0} {P Q : X → Type 0} (xs : List X) → ((x : X) → P x → Q x) → AllByRecursion P xs → AllByRecursion Q xs
all_then [] f all = tt
all_then (x ∷ xs) f all = (f x all.0, all_then xs f all.1)

one_of_more : (m : Medium) (ds es : List Departure) (frame : List ℕ) →
    CarriesNoUdp m frame ⊎ WentIn m ds frame → CarriesNoUdp m frame ⊎ WentIn m (ds ++ es) frame
one_of_more m ds es frame (inl none) = inl none
one_of_more m ds es frame (inr w) =
    inr (w.0, w.1, rw ways-append (contains_in (ways ds ++ ways es) _ (in_left (ways ds) (ways es) _ (is_in (ways ds) _ w.2))))

one_of_others : (m : Medium) (ds es : List Departure) (frame : List ℕ) →
    CarriesNoUdp m frame ⊎ WentIn m es frame → CarriesNoUdp m frame ⊎ WentIn m (ds ++ es) frame
one_of_others m ds es frame (inl none) = inl none
one_of_others m ds es frame (inr w) =
    inr (w.0, w.1, rw ways-append (contains_in (ways ds ++ ways es) _ (in_right (ways ds) (ways es) _ (is_in (ways es) _ w.2))))

pub carried_on : (m : Medium) (ds es : List Departure) (fs gs : List (List ℕ)) (xs ys : List Note) →
    CarryOnly m ds fs (cuts (cut_notes xs)) → CarryOnly m es gs (cuts (cut_notes ys)) →
    CarryOnly m (ds ++ es) (fs ++ gs) (cuts (cut_notes (xs ++ ys)))
carried_on m ds es fs gs xs ys one two = rw (cut_notes-append, cuts-append) (record {
  frames_are = all-append (λ frame. CarriesNoUdp m frame ⊎ WentIn m (ds ++ es) frame) fs gs (all_then fs (one_of_more m ds es) one.frames_are)
      (all_then gs (one_of_others m ds es) two.frames_are);
  cuts_are = all-append (λ c. number_of c.header.next_header ≡ 17 → _) (cuts (cut_notes xs)) (cuts (cut_notes ys))
      (all_then (cuts (cut_notes xs)) (λ c is n.
      rw cuts_of-append (contains_in (cuts_of ds ++ cuts_of es) c (in_left (cuts_of ds) (cuts_of es) c (is_in (cuts_of ds) c (is n))))) one.cuts_are)
      (all_then (cuts (cut_notes ys)) (λ c is n. rw cuts_of-append
      (contains_in (cuts_of ds ++ cuts_of es) c (in_right (cuts_of ds) (cuts_of es) c (is_in (cuts_of es) c (is n))))) two.cuts_are);
})

-- what is left of it behind the first
rest_is : (m : Medium) (d : Datagram) (y : ℕ) (first : Piece) (rest : List Piece) →
    pieces_of d ≡ first ∷ rest → HasForm d → IsOf m d.destination → d.size ≡ y * 8 → 0 < d.size → AllByRecursion (IsPart m) rest
rest_is m d y first [] e form to size pos = tt
rest_is m d y first (second ∷ others) e form to size pos =
    let several : length (pieces_of d) ≡ length (first ∷ second ∷ others) = ap length e in
    let counted : length (pieces_of d) ≡ count d.size (length d.payload) = length-map (cut d.size d.payload) (piece_of d)
    ∙ length-pieces_from d.size d.payload 0 (count d.size (length d.payload)) in
    let two : 1 < count d.size (length d.payload) = omega (arith, several, counted) in
    let more : d.size < length d.payload = omega (arith, count_below d.size (length d.payload) 1 pos two) in
    let all : AllByRecursion (IsPart m) (first ∷ second ∷ others) = rw e at (pieces_are m d y form to size pos more) in
    all.1

-- a host stays regular where it sends
pub record Follows (old new : Host) : Type 0 where
  pub same : new.capabilities ≡ old.capabilities
  pub regular : IsRegular new

abbrev pub RegularOver : Host → List (List ℕ) → List Note → Host → Type 0
RegularOver old frames notes new = IsRegular old → Follows old new

pub follows : (old new : Host) → new.capabilities ≡ old.capabilities → new.left ≡ old.left → IsReal new → IsRegular old → Follows old new
follows old new c l real r = record { same = c; regular = record { real = real; mtu = rw c r.mtu; left = rw (c, l) r.left } }

pub keeps : (old new : Host) → Keeps old new → RegularOver old [] [] new
keeps old new k = λ r. follows old new (ap (λ (K : Host). K.capabilities) k.same) (ap (λ (K : Host). K.left) k.same) (k.real r.real) r

on : (a b c : Host) (fs gs : List (List ℕ)) (xs ys : List Note) →
    RegularOver a fs xs b → RegularOver b gs ys c → RegularOver a (fs ++ gs) (xs ++ ys) c
on a b c fs gs xs ys one two = λ r. let x = one r in let y = two x.regular in record { same = y.same ∙ x.same; regular = y.regular }

pub still : (H new : Host) → new.capabilities ≡ H.capabilities → new.hardware_addr ≡ H.hardware_addr → new.neighbors.known ≡ H.neighbors.known →
    new.left ≡ H.left → IsRegular H → Follows H new
still H new c h n l r = follows H new c l (record { own = rw (c, h) r.real.own; neighbors = rw (c, n) r.real.neighbors }) r

pub cuts_follow : (H : Host) (h : HardwareAddress) (id : ℕ) (p : PacketV4) (first : Piece) (rest : List Piece) →
    pieces_of (datagram_of H h id p) ≡ first ∷ rest → HasForm (datagram_of H h id p) → Reached H h →
    RegularOver H (piece_frame H first ∷ []) (OfCuts (Cut (datagram_of H h id p)) ∷ OfCuts (PieceSent first) ∷ []) (with_left H rest)
cuts_follow H h id p first rest e form reached = λ r. record {
  same = refl;
  regular = record {
    real = record { own = r.real.own; neighbors = r.real.neighbors };
    mtu = r.mtu;
    left = rest_is H.capabilities.medium (datagram_of H h id p) ((ip_mtu_of H.capabilities - 20) / 8) first rest e form
        (reached_of H h r.real reached) refl (size_positive (ip_mtu_of H.capabilities) r.mtu);
  };
}

pub dispatch_follows : {p : Packet} {outcome : Outcome} {H new : Host} {frames : List (List ℕ)} {notes : List Note} →
    Dispatches p outcome H frames notes new → RegularOver H frames notes new
dispatch_follows d = dispatched RegularOver keeps on
    (λ H own source target mine. λ r. still H H refl refl refl refl r)
    (λ H hop unknown. λ r. still H _ refl refl refl refl r)
    (λ H. λ r. still H _ refl refl refl refl r)
    (λ H h p reached. λ r. still H H refl refl refl refl r)
    cuts_follow d

-- what part of a call sends, and that the host stays regular, and nobody begins to write UDP
pub record Accounts (old : Host) (ds : List Departure) (frames : List (List ℕ)) (notes : List Note) (new : Host) : Type 0 where
  pub carry : CarryOnly old.capabilities.medium ds frames (cuts (cut_notes notes))
  pub same : new.capabilities ≡ old.capabilities
  pub regular : IsRegular new
  pub nobody : NoSocketWritesUdp new

abbrev pub AccountsFor : Host → List Departure → List (List ℕ) → List Note → Host → Type 0
AccountsFor old ds frames notes new = IsRegular old → NoSocketWritesUdp old → Accounts old ds frames notes new

pub accounts_on : (a b c : Host) (ds es : List Departure) (fs gs : List (List ℕ)) (xs ys : List Note) →
    AccountsFor a ds fs xs b → AccountsFor b es gs ys c → AccountsFor a (ds ++ es) (fs ++ gs) (xs ++ ys) c
accounts_on a b c ds es fs gs xs ys one two = λ r none.
    let x = one r none in
    let y = two x.regular x.nobody in
    let more : CarryOnly a.capabilities.medium es gs (cuts (cut_notes ys)) =
    subst (λ (d : DeviceCapabilities). CarryOnly d.medium es gs (cuts (cut_notes ys))) x.same y.carry in
    record { carry = carried_on a.capabilities.medium ds es fs gs xs ys x.carry more; same = y.same ∙ x.same; regular = y.regular; nobody = y.nobody }

-- where nothing is sent
pub accounts_silent : {old new : Host} {ds : List Departure} {frames : List (List ℕ)} {notes : List Note} →
    frames ≡ [] → cut_notes notes ≡ [] → (IsRegular old → Follows old new) → (NoSocketWritesUdp old → NoSocketWritesUdp new) →
    AccountsFor old ds frames notes new
accounts_silent {notes = notes} f c keeps nobody = λ r none. let x = keeps r in
    record { carry = nothing_carried notes f c; same = x.same; regular = x.regular; nobody = nobody none }

pub itself : (H : Host) → IsRegular H → Follows H H
itself H r = record { same = refl; regular = r }

pub accounts_same : {H new : Host} {ds : List Departure} {frames : List (List ℕ)} {notes : List Note} →
    frames ≡ [] → notes ≡ [] → new ≡ H → AccountsFor H ds frames notes new
accounts_same {H} f n e = rw e (accounts_silent f (ap cut_notes n) (itself H) (λ none. none))

-- behind a part, where what is read stays
pub record Stays (old new : Host) : Type 0 where
  pub capabilities : new.capabilities ≡ old.capabilities
  pub hardware_addr : new.hardware_addr ≡ old.hardware_addr
  pub neighbors : new.neighbors ≡ old.neighbors
  pub left : new.left ≡ old.left
  pub sockets : new.sockets ≡ old.sockets

pub stay : {old new : Host} → new.capabilities ≡ old.capabilities → new.hardware_addr ≡ old.hardware_addr → new.neighbors ≡ old.neighbors →
    new.left ≡ old.left → new.sockets ≡ old.sockets → Stays old new
stay c h n l s = record { capabilities = c; hardware_addr = h; neighbors = n; left = l; sockets = s }

stays_follow : {old new : Host} → Stays old new → IsRegular old → Follows old new
stays_follow {old} {new} s r = still old new s.capabilities s.hardware_addr (ap (λ n. n.known) s.neighbors) s.left r

pub accounts_before : {old mid new K : Host} {ds : List Departure} {frames : List (List ℕ)} {notes : List Note} →
    AccountsFor old ds frames notes mid → new ≡ K → Stays mid K → AccountsFor old ds frames notes new
accounts_before {K = K} accounts e s = rw e (λ r none.
    let x = accounts r none in
    let y = stays_follow s x.regular in
    record { carry = x.carry; same = y.same ∙ x.same; regular = y.regular; nobody = rw s.sockets x.nobody })

pub accounts_after : {old mid new : Host} {ds : List Departure} {frames : List (List ℕ)} {notes : List Note} →
    (IsRegular old → Follows old mid) → (NoSocketWritesUdp old → NoSocketWritesUdp mid) → AccountsFor mid ds frames notes new →
    AccountsFor old ds frames notes new
accounts_after {ds = ds} {frames = frames} {notes = notes} f nobody accounts = λ r none.
    let x = f r in
    let y = accounts x.regular (nobody none) in
    record {
      carry = subst (λ (d : DeviceCapabilities). CarryOnly d.medium ds frames (cuts (cut_notes notes))) x.same y.carry;
      same = y.same ∙ x.same;
      regular = y.regular;
      nobody = y.nobody;
    }

-- a packet that has no UDP in it
first_is : (d : Datagram) {first : Piece} {rest : List Piece} → pieces_of d ≡ first ∷ rest → (f : Fragment) × (first ≡ piece_of d f)
first_is d {first} {rest} e = let r = in_map (piece_of d) (cut d.size d.payload) first (rw e (inl refl)) in (r.0, r.2)

one_thing : (p : Packet) (outcome : Outcome) (H : Host) (frames : List (List ℕ)) (notes : List Note) →
    IsReal H → has_udp (payload_of p) ≡ false → SendsOneThing p outcome H frames notes →
    CarryOnly H.capabilities.medium [] frames (cuts (cut_notes notes))
one_thing p outcome H frames notes real none (laws.Nothing f a c) = nothing_carried notes f c
one_thing p outcome H frames notes real none (ThePacket h to o f a c) =
    rw (f, c) (record { frames_are = (inl (packet_none H.capabilities.medium H h p real.own to none), tt); cuts_are = tt })
one_thing p outcome H frames notes real none (ItsFirstPiece h q first rest to of pieces o f a c) =
    let m = H.capabilities.medium in
    let is = first_is (datagram_of H h H.ipv4_id q) pieces in
    let none_v4 : has_udp q.payload ≡ false = subst (λ (x : Packet). has_udp (payload_of x) ≡ false) of none in
    let other : number_of first.header.next_header ≡ 17 → ⊥ = rw is.1 (v4_none q.payload none_v4) in
    let there : IsOf m first.destination = rw is.1 to in
    rw (f, c) (record {
      frames_are =
          (inl (piece_none m H first real.own (record { destination = there; part = λ n. absurd (other n); header = λ n. absurd (other n) })), tt);
      cuts_are = ((λ n. absurd (v4_none q.payload none_v4 n)), tt);
    })
one_thing p outcome H frames notes real none (ARequest frame is silent o f a c) =
    rw (f, c) (record { frames_are = (inl (request_none H.capabilities.medium frame is), tt); cuts_are = tt })

pub packet_accounts : {p : Packet} {outcome : Outcome} {H new : Host} {frames : List (List ℕ)} {notes : List Note} →
    has_udp (payload_of p) ≡ false → Dispatches p outcome H frames notes new → AccountsFor H [] frames notes new
packet_accounts {p} {outcome} {H} {new} {frames} {notes} none d = λ r nobody.
    let f = dispatch_follows d r in
    record {
      carry = one_thing p outcome H frames notes r.real none (sends_one p outcome H new frames notes r.real d);
      same = f.same;
      regular = f.regular;
      nobody = rw (dispatched_sockets d) nobody;
    }

own_accounts : {p : Packet} {outcome : Outcome} {H new : Host} {frames : List (List ℕ)} {notes : List Note} →
    is_own (payload_of p) ≡ true → Dispatches p outcome H frames notes new → AccountsFor H [] frames notes new
own_accounts {p = p} own d = packet_accounts (own_has_none (payload_of p) own) d

-- one that isn't gone
pub unsent_carry : (p : Packet) (error : DispatchError) (H : Host) (frames : List (List ℕ)) (notes : List Note) →
    SendsOneThing p (Err error) H frames notes → CarryOnly H.capabilities.medium [] frames (cuts (cut_notes notes))
unsent_carry p error H frames notes (laws.Nothing f a c) = nothing_carried notes f c
unsent_carry p error H frames notes (ThePacket h to o f a c) = absurd cc
unsent_carry p error H frames notes (ItsFirstPiece h q first rest to of pieces o f a c) = absurd cc
unsent_carry p error H frames notes (ARequest frame is silent o f a c) =
    rw (f, c) (record { frames_are = (inl (request_none H.capabilities.medium frame is), tt); cuts_are = tt })

-- the parts of a round but sockets
over_told : {old new : Host} {frames : List (List ℕ)} (told : List Event) {notes : List Note} →
    sent_frames told ≡ frames → AccountsFor old [] frames notes new → AccountsFor old [] (sent_frames told) notes new
over_told {old} {new} {frames} told {notes} e accounts = subst (λ fs. AccountsFor old [] fs notes new) (sym e) accounts

pub piece_accounts : {H new : Host} {told : List Event} {notes : List Note} →
    Ipv4Egress H told notes new → AccountsFor H [] (sent_frames told) notes new
piece_accounts (egress.NoPiece l t n e) = accounts_same (ap sent_frames t) n e
piece_accounts (egress.NotGranted piece rest l t n e) = accounts_same (ap sent_frames t) n e
piece_accounts {H} {new} {told} {notes} (egress.PieceGoes piece rest l t n e) = rw (t, n, e) (λ r none.
    let all : AllByRecursion (IsPart H.capabilities.medium) (piece ∷ rest) = rw l at r.left in
    record {
      carry = record { frames_are = (inl (piece_none H.capabilities.medium H piece r.real.own all.0), tt); cuts_are = tt };
      same = refl;
      regular = record { real = record { own = r.real.own; neighbors = r.real.neighbors }; mtu = r.mtu; left = all.1 };
      nobody = none;
    })

pub routers_account : {H new : Host} {told : List Event} {notes : List Note} →
    NdiscRsEgress H told notes new → AccountsFor H [] (sent_frames told) notes new
routers_account (slaac.NotDue d t n e) = accounts_same (ap sent_frames t) n e
routers_account (slaac.NotGranted p d t n e) = accounts_same (ap sent_frames t) n e
routers_account {H} {new} {told} {notes} (slaac.Goes p outcome frames mid h d t e) = over_told told (ap sent_frames t ∙ sent_frames-sends frames)
    (accounts_before (own_accounts (solicitation_is H p h) d) e (stay refl refl refl refl refl))

module _ {packet_for : List IpCidr → IpAddress → Option Packet}
    (plain : (own : List IpCidr) (a : IpAddress) (p : Packet) → packet_for own a ≡ Some p → is_own (payload_of p) ≡ true) where
  groups_account : {state : GroupState} {after_report : List Group → IpAddress → List Group} {old new : Host}
      {granted : Bool} {told : List Event} {notes : List Note} →
      multicast.ReportsEach state packet_for after_report old granted told notes new → AccountsFor old [] (sent_frames told) notes new
  groups_account multicast.Begins = accounts_same refl refl refl
  groups_account (multicast.Silently a w f p) = accounts_before (groups_account w) refl (stay refl refl refl refl refl)
  groups_account {old = old} (multicast.Refused {told = told} {notes = notes} {mid = mid} a p w f q) = over_told (told ++ Asked mid.moment false ∷ [])
      (sent_frames-append told (Asked mid.moment false ∷ []) ∙ append-nil (sent_frames told)) (groups_account w)
  groups_account {after_report = after_report} {old = old}
      (multicast.Reported {told = told} {notes = notes} {mid = mid} a p outcome frames more new w f q d) =
      over_told (told ++ Asked mid.moment true ∷ sends frames) (sent_frames-append told (Asked mid.moment true ∷ sends frames)
      ∙ ap (λ fs. sent_frames told ++ fs) (sent_frames-sends frames)) (accounts_before (accounts_on old mid new [] []
      (sent_frames told) frames notes more (groups_account w) (own_accounts (plain mid.ip_addrs a p q) d)) refl (stay refl refl refl refl refl))

  pub all_account : {state : GroupState} {after_report : List Group → IpAddress → List Group}
      {old new : Host} {told : List Event} {notes : List Note} →
      multicast.ReportsAll state packet_for after_report old told notes new → AccountsFor old [] (sent_frames told) notes new
  all_account (multicast.All w n) = groups_account w
  all_account (multicast.UpToRefusal w) = groups_account w

pub igmp_accounts : {H new : Host} {told : List Event} {notes : List Note} →
    IgmpEgress H told notes new → AccountsFor H [] (sent_frames told) notes new
igmp_accounts (igmp.NotDue h t n e) = accounts_same (ap sent_frames t) n e
igmp_accounts (igmp.NoFurtherGroup h g t n e) = accounts_before (accounts_same (ap sent_frames t) n refl) e (stay refl refl refl refl refl)
igmp_accounts (igmp.NoAddress next h g a t n e) = accounts_same (ap sent_frames t) n e
igmp_accounts (igmp.NotGranted p h r t n e) = accounts_same (ap sent_frames t) n e
igmp_accounts {H} {new} {told} {notes} (igmp.Sent p outcome frames mid h r d t e) = over_told told (ap sent_frames t ∙ sent_frames-sends frames)
    (accounts_before (own_accounts (report_is H p r) d) e (stay refl refl refl refl refl))

pub mld_accounts : {H new : Host} {told : List Event} {notes : List Note} → MldEgress H told notes new → AccountsFor H [] (sent_frames told) notes new
mld_accounts (mld.NotYet h t n e) = accounts_same (ap sent_frames t) n e
mld_accounts (mld.GivenUp h t n e) = accounts_before (accounts_same (ap sent_frames t) n refl) e (stay refl refl refl refl refl)
mld_accounts {H} {new} {told} {notes} (mld.ReportGoes outcome frames mid h d t e) =
    over_told told (ap sent_frames t ∙ sent_frames-sends frames) (accounts_before (own_accounts refl d) e (stay refl refl refl refl refl))

-- a call that takes a frame
pub taken_left : (H : Host) (r : Reception) (reply : Option Reply) (notes : List Note) (new : Host) → Takes H r reply notes new → new.left ≡ H.left
taken_left H r reply notes new t =
    taken (λ old frames notes new. new.left ≡ old.left) (λ old new k. ap (λ (K : Host). K.left) k.same) (λ a b c fs gs xs ys one two. two ∙ one)
    (λ H key f result notes new t. ap (λ (K : Host). K.left) t.changed) H r reply notes new t

taken_uncut : (H : Host) (r : Reception) (reply : Option Reply) (notes : List Note) (new : Host) → Takes H r reply notes new → cut_notes notes ≡ []
taken_uncut H r reply notes new t =
    taken (λ old frames notes new. cut_notes notes ≡ []) (λ old new k. refl) (λ a b c fs gs xs ys one two. rw (cut_notes-append, one) two)
    (λ H key f result notes new t. rw t.noted (cut_notes-slots t.slot_notes)) H r reply notes new t

responds : (reply : Option Reply) (H : Host) (frames : List (List ℕ)) (notes : List Note) (new : Host) →
    GoodReply H.capabilities.medium reply → Responds reply H frames notes new → AccountsFor H [] frames notes new
responds None H frames notes new good r = accounts_same r.0 r.1 r.2
responds (Some (Arp packet)) H frames notes new good r = rw (r.0, r.1, r.2) (λ regular none. record {
  carry = record { frames_are = (inl (arp_none H.capabilities.medium packet good.0 good.1), tt); cuts_are = tt };
  same = refl;
  regular = regular;
  nobody = none;
})
responds (Some (Ip packet)) H frames notes new good r = own_accounts good r.1

pub ingress_accounts : (t : ℤ) (answer : PollIngressSingleResult) (old new : Host) (told : List Event) (notes : List Note) →
    Ingress t answer old told notes new → AccountsFor old [] (sent_frames told) notes new
ingress_accounts t answer old new told notes i = λ regular none.
    let r = i.response in
    let began : IsReal (without_expired old t) = record { own = regular.real.own; neighbors = regular.real.neighbors } in
    let shown = takes_real (without_expired old t) i.reception r.reply r.notes_taking r.taken r.takes began in
    let good = takes_good (without_expired old t) i.reception r.reply r.notes_taking r.taken began r.takes in
    let same : r.taken.capabilities ≡ old.capabilities = shown.same in
    let good' : GoodReply r.taken.capabilities.medium r.reply = subst (λ (d : DeviceCapabilities). GoodReply d.medium r.reply) (sym same) good in
    let left : r.taken.left ≡ old.left = taken_left (without_expired old t) i.reception r.reply r.notes_taking r.taken r.takes in
    let attended = takes_attends (without_expired old t) i.reception r.reply r.notes_taking r.taken r.takes in
    let frames : sent_frames told ≡ i.frames = ap sent_frames i.events ∙ sent_frames-sends i.frames in
    let first : AccountsFor old [] [] r.notes_taking r.taken =
    accounts_silent refl (taken_uncut (without_expired old t) i.reception r.reply r.notes_taking r.taken r.takes)
    (λ x. follows old r.taken same left shown.real x) (λ x. attended.nobody may_be_udp x) in
    let both : AccountsFor old [] i.frames (r.notes_taking ++ r.notes_responding) new =
    accounts_on old r.taken new [] [] [] i.frames r.notes_taking r.notes_responding first
    (responds r.reply r.taken i.frames r.notes_responding new good' r.responds) in
    rw (frames, r.all_notes) (both regular none)
