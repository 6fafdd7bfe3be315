-- What calls that send do to UDP sockets: they lose what departed, part after part.
use Rattle.std.proofs.Common.{◌≡◌, ◌≤◌, ◌<◌, ℕ, List, [], ◌∷◌, ◌++◌, refl, sym, ◌∙◌, ap, subst, Option, Some, None, option_map, drop}
use Rattle.std.specs.List.{AllByRecursion}
use Rattle.std.proofs.lemmas.List.{append_assoc}
use Rattle.net_base.specs.Device.{Event, sent_frames}
use Rattle.ip_address.specs.declared.ip.IpAddress.{IpAddress}
use Rattle.sockets.specs.declared.endpoint.IpEndpoint.{IpEndpoint}
use Rattle.sockets.specs.declared.endpoint.IpListenEndpoint.{IpListenEndpoint}
use Rattle.sockets.specs.Udp.{UdpSocket, without_first_to_send}
use Rattle.fragmentation.specs.Cuts.{Datagram, pieces_of}
use Rattle.host_machine.specs.Context.Note.{Note, cut_notes}
use Rattle.host_machine.specs.Context.Host.{Host, SocketSet}
use Rattle.host_machine.specs.Packet.Frame.{ip_frame, piece_frame}
use Rattle.host_machine.specs.Context.Pieces.{datagram_of}
use Rattle.host_machine.specs.Packet.Packet.{total_len}
use Rattle.host_machine.specs.Packet.Packet as packet
use Rattle.net_base.specs.Checksum.{ip_mtu_of}
use Rattle.host_laws.specs.Laws.Order.{IsAmong, IsBeginning}
use Rattle.host_machine.specs.Interface.Parts.{Part}
use Rattle.host_laws.specs.Laws.TwoHosts.{cuts}
use Rattle.host_laws.proofs.Context.NotesBySubject.{cut_notes-append}
use Rattle.host_laws.proofs.Runs.Walk.{sent_frames-append}
use Rattle.host_laws.specs.Deliveries.{udp_at}
use Rattle.host_laws.specs.Departures.{Departure, HasDeparted, Departs, InOneFrame, InPieces, cuts_of}
use Rattle.host_laws.specs.Departures.{departs_from, entries, frames_of, from_index, packet_of, without}
use Rattle.host_laws.specs.Departures as spec
use Rattle.host_laws.proofs.Runs.TwoHosts.{cuts-append}
use Rattle.host_laws.proofs.Accounts.{AccountsFor, accounts_on}
use Rattle.host_laws.proofs.IdleParts.{Idle, base}
use Rattle.host_laws.proofs.IngressDeliveries.{all-append}
use Rattle.host_laws.proofs.Lists.{among-append, cuts_of-append, entries-append, frames_of-append}
use Rattle.host_laws.proofs.Lists.{from_index-append, id_mapped, none_among, option_map_then, without-append}

abbrev LeftIn : Host → SocketSet → Departure → Type 0
LeftIn B sockets d = HasDeparted (record B { sockets = sockets }) d

-- what part of a call lost, from a host that is as the call's in what sending reads
pub record Lost (B old : Host) (told : List Event) (notes : List Note) (new : Host) : Type 0 where
  pub base_is : base new ≡ base B
  pub departures : List Departure
  pub left : AllByRecursion (LeftIn B old.sockets) departures
  pub went : IsAmong (frames_of departures) (sent_frames told)
  pub cut : IsAmong (cuts_of departures) (cuts (cut_notes notes))
  pub fronts : (i : ℕ) (s : UdpSocket) → udp_at old.sockets i ≡ Some s → IsBeginning (entries (from_index i departures)) s.tx.packets
  pub udp_is : (i : ℕ) → udp_at new.sockets i ≡ option_map (without (from_index i departures)) (udp_at old.sockets i)
  pub accounts : AccountsFor old departures (sent_frames told) notes new

abbrev pub LosesOver : Host → Part
LosesOver B old told notes new = base old ≡ base B → Lost B old told notes new

-- where no socket loses anything
pub lost_none : (B old : Host) (told : List Event) (notes : List Note) (new : Host) →
    Idle old new → AccountsFor old [] (sent_frames told) notes new → LosesOver B old told notes new
lost_none B old told notes new i accounts = λ like. record {
  base_is = i.base_is ∙ like;
  departures = [];
  left = tt;
  went = none_among (sent_frames told);
  cut = none_among (cuts (cut_notes notes));
  fronts = λ k s e. (s.tx.packets, refl);
  udp_is = λ k. ap (λ t. udp_at t k) i.sockets_are ∙ id_mapped (udp_at old.sockets k);
  accounts = accounts;
}

-- how a datagram leaves is the same for a host that is alike, and for a socket with the same end and hop limit
pub departs_alike : (H K : Host) (s s' : UdpSocket) (d : Departure) →
    base H ≡ base K → s.endpoint ≡ s'.endpoint → s.hop_limit ≡ s'.hop_limit → Departs H s d → Departs K s' d
departs_alike H K s s' d e ends hops l = by l where
  from_is : departs_from H s d ≡ departs_from K s' d
  from_is = ap (λ (x : IpListenEndpoint). departs_from H (record s { endpoint = x }) d) ends ∙ ap (λ (X : Host). departs_from X s' d) e

  packet_is : (src : IpAddress) → packet_of s d src ≡ packet_of s' d src
  packet_is src = ap (λ (x : IpListenEndpoint). packet_of (record s { endpoint = x }) d src) ends
      ∙ ap (λ n. packet_of (record s { endpoint = s'.endpoint; hop_limit = n }) d src) hops

  by : Departs H s d → Departs K s' d
  by (spec.GoesWhole src p h f q l formed w) = spec.GoesWhole src p h (sym from_is ∙ f) (sym (packet_is src) ∙ q)
      (subst (λ (X : Host). total_len p ≤ ip_mtu_of X.capabilities) e l) formed (w ∙ ap (λ (X : Host). InOneFrame h (ip_frame X h p)) e)
  by (spec.GoesInPieces src q h id first rest f k l m pieces formed w) =
      let same : datagram_of H h id q ≡ datagram_of K h id q = ap (λ (X : Host). datagram_of X h id q) e in
      spec.GoesInPieces src q h id first rest (sym from_is ∙ f) (sym (packet_is src) ∙ k)
      (subst (λ (X : Host). ip_mtu_of X.capabilities < total_len (packet.Ipv4 q)) e l)
      m (subst (λ (x : Datagram). pieces_of x ≡ first ∷ rest) same pieces) formed
      (w ∙ ap (λ (X : Host). InPieces (datagram_of X h id q) (piece_frame X first)) e)
  by (spec.NoSource f w) = spec.NoSource (sym from_is ∙ f) w
  by (spec.ToUnspecified n w) = spec.ToUnspecified n w
  by (spec.TooLong src p f q l m w) =
      let caps : H.capabilities ≡ K.capabilities = ap (λ (X : Host). X.capabilities) e in
      spec.TooLong src p (sym from_is ∙ f) (sym (packet_is src) ∙ q) (rw (← caps) l) m w

-- what losing leaves of a socket
endpoint_stays : (ds : List Departure) (s : UdpSocket) → (without ds s).endpoint ≡ s.endpoint
endpoint_stays [] s = refl
endpoint_stays (d ∷ ds) s = endpoint_stays ds (without_first_to_send s)

hop_limit_stays : (ds : List Departure) (s : UdpSocket) → (without ds s).hop_limit ≡ s.hop_limit
hop_limit_stays [] s = refl
hop_limit_stays (d ∷ ds) s = hop_limit_stays ds (without_first_to_send s)

pub rest_stays : (ds : List Departure) (s : UdpSocket) (rest : List (IpEndpoint × List ℕ)) →
    entries ds ++ rest ≡ s.tx.packets → (without ds s).tx.packets ≡ rest
rest_stays [] s rest e = sym e
rest_stays (d ∷ ds) s rest e = rest_stays ds (without_first_to_send s) rest (ap (λ ps. drop 1 ps) e)

-- the socket that a datagram left is the one that it was before, where that kept its end and its hop limit
left_as_before : (B : Host) (old mid : SocketSet) (change : UdpSocket → UdpSocket) (d : Departure) →
    ((s : UdpSocket) → (change s).endpoint ≡ s.endpoint) → ((s : UdpSocket) → (change s).hop_limit ≡ s.hop_limit) →
    udp_at mid d.index ≡ option_map change (udp_at old d.index) → LeftIn B mid d → LeftIn B old d
left_as_before B old mid change d ends hops e l = by (udp_at old d.index) refl where
  by : (o : Option UdpSocket) → udp_at old d.index ≡ o → LeftIn B old d
  by None none =
      let no : udp_at mid d.index ≡ None = e ∙ ap (option_map change) none in
      let some : udp_at mid d.index ≡ Some l.socket = l.there in
      absurd cc
  by (Some s) some =
      let one : udp_at mid d.index ≡ Some (change s) = e ∙ ap (option_map change) some in
      let two : udp_at mid d.index ≡ Some l.socket = l.there in
      let is : l.socket ≡ change s = cc in
      record {
        socket = s;
        there = some;
        leaves = departs_alike (record B { sockets = mid }) (record B { sockets = old }) l.socket s d refl
            (ap (λ (x : UdpSocket). x.endpoint) is ∙ ends s) (ap (λ (x : UdpSocket). x.hop_limit) is ∙ hops s) l.leaves;
      }

pub all_left_as_before : (B : Host) (old mid : SocketSet) (change : ℕ → UdpSocket → UdpSocket) (ds : List Departure) →
    ((i : ℕ) (s : UdpSocket) → (change i s).endpoint ≡ s.endpoint) →
    ((i : ℕ) (s : UdpSocket) → (change i s).hop_limit ≡ s.hop_limit) → ((i : ℕ) → udp_at mid i ≡ option_map (change i) (udp_at old i)) →
    AllByRecursion (LeftIn B mid) ds → AllByRecursion (LeftIn B old) ds
all_left_as_before B old mid change [] ends hops e all = tt
all_left_as_before B old mid change (d ∷ ds) ends hops e all = (
  left_as_before B old mid (change d.index) d (ends d.index) (hops d.index) (e d.index) all.0,
  all_left_as_before B old mid change ds ends hops e all.1,
)

-- and what was at the front of its queue comes behind what they took
fronts_on : (old mid : SocketSet) (ds es : List Departure) (i : ℕ) →
    ((s : UdpSocket) → udp_at old i ≡ Some s → IsBeginning (entries (from_index i ds)) s.tx.packets) →
    ((s : UdpSocket) → udp_at mid i ≡ Some s → IsBeginning (entries (from_index i es)) s.tx.packets) →
    udp_at mid i ≡ option_map (without (from_index i ds)) (udp_at old i) →
    (s : UdpSocket) → udp_at old i ≡ Some s → IsBeginning (entries (from_index i (ds ++ es))) s.tx.packets
fronts_on old mid ds es i one two e s there =
    let x = one s there in
    let y = two (without (from_index i ds) s) (e ∙ ap (option_map (without (from_index i ds))) there) in
    let rest : entries (from_index i es) ++ y.0 ≡ x.0 = y.1 ∙ rest_stays (from_index i ds) s x.0 x.1 in
    let all : entries (from_index i (ds ++ es)) ≡ entries (from_index i ds) ++ entries (from_index i es) = ap entries (from_index-append i ds es)
    ∙ entries-append (from_index i ds) (from_index i es) in (
      y.0,
      ap (λ xs. xs ++ y.0) all ∙ append_assoc (entries (from_index i ds)) (entries (from_index i es)) y.0
          ∙ ap (λ xs. entries (from_index i ds) ++ xs) rest ∙ x.1,
    )

pub lost_on : (B a b c : Host) (ts us : List Event) (xs ys : List Note) →
    LosesOver B a ts xs b → LosesOver B b us ys c → LosesOver B a (ts ++ us) (xs ++ ys) c
lost_on B a b c ts us xs ys one two = λ like.
    let x = one like in
    let y = two x.base_is in
    record {
      base_is = y.base_is;
      departures = x.departures ++ y.departures;
      left = all-append (LeftIn B a.sockets) x.departures y.departures x.left
          (all_left_as_before B a.sockets b.sockets (λ i. without (from_index i x.departures)) y.departures
          (λ i. endpoint_stays (from_index i x.departures)) (λ i. hop_limit_stays (from_index i x.departures)) x.udp_is y.left);
      went = rw (sent_frames-append, frames_of-append) (among-append x.went y.went);
      cut = rw (cut_notes-append, cuts-append, cuts_of-append) (among-append x.cut y.cut);
      fronts = λ i s there. fronts_on a.sockets b.sockets x.departures y.departures i (x.fronts i) (y.fronts i) (x.udp_is i) s there;
      udp_is = λ i. y.udp_is i ∙ ap (option_map (without (from_index i y.departures))) (x.udp_is i)
          ∙ option_map_then (without (from_index i y.departures)) (without (from_index i x.departures))
          (without (from_index i (x.departures ++ y.departures)))
          (λ s. sym (ap (λ ds. without ds s) (from_index-append i x.departures y.departures)
          ∙ without-append (from_index i x.departures) (from_index i y.departures) s)) (udp_at a.sockets i);
      accounts = rw sent_frames-append (accounts_on a b c x.departures y.departures (sent_frames ts) (sent_frames us) xs ys x.accounts y.accounts);
    }
