-- As long as a datagram waits for its next hop, requests go.
use Rattle.std.proofs.Common.{◌≡◌, ℕ, ◌+◌, ◌<◌, ◌==◌, Bool, true, false, List, [], ◌∷◌, ◌++◌}
use Rattle.std.proofs.Common.{refl, sym, ◌∙◌, ap, subst, append_assoc, Option, Some, None, arith}
use Rattle.std.proofs.lemmas.Bool.Decides.{nat_tests}
use Rattle.std.proofs.lemmas.Option.{slice_get_within}
use Rattle.std.specs.Prelude.{ℤ, is_some, slice_get}
use Rattle.std.specs.Option.{option_map}
use Rattle.net_base.specs.Device.{Event}
use Rattle.ip_address.specs.declared.cidr.IpCidr.{IpCidr}
use Rattle.ip_address.specs.declared.ethernet_address.EthernetAddress.{EthernetAddress}
use Rattle.ip_address.specs.declared.hardware.HardwareAddress.{HardwareAddress}
use Rattle.ip_address.specs.declared.hardware.HardwareAddress.TheVariants as hardware
use Rattle.ip_address.specs.declared.ip.IpAddress.{IpAddress}
use Rattle.ip_address.specs.declared.ip.IpAddress.TheVariants.{Ipv4}
use Rattle.ip_address.specs.Ip.{is_unspecified}
use Rattle.iface_tables.specs.declared.neighbor.Answer.TheVariants.{NotFound}
use Rattle.iface_tables.specs.Neighbor.{Neighbors, answer_of}
use Rattle.iface_tables.specs.declared.groups.Group.{Group}
use Rattle.iface_tables.specs.declared.groups.GroupState.{GroupState}
use Rattle.iface_tables.specs.declared.groups.GroupState.TheVariants.{Joining, Leaving}
use Rattle.iface_tables.specs.Groups.{join_reported, leave_reported}
use Rattle.sockets.specs.declared.socket.SocketOf.TheVariants.{Udp}
use Rattle.sockets.specs.Udp.{UdpSocket}
use Rattle.host_machine.specs.declared.results.Turn.{Turn}
use Rattle.host_machine.specs.Context.Note.{Note, OfIdentification, Identify, asks}
use Rattle.host_machine.specs.Context.Host.{Host, Socket, at, no_sockets, with_next_id}
use Rattle.host_machine.specs.Context.Addresses.{is_unicast, source_for}
use Rattle.host_machine.specs.Packet.Packet.{Packet}
use Rattle.host_machine.specs.Send.Outcome.{Outcome, IsUnsent}
use Rattle.host_machine.specs.Send.Hops.{multicast_hardware_addr}
use Rattle.host_machine.specs.Send.Dispatch.{Emits, DispatchesByHop, DispatchesEthernet, SendsOver, Dispatches, destination_of}
use Rattle.host_machine.specs.Send.Requests.{Discovers}
use Rattle.host_machine.specs.Send.Dispatch as dispatch
use Rattle.host_machine.specs.Send.Requests as requests_rules
use Rattle.host_machine.specs.Multicast.Joins.{ReportsEach, ReportsAll, join_packet, leave_packet}
use Rattle.host_machine.specs.Multicast.Joins as multicast
use Rattle.host_machine.specs.Multicast.Igmp.{IgmpEgress}
use Rattle.host_machine.specs.Multicast.Mld.{MldEgress}
use Rattle.host_machine.specs.Multicast.Igmp as igmp
use Rattle.host_machine.specs.Multicast.Mld as mld
use Rattle.host_machine.specs.Discovery.RouterSolicitation.{NdiscRsEgress}
use Rattle.host_machine.specs.Discovery.RouterSolicitation as slaac
use Rattle.host_machine.specs.Sockets.Turns.{SocketTurn, Serves, Walks, SocketEgress}
use Rattle.host_machine.specs.Send.Fragments.{Ipv4Egress}
use Rattle.host_machine.specs.Sockets.Offers.{packet_from}
use Rattle.host_machine.specs.Sockets.Turns as turns
use Rattle.host_machine.specs.Send.Fragments as fragments
use Rattle.host_laws.specs.Laws.Service.{IsToBeAskedFor, MayBeAsked, RequestsGo, WasAsked, all_granted}
use Rattle.host_laws.proofs.Context.NotesBySubject.{asks-append}
use Rattle.host_machine.proofs.Interface.EarliestInstant.{hop_is_one}
use Rattle.host_laws.proofs.Receive.FrameReplies.{clash, hop_as}
use Rattle.host_laws.proofs.Interface.GrantedEgress.{SameAt, first_packet, given_parts, groups_way, igmp_way, may_as, mld_way, unicast_for}
use Rattle.host_laws.proofs.Interface.GrantedEgress.{permitted, piece_way, routers_way, same_at, sans, stopped, tells_way, Untouched, untouched}

-- what is known of neighbours stays, and so does the silence; or a request went
data Asking (t : ℤ) (old : Host) (notes : List Note) (new : Host) : Type 0 where
  Kept : new.neighbors ≡ old.neighbors → Asking t old notes new
  AskedNow : WasAsked t notes new → Asking t old notes new

was_then : {t : ℤ} {mid new : Host} (one two : List Note) → WasAsked t one mid → Asking t mid two new → WasAsked t (one ++ two) new
was_then {t} one two w (Kept e) = record {
  front = w.front;
  back = w.back ++ asks two;
  noted = asks-append one two ∙ ap (λ x. x ++ asks two) w.noted ∙ append_assoc w.front (t ∷ w.back) (asks two);
  silence = ap (λ (n : Neighbors). n.silent_until) e ∙ w.silence;
}
was_then {t} one two w (AskedNow v) = record {
  front = asks one ++ v.front;
  back = v.back;
  noted = asks-append one two ∙ ap (λ x. asks one ++ x) v.noted ∙ sym (append_assoc (asks one) v.front (t ∷ v.back));
  silence = v.silence;
}

then_was : {t : ℤ} {new : Host} (one two : List Note) → WasAsked t two new → WasAsked t (one ++ two) new
then_was {t} one two v = record {
  front = asks one ++ v.front;
  back = v.back;
  noted = asks-append one two ∙ ap (λ x. asks one ++ x) v.noted ∙ sym (append_assoc (asks one) v.front (t ∷ v.back));
  silence = v.silence;
}

asking_then : {t : ℤ} {old mid new : Host} (one two : List Note) → Asking t old one mid → Asking t mid two new → Asking t old (one ++ two) new
asking_then one two (Kept e) (Kept f) = Kept (f ∙ e)
asking_then one two (Kept e) (AskedNow v) = AskedNow (then_was one two v)
asking_then one two (AskedNow w) b = AskedNow (was_then one two w b)

-- at the same moment, with the same notes
asking_as : {t s : ℤ} {old new : Host} {notes ns : List Note} → t ≡ s → notes ≡ ns → Asking t old notes new → Asking s old ns new
asking_as {t} {s} {old} {new} {notes} {ns} e f a = subst (λ x. Asking x old ns new) e (subst (λ n. Asking t old n new) f a)

kept : {t : ℤ} {old new : Host} {notes : List Note} → new ≡ old → Asking t old notes new
kept e = Kept (ap (λ (K : Host). K.neighbors) e)

unsent : {H new : Host} {frames : List (List ℕ)} {notes : List Note} → IsUnsent H frames notes new → Asking H.moment H notes new
unsent u = kept u.unchanged

emitted : {id : ℕ} {p : Packet} {h : HardwareAddress} {outcome : Outcome} {H new : Host} {frames : List (List ℕ)} {notes : List Note} →
    Emits id p h outcome H frames notes new → Asking H.moment H notes new
emitted (dispatch.Whole fits formed o f n e) = kept e
emitted (dispatch.InPieces q first rest is long short pieces fits formed o f n e) = Kept (ap (λ (K : Host). K.neighbors) e)
emitted (dispatch.TooLong long longer o u) = unsent u

discovered : {own : EthernetAddress} {hop : IpAddress} {outcome : Outcome} {H new : Host} {frames : List (List ℕ)} {notes : List Note} →
    Discovers own hop outcome H frames notes new → Asking H.moment H notes new
discovered (requests_rules.Asked target source h s o f n e) =
    AskedNow (record { front = []; back = []; noted = ap asks n; silence = ap (λ (K : Host). K.neighbors.silent_until) e })
discovered (requests_rules.NoSource target h s o u) = unsent u
discovered (requests_rules.Solicited target h o f n e) =
    AskedNow (record { front = []; back = []; noted = ap asks n; silence = ap (λ (K : Host). K.neighbors.silent_until) e })

by_hop : {id : ℕ} {own : EthernetAddress} {p : Packet} {hop : IpAddress} {outcome : Outcome} {H new : Host}
    {frames : List (List ℕ)} {notes : List Note} →
    DispatchesByHop id own p hop outcome H frames notes new → Asking H.moment H notes new
by_hop (dispatch.Known h k e) = emitted e
by_hop (dispatch.Silent s o u) = unsent u
by_hop (dispatch.Unknown u d) = discovered d

ethernet : {id : ℕ} {own : EthernetAddress} {p : Packet} {outcome : Outcome} {H new : Host} {frames : List (List ℕ)} {notes : List Note} →
    DispatchesEthernet id own p outcome H frames notes new → Asking H.moment H notes new
ethernet (dispatch.ToMulticast h m e) = emitted e
ethernet (dispatch.NoHop m n o u) = unsent u
ethernet (dispatch.ByHop hop m n s) = by_hop s

over : (id : ℕ) (h : HardwareAddress) (p : Packet) (outcome : Outcome) (H : Host) (frames : List (List ℕ)) (notes : List Note) (new : Host) →
    SendsOver id h p outcome H frames notes new → Asking H.moment H notes new
over id (hardware.Ethernet own) p outcome H frames notes new s = ethernet s
over id hardware.Ip p outcome H frames notes new s = emitted s

-- a request stays one behind another note
noted_after : {t : ℤ} {old new : Host} (first : Note) (more : List Note) → Asking t old more new → Asking t old (first ∷ more) new
noted_after first more (Kept e) = Kept e
noted_after first more (AskedNow w) = AskedNow (then_was (first ∷ []) more w)

dispatched : {p : Packet} {outcome : Outcome} {H new : Host} {frames : List (List ℕ)} {notes : List Note} →
    Dispatches p outcome H frames notes new → Asking H.moment H notes new
dispatched (dispatch.ToUnspecified n o u) = unsent u
dispatched {p} {outcome} {H} {new} {frames} {notes} (dispatch.ToSpecified more s d n) =
    asking_as refl (sym n) (noted_after (OfIdentification (Identify H.ipv4_id)) more
    (on (over H.ipv4_id H.hardware_addr p outcome (with_next_id H) frames more new d))) where
      on : {m : List Note} → Asking H.moment (with_next_id H) m new → Asking H.moment H m new
      on (Kept e) = Kept e
      on (AskedNow w) = AskedNow w

-- a host that another one becomes whose neighbours are the same
on_host : {t : ℤ} {old mid new : Host} {notes : List Note} → new.neighbors ≡ mid.neighbors → Asking t old notes mid → Asking t old notes new
on_host e (Kept f) = Kept (e ∙ f)
on_host e (AskedNow w) =
    AskedNow (record { front = w.front; back = w.back; noted = w.noted; silence = ap (λ (n : Neighbors). n.silent_until) e ∙ w.silence })

piece_asks : {H new : Host} {told : List Event} {notes : List Note} → Ipv4Egress H told notes new → Asking H.moment H notes new
piece_asks (fragments.NoPiece l e m y) = kept y
piece_asks (fragments.NotGranted piece rest l e m y) = kept y
piece_asks (fragments.PieceGoes piece rest l e m y) = Kept (ap (λ (K : Host). K.neighbors) y)

routers_asks : {H new : Host} {told : List Event} {notes : List Note} → NdiscRsEgress H told notes new → Asking H.moment H notes new
routers_asks (slaac.NotDue d e m y) = kept y
routers_asks (slaac.NotGranted p d e m y) = kept y
routers_asks (slaac.Goes p o f mid d s e y) = on_host (ap (λ (K : Host). K.neighbors) y) (dispatched s)

module _ (state : GroupState) (packet_for : List IpCidr → IpAddress → Option Packet) (after_report : List Group → IpAddress → List Group) where
  tells_asks : {old new : Host} {granted : Bool} {told : List Event} {notes : List Note} →
      ReportsEach state packet_for after_report old granted told notes new → Asking old.moment old notes new
  tells_asks multicast.Begins = Kept refl
  tells_asks (multicast.Silently a w i none) = on_host refl (tells_asks w)
  tells_asks (multicast.Refused a p w i some) = tells_asks w
  tells_asks {old} (multicast.Reported {notes = so} {mid = mid} a p o f more new w i some d) =
      let moment : mid.moment ≡ old.moment = ap (λ (K : Host). K.moment) (tells_way state packet_for after_report w) in
      on_host refl (asking_then so more (tells_asks w) (asking_as moment refl (dispatched d)))

  groups_asks : {old new : Host} {told : List Event} {notes : List Note} →
      ReportsAll state packet_for after_report old told notes new → Asking old.moment old notes new
  groups_asks (multicast.All w none) = tells_asks w
  groups_asks (multicast.UpToRefusal w) = tells_asks w

igmp_asks : {H new : Host} {told : List Event} {notes : List Note} → IgmpEgress H told notes new → Asking H.moment H notes new
igmp_asks (igmp.NotDue d e m y) = kept y
igmp_asks (igmp.NoFurtherGroup d g e m y) = Kept (ap (λ (K : Host). K.neighbors) y)
igmp_asks (igmp.NoAddress next d g a e m y) = kept y
igmp_asks (igmp.NotGranted p d r e m y) = kept y
igmp_asks (igmp.Sent p o f mid d r s e y) = on_host (ap (λ (K : Host). K.neighbors) y) (dispatched s)

mld_asks : {H new : Host} {told : List Event} {notes : List Note} → MldEgress H told notes new → Asking H.moment H notes new
mld_asks (mld.NotYet d e m y) = kept y
mld_asks (mld.GivenUp d e m y) = Kept (ap (λ (K : Host). K.neighbors) y)
mld_asks (mld.ReportGoes o f mid d s e y) = on_host (ap (λ (K : Host). K.neighbors) y) (dispatched s)

turn_asks : {s s' : Socket} {turn : Turn} {H new : Host} {told : List Event} {notes : List Note} →
    SocketTurn s turn s' H told notes new → Asking H.moment H notes new
turn_asks (turns.Silent p d e m y z) = kept y
turn_asks (turns.Refused q p d e m y z) = kept y
turn_asks (turns.Sent q o f p g d e z) = dispatched g

serves_asks : {i : ℕ} {turn : Turn} {H new : Host} {told : List Event} {notes : List Note} →
    Serves i turn H told notes new → Asking H.moment H notes new
serves_asks (turns.Free f d e m y) = kept y
serves_asks (turns.Waits s known f l w d e m y) = kept y
serves_asks (turns.Served s s' known mid f l w z y) = on_host (ap (λ (K : Host). K.neighbors) y) (turn_asks z)

walks_asks : {old new : Host} {n : ℕ} {granted changed : Bool} {told : List Event} {notes : List Note} →
    Walks old n granted changed told notes new → Asking old.moment old notes new
walks_asks turns.Begins = Kept refl
walks_asks (turns.Goes {notes_so = so} turn told_it notes new w s e) =
    asking_then so notes (walks_asks w) (asking_as (ap (λ (K : Host). K.moment) (untouched w).rest) refl (serves_asks s))
walks_asks (turns.Stops {notes_so = so} turn told_it notes new w s e) =
    asking_then so notes (walks_asks w) (asking_as (ap (λ (K : Host). K.moment) (untouched w).rest) refl (serves_asks s))

-- A dispatch to a hop that is to be asked for

asks_hop : {own : EthernetAddress} {hop : IpAddress} {outcome : Outcome} {H new : Host} {frames : List (List ℕ)} {notes : List Note} →
    Discovers own hop outcome H frames notes new →
    is_some (source_for H.ip_addrs hop) ≡ true → WasAsked H.moment notes new
asks_hop (requests_rules.Asked target source h s o f n e) from =
    record { front = []; back = []; noted = ap asks n; silence = ap (λ (K : Host). K.neighbors.silent_until) e }
asks_hop {H = H} (requests_rules.NoSource target h s o u) from =
    absurd
    (let bad : false ≡ true = sym (ap (λ a. is_some (source_for H.ip_addrs a)) h ∙ ap (λ x. is_some (option_map (λ v. Ipv4 v) x)) s) ∙ from in cc)
asks_hop (requests_rules.Solicited target h o f n e) from =
    record { front = []; back = []; noted = ap asks n; silence = ap (λ (K : Host). K.neighbors.silent_until) e }

asks_by_hop : {id : ℕ} {own : EthernetAddress} {p : Packet} {hop : IpAddress} {outcome : Outcome} {H new : Host} {frames : List (List ℕ)}
    {notes : List Note} → DispatchesByHop id own p hop outcome H frames notes new →
    answer_of H.neighbors hop H.moment ≡ NotFound → is_some (source_for H.ip_addrs hop) ≡ true → WasAsked H.moment notes new
asks_by_hop (dispatch.Known h k e) unknown from = absurd cc
asks_by_hop (dispatch.Silent s o u) unknown from = absurd cc
asks_by_hop (dispatch.Unknown u d) unknown from = asks_hop d from

asks_ethernet : {id : ℕ} {own : EthernetAddress} {p : Packet} {outcome : Outcome} {H new : Host} {frames : List (List ℕ)} {notes : List Note}
    (hop : IpAddress) → DispatchesEthernet id own p outcome H frames notes new →
    multicast_hardware_addr H.ip_addrs (destination_of p) ≡ None → IsToBeAskedFor H (destination_of p) hop → WasAsked H.moment notes new
asks_ethernet hop (dispatch.ToMulticast h m e) one a = absurd cc
asks_ethernet hop (dispatch.NoHop m n o u) one a = let none : None ≡ Some hop = hop_is_one n a.next in absurd cc
asks_ethernet {id} {own} {p} {outcome} {H} {new} {frames} {notes} hop (dispatch.ByHop other m n s) one a =
    let some : Some other ≡ Some hop = hop_is_one n a.next in
    let same : other ≡ hop = cc in
    asks_by_hop (subst (λ x. DispatchesByHop id own p x outcome H frames notes new) same s) a.unknown a.asker

asks_dispatch : {p : Packet} {outcome : Outcome} {H new : Host} {frames : List (List ℕ)} {notes : List Note} (own : EthernetAddress)
    (hop : IpAddress) → Dispatches p outcome H frames notes new →
    H.hardware_addr ≡ hardware.Ethernet own → is_unspecified (destination_of p) ≡ false →
    multicast_hardware_addr H.ip_addrs (destination_of p) ≡ None → IsToBeAskedFor H (destination_of p) hop → WasAsked H.moment notes new
asks_dispatch own hop (dispatch.ToUnspecified n o u) on specified one a = absurd cc
asks_dispatch {p} {outcome} {H} {new} {frames} {notes} own hop (dispatch.ToSpecified more s d n) on specified one a =
    let sends : DispatchesEthernet H.ipv4_id own p outcome (with_next_id H) frames more new =
    subst (λ x. SendsOver H.ipv4_id x p outcome (with_next_id H) frames more new) on d in
    let same : IsToBeAskedFor (with_next_id H) (destination_of p) hop =
    record { next = hop_as {H = H} {K = with_next_id H} refl refl refl a.next; unknown = a.unknown; asker = a.asker } in
    let w : WasAsked H.moment more new = asks_ethernet {H = with_next_id H} hop sends one same in
    subst (λ ns. WasAsked H.moment ns new) (sym n) (then_was (OfIdentification (Identify H.ipv4_id) ∷ []) more w)

asks_turn : {s s' : Socket} {turn : Turn} {H new : Host} {told_it : List Event} {notes : List Note} (own : EthernetAddress) (p : Packet)
    (hop : IpAddress) → SocketTurn s turn s' H told_it notes new →
    packet_from H s ≡ Some p → all_granted told_it ≡ true → H.hardware_addr ≡ hardware.Ethernet own →
    is_unicast H.ip_addrs (destination_of p) ≡ true → IsToBeAskedFor H (destination_of p) hop → WasAsked H.moment notes new
asks_turn own p hop (turns.Silent none d e m y z) is all on one a = absurd cc
asks_turn own p hop (turns.Refused q some d e m y z) is all on one a = absurd (clash all (ap all_granted e))
asks_turn {s} {s'} {turn} {H} {new} {told_it} {notes} own p hop (turns.Sent q o f some g d e z) is all on one a =
    let lists : Some q ≡ Some p = sym some ∙ is in
    let same : q ≡ p = cc in
    let it : Dispatches p o H f notes new = subst (λ x. Dispatches x o H f notes new) same g in
    let host = unicast_for H.ip_addrs (destination_of p) one in
    asks_dispatch own hop it on host.specified host.not_multicast a

asks_serve : {i : ℕ} {turn : Turn} {H new : Host} {told_it : List Event} {notes : List Note} (own : EthernetAddress) (s : UdpSocket) (p : Packet)
    (hop : IpAddress) → Serves i turn H told_it notes new →
    slice_get H.sockets.places i ≡ Some (Some (Udp s)) → MayBeAsked H i → packet_from H (Udp s) ≡ Some p →
    all_granted told_it ≡ true → H.hardware_addr ≡ hardware.Ethernet own →
    is_unicast H.ip_addrs (destination_of p) ≡ true → IsToBeAskedFor H (destination_of p) hop → WasAsked H.moment notes new
asks_serve own s p hop (turns.Free f d e m y) here may is all on one a = absurd cc
asks_serve {i} {turn} {H} own s p hop (turns.Waits s' known f l w d e m y) here may is all on one a = absurd (clash (permitted H i may known l) w)
asks_serve {i} {turn} {H} {new} {told_it} {notes} own s p hop (turns.Served s' s'' known mid f l w z y) here may is all on one a =
    let both : Some (Some s') ≡ Some (Some (Udp s)) = sym f ∙ here in
    let same : s' ≡ Udp s = cc in
    let it : WasAsked H.moment notes mid = asks_turn own p hop (subst (λ x. SocketTurn x turn s'' H told_it notes mid) same z) is all on one a in
    record { front = it.front; back = it.back; noted = it.noted; silence = ap (λ (K : Host). K.neighbors.silent_until) y ∙ it.silence }

-- the hop is to be asked for, where the way and what is known of neighbours is the same
asked_as : {H K : Host} {a hop : IpAddress} → sans K ≡ sans H → K.neighbors ≡ H.neighbors → IsToBeAskedFor H a hop → IsToBeAskedFor K a hop
asked_as {H} {K} {a} {hop} e n i = record {
  next = hop_as {H = H} {K = K} (ap (λ (x : Host). x.ip_addrs) e) (ap (λ (x : Host). x.routes) e) (ap (λ (x : Host). x.moment) e) i.next;
  unknown = ap (λ m. answer_of m hop K.moment) n ∙ ap (answer_of H.neighbors hop) (ap (λ (x : Host). x.moment) e) ∙ i.unknown;
  asker = ap (λ (x : Host). is_some (source_for x.ip_addrs hop)) e ∙ i.asker;
}

module _ (own : EthernetAddress) (s : UdpSocket) (p : Packet) (hop : IpAddress) (i : ℕ) (old : Host)
    (here : slice_get old.sockets.places i ≡ Some (Some (Udp s))) (may : MayBeAsked old i)
    (is : packet_from old (Udp s) ≡ Some p) (on : old.hardware_addr ≡ hardware.Ethernet own) (one : is_unicast old.ip_addrs (destination_of p) ≡ true)
    (a : IsToBeAskedFor old (destination_of p) hop) where
  -- at its turn
  now : {mid new : Host} {n : ℕ} {changed : Bool} {told_so told_it : List Event} {so notes : List Note} {turn : Turn} →
      Walks old n true changed told_so so mid → Serves n turn mid told_it notes new → i ≡ n →
      all_granted told_it ≡ true → WasAsked old.moment (so ++ notes) new
  now {mid} {new} {n} {changed} {told_so} {told_it} {so} {notes} {turn} w v same all = by (walks_asks w) where
    u : Untouched n old mid
    u = untouched w

    moment : mid.moment ≡ old.moment
    moment = ap (λ (K : Host). K.moment) u.rest

    by : Asking old.moment old so mid → WasAsked old.moment (so ++ notes) new
    by (AskedNow k) = was_then so notes k (asking_as moment refl (serves_asks v))
    by (Kept e) =
        let it : Serves i turn mid told_it notes new = subst (λ k. Serves k turn mid told_it notes new) (sym same) v in
        let stays = u.later i (omega (arith, same)) in
        let asked : WasAsked mid.moment notes new =
        asks_serve own s p hop it (stays.place ∙ here) (may_as i u.rest stays may)
        (ap (λ (x : Host). packet_from x (Udp s)) u.rest ∙ is) all (ap (λ (x : Host). x.hardware_addr) u.rest ∙ on)
        (ap (λ (x : Host). is_unicast x.ip_addrs (destination_of p)) u.rest ∙ one) (asked_as u.rest e a) in
        then_was so notes (subst (λ t. WasAsked t notes new) moment asked)

  one_more : {mid new : Host} {n : ℕ} {changed : Bool} {told_so told_it : List Event} {so notes : List Note} {turn : Turn} →
      Walks old n true changed told_so so mid → Serves n turn mid told_it notes new →
      (i < n → all_granted told_so ≡ true → WasAsked old.moment so mid) → i < n + 1 →
      all_granted (told_so ++ told_it) ≡ true → WasAsked old.moment (so ++ notes) new
  one_more {mid} {new} {n} {changed} {told_so} {told_it} {so} {notes} {turn} w v earlier less all = by (i == n) refl where
    by : (b : Bool) → (i == n) ≡ b → WasAsked old.moment (so ++ notes) new
    by true same = now w v (grind (arith, nat_tests)) (given_parts told_so told_it all).1
    by false other = was_then so notes (earlier (grind (arith, nat_tests)) (given_parts told_so told_it all).0)
        (asking_as (ap (λ (K : Host). K.moment) (untouched w).rest) refl (serves_asks v))

  walk_asks : {new : Host} {n : ℕ} {granted changed : Bool} {told : List Event} {notes : List Note} →
      Walks old n granted changed told notes new → i < n → all_granted told ≡ true → WasAsked old.moment notes new
  walk_asks turns.Begins less all = absurd (omega (arith, less))
  walk_asks (turns.Goes turn told_it notes new w v e) less all = one_more w v (λ l g. walk_asks w l g) less all
  walk_asks (turns.Stops turn told_it notes new w v e) less all = one_more w v (λ l g. walk_asks w l g) less all

  sockets_ask : {new : Host} {changed : Bool} {told : List Event} {notes : List Note} →
      SocketEgress old changed told notes new → all_granted told ≡ true → WasAsked old.moment notes new
  sockets_ask (turns.Whole w) all = walk_asks w (slice_get_within old.sockets.places i (Some (Udp s)) here) all
  sockets_ask (turns.Stopped n w) all = absurd (stopped w refl all)

sockets_asks : {old new : Host} {changed : Bool} {told : List Event} {notes : List Note} →
    SocketEgress old changed told notes new → Asking old.moment old notes new
sockets_asks (turns.Whole w) = walks_asks w
sockets_asks (turns.Stopped n w) = walks_asks w

finish : {t : ℤ} {new : Host} {changed : Bool} {told : List Event} {notes : List Note} (own : EthernetAddress) (s : UdpSocket) (p : Packet)
    (hop : IpAddress) (i : ℕ) (old mid : Host) (so : List Note) →
    SocketEgress mid changed told notes new → all_granted told ≡ true → mid.moment ≡ t → sans mid ≡ sans old → SameAt i old mid →
    slice_get old.sockets.places i ≡ Some (Some (Udp s)) → MayBeAsked old i →
    packet_from old (Udp s) ≡ Some p → old.hardware_addr ≡ hardware.Ethernet own → is_unicast old.ip_addrs (destination_of p) ≡ true →
    IsToBeAskedFor old (destination_of p) hop →
    Asking t old so mid → WasAsked t (so ++ notes) new
finish {t} {new} {changed} {told} {notes} own s p hop i old mid so v all moment e same here may is on one a (AskedNow w) =
    was_then so notes w (asking_as moment refl (sockets_asks v))
finish {t} {new} {changed} {told} {notes} own s p hop i old mid so v all moment e same here may is on one a (Kept n) =
    let asked : WasAsked mid.moment notes new =
    sockets_ask own s p hop i mid (same.place ∙ here) (may_as i e same may) (ap (λ (x : Host). packet_from x (Udp s)) e ∙ is)
    (ap (λ (x : Host). x.hardware_addr) e ∙ on)
    (ap (λ (x : Host). is_unicast x.ip_addrs (destination_of p)) e ∙ one) (asked_as e n a) v all in
    then_was so notes (subst (λ x. WasAsked x notes new) moment asked)

-- notes of parts one after the other
up : {n n1 : List Note} (a rest h : List Note) → n ≡ a ++ n1 → n1 ≡ rest ++ h → n ≡ (a ++ rest) ++ h
up a rest h e s = e ∙ ap (λ x. a ++ x) s ∙ sym (append_assoc a rest h)

pub requests_go : RequestsGo
requests_go t answer old new told_all notes e own i s p hop rest all on first may one a =
    let b1 = e.round in
    let b2 = b1.ends in
    let b3 = b2.ends in
    let b4 = b3.ends in
    let b5 = b4.ends in
    let b6 = b5.ends in
    let m1 : b1.mid.moment ≡ t = ap (λ (K : Host). K.moment) (piece_way b1.begins) in
    let m2 : b2.mid.moment ≡ t = ap (λ (K : Host). K.moment) (routers_way b2.begins) ∙ m1 in
    let m3 : b3.mid.moment ≡ t = ap (λ (K : Host). K.moment) (groups_way Joining join_packet join_reported b3.begins) ∙ m2 in
    let m4 : b4.mid.moment ≡ t = ap (λ (K : Host). K.moment) (groups_way Leaving leave_packet leave_reported b4.begins) ∙ m3 in
    let m5 : b5.mid.moment ≡ t = ap (λ (K : Host). K.moment) (igmp_way b5.begins) ∙ m4 in
    let m6 : b6.mid.moment ≡ t = ap (λ (K : Host). K.moment) (mld_way b6.begins) ∙ m5 in
    let way = mld_way b6.begins ∙ igmp_way b5.begins ∙ groups_way Leaving leave_packet leave_reported b4.begins
    ∙ groups_way Joining join_packet join_reported b3.begins ∙ routers_way b2.begins ∙ piece_way b1.begins in
    let g1 = given_parts b1.told_one b1.told_two (sym (ap all_granted b1.events) ∙ all) in
    let g2 = given_parts b2.told_one b2.told_two (sym (ap all_granted b2.events) ∙ g1.1) in
    let g3 = given_parts b3.told_one b3.told_two (sym (ap all_granted b3.events) ∙ g2.1) in
    let g4 = given_parts b4.told_one b4.told_two (sym (ap all_granted b4.events) ∙ g3.1) in
    let g5 = given_parts b5.told_one b5.told_two (sym (ap all_granted b5.events) ∙ g4.1) in
    let g6 = given_parts b6.told_one b6.told_two (sym (ap all_granted b6.events) ∙ g5.1) in
    let before : Asking t (at old t) (b1.notes_one ++ (b2.notes_one ++ (b3.notes_one ++ (b4.notes_one ++ (b5.notes_one ++ b6.notes_one))))) b6.mid =
    asking_then b1.notes_one (b2.notes_one ++ (b3.notes_one ++ (b4.notes_one ++ (b5.notes_one ++ b6.notes_one)))) (piece_asks b1.begins)
    (asking_then b2.notes_one (b3.notes_one ++ (b4.notes_one ++ (b5.notes_one ++ b6.notes_one))) (asking_as m1 refl (routers_asks b2.begins))
    (asking_then b3.notes_one (b4.notes_one ++ (b5.notes_one ++ b6.notes_one))
    (asking_as m2 refl (groups_asks Joining join_packet join_reported b3.begins))
    (asking_then b4.notes_one (b5.notes_one ++ b6.notes_one) (asking_as m3 refl (groups_asks Leaving leave_packet leave_reported b4.begins))
    (asking_then b5.notes_one b6.notes_one (asking_as m4 refl (igmp_asks b5.begins)) (asking_as m5 refl (mld_asks b6.begins)))))) in
    let sockets_are : b6.mid.sockets ≡ old.sockets = ap (λ (K : Host). K.sockets) way in
    let rest_is : sans b6.mid ≡ sans (at old t) = ap (λ (K : Host). record K { sockets = no_sockets }) way in
    let same : SameAt i (at old t) b6.mid = same_at {k = i} {old = at old t} {new = b6.mid} sockets_are in
    let last : Asking t (at old t) (b1.notes_one ++ (b2.notes_one ++ (b3.notes_one ++ (b4.notes_one ++ (b5.notes_one ++ b6.notes_one))))) b6.mid →
    WasAsked t ((b1.notes_one ++ (b2.notes_one ++ (b3.notes_one ++ (b4.notes_one ++ (b5.notes_one ++ b6.notes_one))))) ++ b6.notes_two) new =
    finish own s p hop i (at old t) b6.mid (b1.notes_one ++ (b2.notes_one ++ (b3.notes_one ++ (b4.notes_one ++ (b5.notes_one ++ b6.notes_one)))))
    b6.ends g6.1 m6 rest_is same first.here may
    (first_packet (at old t) i s p rest first) on one a in
    subst (λ ns. WasAsked t ns new) (sym
    (up b1.notes_one (b2.notes_one ++ (b3.notes_one ++ (b4.notes_one ++ (b5.notes_one ++ b6.notes_one)))) b6.notes_two b1.all_notes
    (up b2.notes_one (b3.notes_one ++ (b4.notes_one ++ (b5.notes_one ++ b6.notes_one))) b6.notes_two b2.all_notes
    (up b3.notes_one (b4.notes_one ++ (b5.notes_one ++ b6.notes_one)) b6.notes_two b3.all_notes
    (up b4.notes_one (b5.notes_one ++ b6.notes_one) b6.notes_two b4.all_notes
    (up b5.notes_one b6.notes_one b6.notes_two b5.all_notes b6.all_notes)))))) (last before)
