-- What may go goes, in a call that sends and is given each leave.
use Rattle.std.proofs.Common.{◌≡◌, ℕ, zero, suc, ◌+◌, ◌<◌, ◌≤◌, ◌==◌, Bool, true, false, List, [], ◌∷◌, ◌++◌}
use Rattle.std.proofs.Common.{length, refl, sym, ◌∙◌, ap, subst, append_assoc, Option, Some, None, arith}
use Rattle.std.proofs.lemmas.Bool.Decides.{nat_tests}
use Rattle.std.proofs.lemmas.Int.{ints}
use Rattle.std.proofs.lemmas.List.{append-nil, get_or-set_other, length-set}
use Rattle.std.proofs.lemmas.Option.{slice_get_within}
use Rattle.std.specs.Prelude.{ℤ, pos, ◌≤ℤ◌, ◌<ℤ◌, ◌&&◌, ◌||◌, cond, is_none, is_ok, slice_get, slice_set, drop, Ok, Err, if◌then◌else◌}
use Rattle.std.specs.Cmp.{int_ranks}
use Rattle.std.specs.FinMap as map
use Rattle.std.specs.Ordering.{int_cmp, is_ge, MatchOrdering}
use Rattle.std.specs.declared.cmp.Ordering.{Ordering}
use Rattle.std.specs.declared.cmp.Ordering.TheVariants.{Less, Equal, Greater}
use Rattle.net_base.specs.Checksum.{ip_mtu_of}
use Rattle.net_base.specs.Device.{Event, Received, Asked, Sent, sent_frames}
use Rattle.ip_address.specs.declared.cidr.IpCidr.{IpCidr}
use Rattle.ip_address.specs.declared.ethernet_address.EthernetAddress.{EthernetAddress}
use Rattle.ip_address.specs.declared.hardware.HardwareAddress.{HardwareAddress}
use Rattle.ip_address.specs.declared.hardware.HardwareAddress.TheVariants as hardware
use Rattle.ip_address.specs.declared.ip.IpAddress.{IpAddress}
use Rattle.ip_address.specs.declared.ip.IpAddress.TheVariants.{Ipv4, Ipv6}
use Rattle.ip_address.specs.Ip.{is_unspecified}
use Rattle.ip_address.specs.Ipv6 as ipv6
use Rattle.iface_tables.specs.declared.neighbor.Neighbor.{Neighbor}
use Rattle.iface_tables.specs.declared.neighbor.Answer.TheVariants.{Found, NotFound, RateLimited}
use Rattle.iface_tables.specs.Neighbor.{answer_from, is_before, is_found}
use Rattle.iface_tables.specs.declared.groups.Group.{Group}
use Rattle.iface_tables.specs.declared.groups.GroupState.{GroupState}
use Rattle.iface_tables.specs.declared.report.IgmpReportState.TheVariants as igmp
use Rattle.iface_tables.specs.declared.report.MldReportState.TheVariants as mld
use Rattle.iface_tables.specs.Slaac.{initial_state}
use Rattle.sockets.specs.declared.endpoint.IpEndpoint.{IpEndpoint}
use Rattle.socket_set.specs.SocketMeta.{IsAnswerFor, is_permitted}
use Rattle.socket_set.specs.SocketSet.{wait_at}
use Rattle.sockets.specs.declared.socket.SocketOf.TheVariants.{Udp}
use Rattle.sockets.specs.Kinds.{socket_after_told}
use Rattle.sockets.specs.Udp.{UdpSocket}
use Rattle.sockets.specs.Udp as udp
use Rattle.host_machine.specs.declared.results.PollResult.{PollResult}
use Rattle.host_machine.specs.declared.results.Turn.{Turn}
use Rattle.host_machine.specs.Context.Note.{Note}
use Rattle.host_machine.specs.Context.Host.{Host, Socket, Storage, at, no_sockets, with_next_id}
use Rattle.host_machine.specs.Context.Addresses.{is_unicast, source_for}
use Rattle.host_machine.specs.Packet.Packet.{Packet, total_len}
use Rattle.host_machine.specs.Packet.Packet as packet
use Rattle.host_machine.specs.Packet.Frame.{ip_frame}
use Rattle.host_machine.specs.Send.Outcome.{Outcome, IsUnsent}
use Rattle.host_machine.specs.Send.Hops.{HasNeighbor, OfHost, is_known_hop, multicast_hardware_addr}
use Rattle.host_machine.specs.Send.Dispatch.{Emits, DispatchesByHop, DispatchesEthernet, SendsOver, Dispatches, destination_of}
use Rattle.host_machine.specs.Send.Requests.{Discovers}
use Rattle.host_machine.specs.Send.Dispatch as dispatch
use Rattle.host_machine.specs.Send.Requests as requests
use Rattle.host_machine.specs.Multicast.Joins.{ReportsEach, ReportsAll}
use Rattle.host_machine.specs.Multicast.Joins as multicast
use Rattle.host_machine.specs.Multicast.Igmp.{IgmpEgress}
use Rattle.host_machine.specs.Multicast.Mld.{MldEgress}
use Rattle.host_machine.specs.Multicast.Igmp as igmp_rules
use Rattle.host_machine.specs.Multicast.Mld as mld_rules
use Rattle.host_machine.specs.Discovery.RouterSolicitation.{NdiscRsEgress}
use Rattle.host_machine.specs.Discovery.RouterSolicitation as slaac
use Rattle.host_machine.specs.Sockets.Turns.{SocketTurn, Serves, Walks, SocketEgress, is_exhausted, turn_of}
use Rattle.host_machine.specs.Send.Fragments.{Ipv4Egress}
use Rattle.host_machine.specs.Interface.Egress.{Egress}
use Rattle.host_machine.specs.Sockets.Offers.{socket_after_asking, packet_between, packet_from}
use Rattle.host_machine.specs.Sockets.Turns as turns_rules
use Rattle.host_machine.specs.Send.Fragments as fragments
use Rattle.host_laws.specs.Laws.Service.{FirstDatagramsGo, HasFirst, IsBetween, OverIpv4, OverIpv6}
use Rattle.host_laws.specs.Laws.Service.{HasWay, IsReached, MayBeAsked, NoWait, Over, IsKnown, all_granted}
use Rattle.host_machine.proofs.Interface.EarliestInstant.{known_is_one}
use Rattle.host_laws.proofs.Receive.Malformed.{sent_frames-sends}
use Rattle.host_laws.proofs.Receive.FrameReplies.{clash, goes_whole, hop_as, one_of, way_by}

-- What stays of a host in a call that sends

-- what the way of a packet is read from, and the sockets; all else set to one value
abbrev pub way_of : Host → Host
way_of H = record H {
  neighbors = record H.neighbors { silent_until = pos 0 };
  ipv4_id = 0;
  left = [];
  groups = [];
  igmp_report = igmp.Inactive;
  mld_report = mld.Inactive;
  slaac = initial_state;
}

-- the same without the sockets
abbrev pub sans : Host → Host
sans H = record (way_of H) { sockets = no_sockets }

-- the host before and after a packet that it sent: it took an identification, it may have begun a silence, and pieces may be left
abbrev pub gone_of : Host → Host
gone_of H = record H { neighbors = record H.neighbors { silent_until = pos 0 }; ipv4_id = 0; left = [] }

unsent_gone : {H new : Host} {frames : List (List ℕ)} {notes : List Note} → IsUnsent H frames notes new → gone_of new ≡ gone_of H
unsent_gone u = ap gone_of u.unchanged

emitted_gone : {id : ℕ} {p : Packet} {h : HardwareAddress} {outcome : Outcome} {H new : Host} {frames : List (List ℕ)} {notes : List Note} →
    Emits id p h outcome H frames notes new → gone_of new ≡ gone_of H
emitted_gone (dispatch.Whole fits formed o f n e) = ap gone_of e
emitted_gone (dispatch.InPieces q first rest is long short pieces fits formed o f n e) = ap gone_of e
emitted_gone (dispatch.TooLong long longer o u) = unsent_gone u

discovered_gone : {own : EthernetAddress} {hop : IpAddress} {outcome : Outcome} {H new : Host} {frames : List (List ℕ)} {notes : List Note} →
    Discovers own hop outcome H frames notes new → gone_of new ≡ gone_of H
discovered_gone (requests.Asked target source h s o f n e) = ap gone_of e
discovered_gone (requests.NoSource target h s o u) = unsent_gone u
discovered_gone (requests.Solicited target h o f n e) = ap gone_of e

by_hop_gone : {id : ℕ} {own : EthernetAddress} {p : Packet} {hop : IpAddress} {outcome : Outcome} {H new : Host}
    {frames : List (List ℕ)} {notes : List Note} →
    DispatchesByHop id own p hop outcome H frames notes new → gone_of new ≡ gone_of H
by_hop_gone (dispatch.Known h k e) = emitted_gone e
by_hop_gone (dispatch.Silent s o u) = unsent_gone u
by_hop_gone (dispatch.Unknown u d) = discovered_gone d

ethernet_gone : {id : ℕ} {own : EthernetAddress} {p : Packet} {outcome : Outcome} {H new : Host} {frames : List (List ℕ)} {notes : List Note} →
    DispatchesEthernet id own p outcome H frames notes new → gone_of new ≡ gone_of H
ethernet_gone (dispatch.ToMulticast h m e) = emitted_gone e
ethernet_gone (dispatch.NoHop m n o u) = unsent_gone u
ethernet_gone (dispatch.ByHop hop m n s) = by_hop_gone s

over_gone : (id : ℕ) (h : HardwareAddress) (p : Packet) (outcome : Outcome) (H : Host) (frames : List (List ℕ)) (notes : List Note) (new : Host) →
    SendsOver id h p outcome H frames notes new → gone_of new ≡ gone_of H
over_gone id (hardware.Ethernet own) p outcome H frames notes new s = ethernet_gone s
over_gone id hardware.Ip p outcome H frames notes new s = emitted_gone s

pub dispatched_gone : {p : Packet} {outcome : Outcome} {H new : Host} {frames : List (List ℕ)} {notes : List Note} →
    Dispatches p outcome H frames notes new → gone_of new ≡ gone_of H
dispatched_gone (dispatch.ToUnspecified n o u) = unsent_gone u
dispatched_gone {p} {outcome} {H} {new} {frames} {notes} (dispatch.ToSpecified more s d n) =
    over_gone H.ipv4_id H.hardware_addr p outcome (with_next_id H) frames more new d

pub dispatched_way : {p : Packet} {outcome : Outcome} {H new : Host} {frames : List (List ℕ)} {notes : List Note} →
    Dispatches p outcome H frames notes new → way_of new ≡ way_of H
dispatched_way d = ap way_of (dispatched_gone d)

pub piece_way : {H new : Host} {told : List Event} {notes : List Note} → Ipv4Egress H told notes new → way_of new ≡ way_of H
piece_way (fragments.NoPiece l e m y) = ap way_of y
piece_way (fragments.NotGranted piece rest l e m y) = ap way_of y
piece_way (fragments.PieceGoes piece rest l e m y) = ap way_of y

pub routers_way : {H new : Host} {told : List Event} {notes : List Note} → NdiscRsEgress H told notes new → way_of new ≡ way_of H
routers_way (slaac.NotDue d e m y) = ap way_of y
routers_way (slaac.NotGranted p d e m y) = ap way_of y
routers_way (slaac.Goes p o f mid d s e y) = ap way_of y ∙ dispatched_way s

module _ (state : GroupState) (packet_for : List IpCidr → IpAddress → Option Packet) (after_report : List Group → IpAddress → List Group) where
  pub tells_way : {old new : Host} {granted : Bool} {told : List Event} {notes : List Note} →
      ReportsEach state packet_for after_report old granted told notes new → way_of new ≡ way_of old
  tells_way multicast.Begins = refl
  tells_way (multicast.Silently a w i none) = tells_way w
  tells_way (multicast.Refused a p w i some) = tells_way w
  tells_way (multicast.Reported a p o f more new w i some d) = dispatched_way d ∙ tells_way w

  pub groups_way : {old new : Host} {told : List Event} {notes : List Note} →
      ReportsAll state packet_for after_report old told notes new → way_of new ≡ way_of old
  groups_way (multicast.All w none) = tells_way w
  groups_way (multicast.UpToRefusal w) = tells_way w

pub igmp_way : {H new : Host} {told : List Event} {notes : List Note} → IgmpEgress H told notes new → way_of new ≡ way_of H
igmp_way (igmp_rules.NotDue d e m y) = ap way_of y
igmp_way (igmp_rules.NoFurtherGroup d g e m y) = ap way_of y
igmp_way (igmp_rules.NoAddress next d g a e m y) = ap way_of y
igmp_way (igmp_rules.NotGranted p d r e m y) = ap way_of y
igmp_way (igmp_rules.Sent p o f mid d r s e y) = ap way_of y ∙ dispatched_way s

pub mld_way : {H new : Host} {told : List Event} {notes : List Note} → MldEgress H told notes new → way_of new ≡ way_of H
mld_way (mld_rules.NotYet d e m y) = ap way_of y
mld_way (mld_rules.GivenUp d e m y) = ap way_of y
mld_way (mld_rules.ReportGoes o f mid d s e y) = ap way_of y ∙ dispatched_way s

pub turn_way : {s s' : Socket} {turn : Turn} {H new : Host} {told : List Event} {notes : List Note} →
    SocketTurn s turn s' H told notes new → way_of new ≡ way_of H
turn_way (turns_rules.Silent p d e m y z) = ap way_of y
turn_way (turns_rules.Refused q p d e m y z) = ap way_of y
turn_way (turns_rules.Sent q o f p g d e z) = dispatched_way g

-- Events one after the other

pub given-append : (xs ys : List Event) → all_granted (xs ++ ys) ≡ (all_granted xs && all_granted ys)
given-append [] ys = refl
given-append (Received t r ∷ xs) ys = given-append xs ys
given-append (Asked t true ∷ xs) ys = given-append xs ys
given-append (Asked t false ∷ xs) ys = refl
given-append (Sent id f ∷ xs) ys = given-append xs ys

pub sent_frames-append : (xs ys : List Event) → sent_frames (xs ++ ys) ≡ sent_frames xs ++ sent_frames ys
sent_frames-append [] ys = refl
sent_frames-append (Received t r ∷ xs) ys = sent_frames-append xs ys
sent_frames-append (Asked t b ∷ xs) ys = sent_frames-append xs ys
sent_frames-append (Sent id f ∷ xs) ys = ap (λ fs. f ∷ fs) (sent_frames-append xs ys)

both_true : (x y : Bool) → (x && y) ≡ true → (x ≡ true) × (y ≡ true)
both_true true true e = (refl, refl)
both_true true false e = absurd cc
both_true false y e = absurd cc

pub given_parts : (xs ys : List Event) → all_granted (xs ++ ys) ≡ true → (all_granted xs ≡ true) × (all_granted ys ≡ true)
given_parts xs ys e = both_true (all_granted xs) (all_granted ys) (sym (given-append xs ys) ∙ e)

-- a part behind others
pub record IsAfter (told last : List Event) : Type 0 where
  pub front : List Event
  pub is : told ≡ front ++ last

pub then_after : {told last : List Event} (one two : List Event) → told ≡ one ++ two → IsAfter two last → IsAfter told last
then_after {told} {last} one two e b = record { front = one ++ b.front; is = e ∙ ap (λ x. one ++ x) b.is ∙ sym (append_assoc one b.front last) }

-- the sockets' turns, behind all else
pub record ToSockets (old : Host) (told : List Event) (changed : Bool) (new : Host) : Type 0 where
  pub mid : Host
  pub told_last : List Event
  pub notes_last : List Note
  pub way : way_of mid ≡ way_of old
  pub behind : IsAfter told told_last
  pub sends_them : SocketEgress mid changed told_last notes_last new

pub to_sockets : {t : ℤ} {answer : PollResult} {old new : Host} {told : List Event} {notes : List Note} → (e : Egress t answer old told notes new) →
    ToSockets (at old t) told e.changed new
to_sockets {t} {answer} {old} {new} {told} {notes} e =
    let a = e.round in
    let b = a.ends in
    let c = b.ends in
    let d = c.ends in
    let f = d.ends in
    let g = f.ends in
    record {
      mid = g.mid;
      told_last = g.told_two;
      notes_last = g.notes_two;
      way = mld_way g.begins ∙ igmp_way f.begins ∙ groups_way _ _ _ d.begins ∙ groups_way _ _ _ c.begins ∙ routers_way b.begins ∙ piece_way a.begins;
      behind = then_after a.told_one a.told_two a.events (then_after b.told_one b.told_two b.events (then_after c.told_one c.told_two c.events
          (then_after d.told_one d.told_two d.events (then_after f.told_one f.told_two f.events (record { front = g.told_one; is = g.events })))));
      sends_them = g.ends;
    }

-- The turns of sockets

pub there : (xs : List Storage) (i : ℕ) (x y : Storage) → slice_get xs i ≡ Some x → slice_get (slice_set xs i y) i ≡ Some y
there [] i x y h = absurd (let none : None ≡ Some x = h in cc)
there (z ∷ xs) zero x y h = refl
there (z ∷ xs) (suc i) x y h = there xs i x y h

apart : (xs : List Storage) (i k : ℕ) (y : Storage) → (k ≡ i → ⊥) → slice_get (slice_set xs i y) k ≡ slice_get xs k
apart [] i k y other = refl
apart (z ∷ xs) zero zero y other = absurd (other refl)
apart (z ∷ xs) zero (suc k) y other = refl
apart (z ∷ xs) (suc i) zero y other = refl
apart (z ∷ xs) (suc i) (suc k) y other = apart xs i k y (λ e. other (ap suc e))

-- what stands at an index, and its wait
pub record SameAt (k : ℕ) (old new : Host) : Type 0 where
  pub place : slice_get new.sockets.places k ≡ slice_get old.sockets.places k
  pub wait : wait_at new.sockets k ≡ wait_at old.sockets k

pub same_at : {k : ℕ} {old new : Host} → new.sockets ≡ old.sockets → SameAt k old new
same_at {k} e = record { place = ap (λ s. slice_get s.places k) e; wait = ap (λ s. wait_at s k) e }

pub same_then : {k : ℕ} {old mid new : Host} → SameAt k old mid → SameAt k mid new → SameAt k old new
same_then a b = record { place = b.place ∙ a.place; wait = b.wait ∙ a.wait }

-- a turn changes what stands at its index alone
pub record Touches (i : ℕ) (old new : Host) : Type 0 where
  pub rest : sans new ≡ sans old
  pub places : length new.sockets.places ≡ length old.sockets.places
  pub waits : length new.sockets.waits ≡ length old.sockets.waits
  pub others : (k : ℕ) → (k ≡ i → ⊥) → SameAt k old new

pub touches : {i : ℕ} {turn : Turn} {H new : Host} {told : List Event} {notes : List Note} → Serves i turn H told notes new → Touches i H new
touches (turns_rules.Free f d e m y) = record {
  rest = ap sans y;
  places = ap (λ (K : Host). length K.sockets.places) y;
  waits = ap (λ (K : Host). length K.sockets.waits) y;
  others = λ k ne. same_at (ap (λ (K : Host). K.sockets) y);
}
touches (turns_rules.Waits s known f l w d e m y) = record {
  rest = ap sans y;
  places = ap (λ (K : Host). length K.sockets.places) y;
  waits = ap (λ (K : Host). length K.sockets.waits) y;
  others = λ k ne. same_at (ap (λ (K : Host). K.sockets) y);
}
touches {i} {H = H} (turns_rules.Served s s' known mid f l w z y) = record {
  rest = ap sans y ∙ ap (λ (K : Host). record K { sockets = no_sockets }) (turn_way z);
  places = ap (λ (K : Host). length K.sockets.places) y ∙ length-set mid.sockets.places i (Some s')
      ∙ ap (λ (K : Host). length K.sockets.places) (turn_way z);
  waits = ap (λ (K : Host). length K.sockets.waits) y ∙ length-set mid.sockets.waits i _ ∙ ap (λ (K : Host). length K.sockets.waits) (turn_way z);
  others = λ k ne. record {
    place = ap (λ (K : Host). slice_get K.sockets.places k) y ∙ apart mid.sockets.places i k (Some s') ne
        ∙ ap (λ (K : Host). slice_get K.sockets.places k) (turn_way z);
    wait = ap (λ (K : Host). wait_at K.sockets k) y ∙ get_or-set_other mid.sockets.waits i k _ None ne
        ∙ ap (λ (K : Host). wait_at K.sockets k) (turn_way z);
  };
}

-- before its turn what stands at an index is as it was
pub record Untouched (n : ℕ) (old new : Host) : Type 0 where
  pub rest : sans new ≡ sans old
  pub places : length new.sockets.places ≡ length old.sockets.places
  pub waits : length new.sockets.waits ≡ length old.sockets.waits
  pub later : (k : ℕ) → n ≤ k → SameAt k old new

pub untouched : {old new : Host} {n : ℕ} {granted changed : Bool} {told : List Event} {notes : List Note} →
    Walks old n granted changed told notes new → Untouched n old new
untouched turns_rules.Begins = record { rest = refl; places = refl; waits = refl; later = λ k le. record { place = refl; wait = refl } }
untouched (turns_rules.Goes {n = n} turn told_it notes new w s e) =
    let a = untouched w in
    let b = touches s in
    record {
      rest = b.rest ∙ a.rest;
      places = b.places ∙ a.places;
      waits = b.waits ∙ a.waits;
      later = λ k le. same_then (a.later k (omega (arith, le))) (b.others k (λ one. omega (arith, le, one)));
    }
untouched (turns_rules.Stops {n = n} turn told_it notes new w s e) =
    let a = untouched w in
    let b = touches s in
    record {
      rest = b.rest ∙ a.rest;
      places = b.places ∙ a.places;
      waits = b.waits ∙ a.waits;
      later = λ k le. same_then (a.later k (omega (arith, le))) (b.others k (λ one. omega (arith, le, one)));
    }

-- the turn of an index
pub record AtTurn (old : Host) (i : ℕ) (told : List Event) (new : Host) : Type 0 where
  pub mid : Host
  pub after : Host
  pub turn : Turn
  pub told_it : List Event
  pub notes_it : List Note
  pub front : List Event
  pub back : List Event
  pub served : Serves i turn mid told_it notes_it after
  pub rest : sans mid ≡ sans old
  pub waits : length mid.sockets.waits ≡ length old.sockets.waits
  pub same : SameAt i old mid
  pub split : told ≡ front ++ (told_it ++ back)
  pub stays : SameAt i after new

now : {old mid new : Host} {n i : ℕ} {changed : Bool} {told_so told_it : List Event} {notes_so notes : List Note} {turn : Turn} →
    Walks old n true changed told_so notes_so mid → Serves n turn mid told_it notes new → i ≡ n →
    AtTurn old i (told_so ++ told_it) new
now {old} {mid} {new} {n} {i} {changed} {told_so} {told_it} {notes_so} {notes} {turn} w s same =
    let u = untouched w in
    record {
      mid = mid;
      after = new;
      turn = turn;
      told_it = told_it;
      notes_it = notes;
      front = told_so;
      back = [];
      served = subst (λ k. Serves k turn mid told_it notes new) (sym same) s;
      rest = u.rest;
      waits = u.waits;
      same = u.later i (omega (arith, same));
      split = ap (λ x. told_so ++ x) (sym (append-nil told_it));
      stays = record { place = refl; wait = refl };
    }

before_now : {old mid new : Host} {n i : ℕ} {told_so told_it : List Event} {notes : List Note} {turn : Turn} →
    AtTurn old i told_so mid → Serves n turn mid told_it notes new → (i ≡ n → ⊥) → AtTurn old i (told_so ++ told_it) new
before_now {told_so = told_so} {told_it = told_it} a s ne = record {
  mid = a.mid;
  after = a.after;
  turn = a.turn;
  told_it = a.told_it;
  notes_it = a.notes_it;
  front = a.front;
  back = a.back ++ told_it;
  served = a.served;
  rest = a.rest;
  waits = a.waits;
  same = a.same;
  split = ap (λ x. x ++ told_it) a.split ∙ append_assoc a.front (a.told_it ++ a.back) told_it
      ∙ ap (λ x. a.front ++ x) (append_assoc a.told_it a.back told_it);
  stays = same_then a.stays ((touches s).others _ ne);
}

one_more : {old mid new : Host} {n i : ℕ} {changed : Bool} {told_so told_it : List Event} {notes_so notes : List Note} {turn : Turn} →
    Walks old n true changed told_so notes_so mid → Serves n turn mid told_it notes new →
    (i < n → AtTurn old i told_so mid) → i < n + 1 → AtTurn old i (told_so ++ told_it) new
one_more {old} {mid} {new} {n} {i} {told_so = told_so} {told_it = told_it} w s earlier less = by (i == n) refl where
  by : (b : Bool) → (i == n) ≡ b → AtTurn old i (told_so ++ told_it) new
  by true is = now w s (grind (arith, nat_tests))
  by false is = before_now (earlier (grind (arith, nat_tests))) s (λ one. grind (arith, nat_tests))

pub at_turn : {old new : Host} {n : ℕ} {granted changed : Bool} {told : List Event} {notes : List Note} →
    Walks old n granted changed told notes new → (i : ℕ) → i < n → AtTurn old i told new
at_turn turns_rules.Begins i less = absurd (omega (arith, less))
at_turn (turns_rules.Goes {n = n} {told_so = told_so} {mid = mid} turn told_it notes new w s e) i less = one_more w s (λ l. at_turn w i l) less
at_turn (turns_rules.Stops {n = n} {told_so = told_so} {mid = mid} turn told_it notes new w s e) i less = one_more w s (λ l. at_turn w i l) less

pub all_untouched : {old new : Host} {changed : Bool} {told : List Event} {notes : List Note} →
    SocketEgress old changed told notes new → (n : ℕ) × Untouched n old new
all_untouched (turns_rules.Whole w) = (_, untouched w)
all_untouched (turns_rules.Stopped n w) = (n, untouched w)

-- where each leave is given, all have their turns
of_turn : (p : Packet) (o : Outcome) → is_exhausted (turn_of p o) ≡ false
of_turn p (Ok u) = refl
of_turn p (Err e) = refl

refused : {s s' : Socket} {turn : Turn} {H new : Host} {told : List Event} {notes : List Note} →
    SocketTurn s turn s' H told notes new → is_exhausted turn ≡ true → all_granted told ≡ false
refused (turns_rules.Silent p d e m y z) is = absurd (clash is (ap is_exhausted d))
refused (turns_rules.Refused q p d e m y z) is = ap all_granted e
refused (turns_rules.Sent q o f p g d e z) is = absurd (clash is (ap is_exhausted d ∙ of_turn q o))

exhausted : {i : ℕ} {turn : Turn} {H new : Host} {told : List Event} {notes : List Note} →
    Serves i turn H told notes new → is_exhausted turn ≡ true → all_granted told ≡ false
exhausted (turns_rules.Free f d e m y) is = absurd (clash is (ap is_exhausted d))
exhausted (turns_rules.Waits s known f l w d e m y) is = absurd (clash is (ap is_exhausted d))
exhausted (turns_rules.Served s s' known mid f l w z y) is = refused z is

pub stopped : {old new : Host} {n : ℕ} {granted changed : Bool} {told : List Event} {notes : List Note} →
    Walks old n granted changed told notes new → granted ≡ false → all_granted told ≡ true → ⊥
stopped turns_rules.Begins ended all = absurd cc
stopped (turns_rules.Goes turn told_it notes new w s e) ended all = absurd cc
stopped (turns_rules.Stops {told_so = told_so} turn told_it notes new w s e) ended all = clash (given_parts told_so told_it all).1 (exhausted s e)

pub each_turn : {old new : Host} {changed : Bool} {told : List Event} {notes : List Note} →
    SocketEgress old changed told notes new → all_granted told ≡ true → (i : ℕ) → i < length old.sockets.places → AtTurn old i told new
each_turn (turns_rules.Whole w) all i less = at_turn w i less
each_turn (turns_rules.Stopped n w) all i less = absurd (stopped w refl all)

-- A socket's turn that comes

ranked_ge : (t end : ℤ) (o : Ordering) → MatchOrdering o (t <ℤ end) (t ≡ end) (end <ℤ t) → end ≤ℤ t → is_ge o ≡ true
ranked_ge t end Less m le = absurd (omega (arith, ints, m, le))
ranked_ge t end Equal m le = refl
ranked_ge t end Greater m le = refl

or_true : (b c : Bool) → c ≡ true → (b || c) ≡ true
or_true true c e = refl
or_true false c e = e

pub permitted : (H : Host) (i : ℕ) → MayBeAsked H i → (known : Bool) →
    IsAnswerFor (HasNeighbor H) (wait_at H.sockets i) known → is_permitted (wait_at H.sockets i) known H.moment ≡ true
permitted H i (NoWait e) known told = rw e refl
permitted H i (Over a end e le) known told =
    rw e (or_true known (is_ge (int_cmp H.moment end)) (ranked_ge H.moment end (int_cmp H.moment end) (int_ranks H.moment end) le))
permitted H i (IsKnown a end h e one r) known told =
    let knows : HasNeighbor H a known = subst (λ w. IsAnswerFor (HasNeighbor H) w known) e told in
    let is : known ≡ is_known_hop H (Some r.hop) = known_is_one knows (OfHost (Some r.hop) one r.next refl) in
    let found : known ≡ true = is ∙ ap is_found r.known in
    rw (e, found) refl

-- who is known is known whatever the silence
found_as : (o : Option Neighbor) (silent silent' t : ℤ) {h : HardwareAddress} → answer_from o silent t ≡ Found h → answer_from o silent' t ≡ Found h
found_as None silent silent' t {h} found = by (is_before t silent) found where
  by : (b : Bool) → (if b then RateLimited else NotFound) ≡ Found h → answer_from None silent' t ≡ Found h
  by true f = absurd cc
  by false f = absurd cc
found_as (Some n) silent silent' t {h} found = by (is_before t n.expires_at) (is_before t silent) (is_before t silent') found where
  by : (b c d : Bool) → (if b then Found n.hardware_addr else (if c then RateLimited else NotFound)) ≡ Found h →
      (if b then Found n.hardware_addr else (if d then RateLimited else NotFound)) ≡ Found h
  by true c d f = f
  by false true d f = absurd cc
  by false false d f = absurd cc

pub reached_as : {H K : Host} {a : IpAddress} {h : HardwareAddress} → sans K ≡ sans H → IsReached H a h → IsReached K a h
reached_as {H} {K} {a} {h} e r =
    let entries : K.neighbors.known ≡ H.neighbors.known = ap (λ (x : Host). x.neighbors.known) e in
    let moment : K.moment ≡ H.moment = ap (λ (x : Host). x.moment) e in
    record {
      hop = r.hop;
      next = hop_as {H = H} {K = K} (ap (λ (x : Host). x.ip_addrs) e) (ap (λ (x : Host). x.routes) e) moment r.next;
      known = ap (λ m. answer_from (map.get m r.hop) K.neighbors.silent_until K.moment) entries
          ∙ ap (λ t. answer_from (map.get H.neighbors.known r.hop) K.neighbors.silent_until t) moment
          ∙ found_as (map.get H.neighbors.known r.hop) H.neighbors.silent_until K.neighbors.silent_until H.moment r.known;
    }

pub may_as : {H K : Host} (i : ℕ) → sans K ≡ sans H → SameAt i H K → MayBeAsked H i → MayBeAsked K i
may_as i e s (NoWait w) = NoWait (s.wait ∙ w)
may_as {H} {K} i e s (Over a end w le) = Over a end (s.wait ∙ w) (subst (λ t. end ≤ℤ t) (sym (ap (λ (x : Host). x.moment) e)) le)
may_as i e s (IsKnown a end h w one r) = IsKnown a end h (s.wait ∙ w) one (reached_as e r)

-- an address of one host, of either family
pub record IsUnicastFor (own : List IpCidr) (a : IpAddress) : Type 0 where
  pub specified : is_unspecified a ≡ false
  pub not_multicast : multicast_hardware_addr own a ≡ None

none_two : (x y : Bool) → (x || y) ≡ false → (x ≡ false) × (y ≡ false)
none_two false false e = (refl, refl)
none_two false true e = absurd cc
none_two true y e = absurd cc

pub unicast_for : (own : List IpCidr) (a : IpAddress) → is_unicast own a ≡ true → IsUnicastFor own a
unicast_for own (Ipv4 a) is = let o = one_of own a is in record { specified = o.specified; not_multicast = o.not_multicast }
unicast_for own (Ipv6 a) is = by (ipv6.is_multicast a) (ipv6.is_unspecified a) refl refl where
  by : (m u : Bool) → ipv6.is_multicast a ≡ m → ipv6.is_unspecified a ≡ u → IsUnicastFor own (Ipv6 a)
  by true u e f = absurd (let bad : false ≡ true = rw e at is in cc)
  by false true e f = absurd (let bad : false ≡ true = rw (e, f) at is in cc)
  by false false e f = record { specified = f; not_multicast = rw e refl }

-- its packet goes
pub record TurnGoes (H : Host) (s : Socket) (p : Packet) (h : HardwareAddress) (s' : Socket) (told_it : List Event) : Type 0 where
  pub frames : sent_frames told_it ≡ ip_frame H h p ∷ []
  pub socket : s' ≡ socket_after_told true (socket_after_asking H s)

pub turn_goes : {s s' : Socket} {turn : Turn} {H new : Host} {told_it : List Event} {notes : List Note} (own : HardwareAddress) (p : Packet)
    (h : HardwareAddress) → SocketTurn s turn s' H told_it notes new →
    packet_from H s ≡ Some p → all_granted told_it ≡ true → H.hardware_addr ≡ own →
    is_unicast H.ip_addrs (destination_of p) ≡ true → HasWay own H (destination_of p) h →
    total_len p ≤ ip_mtu_of H.capabilities → TurnGoes H s p h s' told_it
turn_goes own p h (turns_rules.Silent none d e m y z) is all on one r short = absurd cc
turn_goes own p h (turns_rules.Refused q some d e m y z) is all on one r short = absurd (clash all (ap all_granted e))
turn_goes {s} {s'} {turn} {H} {new} {told_it} {notes} own p h (turns_rules.Sent q o f some g d e z) is all on one r short =
    let lists : Some q ≡ Some p = sym some ∙ is in
    let same : q ≡ p = cc in
    let it : Dispatches p o H f notes new = subst (λ x. Dispatches x o H f notes new) same g in
    let host = unicast_for H.ip_addrs (destination_of p) one in
    let went = goes_whole own h it on host.specified host.not_multicast r short in
    record {
      frames = ap sent_frames e ∙ sent_frames-sends f ∙ went.frames_are;
      socket = z ∙ ap (λ k. socket_after_told (is_ok k) (socket_after_asking H s)) went.outcome_is;
    }

-- the socket of the law
between_is : (source remote : IpEndpoint) (hop_limit : ℕ) (octets : List ℕ) (p : Packet) → IsBetween source remote hop_limit octets p →
    packet_between source.addr remote.addr hop_limit (packet.Udp (record { src_port = source.port; dst_port = remote.port }) octets) ≡ Some p
between_is source remote hop_limit octets p (OverIpv4 a b e f is) = rw (e, f, is) refl
between_is source remote hop_limit octets p (OverIpv6 a b e f is) = rw (e, f, is) refl

pub first_packet : (H : Host) (i : ℕ) (s : UdpSocket) (p : Packet) (rest : List (IpEndpoint × List ℕ)) →
    HasFirst H i s p rest → packet_from H (Udp s) ≡ Some p
first_packet H i s p rest f =
    rw (f.first, f.source_is) (between_is (record { addr = f.source; port = s.endpoint.port }) f.remote s.hop_limit f.octets p f.packet_is)

pub first_left : (H K : Host) (i : ℕ) (s : UdpSocket) (p : Packet) (rest : List (IpEndpoint × List ℕ)) → HasFirst H i s p rest → sans K ≡ sans H →
    socket_after_told true (socket_after_asking K (Udp s)) ≡ Udp (record s { tx = record s.tx { packets = rest } })
first_left H K i s p rest f e =
    let here : socket_after_asking K (Udp s) ≡ socket_after_asking H (Udp s) = ap (λ (x : Host). socket_after_asking x (Udp s)) e in
    let offers : udp.offered_packet (source_for H.ip_addrs) s ≡ Some (udp.datagram s (f.remote, f.octets) f.source) =
    rw (f.first, f.source_is) refl in
    let stays : socket_after_asking H (Udp s) ≡ Udp s = ap (λ o. Udp (cond (is_none o) (udp.without_first_to_send s) s)) offers in
    ap (socket_after_told true) (here ∙ stays) ∙ ap (λ packets. Udp (record s { tx = record s.tx { packets = drop 1 packets } })) f.first

served_goes : {i : ℕ} {turn : Turn} {H new : Host} {told_it : List Event} {notes : List Note} (own : HardwareAddress) (s : UdpSocket) (p : Packet)
    (h : HardwareAddress) → Serves i turn H told_it notes new →
    slice_get H.sockets.places i ≡ Some (Some (Udp s)) → MayBeAsked H i → packet_from H (Udp s) ≡ Some p →
    all_granted told_it ≡ true → H.hardware_addr ≡ own →
    is_unicast H.ip_addrs (destination_of p) ≡ true → HasWay own H (destination_of p) h → total_len p ≤ ip_mtu_of H.capabilities →
    (sent_frames told_it ≡ ip_frame H h p ∷ [])
    × (slice_get new.sockets.places i ≡ Some (Some (socket_after_told true (socket_after_asking H (Udp s)))))
served_goes own s p h (turns_rules.Free f d e m y) here may is all on one r short = absurd cc
served_goes {i} {turn} {H} own s p h (turns_rules.Waits s' known f l w d e m y) here may is all on one r short =
    absurd (clash (permitted H i may known l) w)
served_goes {i} {turn} {H} {new} {told_it} {notes} own s p h (turns_rules.Served s' s'' known mid f l w z y) here may is all on one r short =
    let both : Some (Some s') ≡ Some (Some (Udp s)) = sym f ∙ here in
    let same : s' ≡ Udp s = cc in
    let it = turn_goes own p h (subst (λ x. SocketTurn x turn s'' H told_it notes mid) same z) is all on one r short in
    let at_mid : slice_get mid.sockets.places i ≡ Some (Some (Udp s)) = ap (λ (K : Host). slice_get K.sockets.places i) (turn_way z) ∙ here in (
      it.frames,
      ap (λ (K : Host). slice_get K.sockets.places i) y ∙ there mid.sockets.places i (Some (Udp s)) (Some s'') at_mid
          ∙ ap (λ x. Some (Some x)) it.socket,
    )

pub firsts_go : FirstDatagramsGo
firsts_go t answer old new told_all notes e own i s p h rest all on first may one reach short =
    let k = to_sockets e in
    let last_given : all_granted k.told_last ≡ true = (given_parts k.behind.front k.told_last (sym (ap all_granted k.behind.is) ∙ all)).1 in
    let sockets_are : k.mid.sockets ≡ old.sockets = ap (λ (K : Host). K.sockets) k.way in
    let here_mid : slice_get k.mid.sockets.places i ≡ Some (Some (Udp s)) = ap (λ x. slice_get x.places i) sockets_are ∙ first.here in
    let a = each_turn k.sends_them last_given i (slice_get_within k.mid.sockets.places i (Some (Udp s)) here_mid) in
    let rest_is : sans a.mid ≡ sans (at old t) = a.rest ∙ ap (λ (K : Host). record K { sockets = no_sockets }) k.way in
    let same : SameAt i (at old t) a.mid = same_then (same_at {k = i} {old = at old t} {new = k.mid} sockets_are) a.same in
    let given_it : all_granted a.told_it ≡ true =
    (given_parts a.told_it a.back (given_parts a.front (a.told_it ++ a.back) (sym (ap all_granted a.split) ∙ last_given)).1).0 in
    let packet_is : packet_from a.mid (Udp s) ≡ Some p = ap (λ (x : Host). packet_from x (Udp s)) rest_is
    ∙ first_packet (at old t) i s p rest first in
    let g = served_goes own s p h a.served (same.place ∙ first.here) (may_as i rest_is same may) packet_is given_it
    (ap (λ (x : Host). x.hardware_addr) rest_is ∙ on)
    (ap (λ (x : Host). is_unicast x.ip_addrs (destination_of p)) rest_is ∙ one) (way_by own (reached_as rest_is) reach)
    (subst (λ c. total_len p ≤ ip_mtu_of c) (sym (ap (λ (x : Host). x.capabilities) rest_is)) short) in
    let frame_is : ip_frame a.mid h p ≡ ip_frame old h p = ap (λ (x : Host). ip_frame x h p) rest_is in
    record {
      front = sent_frames k.behind.front ++ sent_frames a.front;
      back = sent_frames a.back;
      frames = ap sent_frames k.behind.is ∙ sent_frames-append k.behind.front k.told_last
          ∙ ap (λ x. sent_frames k.behind.front ++ x) (ap sent_frames a.split ∙ sent_frames-append a.front (a.told_it ++ a.back) ∙ ap
          (λ x. sent_frames a.front ++ x) (sent_frames-append a.told_it a.back ∙ ap (λ x. x ++ sent_frames a.back) (g.0 ∙ ap (λ f. f ∷ []) frame_is)))
          ∙ sym (append_assoc (sent_frames k.behind.front) (sent_frames a.front) (ip_frame old h p ∷ sent_frames a.back));
      left = a.stays.place ∙ g.1 ∙ ap (λ x. Some (Some x)) (first_left (at old t) a.mid i s p rest first rest_is);
    }
