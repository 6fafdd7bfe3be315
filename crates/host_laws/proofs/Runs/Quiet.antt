-- Polls that nothing disturbs are quiet until something is due. What stays through them is one lower bound: what is due, as seen at the
-- moment t0 of the question, was due then. A wait that ends takes nothing away from that, as who is known later was known at t0.
use Rattle.std.proofs.Common.{◌≡◌, ◌⊎◌, ℕ, zero, suc, List, [], ◌∷◌, ◌++◌, refl, sym, ◌∙◌, ap, subst, arith, inl, inr, Option, Some, None}
use Rattle.std.proofs.lemmas.Bool.{cases_eq}
use Rattle.std.proofs.lemmas.Int.{ints}
use Rattle.std.proofs.lemmas.List.{get_or-set_other, set-get_or}
use Rattle.std.specs.Cmp.{int_cmp_is}
use Rattle.std.specs.declared.cmp.Ordering.TheVariants.{Less, Greater}
use Rattle.std.specs.Prelude.{ℤ, pos, ◌≤ℤ◌, ◌<ℤ◌, Bool, true, false, not, ◌||◌, nat_lt, map, filter, get_or, slice_get, slice_set}
use Rattle.std.specs.Option.{option_and_then}
use Rattle.net_base.specs.Device.{Event, Received, Asked, Sent, Reception, Frame, Nothing, Withheld, handed_frames, sent_frames}
use Rattle.ip_address.specs.declared.ip.IpAddress.{IpAddress}
use Rattle.sockets.specs.declared.poll_at.PollAt.{PollAt}
use Rattle.sockets.specs.declared.poll_at.PollAt.TheVariants.{Time}
use Rattle.sockets.specs.Kinds as socket
use Rattle.socket_set.specs.SocketMeta.{Wait, IsAnswerFor, is_permitted, after_asking, poll_at}
use Rattle.socket_set.specs.SocketSet.{wait_at}
use Rattle.host_machine.specs.declared.command.Command.{Command}
use Rattle.host_machine.specs.declared.command.Answer.{Answer}
use Rattle.host_machine.specs.declared.command.Answer.TheVariants as answer
use Rattle.host_machine.specs.declared.results.PollIngressSingleResult.{PollIngressSingleResult}
use Rattle.host_machine.specs.declared.results.PollIngressSingleResult.TheVariants as ingress
use Rattle.host_machine.specs.declared.results.PollResult.{PollResult}
use Rattle.host_machine.specs.declared.results.PollResult.TheVariants as result
use Rattle.host_machine.specs.declared.results.Turn.{Turn}
use Rattle.host_machine.specs.declared.results.Turn.TheVariants.{Idle}
use Rattle.host_machine.specs.Context.Note.{Note}
use Rattle.fragmentation.specs.Slots.{Slots, live_at}
use Rattle.host_machine.specs.Context.Host.{Host, Socket, Storage, at, without_expired, with_igmp_report}
use Rattle.host_machine.specs.Context.Addresses.{source_for}
use Rattle.host_machine.specs.Send.Hops.{HasNeighbor, OfNoHost, OfHost, IsNextHop, OnLink, ByRouter}
use Rattle.host_machine.specs.Receive.Reply.{IsDropped}
use Rattle.host_machine.specs.Interface.Ingress.{Ingress, Takes, answer_to}
use Rattle.host_machine.specs.Interface.Parts.{Part, Both}
use Rattle.host_machine.specs.Interface.Egress.{Round, Egress}
use Rattle.host_machine.specs.Send.Fragments.{Ipv4Egress}
use Rattle.host_machine.specs.Sockets.Offers.{packet_of, packet_from, socket_after_asking}
use Rattle.host_machine.specs.Sockets.Turns.{with_socket, wait_after, SocketTurn}
use Rattle.host_machine.specs.Sockets.Turns.{Silent, Refused, Serves, Free, Waits, Served, Walks, SocketEgress, Whole, Stopped}
use Rattle.host_machine.specs.Sockets.Turns as turns_rules
use Rattle.host_machine.specs.Interface.Egress as egress
use Rattle.host_machine.specs.Send.Fragments as fragments
use Rattle.host_machine.specs.Interface.Polling.{after_maintenance, Repeats, Until, Spent, Done, Polls}
use Rattle.host_machine.specs.Interface.Polling as polling
use Rattle.host_machine.specs.Interface.Due.{Due, OfPiece, OfSync, OfSolicitation, OfPrefix, OfRouter, OfJoin, OfLeave, OfIgmpReport}
use Rattle.host_machine.specs.Interface.Due.{OfMldReport, OfSocket, AtOnce, IsLeast}
use Rattle.host_machine.specs.Sockets.Polling.{SocketDue, instant_of}
use Rattle.host_machine.specs.Multicast.Polling.{group_poll_at}
use Rattle.std.specs.Ordering.{int_cmp, is_le, is_lt}
use Rattle.ip_address.specs.declared.cidr.IpCidr.{IpCidr}
use Rattle.iface_tables.specs.declared.groups.Group.{Group}
use Rattle.iface_tables.specs.declared.groups.GroupState.{GroupState}
use Rattle.iface_tables.specs.declared.report.IgmpReportState.TheVariants as igmp
use Rattle.iface_tables.specs.Groups.{first_in}
use Rattle.host_machine.specs.Packet.Packet.{Packet}
use Rattle.host_machine.specs.Multicast.Joins as multicast
use Rattle.host_machine.specs.Multicast.Igmp as igmp_rules
use Rattle.host_machine.specs.Multicast.Mld as mld
use Rattle.host_machine.specs.Multicast.Igmp.{IgmpEgress, igmp_poll_at, igmp_timeout_of}
use Rattle.host_machine.specs.Multicast.Mld.{MldEgress, mld_timeout_of}
use Rattle.host_machine.specs.Multicast.Timeout.{has_passed}
use Rattle.std.specs.List.{list_any}
use Rattle.iface_tables.specs.declared.slaac.Prefix.{Prefix}
use Rattle.iface_tables.specs.declared.slaac.Route.{Route as Router}
use Rattle.iface_tables.specs.Slaac.{has_ended, is_before, is_prefix_valid, is_route_valid, is_searching, retry_at, sync_required}
use Rattle.host_machine.specs.Discovery.RouterSolicitation as slaac
use Rattle.host_machine.specs.Discovery.RouterSolicitation.{NdiscRsEgress, due_solicitation, router_solicitation}
use Rattle.host_machine.specs.Interface.Step.{Act, Step}
use Rattle.host_machine.specs.Interface.Step as step
use Rattle.host_machine.specs.Interface.Run.{Transition, Run, Ends, Then}
use Rattle.host_machine.specs.Sockets.Quiet.{IsBefore}
use Rattle.host_laws.specs.Laws.Quiet.{RoutesLast, IsWithin, IsCalm, AnswersNone, QuietWhile, QuietAfter, AreQuiet}
use Rattle.host_laws.proofs.Receive.Malformed.{nothing_responded}
use Rattle.host_laws.proofs.Context.EarlierNeighbors.{Knew, knew}
use Rattle.host_machine.proofs.Sockets.QuietSockets.{socket_quiet}

-- the host with other waits for its sockets
abbrev with_waits : Host → List Wait → Host
with_waits H waits = record H { sockets = record H.sockets { waits = waits } }

-- with what may change while nothing is disturbed, as another host has it
abbrev altered : Host → Host → Host
altered H K = record H {
  slots = K.slots;
  reassembly_timeout = K.reassembly_timeout;
  igmp_report = K.igmp_report;
  sockets = record H.sockets { waits = K.sockets.waits };
}

-- what is due, as seen at t0, is due after s
abbrev NoneDue : Host → ℤ → ℤ → Type 0
NoneDue H t0 s = (x : ℤ) → Due (at H t0) x → s <ℤ x

-- a host at whose moment nothing is due of what could be seen at t0
record Rests (t0 : ℤ) (H : Host) : Type 0 where
  low : pos 0 ≤ℤ t0
  from : t0 ≤ℤ H.moment
  last : RoutesLast H.routes t0 H.moment
  none : NoneDue H t0 H.moment

-- what such a host does: nothing is sent, nothing becomes due, and what the next call reads stays
record Stays (t0 : ℤ) (old new : Host) (told : List Event) : Type 0 where
  moment : new.moment ≡ old.moment
  routes : new.routes ≡ old.routes
  places : new.sockets.places ≡ old.sockets.places
  due : (x : ℤ) → Due (at new t0) x → Due (at old t0) x
  silent : sent_frames told ≡ []

sent_frames-append : (xs ys : List Event) → sent_frames xs ≡ [] → sent_frames ys ≡ [] → sent_frames (xs ++ ys) ≡ []
sent_frames-append [] ys e f = f
sent_frames-append (Received t r ∷ xs) ys e f = sent_frames-append xs ys e f
sent_frames-append (Asked t b ∷ xs) ys e f = sent_frames-append xs ys e f
sent_frames-append (Sent id frame ∷ xs) ys e f = absurd cc

stays : {H new : Host} {told : List Event} (t0 : ℤ) → new ≡ H → sent_frames told ≡ [] → Stays t0 H new told
stays {H} {new} t0 e silent = record {
  moment = ap (λ (K : Host). K.moment) e;
  routes = ap (λ (K : Host). K.routes) e;
  places = ap (λ (K : Host). K.sockets.places) e;
  due = λ x d. subst (λ (K : Host). Due (at K t0) x) e d;
  silent = silent;
}

stays_on : {old mid new : Host} {told more : List Event} {t0 : ℤ} → Stays t0 old mid told → Stays t0 mid new more → Stays t0 old new (told ++ more)
stays_on {told = told} {more = more} a b = record {
  moment = b.moment ∙ a.moment;
  routes = b.routes ∙ a.routes;
  places = b.places ∙ a.places;
  due = λ x d. a.due x (b.due x d);
  silent = sent_frames-append told more a.silent b.silent;
}

rests_on : {old new : Host} {told : List Event} {t0 : ℤ} → Stays t0 old new told → Rests t0 old → Rests t0 new
rests_on a r = record {
  low = r.low;
  from = rw a.moment r.from;
  last = rw (a.moment, a.routes) r.last;
  none = λ x d. rw a.moment (r.none x (a.due x d));
}

-- when a socket that may send is due, and one that may not
may_send : (w : Wait) (known : Bool) (t : ℤ) (own : PollAt) → is_permitted w known t ≡ true → poll_at w known t own ≡ own
may_send None known t own may = refl
may_send (Some w) known t own may = rw may refl

record Waiting (w : Wait) (known : Bool) (t : ℤ) (own : PollAt) : Type 0 where
  end : ℤ
  due : poll_at w known t own ≡ Time end
  unknown : known ≡ false
  waits : (s : ℤ) → s <ℤ end → is_permitted w false s ≡ false

must_wait : (w : Wait) (known : Bool) (t : ℤ) (own : PollAt) → is_permitted w known t ≡ false → Waiting w known t own
must_wait None known t own not = absurd cc
must_wait (Some w) true t own not = absurd cc
must_wait (Some w) false t own not =
    record { end = w.1; due = rw not refl; unknown = refl; waits = λ s before. rw (← int_cmp_is s w.1 Less before) refl }

known_may : (w : Wait) (known : Bool) (t : ℤ) → known ≡ true → is_permitted w known t ≡ true
known_may None known t is = refl
known_may (Some w) known t is = rw is refl

before_own : (s : ℤ) (end : Option ℤ) → ((x : ℤ) → end ≡ Some x → s <ℤ x) → IsBefore s end
before_own s None after = tt
before_own s (Some x) after = after x refl

-- who is known now was known at t0
no_longer : (w : Wait) (known was : Bool) (s : ℤ) → (known ≡ true → was ≡ true) → was ≡ false →
    is_permitted w false s ≡ false → is_permitted w known s ≡ true → ⊥
no_longer w true was s stays unknown not may = let e : was ≡ true = stays refl in absurd cc
no_longer w false was s stays unknown not may = absurd cc

-- a socket that is asked has nothing to send, and stays as it is
asked_by : (H : Host) (t0 : ℤ) (i : ℕ) (s : Socket) (known : Bool) →
    Rests t0 H → slice_get H.sockets.places i ≡ Some (Some s) → (k : Knew H t0 (wait_at H.sockets i) known) →
    is_permitted (wait_at H.sockets i) known H.moment ≡ true → (b : Bool) →
    is_permitted (wait_at H.sockets i) k.was t0 ≡ b → (packet_from H s ≡ None) × (socket_after_asking H s ≡ s)
asked_by H t0 i s known r here k may true might =
    let low : pos 0 ≤ℤ H.moment = omega (arith, ints, r.low, r.from) in
    let own = before_own H.moment (instant_of (socket.poll_at s)) (λ x e. r.none x (OfSocket i (record {
      socket = s;
      known = k.was;
      here = here;
      told = k.told;
      instant = ap instant_of (may_send (wait_at H.sockets i) k.was t0 (socket.poll_at s) might) ∙ e;
    }))) in
    let q = socket_quiet (source_for H.ip_addrs) s H.moment low own in
    (ap (option_and_then packet_of) q.0, q.1)
asked_by H t0 i s known r here k may false not =
    let w = must_wait (wait_at H.sockets i) k.was t0 (socket.poll_at s) not in
    let later = r.none w.end (OfSocket i (record { socket = s; known = k.was; here = here; told = k.told; instant = ap instant_of w.due })) in
    absurd (no_longer (wait_at H.sockets i) known k.was H.moment k.stays w.unknown (w.waits H.moment later) may)

-- its wait may end: what is due then was due before, by its own answer
cleared : (waits : List Wait) (i : ℕ) → get_or (slice_set waits i None) i None ≡ None
cleared [] i = refl
cleared (w ∷ ws) zero = refl
cleared (w ∷ ws) (suc i) = cleared ws i

set_there : {A : Type 0} (xs : List A) (i : ℕ) (x : A) → slice_get xs i ≡ Some x → slice_set xs i x ≡ xs
set_there [] i x is = refl
set_there (y ∷ ys) zero x is = let e : y ≡ x = cc in ap (λ z. z ∷ ys) (sym e)
set_there (y ∷ ys) (suc i) x is = ap (λ zs. y ∷ zs) (set_there ys i x is)

-- what is told of a destination depends on none of these
hop_on : (H : Host) (K : Host) (t0 : ℤ) {a : IpAddress} {hop : Option IpAddress} → IsNextHop (at (altered H K) t0) a hop → IsNextHop (at H t0) a hop
hop_on H K t0 (OnLink own e) = OnLink own e
hop_on H K t0 (ByRouter router other r e) = ByRouter router other r e

known_on : (H : Host) (K : Host) (t0 : ℤ) {a : IpAddress} {known : Bool} → HasNeighbor (at (altered H K) t0) a known → HasNeighbor (at H t0) a known
known_on H K t0 (OfNoHost none e) = OfNoHost none e
known_on H K t0 (OfHost hop one n e) = OfHost hop one (hop_on H K t0 n) e

told_on : (H : Host) (K : Host) (t0 : ℤ) (w : Wait) (known : Bool) →
    IsAnswerFor (HasNeighbor (at (altered H K) t0)) w known → IsAnswerFor (HasNeighbor (at H t0)) w known
told_on H K t0 None known told = tt
told_on H K t0 (Some w) known told = known_on H K t0 told

due_by : (H : Host) (t0 : ℤ) (i : ℕ) (was : Bool) → was ≡ true → IsAnswerFor (HasNeighbor (at H t0)) (wait_at H.sockets i) was →
    (x : ℤ) (j : ℕ) → SocketDue (at (with_waits H (slice_set H.sockets.waits i None)) t0) j x → (j ≡ i) ⊎ (j ≡ i → ⊥) → SocketDue (at H t0) j x
due_by H t0 i was is told x j d (inl same) =
    let gone : get_or (slice_set H.sockets.waits i None) j None ≡ None = rw same (cleared H.sockets.waits i) in
    let own : instant_of (socket.poll_at d.socket) ≡ Some x =
    sym (ap (λ w. instant_of (poll_at w d.known t0 (socket.poll_at d.socket))) gone) ∙ d.instant in
    record {
      socket = d.socket;
      known = was;
      here = d.here;
      told = rw same told;
      instant = ap instant_of (may_send (wait_at H.sockets j) was t0 (socket.poll_at d.socket) (known_may (wait_at H.sockets j) was t0 is)) ∙ own;
    }
due_by H t0 i was is told x j d (inr other) =
    let kept : get_or (slice_set H.sockets.waits i None) j None ≡ wait_at H.sockets j = get_or-set_other H.sockets.waits i j None None other in
    record {
      socket = d.socket;
      known = d.known;
      here = d.here;
      told = subst (λ w. IsAnswerFor (HasNeighbor (at H t0)) w d.known) kept
          (told_on H (with_waits H (slice_set H.sockets.waits i None)) t0 (get_or (slice_set H.sockets.waits i None) j None) d.known d.told);
      instant = sym (ap (λ w. instant_of (poll_at w d.known t0 (socket.poll_at d.socket))) kept) ∙ d.instant;
    }

-- what is due where slots and waits are others: by cases, of which only the last reads those
due_altered : (H : Host) (t0 x : ℤ) (K : Host) →
    ((j : ℕ) → SocketDue (at (altered H K) t0) j x → SocketDue (at H t0) j x) →
    (igmp_poll_at (at (altered H K) t0) ≡ Some x → igmp_poll_at (at H t0) ≡ Some x) →
    Due (at (altered H K) t0) x → Due (at H t0) x
due_altered H t0 x K of_socket of_report (OfPiece d) = OfPiece d
due_altered H t0 x K of_socket of_report (OfSync d) = OfSync d
due_altered H t0 x K of_socket of_report (OfSolicitation d) = OfSolicitation d
due_altered H t0 x K of_socket of_report (OfPrefix i d) = OfPrefix i d
due_altered H t0 x K of_socket of_report (OfRouter i d) = OfRouter i d
due_altered H t0 x K of_socket of_report (OfJoin d) = OfJoin d
due_altered H t0 x K of_socket of_report (OfLeave d) = OfLeave d
due_altered H t0 x K of_socket of_report (OfIgmpReport d) = OfIgmpReport (of_report d)
due_altered H t0 x K of_socket of_report (OfMldReport d) = OfMldReport d
due_altered H t0 x K of_socket of_report (OfSocket j d) = OfSocket j (of_socket j d)

due_cleared : (H : Host) (t0 : ℤ) (i : ℕ) (was : Bool) → was ≡ true → IsAnswerFor (HasNeighbor (at H t0)) (wait_at H.sockets i) was →
    (x : ℤ) → Due (at (with_waits H (slice_set H.sockets.waits i None)) t0) x → Due (at H t0) x
due_cleared H t0 i was is told x d =
    due_altered H t0 x (with_waits H (slice_set H.sockets.waits i None)) (λ j d. due_by H t0 i was is told x j d (cases_eq j i)) (λ e. e) d

-- where slots expire, or another timeout is set
abbrev timed : Host → Slots → ℕ → Host
timed H slots timeout = record H { slots = slots; reassembly_timeout = timeout }

socket_still : (H : Host) (t0 : ℤ) (slots : Slots) (timeout : ℕ) (x : ℤ) (j : ℕ) →
    SocketDue (at (timed H slots timeout) t0) j x → SocketDue (at H t0) j x
socket_still H t0 slots timeout x j d = record {
  socket = d.socket;
  known = d.known;
  here = d.here;
  told = told_on H (timed H slots timeout) t0 (get_or H.sockets.waits j None) d.known d.told;
  instant = d.instant;
}

due_timed : (H : Host) (t0 x : ℤ) (slots : Slots) (timeout : ℕ) → Due (at (timed H slots timeout) t0) x → Due (at H t0) x
due_timed H t0 x slots timeout d = due_altered H t0 x (timed H slots timeout) (socket_still H t0 slots timeout x) (λ e. e) d

-- where another report of IGMP is to go
reported_still : (H : Host) (t0 x : ℤ) (j : ℕ) → SocketDue (at (with_igmp_report H igmp.Inactive) t0) j x → SocketDue (at H t0) j x
reported_still H t0 x j d = record {
  socket = d.socket;
  known = d.known;
  here = d.here;
  told = told_on H (with_igmp_report H igmp.Inactive) t0 (get_or H.sockets.waits j None) d.known d.told;
  instant = d.instant;
}

unended : (w : Wait) → after_asking w false ≡ w
unended None = refl
unended (Some w) = refl

ended : (w : Wait) → after_asking w true ≡ None
ended None = refl
ended (Some w) = refl

-- the wait after the socket was asked
asked_stays : (H : Host) (t0 : ℤ) (i : ℕ) (known : Bool) → Knew H t0 (wait_at H.sockets i) known →
    Stays t0 H (with_waits H (slice_set H.sockets.waits i (after_asking (wait_at H.sockets i) known))) []
asked_stays H t0 i true k =
    let gone = ended (wait_at H.sockets i) in
    subst (λ w. Stays t0 H (with_waits H (slice_set H.sockets.waits i w)) []) (sym gone)
    (record { moment = refl; routes = refl; places = refl; due = due_cleared H t0 i k.was (k.stays refl) k.told; silent = refl })
asked_stays H t0 i false k =
    let kept : slice_set H.sockets.waits i (after_asking (wait_at H.sockets i) false) ≡ H.sockets.waits =
    ap (slice_set H.sockets.waits i) (unended (wait_at H.sockets i)) ∙ set-get_or H.sockets.waits i None in
    stays t0 (ap (with_waits H) kept) refl

-- the turn of a place
record Idles (t0 : ℤ) (turn : Turn) (old new : Host) (told : List Event) : Type 0 where
  idle : turn ≡ Idle
  stays : Stays t0 old new told

-- the turn of a socket that has nothing to send
record Passes (s : Socket) (turn : Turn) (s' : Socket) (old new : Host) (told : List Event) : Type 0 where
  idle : turn ≡ Idle
  untold : told ≡ []
  unchanged : new ≡ old
  same : s' ≡ s

passes : {s s' : Socket} {turn : Turn} {H new : Host} {told : List Event} {notes : List Note} →
    packet_from H s ≡ None → socket_after_asking H s ≡ s → SocketTurn s turn s' H told notes new → Passes s turn s' H new told
passes none same (Silent p t o n e r) = record { idle = t; untold = o; unchanged = e; same = r ∙ same }
passes none same (Refused p some t o n e r) = absurd cc
passes none same (turns_rules.Sent p outcome frames some d t o r) = absurd cc

serves_quiet : {H new : Host} {i : ℕ} {turn : Turn} {told : List Event} {notes : List Note} {t0 : ℤ} →
    Rests t0 H → Serves i turn H told notes new → Idles t0 turn H new told
serves_quiet {t0 = t0} r (Free s t o n e) = record { idle = t; stays = stays t0 e (ap sent_frames o) }
serves_quiet {t0 = t0} r (Waits s known here told p t o n e) = record { idle = t; stays = stays t0 e (ap sent_frames o) }
serves_quiet {H} {new} {i} {turn} {t0 = t0} r (Served s s' known mid here told may turned e) =
    let k = knew H t0 (wait_at H.sockets i) known r.from r.last told in
    let q = asked_by H t0 i s known r here k may (is_permitted (wait_at H.sockets i) k.was t0) refl in
    let p = passes q.0 q.1 turned in
    let after = after_asking (wait_at H.sockets i) known in
    let there : slice_set H.sockets.places i (Some s) ≡ H.sockets.places = set_there H.sockets.places i (Some s) here in
    let whole : new ≡ with_waits H (slice_set H.sockets.waits i after) =
    e ∙ ap (λ (K : Host). with_socket K i s' (wait_after turn H.moment after)) p.unchanged
    ∙ ap (λ (z : Socket). with_socket H i z (wait_after turn H.moment after)) p.same
    ∙ ap (λ (z : Turn). with_socket H i s (wait_after z H.moment after)) p.idle
    ∙ ap (λ (places : List Storage). record H { sockets = record H.sockets { places = places; waits = slice_set H.sockets.waits i after } }) there in
    record {
      idle = p.idle;
      stays = subst (λ (es : List Event). Stays t0 H new es) (sym p.untold)
          (subst (λ (K : Host). Stays t0 H K []) (sym whole) (asked_stays H t0 i known k));
    }

-- the turns of all
record Walked (t0 : ℤ) (changed : Bool) (old new : Host) (told : List Event) : Type 0 where
  unchanged : changed ≡ false
  stays : Stays t0 old new told

walked_quiet : {H new : Host} {n : ℕ} {granted changed : Bool} {told : List Event} {notes : List Note} {t0 : ℤ} →
    Rests t0 H → Walks H n granted changed told notes new → Walked t0 changed H new told
walked_quiet {t0 = t0} r turns_rules.Begins = record { unchanged = refl; stays = stays t0 refl refl }
walked_quiet r (turns_rules.Goes turn told notes new w s t) =
    let so_far = walked_quiet r w in
    let here = serves_quiet (rests_on so_far.stays r) s in
    record { unchanged = rw (so_far.unchanged, here.idle) refl; stays = stays_on so_far.stays here.stays }
walked_quiet r (turns_rules.Stops turn told notes new w s t) =
    let so_far = walked_quiet r w in
    let here = serves_quiet (rests_on so_far.stays r) s in
    record { unchanged = so_far.unchanged; stays = stays_on so_far.stays here.stays }

sockets_quiet : {H new : Host} {changed : Bool} {told : List Event} {notes : List Note} {t0 : ℤ} →
    Rests t0 H → SocketEgress H changed told notes new → Walked t0 changed H new told
sockets_quiet r (Whole w) = walked_quiet r w
sockets_quiet r (Stopped n w) = walked_quiet r w

-- a call that has nothing to do
record Calls {A : Type 0} (t0 : ℤ) (nothing answer : A) (old new : Host) (told : List Event) : Type 0 where
  answers : answer ≡ nothing
  stays : Stays t0 old new told

-- parts one after the other
abbrev IsStill : ℤ → Part → Type 0
IsStill t0 part = (old new : Host) (told : List Event) (notes : List Note) → Rests t0 old → part old told notes new → Stays t0 old new told

waits : {A : Type 0} {xs : List A} {y : A} {ys : List A} → xs ≡ y ∷ ys → AtOnce xs (pos 0)
waits {y = y} {ys = ys} e = record { first = y; others = ys; are = e; instant = refl }

at_once : {t0 : ℤ} {H : Host} → Rests t0 H → Due (at H t0) (pos 0) → ⊥
at_once {t0} {H} r d = let passed : H.moment <ℤ pos 0 = r.none (pos 0) d in absurd (omega (arith, ints, r.low, r.from))

piece_still : (t0 : ℤ) → IsStill t0 Ipv4Egress
piece_still t0 old new told notes r (fragments.NoPiece l t n e) = stays t0 e (ap sent_frames t)
piece_still t0 old new told notes r (fragments.NotGranted piece rest l t n e) = absurd (at_once r (OfPiece (waits l)))
piece_still t0 old new told notes r (fragments.PieceGoes piece rest l t n e) = absurd (at_once r (OfPiece (waits l)))

-- nobody is told of a group where none is in that state
untold : {state : GroupState} {packet_for : List IpCidr → IpAddress → Option Packet} {after_report : List Group → IpAddress → List Group}
    {old new : Host} {granted : Bool} {told : List Event} {notes : List Note} →
    first_in state old.groups ≡ None → multicast.ReportsEach state packet_for after_report old granted told notes new → (new ≡ old) × (told ≡ [])
untold none multicast.Begins = (refl, refl)
untold {state} none (multicast.Silently {mid = mid} a w f p) = let before = untold none w in
    absurd (let same : first_in state mid.groups ≡ None = rw before.0 none in cc)
untold {state} none (multicast.Refused {mid = mid} a p w f q) = let before = untold none w in
    absurd (let same : first_in state mid.groups ≡ None = rw before.0 none in cc)
untold {state} none (multicast.Reported {mid = mid} a p outcome frames more new w f q d) = let before = untold none w in
    absurd (let same : first_in state mid.groups ≡ None = rw before.0 none in cc)

all_still : {state : GroupState} {packet_for : List IpCidr → IpAddress → Option Packet}
    {after_report : List Group → IpAddress → List Group} (t0 : ℤ) →
    ((H : Host) → group_poll_at state H ≡ Some (pos 0) → Due H (pos 0)) → IsStill t0 (multicast.ReportsAll state packet_for after_report)
all_still {state} {packet_for} {after_report} t0 is_due old new told notes r p = by (first_in state old.groups) refl where
  of : (granted : Bool) → multicast.ReportsEach state packet_for after_report old granted told notes new →
      first_in state old.groups ≡ None → Stays t0 old new told
  of granted w none = let u = untold none w in stays t0 u.0 (ap sent_frames u.1)

  walk : multicast.ReportsAll state packet_for after_report old told notes new → first_in state old.groups ≡ None → Stays t0 old new told
  walk (multicast.All w n) none = of true w none
  walk (multicast.UpToRefusal w) none = of false w none

  by : (o : Option IpAddress) → first_in state old.groups ≡ o → Stays t0 old new told
  by None e = walk p e
  by (Some a) e = absurd (at_once r (is_due (at old t0) (rw e refl)))

-- a moment that has come isn't before the instant
come : (t now : ℤ) → has_passed (Some t) now ≡ true → now <ℤ t → ⊥
come t now h before = absurd
    (let e : is_lt (int_cmp now t) ≡ true = rw (← int_cmp_is now t Less before) refl in let g : has_passed (Some t) now ≡ false = rw e refl in cc)

-- nothing is due whose moment has come
not_come : {t0 : ℤ} {H : Host} (o : Option ℤ) → Rests t0 H → ((x : ℤ) → o ≡ Some x → Due (at H t0) x) → has_passed o H.moment ≡ true → ⊥
not_come None r due h = absurd cc
not_come {t0} {H} (Some t) r due h = come t H.moment h (r.none t (due t refl))

igmp_still : (t0 : ℤ) → IsStill t0 IgmpEgress
igmp_still t0 old new told notes r (igmp_rules.NotDue h t n e) = stays t0 e (ap sent_frames t)
igmp_still t0 old new told notes r (igmp_rules.NoFurtherGroup h g t n e) = rw (e, t) (record {
  moment = refl;
  routes = refl;
  places = refl;
  due = λ x d. due_altered old t0 x (with_igmp_report old igmp.Inactive) (λ j s. reported_still old t0 x j s) (λ i. absurd cc) d;
  silent = refl;
})
igmp_still t0 old new told notes r (igmp_rules.NoAddress next h g a t n e) = stays t0 e (ap sent_frames t)
igmp_still t0 old new told notes r (igmp_rules.NotGranted p h q t n e) =
    absurd (not_come (igmp_timeout_of old.igmp_report) r (λ x i. OfIgmpReport (rw q i)) h)
igmp_still t0 old new told notes r (igmp_rules.Sent p outcome frames mid h q d t e) =
    absurd (not_come (igmp_timeout_of old.igmp_report) r (λ x i. OfIgmpReport (rw q i)) h)

mld_still : (t0 : ℤ) → IsStill t0 MldEgress
mld_still t0 old new told notes r (mld.NotYet h t n e) = stays t0 e (ap sent_frames t)
mld_still t0 old new told notes r (mld.GivenUp h t n e) = absurd (not_come (mld_timeout_of old.mld_report) r (λ x i. OfMldReport i) h)
mld_still t0 old new told notes r (mld.ReportGoes outcome frames mid h d t e) =
    absurd (not_come (mld_timeout_of old.mld_report) r (λ x i. OfMldReport i) h)

-- a solicitation that is due, whose moment has come
record Soliciting (H : Host) : Type 0 where
  packet : Packet
  asks : router_solicitation H ≡ Some packet
  instant : retry_at H.slaac ≡ Some H.slaac.retry_at
  comes : is_le (int_cmp H.slaac.retry_at H.moment) ≡ true

soliciting : (H : Host) (p : Packet) → due_solicitation H ≡ Some p → Soliciting H
soliciting H p e = by (is_searching H.slaac.phase) (is_le (int_cmp H.slaac.retry_at H.moment)) (nat_lt 0 H.slaac.left) refl refl refl where
  by : (a b c : Bool) → is_searching H.slaac.phase ≡ a → is_le (int_cmp H.slaac.retry_at H.moment) ≡ b → nat_lt 0 H.slaac.left ≡ c → Soliciting H
  by true true true x y z = record { packet = p; asks = rw (x, y, z) at e; instant = rw (x, z) refl; comes = y }
  by true true false x y z = absurd (let bad = rw (x, y, z) at e in cc)
  by true false c x y z = absurd (let bad = rw (x, y) at e in cc)
  by false b c x y z = absurd (let bad = rw x at e in cc)

has_come_by : (t now : ℤ) → is_le (int_cmp t now) ≡ true → now <ℤ t → ⊥
has_come_by t now h before = absurd (let e : is_le (int_cmp t now) ≡ false = rw (← int_cmp_is t now Greater before) refl in cc)

none_asked : {t0 : ℤ} {H : Host} → Rests t0 H → Soliciting H → ⊥
none_asked {t0} {H} r s = has_come_by H.slaac.retry_at H.moment s.comes (r.none H.slaac.retry_at (OfSolicitation (rw s.asks s.instant)))

solicitation_still : (t0 : ℤ) → IsStill t0 NdiscRsEgress
solicitation_still t0 old new told notes r (slaac.NotDue d t n e) = stays t0 e (ap sent_frames t)
solicitation_still t0 old new told notes r (slaac.NotGranted p d t n e) = absurd (none_asked r (soliciting old p d))
solicitation_still t0 old new told notes r (slaac.Goes p outcome frames mid d s t e) = absurd (none_asked r (soliciting old p d))

both_still : {t0 : ℤ} {one two : Part} → IsStill t0 one → IsStill t0 two → IsStill t0 (Both one two)
both_still {t0} first second old new told notes r b =
    let one = first old b.mid b.told_one b.notes_one r b.begins in
    let two = second b.mid new b.told_two b.notes_two (rests_on one r) b.ends in
    subst (λ (es : List Event). Stays t0 old new es) (sym b.events) (stays_on one two)

-- the same of what ends with the sockets
abbrev IsWalked : ℤ → Bool → Part → Type 0
IsWalked t0 changed part = (old new : Host) (told : List Event) (notes : List Note) →
    Rests t0 old → part old told notes new → Walked t0 changed old new told

both_walked : {t0 : ℤ} {changed : Bool} {one two : Part} → IsStill t0 one → IsWalked t0 changed two → IsWalked t0 changed (Both one two)
both_walked {t0} {changed} still walked old new told notes r b =
    let first = still old b.mid b.told_one b.notes_one r b.begins in
    let rest = walked b.mid new b.told_two b.notes_two (rests_on first r) b.ends in
    record { unchanged = rest.unchanged; stays = subst (λ (es : List Event). Stays t0 old new es) (sym b.events) (stays_on first rest.stays) }

round_quiet : (t0 : ℤ) (changed : Bool) → IsWalked t0 changed (Round changed)
round_quiet t0 changed =
    both_walked (piece_still t0) (both_walked (solicitation_still t0) (both_walked (all_still t0 (λ H e. OfJoin e))
    (both_walked (all_still t0 (λ H e. OfLeave e)) (both_walked (igmp_still t0) (both_walked (mld_still t0)
    (λ old new told notes r w. sockets_quiet r w))))))

-- slots that have ended are dropped
swept_still : (t0 : ℤ) (H : Host) → Stays t0 H (without_expired H H.moment) []
swept_still t0 H = record {
  moment = refl;
  routes = refl;
  places = refl;
  due = λ x d. due_timed H t0 x (live_at H.moment H.slots) H.reassembly_timeout d;
  silent = refl;
}

-- what had not ended at t0 has not ended before its end
holds_on : {A : Type 0} (end : A → ℤ) (xs : List A) (t0 t : ℤ) → list_any (λ x. not (is_before t0 (end x))) xs ≡ false →
    ((i : ℕ) (y : ℤ) → slice_get (filter (is_before t0) (map end xs)) i ≡ Some y → t <ℤ y) → list_any (λ x. not (is_before t (end x))) xs ≡ false
holds_on end [] t0 t none later = refl
holds_on {A} end (x ∷ xs) t0 t none later = by (is_before t0 (end x)) refl (holds_on end xs t0 t) where
  by : (b : Bool) → is_before t0 (end x) ≡ b →
      (list_any (λ (z : A). not (is_before t0 (end z))) xs ≡ false →
      ((i : ℕ) (y : ℤ) → slice_get (filter (is_before t0) (map end xs)) i ≡ Some y → t <ℤ y) →
      list_any (λ (z : A). not (is_before t (end z))) xs ≡ false) →
      list_any (λ (z : A). not (is_before t (end z))) (x ∷ xs) ≡ false
  by true e rest =
      let here : is_before t (end x) ≡ true = rw (← int_cmp_is t (end x) Less (later 0 (end x) (rw e refl))) refl in
      rw here (rest (rw e at none) (λ i y is. later (suc i) y (rw e is)))
  by false e rest = absurd (let bad = rw e at none in cc)

neither : (a b : Bool) → (a || b) ≡ false → (a ≡ false) × (b ≡ false)
neither true b e = absurd cc
neither false b e = (refl, e)

-- nothing has to be brought into line of what is known
no_sync : {t0 : ℤ} (H : Host) → Rests t0 H → sync_required H.slaac H.moment ≡ false
no_sync {t0} H r = by (sync_required H.slaac t0) refl where
  by : (b : Bool) → sync_required H.slaac t0 ≡ b → sync_required H.slaac H.moment ≡ false
  by true e = absurd (at_once r (OfSync (rw e refl)))
  by false e =
      let first = neither H.slaac.changed (has_ended H.slaac t0) e in
      let rest =
      neither (list_any (λ p. not (is_prefix_valid t0 p)) H.slaac.prefixes) (list_any (λ r. not (is_route_valid t0 r)) H.slaac.routers) first.1 in
      let prefixes = holds_on (λ (p : Prefix). p.info.valid_until) H.slaac.prefixes t0 H.moment rest.0 (λ i x is. r.none x (OfPrefix i is)) in
      let routers = holds_on (λ (q : Router). q.valid_until) H.slaac.routers t0 H.moment rest.1 (λ i x is. r.none x (OfRouter i is)) in
      rw (first.0, prefixes, routers) refl

maintained_quiet : {t0 : ℤ} (H : Host) → Rests t0 H → Stays t0 H (after_maintenance H) []
maintained_quiet {t0} H r = rw (no_sync H r) (swept_still t0 H)

egress_quiet : {t t0 : ℤ} {answer : PollResult} {old new : Host} {told : List Event} {notes : List Note} →
    Rests t0 (at old t) → Egress t answer old told notes new → Calls t0 result.None answer (at old t) new told
egress_quiet {t} {t0} {answer} {old} {new} {told} {notes} r e =
    let w = round_quiet t0 e.changed (at old t) new told notes r e.round in
    record { answers = e.answers ∙ ap egress.answer_of w.unchanged; stays = w.stays }

-- a call that receives, where no frame is handed over
received_nothing : {t : ℤ} {answer : PollIngressSingleResult} {old new : Host} {told : List Event} {notes : List Note}
    (t0 : ℤ) (i : Ingress t answer old told notes new) →
    IsDropped (without_expired old t) i.response.reply i.response.notes_taking i.response.taken → answer_to i.reception ≡ ingress.None →
    Calls t0 ingress.None answer (at old t) new told
received_nothing {t} {old = old} t0 i d e =
    let r = nothing_responded d.silent i.response.responds in
    record { answers = i.answers ∙ e; stays = stays_on (swept_still t0 (at old t)) (stays t0 (r.2 ∙ d.unchanged) (rw (i.events, r.0) refl)) }

ingress_by : {t : ℤ} {answer : PollIngressSingleResult} {old new : Host} {told : List Event} {notes : List Note} (t0 : ℤ) →
    handed_frames told ≡ [] → (i : Ingress t answer old told notes new) →
    (reception : Reception) → i.reception ≡ reception → Calls t0 ingress.None answer (at old t) new told
ingress_by t0 none i (Frame f) is = let some = rw (i.events, is) at none in absurd cc
ingress_by {t} {old = old} t0 none i Nothing is = received_nothing t0 i
    (subst (λ r. Takes (without_expired old t) r i.response.reply i.response.notes_taking i.response.taken) is i.response.takes) (ap answer_to is)
ingress_by {t} {old = old} t0 none i Withheld is = received_nothing t0 i
    (subst (λ r. Takes (without_expired old t) r i.response.reply i.response.notes_taking i.response.taken) is i.response.takes) (ap answer_to is)

ingress_quiet : {t : ℤ} {answer : PollIngressSingleResult} {old new : Host} {told : List Event} {notes : List Note} (t0 : ℤ) →
    handed_frames told ≡ [] → Ingress t answer old told notes new → Calls t0 ingress.None answer (at old t) new told
ingress_quiet t0 none i = ingress_by t0 none i i.reception refl

handed_frames-left : (xs ys : List Event) → handed_frames (xs ++ ys) ≡ [] → handed_frames xs ≡ []
handed_frames-left [] ys e = refl
handed_frames-left (Received t (Frame f) ∷ xs) ys e = absurd cc
handed_frames-left (Received t Nothing ∷ xs) ys e = handed_frames-left xs ys e
handed_frames-left (Received t Withheld ∷ xs) ys e = handed_frames-left xs ys e
handed_frames-left (Asked t b ∷ xs) ys e = handed_frames-left xs ys e
handed_frames-left (Sent id f ∷ xs) ys e = handed_frames-left xs ys e

handed_frames-right : (xs ys : List Event) → handed_frames (xs ++ ys) ≡ [] → handed_frames ys ≡ []
handed_frames-right [] ys e = e
handed_frames-right (Received t (Frame f) ∷ xs) ys e = absurd cc
handed_frames-right (Received t Nothing ∷ xs) ys e = handed_frames-right xs ys e
handed_frames-right (Received t Withheld ∷ xs) ys e = handed_frames-right xs ys e
handed_frames-right (Asked t b ∷ xs) ys e = handed_frames-right xs ys e
handed_frames-right (Sent id f ∷ xs) ys e = handed_frames-right xs ys e

-- such calls until one has nothing to do: that is the first one
module _ {A : Type 0} (call : A → Host → List Event → List Note → Host → Type 0) (nothing : A) (changes : A → Bool) (t0 : ℤ) (H : Host)
    (calls : (answer : A) (told : List Event) (notes : List Note) (new : Host) →
    handed_frames told ≡ [] → call answer H told notes new → Calls t0 nothing answer H new told) where
  record NoCall (changed : Bool) (new : Host) (told : List Event) : Type 0 where
    unchanged : changed ≡ false
    untold : told ≡ []
    same : new ≡ H

  repeated_quiet : {n : ℕ} {changed : Bool} {new : Host} {told : List Event} {notes : List Note} →
      handed_frames told ≡ [] → Repeats call nothing changes H n told notes new changed → NoCall changed new told
  repeated_quiet none polling.Begins = record { unchanged = refl; untold = refl; same = refl }
  repeated_quiet none (polling.Again {told_so = so} {mid = mid} answer told notes new r c some) =
      let first = repeated_quiet (handed_frames-left so told none) r in
      let here : call answer H told notes new = subst (λ (K : Host). call answer K told notes new) first.same c in
      absurd (some (calls answer told notes new (handed_frames-right so told none) here).answers)

  until_quiet : {budget : ℕ} {changed : Bool} {new : Host} {told : List Event} {notes : List Note} →
      handed_frames told ≡ [] → Until call nothing changes budget changed H told notes new → Walked t0 changed H new told
  until_quiet none (Spent r) = let first = repeated_quiet none r in
      record { unchanged = first.unchanged; stays = stays t0 first.same (ap sent_frames first.untold) }
  until_quiet {new = new} none (Done n told_so told_last notes_so notes_last mid l r c t e) =
      let parts = rw t at none in
      let first = repeated_quiet (handed_frames-left told_so told_last parts) r in
      let here : call nothing H told_last notes_last new = subst (λ (K : Host). call nothing K told_last notes_last new) first.same c in
      let last = calls nothing told_last notes_last new (handed_frames-right told_so told_last parts) here in
      record {
        unchanged = first.unchanged;
        stays = subst (λ (es : List Event). Stays t0 H new es) (sym (t ∙ ap (λ es. es ++ told_last) first.untold)) last.stays;
      }

polls_quiet : {t t0 : ℤ} {budget : ℕ} {answer : PollResult} {old new : Host} {told : List Event} {notes : List Note} →
    Rests t0 (at old t) → handed_frames told ≡ [] → Polls t budget answer old told notes new → Calls t0 result.None answer (at old t) new told
polls_quiet {t} {t0} {budget} {answer} {old} {new} {told} r none p =
    let parts = rw p.events at none in
    let K : Host = after_maintenance (at old t) in
    let begun : Stays t0 (at old t) K [] = maintained_quiet (at old t) r in
    let same : at K t ≡ K = ap (at K) (sym begun.moment) in
    let receives : (answer : PollIngressSingleResult) (told : List Event) (notes : List Note) (new : Host) →
    handed_frames told ≡ [] → Ingress t answer K told notes new → Calls t0 ingress.None answer K new told =
    λ answer told notes new e i. subst (λ (K : Host). Calls t0 ingress.None answer K new told) same (ingress_quiet t0 e i) in
    let taken =
    until_quiet (Ingress t) ingress.None polling.may_change t0 K receives (handed_frames-left p.told_receiving p.told_sending parts) p.receives in
    let first : Walked t0 p.received (at old t) p.mid p.told_receiving = record { unchanged = taken.unchanged; stays = stays_on begun taken.stays } in
    let moment : at p.mid t ≡ p.mid = ap (at p.mid) (sym first.stays.moment) in
    let rests : Rests t0 (at p.mid t) = subst (Rests t0) (sym moment) (rests_on first.stays r) in
    let calls : (answer : PollResult) (told : List Event) (notes : List Note) (new : Host) →
    handed_frames told ≡ [] → Egress t answer p.mid told notes new → Calls t0 result.None answer p.mid new told =
    λ answer told notes new e sends. subst (λ (K : Host). Calls t0 result.None answer K new told) moment (egress_quiet rests sends) in
    let second =
    until_quiet (Egress t) result.None polling.is_changed t0 p.mid calls (handed_frames-right p.told_receiving p.told_sending parts) p.sends in
    record {
      answers = p.answers ∙ rw (first.unchanged, second.unchanged) refl;
      stays = subst (λ (es : List Event). Stays t0 (at old t) new es) (sym p.events) (stays_on first.stays second.stays);
    }

-- one step that nothing disturbs
record Still (t0 : ℤ) (answer : Answer) (old new : Host) (told : List Event) : Type 0 where
  answers : AnswersNone answer
  silent : sent_frames told ≡ []
  places : new.sockets.places ≡ old.sockets.places
  due : (x : ℤ) → Due (at new t0) x → Due (at old t0) x

still : {t t0 : ℤ} {old new : Host} {told : List Event} (answer : Answer) →
    AnswersNone answer → Stays t0 (at old t) new told → Still t0 answer old new told
still answer answers s = record { answers = answers; silent = s.silent; places = s.places; due = s.due }

unchanged : {t0 : ℤ} {old new : Host} (answer : Answer) → AnswersNone answer → new ≡ old → Still t0 answer old new []
unchanged {t0} {old} {new} answer answers e = record {
  answers = answers;
  silent = refl;
  places = ap (λ (K : Host). K.sockets.places) e;
  due = λ x d. subst (λ (K : Host). Due (at K t0) x) e d;
}

timeout_still : {t0 : ℤ} {timeout : ℕ} {result : _} {old new : Host} (given : Answer) →
    AnswersNone given → step.SetsReassemblyTimeout timeout result old new → Still t0 given old new []
timeout_still {t0} {timeout} {old = old} given answers (step.WithinDay l r e) =
    rw e (record { answers = answers; silent = refl; places = refl; due = λ x d. due_timed old t0 x old.slots timeout d })
timeout_still given answers (step.OverDay l r e) = unchanged given answers e

-- what is due from the end on
abbrev DueFrom : Option ℤ → Host → ℤ → Type 0
DueFrom end H t0 = (s : ℤ) → IsBefore s end → NoneDue H t0 s

due_from : (H : Host) (t0 : ℤ) (end : Option ℤ) → IsLeast (Due (at H t0)) end → DueFrom end H t0
due_from H t0 None least = λ s before x d. absurd (least x d)
due_from H t0 (Some end) least = λ s before x d. let from : end ≤ℤ x = least.1 x d in omega (arith, ints)

rests : {t0 s : ℤ} {end : Option ℤ} (H : Host) → pos 0 ≤ℤ t0 → DueFrom end H t0 → IsWithin t0 end H.routes s → Rests t0 (at H s)
rests {s = s} H low due within = record { low = low; from = within.from; last = within.routes_last; none = due s within.before }

step_quiet : {command : Command} {answer : Answer} {old new : Host} {told : List Event} {acts : List Act} {notes : List Note} (t0 : ℤ)
    (end : Option ℤ) → pos 0 ≤ℤ t0 → DueFrom end old t0 →
    IsCalm t0 end command (record { command = command; answer = answer; told = told; acts = acts; notes = notes; before = old; after = new }) →
    handed_frames told ≡ [] →
    Step command answer old told acts notes new → Still t0 answer old new told
step_quiet t0 end low due calm none (step.PolledIngressSingle {result = result} i) = let c = ingress_quiet t0 none i in
    still (answer.PollIngressSingle result) c.answers c.stays
step_quiet t0 end low due calm none (step.PolledEgress {result = result} {old = old} e) = let c = egress_quiet (rests old low due calm) e in
    still (answer.PollEgress result) c.answers c.stays
step_quiet t0 end low due calm none (step.Polled {result = result} {old = old} p) = let c = polls_quiet (rests old low due calm) none p in
    still (answer.Poll result) c.answers c.stays
step_quiet t0 end low due calm none (step.PolledMaintenance {t} {old}) =
    still answer.PollMaintenance tt (maintained_quiet (at old t) (rests old low due calm))
step_quiet t0 end low due calm none (step.PolledAt {end = given} least) = still (answer.PollAt given) tt (stays t0 refl refl)
step_quiet t0 end low due calm none (step.PolledDelay {rest = rest} given least r) = still (answer.PollDelay rest) tt (stays t0 refl refl)
step_quiet t0 end low due calm none (step.UpdatedIpAddrs {result = result} u) = unchanged (answer.UpdateIpAddrs result) tt calm
step_quiet t0 end low due calm none step.UpdatedRoutes = unchanged answer.UpdateRoutes tt calm
step_quiet {answer = given} t0 end low due calm none step.AddedDefaultIpv4Route = unchanged given tt calm
step_quiet {answer = given} t0 end low due calm none step.RemovedDefaultIpv4Route = unchanged given tt calm
step_quiet {answer = given} t0 end low due calm none step.AddedDefaultIpv6Route = unchanged given tt calm
step_quiet {answer = given} t0 end low due calm none step.RemovedDefaultIpv6Route = unchanged given tt calm
step_quiet t0 end low due calm none (step.JoinedGroup {result = result} j) = unchanged (answer.JoinMulticastGroup result) tt calm
step_quiet t0 end low due calm none (step.LeftGroup {result = result} j) = unchanged (answer.LeaveMulticastGroup result) tt calm
step_quiet t0 end low due calm none step.TookAnyIp = unchanged answer.SetAnyIp tt calm
step_quiet t0 end low due calm none (step.TookHardwareAddr {result = result} s) = unchanged (answer.SetHardwareAddr result) tt calm
step_quiet t0 end low due calm none (step.TookReassemblyTimeout {result = result} s) = timeout_still (answer.SetReassemblyTimeout result) tt s
step_quiet t0 end low due calm none (step.OwnerActed sockets) = unchanged answer.Owner tt calm

-- a run from where `poll_at` answered, as far as nothing disturbs it
quiet_while : {first last : Host} {transitions : List Transition} (t0 : ℤ) (end : Option ℤ) →
    pos 0 ≤ℤ t0 → DueFrom end first t0 → Run first transitions last → QuietWhile t0 end transitions
quiet_while t0 end low due Ends = tt
quiet_while t0 end low due (Then s r) = λ undisturbed.
    let q = step_quiet t0 end low due undisturbed.calm undisturbed.no_frame s in (
      record { sends_nothing = q.silent; answers = q.answers; sockets = q.places },
      quiet_while t0 end low (λ s before x d. due s before x (q.due x d)) r,
    )

quiet_after : {command : Command} {answer : Answer} {old mid last : Host} {told : List Event} {acts : List Act}
    {notes : List Note} {transitions : List Transition} →
    Step command answer old told acts notes mid → Run mid transitions last → QuietAfter command answer transitions
quiet_after (step.PolledAt {t} {end} {old} least) r = λ low. quiet_while t end low (due_from (at old t) t end least) r
quiet_after other r = tt

-- over a whole run
pub run_quiet : {first last : Host} {transitions : List Transition} → Run first transitions last → AreQuiet transitions
run_quiet Ends = tt
run_quiet (Then s r) = (quiet_after s r, run_quiet r)
