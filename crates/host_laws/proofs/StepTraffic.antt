-- What moves at one step.
use Rattle.std.proofs.Common.{◌≡◌, ℕ, Bool, true, false, List, [], ◌∷◌, ◌++◌, refl, ◌∙◌, ap, Some, option_map, if◌then◌else◌}
use Rattle.std.specs.Prelude.{ℤ}
use Rattle.std.specs.List.{AllByRecursion}
use Rattle.std.proofs.lemmas.List.{append-nil}
use Rattle.net_base.specs.Device.{Event, handed_frames, sent_frames}
use Rattle.sockets.specs.Udp.{UdpSocket}
use Rattle.iface_tables.specs.Slaac.{sync_required}
use Rattle.host_machine.specs.declared.command.Command.{Command}
use Rattle.host_machine.specs.declared.command.Answer.{Answer}
use Rattle.host_machine.specs.declared.results.PollIngressSingleResult.{PollIngressSingleResult}
use Rattle.host_machine.specs.declared.results.PollResult.{PollResult}
use Rattle.host_machine.specs.Context.Note.{Note, slot_notes, cut_notes}
use Rattle.host_machine.specs.Context.Host.{Host, SocketSet, at, without_expired}
use Rattle.host_machine.specs.Context.Autoconfiguration.{with_slaac_applied}
use Rattle.host_machine.specs.Interface.Ingress.{Ingress}
use Rattle.host_machine.specs.Interface.Egress.{Egress}
use Rattle.host_machine.specs.Multicast.Joins.{JoinsGroup, LeavesGroup, NoGroup, NoPlace, JoinTaken, NoGroupEither, LeaveTaken}
use Rattle.host_laws.specs.Laws.Order.{IsAmong, IsBeginning}
use Rattle.host_machine.specs.Interface.Parts.{Part}
use Rattle.host_machine.specs.Interface.Polling.{Polls, after_maintenance}
use Rattle.host_machine.specs.Interface.Step.{Act, Step, Accepted, Refused, Taken, NotTaken, WithinDay, OverDay}
use Rattle.host_machine.specs.Interface.Step as step
use Rattle.host_laws.specs.Laws.TwoHosts.{cuts}
use Rattle.host_laws.proofs.Context.NotesBySubject.{slot_notes-append, cut_notes-append}
use Rattle.host_laws.proofs.Receive.SlotEffects.{handed_frames-append, egress_hands_none, egress_still}
use Rattle.host_laws.proofs.Runs.Walk.{sent_frames-append}
use Rattle.host_machine.specs.Context.Real.{IsRegular}
use Rattle.host_laws.specs.Deliveries.{Delivery, Deliver, IsAccepted, NoFrame, to_index, udp_at, with_deliveries}
use Rattle.host_laws.specs.Departures.{Departure, HasDeparted, cuts_of, entries, frames_of, from_index, without}
use Rattle.host_laws.specs.Datagrams.{host_at_command, socket_after_run}
use Rattle.host_laws.proofs.IdleParts.{base}
use Rattle.host_laws.proofs.IngressDeliveries.{Gains, IsAt, gained_none, gained_on, ingress_gained, ingress_gains}
use Rattle.host_laws.proofs.Interface.PollCalls.{until}
use Rattle.host_laws.proofs.Runs.SentPieces.{maintains}
use Rattle.host_laws.proofs.Runs.TwoHosts.{cuts-append}
use Rattle.host_laws.specs.Senders.{CarryOnly, NoSocketWritesUdp}
use Rattle.host_laws.proofs.Accounts.{AccountsFor, Follows, accounts_after, accounts_on, accounts_same, follows, ingress_accounts}
use Rattle.host_laws.proofs.EgressDepartures.{LosesOver, all_left_as_before, departs_alike, lost_on}
use Rattle.host_laws.proofs.CallDepartures.{egress_loses, nothing_lost}
use Rattle.host_laws.proofs.Lists.{among-append, endpoint_stays, hop_limit_stays, id_mapped, none_among, option_map_then, tx_stays}

-- what moved at a step from a host, as it was when the step began
pub record Moved (begin old : Host) (told : List Event) (notes : List Note) (new : Host) : Type 0 where
  pub deliveries : List Delivery
  pub departures : List Departure
  pub came : Deliver begin (handed_frames told) (slot_notes notes) deliveries
  pub heard : AllByRecursion (IsAccepted begin) deliveries
  pub left : AllByRecursion (HasDeparted begin) departures
  pub went : IsAmong (frames_of departures) (sent_frames told)
  pub cut : IsAmong (cuts_of departures) (cuts (cut_notes notes))
  pub fronts : (i : ℕ) (s : UdpSocket) → udp_at old.sockets i ≡ Some s → IsBeginning (entries (from_index i departures)) s.tx.packets
  pub queues : (i : ℕ) → udp_at new.sockets i ≡ option_map (socket_after_run (to_index i deliveries) (from_index i departures)) (udp_at old.sockets i)
  pub only : IsRegular old → NoSocketWritesUdp old → CarryOnly old.capabilities.medium departures (sent_frames told) (cuts (cut_notes notes))

-- where the sockets stay, and nothing is told or noted
unmoved : {begin old new : Host} → new.sockets ≡ old.sockets → Moved begin old [] [] new
unmoved {begin} {old} {new} e = record {
  deliveries = [];
  departures = [];
  came = NoFrame;
  heard = tt;
  left = tt;
  went = none_among [];
  cut = none_among [];
  fronts = λ i s there. (s.tx.packets, refl);
  queues = λ i. ap (λ (t : SocketSet). udp_at t i) e ∙ id_mapped (udp_at old.sockets i);
  only = λ r none. record { frames_are = tt; cuts_are = tt };
}

-- a call that takes a frame
ingress_moves : (t : ℤ) (answer : PollIngressSingleResult) (old new : Host) (told : List Event) (notes : List Note) →
    Ingress t answer old told notes new → Moved (without_expired old t) old told notes new
ingress_moves t answer old new told notes i =
    let g = ingress_gained (without_expired old t) t answer old new told notes i refl in record {
      deliveries = g.deliveries;
      departures = [];
      came = g.came;
      heard = g.heard;
      left = tt;
      went = none_among (sent_frames told);
      cut = none_among (cuts (cut_notes notes));
      fronts = λ i s there. (s.tx.packets, refl);
      queues = g.udp_is;
      only = λ r none. (ingress_accounts t answer old new told notes i r none).carry;
    }

-- a call that sends
egress_moves : (t : ℤ) (answer : PollResult) (old new : Host) (told : List Event) (notes : List Note) →
    Egress t answer old told notes new → Moved (at old t) old told notes new
egress_moves t answer old new told notes e =
    let l = egress_loses (at old t) t answer old new told notes e refl in
    let still = egress_still e in record {
      deliveries = [];
      departures = l.departures;
      came = rw (egress_hands_none e, still.silent) NoFrame;
      heard = tt;
      left = l.left;
      went = l.went;
      cut = l.cut;
      fronts = l.fronts;
      queues = l.udp_is;
      only = λ r none. (l.accounts r none).carry;
    }

-- a maintained host has the sockets that it had, and is at its moment
pub maintained_sockets : (H : Host) (t : ℤ) → (after_maintenance (at H t)).sockets ≡ H.sockets
maintained_sockets H t = by (sync_required H.slaac t) where
  by : (b : Bool) → (if b then with_slaac_applied (without_expired H t) else without_expired H t).sockets ≡ H.sockets
  by true = refl
  by false = refl

pub maintained_at : (H : Host) (t : ℤ) → IsAt (after_maintenance (at H t)) t
maintained_at H t = by (sync_required H.slaac t) where
  by : (b : Bool) → IsAt (if b then with_slaac_applied (without_expired H t) else without_expired H t) t
  by true = refl
  by false = refl

-- calls that send are handed nothing over, and note nothing of slots
pub record Hands (told : List Event) (notes : List Note) : Type 0 where
  pub none : handed_frames told ≡ []
  pub unnoted : slot_notes notes ≡ []

abbrev pub HandsNone : Part
HandsNone old told notes new = Hands told notes

pub hands_on : (a b c : Host) (ts us : List Event) (xs ys : List Note) → HandsNone a ts xs b → HandsNone b us ys c → HandsNone a (ts ++ us) (xs ++ ys) c
hands_on a b c ts us xs ys one two =
    record { none = rw (handed_frames-append, one.none) two.none; unnoted = rw (slot_notes-append, one.unnoted) two.unnoted }

-- what gaining leaves of the front of a queue
fronts_gained : (old mid : SocketSet) (ds : List Delivery) (es : List Departure) (i : ℕ) →
    udp_at mid i ≡ option_map (with_deliveries (to_index i ds)) (udp_at old i) →
    ((s : UdpSocket) → udp_at mid i ≡ Some s → IsBeginning (entries (from_index i es)) s.tx.packets) → (s : UdpSocket) →
    udp_at old i ≡ Some s → IsBeginning (entries (from_index i es)) s.tx.packets
fronts_gained old mid ds es i e fronts s there =
    let f = fronts (with_deliveries (to_index i ds) s) (e ∙ ap (option_map (with_deliveries (to_index i ds))) there) in
    (f.0, f.1 ∙ ap (λ q. q.packets) (tx_stays (to_index i ds) s))

-- a host is as its fields
with_own : (B : Host) (d : Departure) → HasDeparted (record B { sockets = B.sockets }) d → HasDeparted B d
with_own B d l = record {
  socket = l.socket;
  there = l.there;
  leaves = departs_alike (record B { sockets = B.sockets }) B l.socket l.socket d refl refl refl l.leaves;
}

all_own : (B : Host) (ds : List Departure) → AllByRecursion (HasDeparted (record B { sockets = B.sockets })) ds → AllByRecursion (HasDeparted B) ds
all_own B [] all = tt
all_own B (d ∷ ds) all = (with_own B d all.0, all_own B ds all.1)

heard_own : (B : Host) (ds : List Delivery) → AllByRecursion (IsAccepted (record B { sockets = B.sockets })) ds → AllByRecursion (IsAccepted B) ds
heard_own B [] all = tt
heard_own B (d ∷ ds) all = (record { socket = all.0.socket; there = all.0.there; hears = all.0.hears }, heard_own B ds all.1)

-- a maintained host is regular, too
pub maintained_follows : (H : Host) (t : ℤ) → IsRegular H → Follows H (after_maintenance (at H t))
maintained_follows H t r = let s = maintains H t r.real in
    follows H (after_maintenance (at H t)) s.same (maintained_left (sync_required H.slaac t)) s.real r where
      maintained_left : (b : Bool) → (if b then with_slaac_applied (without_expired H t) else without_expired H t).left ≡ H.left
      maintained_left true = refl
      maintained_left false = refl

-- calls that receive send nothing of sockets
abbrev Quietly : Part
Quietly old told notes new = AccountsFor old [] (sent_frames told) notes new

quietly_on : (a b c : Host) (ts us : List Event) (xs ys : List Note) → Quietly a ts xs b → Quietly b us ys c → Quietly a (ts ++ us) (xs ++ ys) c
quietly_on a b c ts us xs ys one two = rw sent_frames-append (accounts_on a b c [] [] (sent_frames ts) (sent_frames us) xs ys one two)

-- a poll: what its calls that receive gain, and what those that send lose
poll_moves : (t : ℤ) (budget : ℕ) (answer : PollResult) (old new : Host) (told : List Event) (notes : List Note) →
    Polls t budget answer old told notes new → Moved (after_maintenance (at old t)) old told notes new
poll_moves t budget answer old new told notes p =
    let B : Host = after_maintenance (at old t) in
    let kept : B.sockets ≡ old.sockets = maintained_sockets old t in
    let g =
    until (Gains B) (λ H. gained_none B H [] [] H refl refl refl refl) (gained_on B) (ingress_gains B t (maintained_at old t)) p.receives refl in
    let l = until (LosesOver B) (nothing_lost B) (lost_on B) (egress_loses B t) p.sends (ap (λ (K : Host). base K) g.seen_is) in
    let received = until Quietly
    (λ H. accounts_same refl refl refl) quietly_on (λ answer old new told notes e. ingress_accounts t answer old new told notes e) p.receives in
    let poll_accounts : AccountsFor old l.departures (sent_frames p.told_receiving ++ sent_frames p.told_sending)
    (p.notes_receiving ++ p.notes_sending) new = accounts_after (maintained_follows old t) (λ x. rw kept x)
    (accounts_on B p.mid new [] l.departures (sent_frames p.told_receiving)
    (sent_frames p.told_sending) p.notes_receiving p.notes_sending received l.accounts) in
    let h = until HandsNone (λ H. record { none = refl; unnoted = refl }) hands_on
    (λ answer old new told notes e. record { none = egress_hands_none e; unnoted = (egress_still e).silent }) p.sends in record {
      deliveries = g.deliveries;
      departures = l.departures;
      came = rw (
        p.events,
        p.all_notes,
        handed_frames-append,
        slot_notes-append,
        h.none,
        h.unnoted,
        append-nil (handed_frames p.told_receiving),
        append-nil (slot_notes p.notes_receiving),
      ) g.came;
      heard = heard_own B g.deliveries g.heard;
      left = all_own B l.departures (all_left_as_before B B.sockets p.mid.sockets (λ i. with_deliveries (to_index i g.deliveries)) l.departures
          (λ i. endpoint_stays (to_index i g.deliveries)) (λ i. hop_limit_stays (to_index i g.deliveries)) g.udp_is l.left);
      went = rw (p.events, sent_frames-append) (among-append (none_among (sent_frames p.told_receiving)) l.went);
      cut = rw (p.all_notes, cut_notes-append, cuts-append) (among-append (none_among (cuts (cut_notes p.notes_receiving))) l.cut);
      fronts = λ i s there. fronts_gained B.sockets p.mid.sockets g.deliveries l.departures i (g.udp_is i)
          (l.fronts i) s (ap (λ (x : SocketSet). udp_at x i) kept ∙ there);
      queues = λ i. l.udp_is i ∙ ap (option_map (without (from_index i l.departures))) (g.udp_is i)
          ∙ option_map_then (without (from_index i l.departures)) (with_deliveries (to_index i g.deliveries))
          (socket_after_run (to_index i g.deliveries) (from_index i l.departures)) (λ s. refl) (udp_at B.sockets i)
          ∙ ap (λ (x : SocketSet). option_map (socket_after_run (to_index i g.deliveries) (from_index i l.departures)) (udp_at x i)) kept;
      only = λ r none. rw (p.events, p.all_notes, sent_frames-append) (poll_accounts r none).carry;
    }

pub join_same : {group : _} {answer : _} {old new : Host} → JoinsGroup group answer old new → new.sockets ≡ old.sockets
join_same (NoGroup m r e) = ap (λ (K : Host). K.sockets) e
join_same (NoPlace m f r e) = ap (λ (K : Host). K.sockets) e
join_same (JoinTaken m f r e) = ap (λ (K : Host). K.sockets) e

pub leave_same : {group : _} {answer : _} {old new : Host} → LeavesGroup group answer old new → new.sockets ≡ old.sockets
leave_same (NoGroupEither m r e) = ap (λ (K : Host). K.sockets) e
leave_same (LeaveTaken m r e) = ap (λ (K : Host). K.sockets) e

-- every step at which the owner has no turn
pub step_moves : {c : Command} {answer : Answer} {old new : Host} {told : List Event} {acts : List Act} {notes : List Note} →
    Step c answer old told acts notes new → acts ≡ [] → Moved (host_at_command c old) old told notes new
step_moves (step.UpdatedIpAddrs (Accepted a r e)) none = unmoved (ap (λ (K : Host). K.sockets) e)
step_moves (step.UpdatedIpAddrs (Refused a r e)) none = unmoved (ap (λ (K : Host). K.sockets) e)
step_moves (step.PolledIngressSingle i) none = ingress_moves _ _ _ _ _ _ i
step_moves (step.PolledEgress e) none = egress_moves _ _ _ _ _ _ e
step_moves (step.Polled p) none = poll_moves _ _ _ _ _ _ _ p
step_moves (step.PolledMaintenance {t} {old}) none = unmoved (maintained_sockets old t)
step_moves (step.JoinedGroup j) none = unmoved (join_same j)
step_moves (step.LeftGroup j) none = unmoved (leave_same j)
step_moves (step.TookHardwareAddr (Taken a of r e)) none = unmoved (ap (λ (K : Host). K.sockets) e)
step_moves (step.TookHardwareAddr (NotTaken error a r e)) none = unmoved (ap (λ (K : Host). K.sockets) e)
step_moves (step.TookReassemblyTimeout (WithinDay l r e)) none = unmoved (ap (λ (K : Host). K.sockets) e)
step_moves (step.TookReassemblyTimeout (OverDay l r e)) none = unmoved (ap (λ (K : Host). K.sockets) e)
step_moves (step.OwnerActed sockets) none = absurd cc
step_moves other none = unmoved refl
