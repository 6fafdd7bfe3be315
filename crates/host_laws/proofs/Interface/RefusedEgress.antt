-- Where the device gives no leave to send, what waits still waits.
use Rattle.std.proofs.Common.{◌≡◌, ◌≤◌, ℕ, zero, suc, ◌+◌, Bool, true, false, List, [], ◌∷◌, ◌++◌}
use Rattle.std.proofs.Common.{refl, sym, ap, ◌∙◌, subst, arith, inl, inr, Option, Some, None}
use Rattle.std.specs.Prelude.{ℤ, ◌&&◌, ◌||◌, is_none, slice_get, slice_set}
use Rattle.std.specs.Option.{option_and_then, option_map}
use Rattle.std.proofs.lemmas.Bool.{cases_eq}
use Rattle.net_base.specs.Device.{Event, Received, Asked, Sent, sent_frames}
use Rattle.ip_address.specs.declared.cidr.IpCidr.{IpCidr}
use Rattle.ip_address.specs.declared.ip.IpAddress.{IpAddress}
use Rattle.ip_address.specs.declared.ip.IpAddress.TheVariants.{Ipv4, Ipv6}
use Rattle.ip_address.specs.declared.ipv4.Ipv4Address.{Ipv4Address}
use Rattle.control_wire.specs.declared.igmp.IgmpVersion.{IgmpVersion}
use Rattle.iface_tables.specs.declared.groups.Group.{Group}
use Rattle.iface_tables.specs.declared.groups.GroupState.{GroupState}
use Rattle.iface_tables.specs.declared.groups.GroupState.TheVariants.{Joining, Leaving}
use Rattle.iface_tables.specs.Groups.{join_reported, leave_reported}
use Rattle.socket_set.specs.SocketMeta.{Wait}
use Rattle.host_machine.specs.declared.results.Turn.{Turn}
use Rattle.host_machine.specs.declared.results.Turn.TheVariants.{Idle}
use Rattle.iface_tables.specs.declared.report.IgmpReportState.{IgmpReportState}
use Rattle.iface_tables.specs.declared.report.MldReportState.{MldReportState}
use Rattle.host_machine.specs.Context.Note.{Note}
use Rattle.host_machine.specs.Context.Host.{Host, Socket, SocketSet, Storage, at, with_groups, with_igmp_report, with_mld_report}
use Rattle.host_machine.specs.Packet.Packet.{Packet}
use Rattle.host_machine.specs.Context.Addresses.{ipv4_addr}
use Rattle.host_machine.specs.Packet.Frame.{sends}
use Rattle.host_machine.specs.Multicast.Joins as groups
use Rattle.host_machine.specs.Multicast.Joins.{ReportsEach, ReportsAll, join_packet, leave_packet}
use Rattle.host_machine.specs.Multicast.Igmp.{igmp_report, IgmpEgress, next_group, next_report, igmp_timeout_of}
use Rattle.host_machine.specs.Multicast.Igmp as igmp_rules
use Rattle.host_machine.specs.Multicast.Mld as mld
use Rattle.host_machine.specs.Multicast.Mld.{MldEgress}
use Rattle.host_machine.specs.Multicast.Timeout.{has_passed}
use Rattle.host_machine.specs.Discovery.RouterSolicitation as slaac
use Rattle.host_machine.specs.Discovery.RouterSolicitation.{NdiscRsEgress}
use Rattle.host_machine.specs.Sockets.Turns as turns_rules
use Rattle.host_machine.specs.Send.Fragments as fragments
use Rattle.host_machine.specs.Interface.Parts.{Both, Part}
use Rattle.host_machine.specs.Send.Fragments.{Ipv4Egress}
use Rattle.host_machine.specs.Sockets.Turns.{Serves, SocketTurn, SocketEgress, Walks, is_done, with_socket}
use Rattle.host_machine.specs.Sockets.Offers.{socket_after_asking}
use Rattle.host_laws.specs.Laws.Refusals.{IsOnlyAsked, NotAsked, WasAsked, RefusalsLoseNothing, grants_any, waiting_igmp, waiting_mld}

-- of two parts neither had leave
neither : (a b : List Event) → grants_any (a ++ b) ≡ false → (grants_any a ≡ false) × (grants_any b ≡ false)
neither [] b h = (refl, h)
neither (Received t r ∷ a) b h = neither a b h
neither (Asked t true ∷ a) b h = absurd cc
neither (Asked t false ∷ a) b h = neither a b h
neither (Sent id f ∷ a) b h = neither a b h

-- and neither sent
both_silent : (a b : List Event) → sent_frames a ≡ [] → sent_frames b ≡ [] → sent_frames (a ++ b) ≡ []
both_silent [] b x y = y
both_silent (Received t r ∷ a) b x y = both_silent a b x y
both_silent (Asked t given ∷ a) b x y = both_silent a b x y
both_silent (Sent id f ∷ a) b x y = absurd cc

-- leave was given
with_grant : {t : ℤ} {es told : List Event} {A : Type 0} → told ≡ Asked t true ∷ es → grants_any told ≡ false → A
with_grant is not_granted = let given : true ≡ false = sym (ap grants_any is) ∙ not_granted in absurd cc

-- a part of a call that leaves this host
record Idles (told : List Event) (notes : List Note) (new left : Host) : Type 0 where
  silent : sent_frames told ≡ []
  unnoted : notes ≡ []
  host : new ≡ left

-- nothing was asked, or leave was refused
unasked : {told : List Event} {notes : List Note} {new left : Host} → told ≡ [] → notes ≡ [] → new ≡ left → Idles told notes new left
unasked t n h = record { silent = ap sent_frames t; unnoted = n; host = h }

refused : {t : ℤ} {told : List Event} {notes : List Note} {new left : Host} →
    told ≡ Asked t false ∷ [] → notes ≡ [] → new ≡ left → Idles told notes new left
refused t n h = record { silent = ap sent_frames t; unnoted = n; host = h }

piece_waits : {H new : Host} {told : List Event} {notes : List Note} → Ipv4Egress H told notes new → grants_any told ≡ false → Idles told notes new H
piece_waits (fragments.NoPiece l t n h) not_granted = unasked t n h
piece_waits (fragments.NotGranted piece rest l t n h) not_granted = refused t n h
piece_waits (fragments.PieceGoes piece rest l t n h) not_granted = with_grant t not_granted

solicitation_waits : {H new : Host} {told : List Event} {notes : List Note} →
    NdiscRsEgress H told notes new → grants_any told ≡ false → Idles told notes new H
solicitation_waits (slaac.NotDue d t n h) not_granted = unasked t n h
solicitation_waits (slaac.NotGranted p d t n h) not_granted = refused t n h
solicitation_waits (slaac.Goes p outcome frames mid d s t h) not_granted = with_grant t not_granted

-- groups
record Untold (old : Host) (told : List Event) (notes : List Note) (new : Host) : Type 0 where
  silent : sent_frames told ≡ []
  unnoted : notes ≡ []
  groups : List Group
  host : new ≡ with_groups old groups
  same : (ipv4_addr old.ip_addrs ≡ None → ⊥) → groups ≡ old.groups

module _ (state : GroupState) (packet_for : List IpCidr → IpAddress → Option Packet) (after_report : List Group → IpAddress → List Group)
    (mute : (own : List IpCidr) (a : IpAddress) → packet_for own a ≡ None → ipv4_addr own ≡ None) (old : Host) where
  tell : {granted : Bool} {told : List Event} {notes : List Note} {new : Host} →
      ReportsEach state packet_for after_report old granted told notes new → grants_any told ≡ false →
      Untold old told notes new
  tell groups.Begins not_granted = record { silent = refl; unnoted = refl; groups = old.groups; host = refl; same = λ speaks. refl }
  tell (groups.Silently a t first none) not_granted =
      let so = tell t not_granted in
      record {
        silent = so.silent;
        unnoted = so.unnoted;
        groups = after_report so.groups a;
        host = ap (λ (m : Host). with_groups m (after_report m.groups a)) so.host;
        same = λ speaks. absurd (speaks (mute old.ip_addrs a (ap (λ (m : Host). packet_for m.ip_addrs a) (sym so.host) ∙ none)));
      }
  tell (groups.Refused {told = told} {mid = mid} a p t first some) not_granted =
      let so = tell t (neither told (Asked mid.moment false ∷ []) not_granted).0 in
      record {
        silent = both_silent told (Asked mid.moment false ∷ []) so.silent refl;
        unnoted = so.unnoted;
        groups = so.groups;
        host = so.host;
        same = so.same;
      }
  tell (groups.Reported {told = told} {mid = mid} a p outcome frames more new t first some d) not_granted =
      with_grant {t = mid.moment} {es = sends frames} refl (neither told (Asked mid.moment true ∷ sends frames) not_granted).1

  tell_all : {told : List Event} {notes : List Note} {new : Host} →
      ReportsAll state packet_for after_report old told notes new → grants_any told ≡ false → Untold old told notes new
  tell_all (groups.All t done) not_granted = tell t not_granted
  tell_all (groups.UpToRefusal t) not_granted = tell t not_granted

-- what is made of nothing is nothing
unmapped : {T U : Type 0} (f : T → U) (o : Option T) → option_map f o ≡ None → o ≡ None
unmapped f None h = refl
unmapped f (Some x) h = absurd cc

mute_join : (own : List IpCidr) (a : IpAddress) → join_packet own a ≡ None → ipv4_addr own ≡ None
mute_join own (Ipv4 a) none = unmapped _ (ipv4_addr own) none
mute_join own (Ipv6 a) none = absurd cc

mute_leave : (own : List IpCidr) (a : IpAddress) → leave_packet own a ≡ None → ipv4_addr own ≡ None
mute_leave own (Ipv4 a) none = unmapped _ (ipv4_addr own) none
mute_leave own (Ipv6 a) none = absurd cc

-- reports
igmp_stays : (H : Host) → (has_passed (igmp_timeout_of H.igmp_report) H.moment && is_none (next_group H H.igmp_report)) ≡ false →
    H ≡ with_igmp_report H (waiting_igmp H)
igmp_stays H no_end = rw no_end refl

some_next : (H : Host) (p : Packet) → next_report H ≡ Some p → is_none (next_group H H.igmp_report) ≡ false
some_next H p is = by (next_group H H.igmp_report) refl where
  by : (x : Option (IgmpVersion × Ipv4Address)) → next_group H H.igmp_report ≡ x → is_none x ≡ false
  by None none = absurd (let gone : next_report H ≡ None = ap (option_and_then (λ n. igmp_report H.ip_addrs n.0 n.1)) none in cc)
  by (Some n) some = refl

igmp_waits : {H new : Host} {told : List Event} {notes : List Note} → IgmpEgress H told notes new → grants_any told ≡ false →
    Idles told notes new (with_igmp_report H (waiting_igmp H))
igmp_waits {H} (igmp_rules.NotDue d t n h) not_granted = unasked t n (h ∙ igmp_stays H (rw d refl))
igmp_waits {H} (igmp_rules.NoFurtherGroup d none t n h) not_granted = unasked t n (h ∙ rw (d, none) refl)
igmp_waits {H} (igmp_rules.NoAddress next d some none t n h) not_granted = unasked t n (h ∙ igmp_stays H (rw (d, some) refl))
igmp_waits {H} (igmp_rules.NotGranted p d some t n h) not_granted = refused t n (h ∙ igmp_stays H (rw (d, some_next H p some) refl))
igmp_waits (igmp_rules.Sent p outcome frames mid d some s t h) not_granted = with_grant t not_granted

mld_given_up : {H new : Host} {told : List Event} {notes : List Note} → MldEgress H told notes new → grants_any told ≡ false →
    Idles told notes new (with_mld_report H (waiting_mld H))
mld_given_up (mld.NotYet d t n h) not_granted = unasked t n (h ∙ rw d refl)
mld_given_up (mld.GivenUp d t n h) not_granted = refused t n (h ∙ rw d refl)
mld_given_up (mld.ReportGoes outcome frames mid d s t h) not_granted = with_grant t not_granted

-- sockets
abbrev with_sockets : Host → SocketSet → Host
with_sockets H sockets = record H { sockets = sockets }

-- a turn at a place
record Served (old : Host) (set : SocketSet) (i : ℕ) (turn : Turn) (told : List Event) (notes : List Note) (new : Host) : Type 0 where
  silent : sent_frames told ≡ []
  unnoted : notes ≡ []
  none_gone : is_done turn ≡ false
  sockets : SocketSet
  host : new ≡ with_sockets old sockets
  at_place : IsOnlyAsked old (slice_get set.places i) (slice_get sockets.places i)
  elsewhere : (k : ℕ) → (k ≡ i → ⊥) → slice_get sockets.places k ≡ slice_get set.places k

there : (xs : List Storage) (i : ℕ) (x y : Storage) → slice_get xs i ≡ Some x → slice_get (slice_set xs i y) i ≡ Some y
there [] i x y h = absurd (let none : None ≡ Some x = h in cc)
there (z ∷ xs) zero x y h = refl
there (z ∷ xs) (suc i) x y h = there xs i x y h

apart : (xs : List Storage) (i k : ℕ) (y : Storage) → (k ≡ i → ⊥) → slice_get (slice_set xs i y) k ≡ slice_get xs k
apart [] i k y other = refl
apart (z ∷ xs) zero zero y other = absurd (other refl)
apart (z ∷ xs) zero (suc k) y other = refl
apart (z ∷ xs) (suc i) zero y other = refl
apart (z ∷ xs) (suc i) (suc k) y other = apart xs i k y (λ e. other (ap suc e))

no_socket_served : {old new : Host} {set : SocketSet} {i : ℕ} {turn : Turn} {told : List Event} {notes : List Note} →
    turn ≡ Idle → told ≡ [] → notes ≡ [] →
    new ≡ with_sockets old set → Served old set i turn told notes new
no_socket_served {set = set} idle t n h = record {
  silent = ap sent_frames t;
  unnoted = n;
  none_gone = ap is_done idle;
  sockets = set;
  host = h;
  at_place = NotAsked refl;
  elsewhere = λ k other. refl;
}

turned : (old : Host) (set : SocketSet) (i : ℕ) (s s' : Socket) (wait : Wait) {turn : Turn} {told : List Event} {notes : List Note} (mid new : Host) →
    slice_get set.places i ≡ Some (Some s) → mid ≡ with_sockets old set → s' ≡ socket_after_asking old s →
    new ≡ with_socket mid i s' wait → sent_frames told ≡ [] → notes ≡ [] →
    is_done turn ≡ false → Served old set i turn told notes new
turned old set i s s' wait mid new here m is h silent n none_gone = record {
  silent = silent;
  unnoted = n;
  none_gone = none_gone;
  sockets = (with_socket (with_sockets old set) i (socket_after_asking old s) wait).sockets;
  host = h ∙ ap (λ (x : Host). with_socket x i s' wait) m ∙ ap (λ (x : Socket). with_socket (with_sockets old set) i x wait) is;
  at_place = WasAsked s here (there set.places i (Some s) (Some (socket_after_asking old s)) here);
  elsewhere = λ k other. apart set.places i k (Some (socket_after_asking old s)) other;
}

serve : (old : Host) (set : SocketSet) (i : ℕ) {turn : Turn} {told : List Event} {notes : List Note} {new : Host} →
    Serves i turn (with_sockets old set) told notes new →
    grants_any told ≡ false → Served old set i turn told notes new
serve old set i (turns_rules.Free f idle t n h) not_granted = no_socket_served idle t n h
serve old set i (turns_rules.Waits s known here knows p idle t n h) not_granted = no_socket_served idle t n h
serve old set i {turn} {told} {notes} {new} (turns_rules.Served s s' known mid here knows p turns h) not_granted = by turns where
  by : SocketTurn s turn s' (with_sockets old set) told notes mid → Served old set i turn told notes new
  by (turns_rules.Silent none idle t n m is) = turned old set i s s' _ mid new here m is h (ap sent_frames t) n (ap is_done idle)
  by (turns_rules.Refused packet some out t n m is) = turned old set i s s' _ mid new here m is h (ap sent_frames t) n (ap is_done out)
  by (turns_rules.Sent packet outcome frames some d out t is) = with_grant t not_granted

-- the turns of the first places
record Walked (old : Host) (n : ℕ) (changed : Bool) (told : List Event) (notes : List Note) (new : Host) : Type 0 where
  silent : sent_frames told ≡ []
  unnoted : notes ≡ []
  unchanged : changed ≡ false
  sockets : SocketSet
  host : new ≡ with_sockets old sockets
  queued : (i : ℕ) → IsOnlyAsked old (slice_get old.sockets.places i) (slice_get sockets.places i)
  ahead : (i : ℕ) → n ≤ i → slice_get sockets.places i ≡ slice_get old.sockets.places i

one_more : {old : Host} {n : ℕ} {changed : Bool} {told_so : List Event} {notes_so : List Note} {mid : Host} (turn : Turn)
    (told_it : List Event) (notes : List Note) (new : Host) →
    Walked old n changed told_so notes_so mid → Serves n turn mid told_it notes new → grants_any told_it ≡ false → (went : Bool) → went ≡ false →
    Walked old (n + 1) went (told_so ++ told_it) (notes_so ++ notes) new
one_more {old} {n} {changed} {told_so} {notes_so} {mid} turn told_it notes new so s not_granted went none =
    let one = serve old so.sockets n (subst (λ (m : Host). Serves n turn m told_it notes new) so.host s) not_granted in
    record {
      silent = both_silent told_so told_it so.silent one.silent;
      unnoted = rw (so.unnoted, one.unnoted) refl;
      unchanged = none;
      sockets = one.sockets;
      host = one.host;
      queued = λ i. elim (cases_eq i n) [
        | inl at ↦
            rw at (subst (λ (x : Option Storage). IsOnlyAsked old x (slice_get one.sockets.places n)) (so.ahead n (omega arith)) one.at_place)
        | inr other ↦ subst (λ (x : Option Storage). IsOnlyAsked old (slice_get old.sockets.places i) x) (sym (one.elsewhere i other)) (so.queued i)
      ];
      ahead = λ i from. one.elsewhere i (λ e. omega (arith, e, from)) ∙ so.ahead i (omega (arith, from));
    }

walk : {old : Host} {n : ℕ} {granted changed : Bool} {told : List Event} {notes : List Note} {new : Host} →
    Walks old n granted changed told notes new → grants_any told ≡ false →
    Walked old n changed told notes new
walk {old} turns_rules.Begins not_granted = record {
  silent = refl;
  unnoted = refl;
  unchanged = refl;
  sockets = old.sockets;
  host = refl;
  queued = λ i. NotAsked refl;
  ahead = λ i from. refl;
}
walk {old} (turns_rules.Goes {n} {changed} {told_so} {notes_so} {mid} turn told_it notes new w s granted) not_granted =
    let parts = neither told_so told_it not_granted in
    let so = walk w parts.0 in
    let gone : is_done turn ≡ false =
    (serve old so.sockets n (subst (λ (m : Host). Serves n turn m told_it notes new) so.host s) parts.1).none_gone in
    one_more turn told_it notes new so s parts.1 (changed || is_done turn) (rw (so.unchanged, gone) refl)
walk {old} (turns_rules.Stops {n} {changed} {told_so} {notes_so} {mid} turn told_it notes new w s stops) not_granted =
    let parts = neither told_so told_it not_granted in
    let so = walk w parts.0 in
    one_more turn told_it notes new so s parts.1 changed so.unchanged

record AllServed (old : Host) (changed : Bool) (told : List Event) (notes : List Note) (new : Host) : Type 0 where
  silent : sent_frames told ≡ []
  unnoted : notes ≡ []
  unchanged : changed ≡ false
  sockets : SocketSet
  host : new ≡ with_sockets old sockets
  queued : (i : ℕ) → IsOnlyAsked old (slice_get old.sockets.places i) (slice_get sockets.places i)

all_of : {old : Host} {n : ℕ} {changed : Bool} {told : List Event} {notes : List Note} {new : Host} →
    Walked old n changed told notes new → AllServed old changed told notes new
all_of w = record { silent = w.silent; unnoted = w.unnoted; unchanged = w.unchanged; sockets = w.sockets; host = w.host; queued = w.queued }

sockets_wait : {old : Host} {changed : Bool} {told : List Event} {notes : List Note} {new : Host} →
    SocketEgress old changed told notes new → grants_any told ≡ false →
    AllServed old changed told notes new
sockets_wait (turns_rules.Whole w) not_granted = all_of (walk w not_granted)
sockets_wait (turns_rules.Stopped n w) not_granted = all_of (walk w not_granted)

-- one part after the other
module _ {one two : Part} {old new : Host} {told : List Event} {notes : List Note} (b : Both one two old told notes new) where
  no_grants : grants_any told ≡ false → (grants_any b.told_one ≡ false) × (grants_any b.told_two ≡ false)
  no_grants h = neither b.told_one b.told_two (sym (ap grants_any b.events) ∙ h)

  silence : sent_frames b.told_one ≡ [] → sent_frames b.told_two ≡ [] → sent_frames told ≡ []
  silence x y = ap sent_frames b.events ∙ both_silent b.told_one b.told_two x y

  no_notes : b.notes_one ≡ [] → b.notes_two ≡ [] → notes ≡ []
  no_notes x y = b.all_notes ∙ rw (x, y) refl

-- what asks a socket is the moment and the addresses alone
asked_by : (H : Host) (groups : List Group) (igmp_report : IgmpReportState) (mld_report : MldReportState) {before after : Option Storage} →
    IsOnlyAsked (record H { groups = groups; igmp_report = igmp_report; mld_report = mld_report }) before after → IsOnlyAsked H before after
asked_by H groups igmp_report mld_report (NotAsked same) = NotAsked same
asked_by H groups igmp_report mld_report (WasAsked s before after) = WasAsked s before after

pub loses_nothing : RefusalsLoseNothing
loses_nothing t answer old new told notes e not_granted =
    let H = at old t in
    let b0 = e.round in
    let g0 = no_grants b0 not_granted in
    let p0 = piece_waits b0.begins g0.0 in
    let b1 = b0.ends in
    let g1 = no_grants b1 g0.1 in
    let p1 = solicitation_waits b1.begins g1.0 in
    let b2 = b1.ends in
    let g2 = no_grants b2 g1.1 in
    let p2 = tell_all Joining join_packet join_reported mute_join b1.mid b2.begins g2.0 in
    let b3 = b2.ends in
    let g3 = no_grants b3 g2.1 in
    let p3 = tell_all Leaving leave_packet leave_reported mute_leave b2.mid b3.begins g3.0 in
    let b4 = b3.ends in
    let g4 = no_grants b4 g3.1 in
    let p4 = igmp_waits b4.begins g4.0 in
    let b5 = b4.ends in
    let g5 = no_grants b5 g4.1 in
    let p5 = mld_given_up b5.begins g5.0 in
    let p6 = sockets_wait b5.ends g5.1 in
    let e1 : b1.mid ≡ H = p1.host ∙ p0.host in
    let e2 : b2.mid ≡ with_groups H p2.groups = p2.host ∙ ap (λ (m : Host). with_groups m p2.groups) e1 in
    let e3 : b3.mid ≡ with_groups H p3.groups = p3.host ∙ ap (λ (m : Host). with_groups m p3.groups) e2 in
    let e4 = p4.host ∙ ap (λ (m : Host). with_igmp_report m (waiting_igmp m)) e3 in
    let e5 = p5.host ∙ ap (λ (m : Host). with_mld_report m (waiting_mld m)) e4 in
    record {
      answers = e.answers ∙ rw p6.unchanged refl;
      silent = silence b0 p0.silent
          (silence b1 p1.silent (silence b2 p2.silent (silence b3 p3.silent (silence b4 p4.silent (silence b5 p5.silent p6.silent)))));
      unnoted = no_notes b0 p0.unnoted
          (no_notes b1 p1.unnoted (no_notes b2 p2.unnoted (no_notes b3 p3.unnoted (no_notes b4 p4.unnoted (no_notes b5 p5.unnoted p6.unnoted)))));
      waits = record {
        groups = p3.groups;
        sockets = p6.sockets;
        host = p6.host ∙ ap (λ (m : Host). with_sockets m p6.sockets) e5;
        untold = λ speaks.
            p3.same (λ none. speaks (ap (λ (m : Host). ipv4_addr m.ip_addrs) (sym e2) ∙ none)) ∙ ap (λ (m : Host). m.groups) p2.host ∙
            p2.same (λ none. speaks (ap (λ (m : Host). ipv4_addr m.ip_addrs) (sym e1) ∙ none)) ∙ ap (λ (m : Host). m.groups) e1;
        queued = λ i. asked_by H p3.groups (waiting_igmp (with_groups H p3.groups)) (waiting_mld H)
            (subst (λ (m : Host). IsOnlyAsked m (slice_get m.sockets.places i) (slice_get p6.sockets.places i)) e5 (p6.queued i));
      };
    }
