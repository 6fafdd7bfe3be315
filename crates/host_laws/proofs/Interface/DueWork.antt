-- What is due is done by a call that sends and is given each leave.
use Rattle.std.proofs.Common.{◌≡◌, ◌⊎◌, inl, inr, ℕ, zero, suc, ◌-◌, ◌<◌, ◌==◌, Bool, true, false, List, [], ◌∷◌}
use Rattle.std.proofs.Common.{◌++◌, length, take, refl, sym, ◌∙◌, ap, subst, Option, Some, None, arith}
use Rattle.std.proofs.lemmas.Int.{ints}
use Rattle.std.proofs.lemmas.Option.{slice_get_within}
use Rattle.std.specs.Prelude.{map, filter, ℤ, pos, ◌+ℤ◌, ◌≤ℤ◌, ◌<ℤ◌, slice_get, ◌&&◌, not, cond}
use Rattle.std.specs.Prelude.{nat_lt, find, slice_set, slice_index_or, option_map, if◌then◌else◌}
use Rattle.std.specs.Cmp.{int_ranks}
use Rattle.std.specs.List.{list_all}
use Rattle.std.specs.Option.{option_and_then}
use Rattle.std.specs.Ordering.{int_cmp, is_le, is_lt, MatchOrdering}
use Rattle.std.specs.declared.cmp.Ordering.{Ordering}
use Rattle.std.specs.declared.cmp.Ordering.TheVariants.{Less, Equal, Greater}
use Rattle.net_base.specs.Device.{Event, Asked, sent_frames}
use Rattle.ip_address.specs.declared.cidr.IpCidr.{IpCidr}
use Rattle.ip_address.specs.declared.ip.IpAddress.{IpAddress}
use Rattle.ip_address.specs.declared.ipv4.Ipv4Address.{Ipv4Address}
use Rattle.control_wire.specs.declared.igmp.IgmpVersion.{IgmpVersion}
use Rattle.iface_tables.specs.declared.groups.Group.{Group}
use Rattle.iface_tables.specs.declared.groups.GroupState.{GroupState}
use Rattle.iface_tables.specs.declared.groups.GroupState.TheVariants.{Joining, Joined, Leaving}
use Rattle.iface_tables.specs.Groups.{first_in, is_same_state, join_reported, leave_reported}
use Rattle.iface_tables.specs.Groups.{leave_reported_from, new_group, index_of, state_of, taken_out}
use Rattle.iface_tables.specs.declared.report.IgmpReportState.{IgmpReportState}
use Rattle.iface_tables.specs.declared.report.IgmpReportState.TheVariants as igmp
use Rattle.iface_tables.specs.declared.report.MldReportState.TheVariants as mld
use Rattle.iface_tables.specs.declared.slaac.Phase.TheVariants as phase
use Rattle.iface_tables.specs.Slaac.{is_before, sync_required, SlaacState, is_its_time, is_searching}
use Rattle.iface_tables.specs.Slaac.{initial_state, retry_at, rs_required, rs_sent, slaac_after_sent}
use Rattle.host_machine.specs.Context.Note.{Note}
use Rattle.host_machine.specs.Context.Host.{Host, Socket, at, no_sockets, with_slaac}
use Rattle.host_machine.specs.declared.results.Turn.{Turn}
use Rattle.host_machine.specs.Context.Addresses.{ipv4_addr}
use Rattle.host_machine.specs.Packet.Packet.{Packet}
use Rattle.host_machine.specs.Packet.Frame.{piece_frame}
use Rattle.host_machine.specs.Multicast.Joins.{ReportsEach, ReportsAll, LeavesEgress, join_packet, leave_packet}
use Rattle.host_machine.specs.Multicast.Igmp.{igmp_report, IgmpEgress, igmp_poll_at, next_group, next_report, igmp_report_after, igmp_timeout_of}
use Rattle.host_machine.specs.Multicast.Joins as multicast
use Rattle.host_machine.specs.Multicast.Mld.{MldEgress, mld_timeout_of}
use Rattle.host_machine.specs.Multicast.Timeout.{has_passed, later_of}
use Rattle.host_machine.specs.Multicast.Igmp as igmp_rules
use Rattle.host_machine.specs.Multicast.Mld as mld_rules
use Rattle.host_machine.specs.Discovery.RouterSolicitation.{NdiscRsEgress, due_solicitation, router_solicitation, rs_poll_at}
use Rattle.host_machine.specs.Discovery.RouterSolicitation as slaac
use Rattle.iface_tables.specs.declared.slaac.Prefix.{Prefix}
use Rattle.iface_tables.specs.declared.slaac.Route.{Route}
use Rattle.host_machine.specs.Interface.Due.{Due}
use Rattle.host_machine.specs.Sockets.Polling.{SocketDue}
use Rattle.host_machine.specs.Discovery.Polling.{sync_poll_at}
use Rattle.host_machine.specs.Interface.Due as due
use Rattle.host_machine.specs.Send.Fragments.{Ipv4Egress}
use Rattle.host_machine.specs.Sockets.Turns.{SocketTurn, Serves, Walks, SocketEgress}
use Rattle.host_machine.specs.Sockets.Turns as turns
use Rattle.host_machine.specs.Send.Fragments as fragments
use Rattle.host_laws.specs.Laws.Service.{IsDone, IsStillDue, LittleStaysDue, StillLine, StillPiece, StillReport, StillSocket}
use Rattle.host_laws.specs.Laws.Service.{DueIsDone, HasOneLess, IsFurther, IsLater, NextGroup, NoMore, PiecesGo, all_granted}
use Rattle.host_laws.proofs.Receive.FrameReplies.{clash}
use Rattle.host_laws.proofs.Sockets.QueueDecrease.{served_less}
use Rattle.host_laws.proofs.Interface.GrantedEgress.{all_untouched, dispatched_gone, each_turn, given_parts, gone_of, sent_frames-append, to_sockets}

-- Pieces

pub pieces_go : PiecesGo
pieces_go t answer old new told notes e piece rest all left =
    let a = e.round in
    let given = given_parts a.told_one a.told_two (sym (ap all_granted a.events) ∙ all) in
    let front = goes a.begins given.0 in (
      front.0 ++ sent_frames a.told_two,
      ap sent_frames a.events ∙ sent_frames-append a.told_one a.told_two ∙ ap (λ x. x ++ sent_frames a.told_two) front.1,
    ) where
      goes : {H : Host} {told : List Event} {notes : List Note} → Ipv4Egress (at old t) told notes H → all_granted told ≡ true →
          (others : List (List ℕ)) × (sent_frames told ≡ piece_frame old piece ∷ others)
      goes (fragments.NoPiece l e m y) is = absurd (let lists : [] ≡ piece ∷ rest = sym l ∙ left in cc)
      goes (fragments.NotGranted p others l e m y) is = absurd (clash is (ap all_granted e))
      goes (fragments.PieceGoes p others l e m y) is =
          let lists : p ∷ others ≡ piece ∷ rest = sym l ∙ left in
          let same : p ≡ piece = cc in
          ([], ap sent_frames e ∙ ap (λ x. piece_frame old x ∷ []) same)

pub piece_gone : {H new : Host} {told : List Event} {notes : List Note} → Ipv4Egress H told notes new → gone_of new ≡ gone_of H
piece_gone (fragments.NoPiece l e m y) = ap gone_of y
piece_gone (fragments.NotGranted piece rest l e m y) = ap gone_of y
piece_gone (fragments.PieceGoes piece rest l e m y) = ap gone_of y

-- Moments

not_le : (x t : ℤ) → is_le (int_cmp x t) ≡ false → t <ℤ x
not_le x t = by (int_cmp x t) (int_ranks x t) where
  by : (o : Ordering) → MatchOrdering o (x <ℤ t) (x ≡ t) (t <ℤ x) → is_le o ≡ false → t <ℤ x
  by Less m e = absurd cc
  by Equal m e = absurd cc
  by Greater m e = m

pub lt_of : (t x : ℤ) → is_lt (int_cmp t x) ≡ true → t <ℤ x
lt_of t x = by (int_cmp t x) (int_ranks t x) where
  by : (o : Ordering) → MatchOrdering o (t <ℤ x) (t ≡ x) (x <ℤ t) → is_lt o ≡ true → t <ℤ x
  by Less m e = m
  by Equal m e = absurd cc
  by Greater m e = absurd cc

pub le_not_lt : (x t : ℤ) → x ≤ℤ t → is_lt (int_cmp t x) ≡ false
le_not_lt x t = by (int_cmp t x) (int_ranks t x) where
  by : (o : Ordering) → MatchOrdering o (t <ℤ x) (t ≡ x) (x <ℤ t) → x ≤ℤ t → is_lt o ≡ false
  by Less m e = absurd (omega (arith, ints, m, e))
  by Equal m e = refl
  by Greater m e = refl

-- a moment that hasn't come is later
pub come_later : (o : Option ℤ) (t : ℤ) → has_passed o t ≡ false → IsLater t o
come_later None t e = tt
come_later (Some x) t e = lt_of t x (by (is_lt (int_cmp t x)) e) where
  by : (b : Bool) → (if b then false else true) ≡ false → b ≡ true
  by true f = refl
  by false f = absurd cc

pub has_come_by : (x t : ℤ) → x ≤ℤ t → has_passed (Some x) t ≡ true
has_come_by x t le = ap (λ b. if b then false else true) (le_not_lt x t le)

-- Solicitations

required_later : (t : ℤ) (o : Option Packet) (a b c : Bool) (r : ℤ) →
    is_le (int_cmp r t) ≡ b → (if (a && b) && c then o else None) ≡ None → IsLater t (option_and_then (λ p. if a && c then Some r else None) o)
required_later t None a b c r e none = tt
required_later t (Some p) false b c r e none = tt
required_later t (Some p) true b false r e none = tt
required_later t (Some p) true true true r e none = absurd cc
required_later t (Some p) true false true r e none = not_le r t e

sent_later : (s : SlaacState) (t : ℤ) → rs_required s t ≡ true → IsLater t (retry_at (rs_sent s t))
sent_later s t is = by (is_its_time s t) (nat_lt 0 s.left) is where
  one_left : (b : Bool) → IsLater t (if b then Some (t +ℤ pos 4000000) else None)
  one_left true = let ahead : t <ℤ (t +ℤ pos 4000000) = omega (arith, ints) in ahead
  one_left false = tt

  at_zero : (z : Bool) → IsLater t (retry_at (if z then record s { phase = phase.None } else slaac_after_sent s t))
  at_zero true = tt
  at_zero false = one_left (nat_lt 0 (s.left - 1))

  by : (b c : Bool) →
      (b && c) ≡ true → IsLater t (retry_at (if b then (if s.left == 0 then record s { phase = phase.None } else slaac_after_sent s t) else s))
  by true c e = at_zero (s.left == 0)
  by false c e = absurd cc

is_required : (H : Host) (p : Packet) → due_solicitation H ≡ Some p → rs_required H.slaac H.moment ≡ true
is_required H p = by (rs_required H.slaac H.moment) where
  by : (b : Bool) → (if b then router_solicitation H else None) ≡ Some p → b ≡ true
  by true e = refl
  by false e = absurd cc

and_later : (t : ℤ) (o : Option Packet) (r : Option ℤ) → IsLater t r → IsLater t (option_and_then (λ p. r) o)
and_later t None r l = tt
and_later t (Some p) r l = l

solicited_later : {H new : Host} {told : List Event} {notes : List Note} →
    NdiscRsEgress H told notes new → all_granted told ≡ true → IsLater H.moment (rs_poll_at new)
solicited_later {H} (slaac.NotDue d e m y) all =
    subst (λ (K : Host). IsLater H.moment (rs_poll_at K)) (sym y)
    (required_later H.moment (router_solicitation H) (is_searching H.slaac.phase) (is_le (int_cmp H.slaac.retry_at H.moment))
    (nat_lt 0 H.slaac.left) H.slaac.retry_at refl d)
solicited_later (slaac.NotGranted p d e m y) all = absurd (clash all (ap all_granted e))
solicited_later {H} (slaac.Goes p o f mid d s e y) all =
    let learnt : mid.slaac ≡ H.slaac = ap (λ (K : Host). K.slaac) (dispatched_gone s) in
    let moment : mid.moment ≡ H.moment = ap (λ (K : Host). K.moment) (dispatched_gone s) in
    let same : rs_sent mid.slaac mid.moment ≡ rs_sent H.slaac H.moment = ap (λ l. rs_sent l mid.moment) learnt ∙ ap (λ t. rs_sent H.slaac t) moment in
    let later : IsLater H.moment (retry_at (rs_sent mid.slaac mid.moment)) =
    subst (λ l. IsLater H.moment (retry_at l)) (sym same) (sent_later H.slaac H.moment (is_required H p d)) in
    subst (λ (K : Host). IsLater H.moment (rs_poll_at K)) (sym y)
    (and_later H.moment (router_solicitation (with_slaac mid (rs_sent mid.slaac mid.moment))) (retry_at (rs_sent mid.slaac mid.moment)) later)

-- what is kept beside what the part changes
abbrev learnt_apart : Host → Host
learnt_apart H = record (gone_of H) { slaac = initial_state }

routers_kept : {H new : Host} {told : List Event} {notes : List Note} → NdiscRsEgress H told notes new → learnt_apart new ≡ learnt_apart H
routers_kept (slaac.NotDue d e m y) = ap learnt_apart y
routers_kept (slaac.NotGranted p d e m y) = ap learnt_apart y
routers_kept (slaac.Goes p o f mid d s e y) = ap learnt_apart y ∙ ap (λ (K : Host). record K { slaac = initial_state }) (dispatched_gone s)

-- Reports of MLD

mld_later : {H new : Host} {told : List Event} {notes : List Note} →
    MldEgress H told notes new → all_granted told ≡ true → IsLater H.moment (mld_timeout_of new.mld_report)
mld_later {H} (mld_rules.NotYet d e m y) all =
    subst (λ (K : Host). IsLater H.moment (mld_timeout_of K.mld_report)) (sym y) (come_later (mld_timeout_of H.mld_report) H.moment d)
mld_later (mld_rules.GivenUp d e m y) all = absurd (clash all (ap all_granted e))
mld_later {H} (mld_rules.ReportGoes o f mid d s e y) all = subst (λ (K : Host). IsLater H.moment (mld_timeout_of K.mld_report)) (sym y) tt

-- Reports of IGMP

no_address : (H : Host) → ipv4_addr H.ip_addrs ≡ None → next_report H ≡ None
no_address H none = by (next_group H H.igmp_report) where
  by : (o : Option (IgmpVersion × Ipv4Address)) → option_and_then (λ n. igmp_report H.ip_addrs n.0 n.1) o ≡ None
  by None = refl
  by (Some n) = rw none refl

timeout_is : (H : Host) (x : ℤ) → igmp_poll_at H ≡ Some x → igmp_timeout_of H.igmp_report ≡ Some x
timeout_is H x = by (next_report H) where
  by : (o : Option Packet) → option_and_then (λ p. igmp_timeout_of H.igmp_report) o ≡ Some x → igmp_timeout_of H.igmp_report ≡ Some x
  by None e = absurd cc
  by (Some p) e = e

some_instant : (H : Host) (x : ℤ) → igmp_poll_at H ≡ Some x → ipv4_addr H.ip_addrs ≡ None → ⊥
some_instant H x e none = let bad : None ≡ Some x =
    sym (ap (λ o. option_and_then (λ (p : Packet). igmp_timeout_of H.igmp_report) o) (no_address H none)) ∙ e in absurd cc

igmp_by : {r r' : IgmpReportState} {k k' : IgmpReportState} → (r ≡ k) ⊎ (r ≡ igmp.Inactive) → r' ≡ r → k ≡ k' → (r' ≡ k') ⊎ (r' ≡ igmp.Inactive)
igmp_by (inl e) f g = inl (f ∙ e ∙ g)
igmp_by (inr e) f g = inr (f ∙ e)

-- what stands behind a report
further : (r : IgmpReportState) (now : ℤ) → IsFurther r (igmp_report_after r now)
further igmp.Inactive now = NoMore
further (igmp.ToGeneralQuery version timeout interval place) now = NextGroup version timeout (later_of (timeout +ℤ pos interval) now) interval place
further (igmp.ToSpecificQuery version timeout group) now = NoMore

is_further : {r r' : IgmpReportState} (now : ℤ) → (r' ≡ igmp_report_after r now) ⊎ (r' ≡ igmp.Inactive) → IsFurther r r'
is_further {r} {r'} now (inl e) = subst (IsFurther r) (sym e) (further r now)
is_further {r} {r'} now (inr e) = subst (IsFurther r) (sym e) NoMore

igmp_went : {H new : Host} {told : List Event} {notes : List Note} (x : ℤ) →
    IgmpEgress H told notes new → all_granted told ≡ true → igmp_timeout_of H.igmp_report ≡ Some x → x ≤ℤ H.moment →
    (ipv4_addr H.ip_addrs ≡ None → ⊥) → (new.igmp_report ≡ igmp_report_after H.igmp_report H.moment) ⊎ (new.igmp_report ≡ igmp.Inactive)
igmp_went {H} x (igmp_rules.NotDue d e m y) all timeout le some = absurd (clash (ap (λ o. has_passed o H.moment) timeout ∙ has_come_by x H.moment le) d)
igmp_went x (igmp_rules.NoFurtherGroup d g e m y) all timeout le some = inr (ap (λ (K : Host). K.igmp_report) y)
igmp_went x (igmp_rules.NoAddress next d g a e m y) all timeout le some = absurd (some a)
igmp_went x (igmp_rules.NotGranted p d r e m y) all timeout le some = absurd (clash all (ap all_granted e))
igmp_went x (igmp_rules.Sent p o f mid d r s e y) all timeout le some = inl (ap (λ (K : Host). K.igmp_report) y)

-- Groups

module _ (s : GroupState) where
  -- no group is in the state
  abbrev pub lacks : List Group → Bool
  lacks gs = list_all (λ (g : Group). not (is_same_state g.state s)) gs

  lacks_none : (gs : List Group) → lacks gs ≡ true → first_in s gs ≡ None
  lacks_none [] e = refl
  lacks_none (g ∷ gs) e = by (is_same_state g.state s) (λ f. lacks_none gs f) e where
    by : (b : Bool) → (lacks gs ≡ true → first_in s gs ≡ None) → (not b && lacks gs) ≡ true →
        option_map (λ (x : Group). x.addr) (cond b (Some g) (find (λ (x : Group). is_same_state x.state s) gs)) ≡ None
    by true others f = absurd cc
    by false others f = others f

  none_lacks : (gs : List Group) → first_in s gs ≡ None → lacks gs ≡ true
  none_lacks [] e = refl
  none_lacks (g ∷ gs) e = by (is_same_state g.state s) (λ f. none_lacks gs f) e where
    by : (b : Bool) → (first_in s gs ≡ None → lacks gs ≡ true) →
        option_map (λ (x : Group). x.addr) (cond b (Some g) (find (λ (x : Group). is_same_state x.state s) gs)) ≡ None → (not b && lacks gs) ≡ true
    by true others f = absurd cc
    by false others f = others f

  and_both : (x y : Bool) → x ≡ true → y ≡ true → (x && y) ≡ true
  and_both x y e f = rw (e, f) refl

  both_of : (x y : Bool) → (x && y) ≡ true → (x ≡ true) × (y ≡ true)
  both_of true true e = (refl, refl)
  both_of true false e = absurd cc
  both_of false y e = absurd cc

  all_set : (gs : List Group) (i : ℕ) (v : Group) → lacks gs ≡ true → not (is_same_state v.state s) ≡ true → lacks (slice_set gs i v) ≡ true
  all_set [] i v e f = refl
  all_set (g ∷ gs) zero v e f = and_both _ _ f (both_of (not (is_same_state g.state s)) (lacks gs) e).1
  all_set (g ∷ gs) (suc i) v e f = and_both _ _
      (both_of (not (is_same_state g.state s)) (lacks gs) e).0 (all_set gs i v (both_of (not (is_same_state g.state s)) (lacks gs) e).1 f)

  all_take : (n : ℕ) (gs : List Group) → lacks gs ≡ true → lacks (take n gs) ≡ true
  all_take zero [] e = refl
  all_take (suc n) [] e = refl
  all_take zero (g ∷ gs) e = refl
  all_take (suc n) (g ∷ gs) e =
      and_both _ _ (both_of (not (is_same_state g.state s)) (lacks gs) e).0 (all_take n gs (both_of (not (is_same_state g.state s)) (lacks gs) e).1)

  at_ok : (gs : List Group) (k : ℕ) (d : Group) → lacks gs ≡ true → k < length gs → not (is_same_state (slice_index_or gs k d).state s) ≡ true
  at_ok [] k d e less = absurd (omega (arith, less))
  at_ok (g ∷ gs) zero d e less = (both_of (not (is_same_state g.state s)) (lacks gs) e).0
  at_ok (g ∷ gs) (suc k) d e less = at_ok gs k d (both_of (not (is_same_state g.state s)) (lacks gs) e).1 (omega (arith, less))

  out_lacks : (gs : List Group) (a : IpAddress) → lacks gs ≡ true → lacks (taken_out gs a) ≡ true
  out_lacks [] a e = all_take (length {A = Group} [] - 1) [] refl
  out_lacks (g ∷ gs) a e =
      let last = at_ok (g ∷ gs) (length (g ∷ gs) - 1) (new_group a) e (omega arith) in
      all_take (length (g ∷ gs) - 1) (slice_set (g ∷ gs) (index_of (g ∷ gs) a) (slice_index_or (g ∷ gs) (length (g ∷ gs) - 1) (new_group a)))
      (all_set (g ∷ gs) (index_of (g ∷ gs) a) (slice_index_or (g ∷ gs) (length (g ∷ gs) - 1) (new_group a)) e last)

  leave_lacks : (gs : List Group) (a : IpAddress) → lacks gs ≡ true → lacks (leave_reported gs a) ≡ true
  leave_lacks gs a e = by (state_of gs a) where
    by : (o : Option GroupState) → lacks (leave_reported_from o gs a) ≡ true
    by None = e
    by (Some Joining) = e
    by (Some Joined) = e
    by (Some Leaving) = out_lacks gs a e

-- no leave makes a join
leaves_lack : {old new : Host} {granted : Bool} {told : List Event} {notes : List Note} →
    ReportsEach Leaving leave_packet leave_reported old granted told notes new → lacks Joining old.groups ≡ true → lacks Joining new.groups ≡ true
leaves_lack multicast.Begins e = e
leaves_lack (multicast.Silently {mid = mid} a w i none) e = leave_lacks Joining mid.groups a (leaves_lack w e)
leaves_lack (multicast.Refused a p w i some) e = leaves_lack w e
leaves_lack (multicast.Reported {mid = mid} a p o f more new w i some d) e =
    let same : new.groups ≡ mid.groups = ap (λ (K : Host). K.groups) (dispatched_gone d) in
    leave_lacks Joining new.groups a (subst (λ gs. lacks Joining gs ≡ true) (sym same) (leaves_lack w e))

module _ (state : GroupState) (packet_for : List IpCidr → IpAddress → Option Packet) (after_report : List Group → IpAddress → List Group) where
  tells_given : {old new : Host} {granted : Bool} {told : List Event} {notes : List Note} →
      ReportsEach state packet_for after_report old granted told notes new → granted ≡ false → all_granted told ≡ true → ⊥
  tells_given multicast.Begins ended all = absurd cc
  tells_given (multicast.Silently a w i none) ended all = absurd cc
  tells_given (multicast.Refused {told = so} {mid = mid} a p w i some) ended all = clash (given_parts so (Asked mid.moment false ∷ []) all).1 refl
  tells_given (multicast.Reported a p o f more new w i some d) ended all = absurd cc

  none_left : {old new : Host} {told : List Event} {notes : List Note} →
      ReportsAll state packet_for after_report old told notes new → all_granted told ≡ true → first_in state new.groups ≡ None
  none_left (multicast.All w none) all = none
  none_left (multicast.UpToRefusal w) all = absurd (tells_given w refl all)

  abbrev pub groups_apart : Host → Host
  groups_apart H = record (gone_of H) { groups = [] }

  tells_kept : {old new : Host} {granted : Bool} {told : List Event} {notes : List Note} →
      ReportsEach state packet_for after_report old granted told notes new → groups_apart new ≡ groups_apart old
  tells_kept multicast.Begins = refl
  tells_kept (multicast.Silently a w i none) = tells_kept w
  tells_kept (multicast.Refused a p w i some) = tells_kept w
  tells_kept (multicast.Reported a p o f more new w i some d) = ap (λ (K : Host). record K { groups = [] }) (dispatched_gone d) ∙ tells_kept w

  pub groups_kept : {old new : Host} {told : List Event} {notes : List Note} →
      ReportsAll state packet_for after_report old told notes new → groups_apart new ≡ groups_apart old
  groups_kept (multicast.All w none) = tells_kept w
  groups_kept (multicast.UpToRefusal w) = tells_kept w

leaves_reported_lack : {old new : Host} {told : List Event} {notes : List Note} →
    LeavesEgress old told notes new → lacks Joining old.groups ≡ true → lacks Joining new.groups ≡ true
leaves_reported_lack (multicast.All w none) e = leaves_lack w e
leaves_reported_lack (multicast.UpToRefusal w) e = leaves_lack w e

-- what reports and sockets keep

abbrev pub igmp_apart : Host → Host
igmp_apart H = record (gone_of H) { igmp_report = igmp.Inactive }

pub igmp_kept : {H new : Host} {told : List Event} {notes : List Note} → IgmpEgress H told notes new → igmp_apart new ≡ igmp_apart H
igmp_kept (igmp_rules.NotDue d e m y) = ap igmp_apart y
igmp_kept (igmp_rules.NoFurtherGroup d g e m y) = ap igmp_apart y
igmp_kept (igmp_rules.NoAddress next d g a e m y) = ap igmp_apart y
igmp_kept (igmp_rules.NotGranted p d r e m y) = ap igmp_apart y
igmp_kept (igmp_rules.Sent p o f mid d r s e y) = ap igmp_apart y ∙ ap (λ (K : Host). record K { igmp_report = igmp.Inactive }) (dispatched_gone s)

abbrev pub mld_apart : Host → Host
mld_apart H = record (gone_of H) { mld_report = mld.Inactive }

pub mld_kept : {H new : Host} {told : List Event} {notes : List Note} → MldEgress H told notes new → mld_apart new ≡ mld_apart H
mld_kept (mld_rules.NotYet d e m y) = ap mld_apart y
mld_kept (mld_rules.GivenUp d e m y) = ap mld_apart y
mld_kept (mld_rules.ReportGoes o f mid d s e y) = ap mld_apart y ∙ ap (λ (K : Host). record K { mld_report = mld.Inactive }) (dispatched_gone s)

abbrev pub sockets_apart : Host → Host
sockets_apart H = record (gone_of H) { sockets = no_sockets }

turn_gone : {s s' : Socket} {turn : Turn} {H new : Host} {told : List Event} {notes : List Note} →
    SocketTurn s turn s' H told notes new → gone_of new ≡ gone_of H
turn_gone (turns.Silent p d e m y z) = ap gone_of y
turn_gone (turns.Refused q p d e m y z) = ap gone_of y
turn_gone (turns.Sent q o f p g d e z) = dispatched_gone g

serves_kept : {i : ℕ} {turn : Turn} {H new : Host} {told : List Event} {notes : List Note} →
    Serves i turn H told notes new → sockets_apart new ≡ sockets_apart H
serves_kept (turns.Free f d e m y) = ap sockets_apart y
serves_kept (turns.Waits s known f l w d e m y) = ap sockets_apart y
serves_kept (turns.Served s s' known mid f l w z y) = ap sockets_apart y ∙ ap (λ (K : Host). record K { sockets = no_sockets }) (turn_gone z)

walks_kept : {old new : Host} {n : ℕ} {granted changed : Bool} {told : List Event} {notes : List Note} →
    Walks old n granted changed told notes new → sockets_apart new ≡ sockets_apart old
walks_kept turns.Begins = refl
walks_kept (turns.Goes turn told_it notes new w s e) = serves_kept s ∙ walks_kept w
walks_kept (turns.Stops turn told_it notes new w s e) = serves_kept s ∙ walks_kept w

pub all_kept : {old new : Host} {changed : Bool} {told : List Event} {notes : List Note} →
    SocketEgress old changed told notes new → sockets_apart new ≡ sockets_apart old
all_kept (turns.Whole w) = walks_kept w
all_kept (turns.Stopped n w) = walks_kept w

-- The round

pub due_done : DueIsDone
due_done t answer old new told notes e all kept =
    let a = e.round in
    let b = a.ends in
    let c = b.ends in
    let d = c.ends in
    let f = d.ends in
    let g = f.ends in
    let given_a = given_parts a.told_one a.told_two (sym (ap all_granted a.events) ∙ all) in
    let given_b = given_parts b.told_one b.told_two (sym (ap all_granted b.events) ∙ given_a.1) in
    let given_c = given_parts c.told_one c.told_two (sym (ap all_granted c.events) ∙ given_b.1) in
    let given_d = given_parts d.told_one d.told_two (sym (ap all_granted d.events) ∙ given_c.1) in
    let given_f = given_parts f.told_one f.told_two (sym (ap all_granted f.events) ∙ given_d.1) in
    let given_g = given_parts g.told_one g.told_two (sym (ap all_granted g.events) ∙ given_f.1) in
    -- solicitations
    let moment_a : a.mid.moment ≡ t = ap (λ (K : Host). K.moment) (piece_gone a.begins) in
    let no_sooner : IsLater a.mid.moment (rs_poll_at b.mid) = solicited_later b.begins given_b.0 in
    let instant : rs_poll_at new ≡ rs_poll_at b.mid =
    ap rs_poll_at (all_kept g.ends) ∙ ap rs_poll_at (mld_kept g.begins) ∙ ap rs_poll_at (igmp_kept f.begins)
    ∙ ap rs_poll_at (groups_kept Leaving leave_packet leave_reported d.begins)
    ∙ ap rs_poll_at (groups_kept Joining join_packet join_reported c.begins) in
    -- groups
    let no_join : lacks Joining d.mid.groups ≡ true =
    leaves_reported_lack d.begins (none_lacks Joining c.mid.groups (none_left Joining join_packet join_reported c.begins given_c.0)) in
    let not_granted : first_in Leaving d.mid.groups ≡ None = none_left Leaving leave_packet leave_reported d.begins given_d.0 in
    let groups : new.groups ≡ d.mid.groups = ap (λ (K : Host). K.groups) (all_kept g.ends) ∙ ap (λ (K : Host). K.groups) (mld_kept g.begins)
    ∙ ap (λ (K : Host). K.groups) (igmp_kept f.begins) in
    -- reports
    let moment_f : f.mid.moment ≡ t =
    ap (λ (K : Host). K.moment) (igmp_kept f.begins) ∙ ap (λ (K : Host). K.moment) (groups_kept Leaving leave_packet leave_reported d.begins)
    ∙ ap (λ (K : Host). K.moment) (groups_kept Joining join_packet join_reported c.begins)
    ∙ ap (λ (K : Host). K.moment) (routers_kept b.begins) ∙ moment_a in
    let mld_is : IsLater f.mid.moment (mld_timeout_of g.mid.mld_report) = mld_later g.begins given_g.0 in
    let mld_same : new.mld_report ≡ g.mid.mld_report = ap (λ (K : Host). K.mld_report) (all_kept g.ends) in
    let igmp_before : d.mid.igmp_report ≡ old.igmp_report =
    ap (λ (K : Host). K.igmp_report) (groups_kept Leaving leave_packet leave_reported d.begins)
    ∙ ap (λ (K : Host). K.igmp_report) (groups_kept Joining join_packet join_reported c.begins)
    ∙ ap (λ (K : Host). K.igmp_report) (routers_kept b.begins) ∙ ap (λ (K : Host). K.igmp_report) (piece_gone a.begins) in
    let addrs_before : d.mid.ip_addrs ≡ old.ip_addrs =
    ap (λ (K : Host). K.ip_addrs) (groups_kept Leaving leave_packet leave_reported d.begins)
    ∙ ap (λ (K : Host). K.ip_addrs) (groups_kept Joining join_packet join_reported c.begins)
    ∙ ap (λ (K : Host). K.ip_addrs) (routers_kept b.begins) ∙ ap (λ (K : Host). K.ip_addrs) (piece_gone a.begins) in
    let moment_d : d.mid.moment ≡ t =
    ap (λ (K : Host). K.moment) (groups_kept Leaving leave_packet leave_reported d.begins)
    ∙ ap (λ (K : Host). K.moment) (groups_kept Joining join_packet join_reported c.begins)
    ∙ ap (λ (K : Host). K.moment) (routers_kept b.begins) ∙ moment_a in
    let igmp_after : new.igmp_report ≡ f.mid.igmp_report = ap (λ (K : Host). K.igmp_report) (all_kept g.ends)
    ∙ ap (λ (K : Host). K.igmp_report) (mld_kept g.begins) in
    record {
      joins = ap (option_map (λ x. pos 0)) (ap (first_in Joining) groups ∙ lacks_none Joining d.mid.groups no_join);
      leaves_reported = ap (option_map (λ x. pos 0)) (ap (first_in Leaving) groups ∙ not_granted);
      solicitation = subst (λ o. IsLater t o) (sym instant) (subst (λ m. IsLater m (rs_poll_at b.mid)) moment_a no_sooner);
      mld = subst (λ m. IsLater t (mld_timeout_of m)) (sym mld_same) (subst (λ m. IsLater m (mld_timeout_of g.mid.mld_report)) moment_f mld_is);
      igmp = λ x due le. is_further t (igmp_by (igmp_went {H = d.mid} x f.begins given_f.0
          (ap igmp_timeout_of igmp_before ∙ timeout_is (at old t) x due) (subst (λ m. x ≤ℤ m) (sym moment_d) le)
          (λ none. some_instant (at old t) x due (sym (ap ipv4_addr addrs_before) ∙ none))) igmp_after
          (ap (λ r. igmp_report_after r d.mid.moment) igmp_before ∙ ap (λ m. igmp_report_after old.igmp_report m) moment_d));
      sockets = λ i x due le. fewer i x due le;
    } where
      fewer : (i : ℕ) (x : ℤ) → SocketDue new i x → x ≤ℤ t → HasOneLess i (at old t) new
      fewer i x due le =
          let k = to_sockets e in
          let last_given : all_granted k.told_last ≡ true = (given_parts k.behind.front k.told_last (sym (ap all_granted k.behind.is) ∙ all)).1 in
          let whole = (all_untouched k.sends_them).1 in
          let sockets_are : k.mid.sockets ≡ old.sockets = ap (λ (K : Host). K.sockets) k.way in
          let places : length new.sockets.places ≡ length old.sockets.places = whole.places ∙ ap (λ s. length s.places) sockets_are in
          let here : i < length new.sockets.places = slice_get_within new.sockets.places i (Some due.socket) due.here in
          let mid_places : length k.mid.sockets.places ≡ length old.sockets.places = ap (λ s. length s.places) sockets_are in
          let a = each_turn k.sends_them last_given i (omega (arith, places, here, mid_places)) in
          let waits : length a.mid.sockets.waits ≡ length old.sockets.waits = a.waits ∙ ap (λ s. length s.waits) sockets_are in
          let given_it : all_granted a.told_it ≡ true =
          (given_parts a.told_it a.back (given_parts a.front (a.told_it ++ a.back) (sym (ap all_granted a.split) ∙ last_given)).1).0 in
          let moment : a.mid.moment ≡ t = ap (λ (K : Host). K.moment) a.rest ∙ ap (λ (K : Host). K.moment) k.way in
          let same : slice_get a.mid.sockets.places i ≡ slice_get old.sockets.places i = a.same.place ∙ ap (λ s. slice_get s.places i) sockets_are in
          let one = served_less new x a.served given_it (omega (arith, places, here, waits, kept))
          (whole.rest ∙ sym a.rest) a.stays due (subst (λ m. x ≤ℤ m) (sym moment) le) in
          record { before = one.before; after = one.after; was = sym same ∙ one.was; is = a.stays.place ∙ one.is; less = one.less }

-- What stays due

later_not : (o : Option ℤ) (t x : ℤ) → IsLater t o → o ≡ Some x → x ≤ℤ t → ⊥
later_not None t x l e le = absurd cc
later_not (Some y) t x l e le = let same : y ≡ x = cc in omega (arith, ints, l, same, le)

sync_is : (H : Host) (x : ℤ) → sync_poll_at H ≡ Some x → sync_poll_at H ≡ Some (pos 0)
sync_is H x = by (sync_required H.slaac H.moment) where
  by : (b : Bool) → (if b then Some (pos 0) else None) ≡ Some x → (if b then Some (pos 0) else None) ≡ Some (pos 0)
  by true e = refl
  by false e = absurd cc

-- what is listed has not ended
listed_later : (t x : ℤ) (xs : List ℤ) (i : ℕ) → slice_get (filter (is_before t) xs) i ≡ Some x → t <ℤ x
listed_later t x [] i e = absurd (let bad : None ≡ Some x = e in cc)
listed_later t x (y ∷ ys) i e = by (is_before t y) refl i e (λ k f. listed_later t x ys k f) where
  by : (b : Bool) → is_before t y ≡ b → (k : ℕ) → slice_get (cond b (y ∷ filter (is_before t) ys) (filter (is_before t) ys)) k ≡ Some x →
      ((j : ℕ) → slice_get (filter (is_before t) ys) j ≡ Some x → t <ℤ x) → t <ℤ x
  by true f zero g others = let same : y ≡ x = cc in subst (λ z. t <ℤ z) same (lt_of t y f)
  by true f (suc k) g others = others k g
  by false f k g others = others k g

still_by : (H new : Host) (x : ℤ) → IsDone H new → new.moment ≡ H.moment → Due new x → x ≤ℤ H.moment → IsStillDue H new
still_by H new x d same (due.OfPiece p) le = StillPiece p.first p.others p.are
still_by H new x d same (due.OfSync e) le = StillLine (sync_is new x e)
still_by H new x d same (due.OfSolicitation e) le = absurd (later_not (rs_poll_at new) H.moment x d.solicitation e le)
still_by H new x d same (due.OfPrefix i e) le =
    let later : new.moment <ℤ x = listed_later new.moment x (map (λ (p : Prefix). p.info.valid_until) new.slaac.prefixes) i e in
    absurd (omega (arith, ints, later, same, le))
still_by H new x d same (due.OfRouter i e) le =
    let later : new.moment <ℤ x = listed_later new.moment x (map (λ (r : Route). r.valid_until) new.slaac.routers) i e in
    absurd (omega (arith, ints, later, same, le))
still_by H new x d same (due.OfJoin e) le = absurd (let bad : None ≡ Some x = sym d.joins ∙ e in cc)
still_by H new x d same (due.OfLeave e) le = absurd (let bad : None ≡ Some x = sym d.leaves_reported ∙ e in cc)
still_by H new x d same (due.OfIgmpReport e) le = StillReport x e le
still_by H new x d same (due.OfMldReport e) le = absurd (later_not (mld_timeout_of new.mld_report) H.moment x d.mld e le)
still_by H new x d same (due.OfSocket i e) le = StillSocket i (d.sockets i x e le)

pub little_stays_due : LittleStaysDue
little_stays_due t answer old new told notes x e all kept named le =
    let k = to_sockets e in
    let moment : new.moment ≡ t = ap (λ (K : Host). K.moment) (all_untouched k.sends_them).1.rest ∙ ap (λ (K : Host). K.moment) k.way in
    let same : new ≡ at new t = ap (at new) moment in
    let d : IsDone (at old t) (at new t) = subst (IsDone (at old t)) same (due_done t answer old new told notes e all kept) in
    still_by (at old t) (at new t) x d refl named le
