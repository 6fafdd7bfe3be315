-- What a call that sends does is determined by the host and by the leaves that the device gives: of each part of a round, with the answers to what is
-- asked behind it, and so of the whole.
use Rattle.std.proofs.Common.{◌≡◌, ℕ, ◌+◌, ◌<◌, List, [], ◌∷◌, ◌++◌, length, refl, sym, ◌∙◌, ap}
use Rattle.std.proofs.Common.{append_assoc, subst, Option, Some, None, arith, inl, inr, zero, suc}
use Rattle.std.proofs.lemmas.Bool.{cases_eq}
use Rattle.std.proofs.lemmas.Bool.Decides.{nat_tests}
use Rattle.std.proofs.lemmas.List.{append-nil, length-set}
use Rattle.std.proofs.lemmas.Option.{slice_get_within}
use Rattle.std.specs.Prelude.{ℤ, Bool, true, false, ◌||◌, not, nat_lt, is_ok}
use Rattle.net_base.specs.Device.{Event, Received, Asked, Sent, grants}
use Rattle.ip_address.specs.declared.ip.IpAddress.{IpAddress}
use Rattle.ip_address.specs.declared.cidr.IpCidr.{IpCidr}
use Rattle.ip_address.specs.declared.ipv4.Ipv4Address.{Ipv4Address}
use Rattle.control_wire.specs.declared.igmp.IgmpVersion.{IgmpVersion}
use Rattle.host_machine.specs.Context.Addresses.{ipv4_addr}
use Rattle.iface_tables.specs.declared.groups.Group.{Group}
use Rattle.iface_tables.specs.declared.groups.GroupState.{GroupState}
use Rattle.iface_tables.specs.declared.groups.GroupState.TheVariants.{Joining, Leaving}
use Rattle.iface_tables.specs.Groups.{first_in, join_reported, leave_reported}
use Rattle.sockets.specs.Kinds.{socket_after_told}
use Rattle.socket_set.specs.SocketMeta.{Wait, IsAnswerFor, is_permitted, after_asking}
use Rattle.socket_set.specs.SocketSet.{wait_at}
use Rattle.host_machine.specs.declared.results.Turn.{Turn}
use Rattle.host_machine.specs.declared.results.Turn.TheVariants.{Idle, Done, Deferred, Exhausted}
use Rattle.host_machine.specs.Context.Note.{Note}
use Rattle.host_machine.specs.Context.Host.{Host, Socket, SocketSet, at, with_groups, with_igmp_report, with_mld_report, with_slaac}
use Rattle.host_machine.specs.Packet.Packet.{Packet}
use Rattle.host_machine.specs.Packet.Frame.{sends}
use Rattle.host_machine.specs.Send.Outcome.{Outcome}
use Rattle.host_machine.specs.Send.Dispatch.{Dispatches}
use Rattle.host_machine.specs.Send.Hops.{HasNeighbor}
use Rattle.host_machine.specs.Interface.Parts.{Part, Both}
use Rattle.host_machine.specs.Multicast.Joins as multicast
use Rattle.host_machine.specs.Multicast.Joins.{ReportsEach, ReportsAll, JoinsEgress, LeavesEgress, join_packet, leave_packet}
use Rattle.host_machine.specs.Multicast.Igmp as igmp_rules
use Rattle.host_machine.specs.Multicast.Mld as mld_rules
use Rattle.host_machine.specs.Multicast.Igmp.{IgmpEgress, next_group, next_report, igmp_report_after}
use Rattle.host_machine.specs.Multicast.Mld.{MldEgress}
use Rattle.iface_tables.specs.declared.report.MldReportState.TheVariants as mld
use Rattle.host_machine.specs.Discovery.RouterSolicitation as slaac
use Rattle.host_machine.specs.Discovery.RouterSolicitation.{NdiscRsEgress}
use Rattle.iface_tables.specs.Slaac.{rs_sent}
use Rattle.host_machine.specs.Sockets.Turns as turns
use Rattle.host_machine.specs.Send.Fragments as fragments
use Rattle.host_machine.specs.Sockets.Turns.{SocketTurn, Serves, Walks, SocketEgress, is_exhausted, is_done, turn_of, wait_after, with_socket}
use Rattle.host_machine.specs.Send.Fragments.{Ipv4Egress}
use Rattle.host_machine.specs.Interface.Egress.{Round, Egress, answer_of}
use Rattle.host_machine.specs.Sockets.Offers.{socket_after_asking}
use Rattle.host_laws.specs.Laws.Determined.{IsOneDispatch, IsOneCall, EgressIsDetermined}
use Rattle.host_laws.proofs.Send.DispatchDeterminism.{dispatches_once}
use Rattle.host_laws.proofs.Interface.PartDeterminism.{IsOnce, IsOncePart, Splits, split, behind, before, both_once, joined}
use Rattle.host_machine.proofs.Interface.EarliestInstant.{known_is_one}
use Rattle.host_laws.proofs.Interface.Turns.{turn_sockets}

pub grants-append : (xs ys : List Event) → grants (xs ++ ys) ≡ grants xs ++ grants ys
grants-append [] ys = refl
grants-append (Received t r ∷ xs) ys = grants-append xs ys
grants-append (Asked t b ∷ xs) ys = ap (λ bs. b ∷ bs) (grants-append xs ys)
grants-append (Sent id f ∷ xs) ys = grants-append xs ys

-- two passes of a part from one host to which the device gives the same leaves
abbrev IsOnceFor : {A : Type 0} → (A → Part) → Type 0
IsOnceFor part = IsOnce grants grants-append part

abbrev IsOnceAlone : Part → Type 0
IsOnceAlone part = IsOncePart grants grants-append part

-- without an answer
abbrev IsOnePart : List Event → List Event → List Note → List Note → Host → Host → Type 0
IsOnePart t t' n n' x x' = IsOneCall {A = Unit {0}} tt tt t t' n n' x x'

-- two that do the same as a third
agree : {t t' ts : List Event} {n n' ns : List Note} {x x' K : Host} → t ≡ ts → n ≡ ns → x ≡ K → t' ≡ ts → n' ≡ ns → x' ≡ K → IsOnePart t t' n n' x x'
agree t n x t' n' x' = record { answer_is = refl; told_is = t ∙ sym t'; notes_are = n ∙ sym n'; host_is = x ∙ sym x' }

-- leave isn't both refused and given
refused_or_given : {t t' es : List Event} {s s' : ℤ} (rest rest' : List Bool) →
    t ≡ Asked s false ∷ [] → t' ≡ Asked s' true ∷ es → grants t ++ rest ≡ grants t' ++ rest' → ⊥
refused_or_given {t} {t'} {es} {s} {s'} rest rest' r g same =
    let bad : false ∷ rest ≡ true ∷ (grants es ++ rest') = rw (r, g) at same in
    absurd cc

-- one packet is dispatched once
gone_once : {p q : Packet} {o o' : Outcome} {H x x' : Host} {f f' : List (List ℕ)} {n n' : List Note} →
    p ≡ q → Dispatches p o H f n x → Dispatches q o' H f' n' x' → IsOneDispatch o o' f f' n n' x x'
gone_once {p} {q} {o} {o'} {H} {x} {x'} {f} {f'} {n} {n'} same d d' = dispatches_once p o o' H x x' f f' n n' d (rw same d')

-- where one packet goes with leave, and the host after it is that of the dispatch, changed
sent_once : {p q : Packet} {o o' : Outcome} {H x x' y y' : Host} {f f' : List (List ℕ)} {n n' : List Note}
    {t t' : List Event} (change : Host → Host) →
    p ≡ q → Dispatches p o H f n x → Dispatches q o' H f' n' x' → t ≡ Asked H.moment true ∷ sends f →
    t' ≡ Asked H.moment true ∷ sends f' → y ≡ change x → y' ≡ change x' →
    IsOnePart t t' n n' y y'
sent_once {H = H} change same d d' t t' y y' =
    let one = gone_once same d d' in record {
      answer_is = refl;
      told_is = t ∙ ap (λ fs. Asked H.moment true ∷ sends fs) one.frames_are ∙ sym t';
      notes_are = one.notes_are;
      host_is = y ∙ ap change one.host_is ∙ sym y';
    }

piece_once : IsOnceAlone Ipv4Egress
piece_once u v H t t' n n' x x' rest rest' (fragments.NoPiece l e m y) (fragments.NoPiece l' e' m' y') same = agree e m y e' m' y'
piece_once u v H t t' n n' x x' rest rest' (fragments.NoPiece l e m y) (fragments.NotGranted piece others l' e' m' y') same = absurd cc
piece_once u v H t t' n n' x x' rest rest' (fragments.NoPiece l e m y) (fragments.PieceGoes piece others l' e' m' y') same = absurd cc
piece_once u v H t t' n n' x x' rest rest' (fragments.NotGranted piece others l e m y) (fragments.NoPiece l' e' m' y') same = absurd cc
piece_once u v H t t' n n' x x' rest rest' (fragments.NotGranted piece others l e m y) (fragments.NotGranted piece' others' l' e' m' y') same =
    agree e m y e' m' y'
piece_once u v H t t' n n' x x' rest rest' (fragments.NotGranted piece others l e m y) (fragments.PieceGoes piece' others' l' e' m' y') same =
    absurd (refused_or_given rest rest' e e' same)
piece_once u v H t t' n n' x x' rest rest' (fragments.PieceGoes piece others l e m y) (fragments.NoPiece l' e' m' y') same = absurd cc
piece_once u v H t t' n n' x x' rest rest' (fragments.PieceGoes piece others l e m y) (fragments.NotGranted piece' others' l' e' m' y') same =
    absurd (refused_or_given rest' rest e' e (sym same))
piece_once u v H t t' n n' x x' rest rest' (fragments.PieceGoes piece others l e m y) (fragments.PieceGoes piece' others' l' e' m' y') same =
    let lists : piece ∷ others ≡ piece' ∷ others' = sym l ∙ l' in
    let one : piece ≡ piece' = cc in
    let left : others ≡ others' = cc in
    agree e m y (rw one e') (rw one m') (rw left y')

routers_once : IsOnceAlone NdiscRsEgress
routers_once u v H t t' n n' x x' rest rest' (slaac.NotDue d e m y) (slaac.NotDue d' e' m' y') same = agree e m y e' m' y'
routers_once u v H t t' n n' x x' rest rest' (slaac.NotDue d e m y) (slaac.NotGranted p d' e' m' y') same = absurd cc
routers_once u v H t t' n n' x x' rest rest' (slaac.NotDue d e m y) (slaac.Goes p o f mid d' s e' y') same = absurd cc
routers_once u v H t t' n n' x x' rest rest' (slaac.NotGranted p d e m y) (slaac.NotDue d' e' m' y') same = absurd cc
routers_once u v H t t' n n' x x' rest rest' (slaac.NotGranted p d e m y) (slaac.NotGranted q d' e' m' y') same = agree e m y e' m' y'
routers_once u v H t t' n n' x x' rest rest' (slaac.NotGranted p d e m y) (slaac.Goes q o f mid d' s e' y') same =
    absurd (refused_or_given rest rest' e e' same)
routers_once u v H t t' n n' x x' rest rest' (slaac.Goes p o f mid d s e y) (slaac.NotDue d' e' m' y') same = absurd cc
routers_once u v H t t' n n' x x' rest rest' (slaac.Goes p o f mid d s e y) (slaac.NotGranted q d' e' m' y') same =
    absurd (refused_or_given rest' rest e' e (sym same))
routers_once u v H t t' n n' x x' rest rest' (slaac.Goes p o f mid d s e y) (slaac.Goes q o' f' mid' d' s' e' y') same =
    let both : Some p ≡ Some q = sym d ∙ d' in
    let one : p ≡ q = cc in
    sent_once (λ m. with_slaac m (rs_sent m.slaac m.moment)) one s s' e e' y y'

-- there is no report of IGMP without a further group, or without an address
no_group : (H : Host) {p : Packet} → next_group H H.igmp_report ≡ None → next_report H ≡ Some p → ⊥
no_group H {p} none some = let bad : None ≡ Some p = rw none at some in absurd cc

no_address : (H : Host) {next : IgmpVersion × Ipv4Address} {p : Packet} →
    next_group H H.igmp_report ≡ Some next → ipv4_addr H.ip_addrs ≡ None → next_report H ≡ Some p → ⊥
no_address H {next} {p} group none some = let bad : None ≡ Some p = rw (group, none) at some in absurd cc

igmp_once : IsOnceAlone IgmpEgress
igmp_once u v H t t' n n' x x' rest rest' (igmp_rules.NotDue d e m y) (igmp_rules.NotDue d' e' m' y') same = agree e m y e' m' y'
igmp_once u v H t t' n n' x x' rest rest' (igmp_rules.NotDue d e m y) (igmp_rules.NoFurtherGroup d' g' e' m' y') same = absurd cc
igmp_once u v H t t' n n' x x' rest rest' (igmp_rules.NotDue d e m y) (igmp_rules.NoAddress next' d' g' a' e' m' y') same = absurd cc
igmp_once u v H t t' n n' x x' rest rest' (igmp_rules.NotDue d e m y) (igmp_rules.NotGranted p' d' r' e' m' y') same = absurd cc
igmp_once u v H t t' n n' x x' rest rest' (igmp_rules.NotDue d e m y) (igmp_rules.Sent p' o' f' mid' d' r' s' e' y') same = absurd cc
igmp_once u v H t t' n n' x x' rest rest' (igmp_rules.NoFurtherGroup d g e m y) (igmp_rules.NotDue d' e' m' y') same = absurd cc
igmp_once u v H t t' n n' x x' rest rest' (igmp_rules.NoFurtherGroup d g e m y) (igmp_rules.NoFurtherGroup d' g' e' m' y') same = agree e m y e' m' y'
igmp_once u v H t t' n n' x x' rest rest' (igmp_rules.NoFurtherGroup d g e m y) (igmp_rules.NoAddress next' d' g' a' e' m' y') same = absurd cc
igmp_once u v H t t' n n' x x' rest rest' (igmp_rules.NoFurtherGroup d g e m y) (igmp_rules.NotGranted p' d' r' e' m' y') same = absurd (no_group H g r')
igmp_once u v H t t' n n' x x' rest rest' (igmp_rules.NoFurtherGroup d g e m y) (igmp_rules.Sent p' o' f' mid' d' r' s' e' y') same =
    absurd (no_group H g r')
igmp_once u v H t t' n n' x x' rest rest' (igmp_rules.NoAddress next d g a e m y) (igmp_rules.NotDue d' e' m' y') same = absurd cc
igmp_once u v H t t' n n' x x' rest rest' (igmp_rules.NoAddress next d g a e m y) (igmp_rules.NoFurtherGroup d' g' e' m' y') same = absurd cc
igmp_once u v H t t' n n' x x' rest rest' (igmp_rules.NoAddress next d g a e m y) (igmp_rules.NoAddress next' d' g' a' e' m' y') same = agree e m y e' m' y'
igmp_once u v H t t' n n' x x' rest rest' (igmp_rules.NoAddress next d g a e m y) (igmp_rules.NotGranted p' d' r' e' m' y') same =
    absurd (no_address H g a r')
igmp_once u v H t t' n n' x x' rest rest' (igmp_rules.NoAddress next d g a e m y) (igmp_rules.Sent p' o' f' mid' d' r' s' e' y') same =
    absurd (no_address H g a r')
igmp_once u v H t t' n n' x x' rest rest' (igmp_rules.NotGranted p d r e m y) (igmp_rules.NotDue d' e' m' y') same = absurd cc
igmp_once u v H t t' n n' x x' rest rest' (igmp_rules.NotGranted p d r e m y) (igmp_rules.NoFurtherGroup d' g' e' m' y') same = absurd (no_group H g' r)
igmp_once u v H t t' n n' x x' rest rest' (igmp_rules.NotGranted p d r e m y) (igmp_rules.NoAddress next' d' g' a' e' m' y') same =
    absurd (no_address H g' a' r)
igmp_once u v H t t' n n' x x' rest rest' (igmp_rules.NotGranted p d r e m y) (igmp_rules.NotGranted p' d' r' e' m' y') same = agree e m y e' m' y'
igmp_once u v H t t' n n' x x' rest rest' (igmp_rules.NotGranted p d r e m y) (igmp_rules.Sent p' o' f' mid' d' r' s' e' y') same =
    absurd (refused_or_given rest rest' e e' same)
igmp_once u v H t t' n n' x x' rest rest' (igmp_rules.Sent p o f mid d r s e y) (igmp_rules.NotDue d' e' m' y') same = absurd cc
igmp_once u v H t t' n n' x x' rest rest' (igmp_rules.Sent p o f mid d r s e y) (igmp_rules.NoFurtherGroup d' g' e' m' y') same = absurd (no_group H g' r)
igmp_once u v H t t' n n' x x' rest rest' (igmp_rules.Sent p o f mid d r s e y) (igmp_rules.NoAddress next' d' g' a' e' m' y') same =
    absurd (no_address H g' a' r)
igmp_once u v H t t' n n' x x' rest rest' (igmp_rules.Sent p o f mid d r s e y) (igmp_rules.NotGranted p' d' r' e' m' y') same =
    absurd (refused_or_given rest' rest e' e (sym same))
igmp_once u v H t t' n n' x x' rest rest' (igmp_rules.Sent p o f mid d r s e y) (igmp_rules.Sent p' o' f' mid' d' r' s' e' y') same =
    let both : Some p ≡ Some p' = sym r ∙ r' in
    let one : p ≡ p' = cc in
    sent_once (λ m. with_igmp_report m (igmp_report_after H.igmp_report H.moment)) one s s' e e' y y'

mld_once : IsOnceAlone MldEgress
mld_once u v H t t' n n' x x' rest rest' (mld_rules.NotYet d e m y) (mld_rules.NotYet d' e' m' y') same = agree e m y e' m' y'
mld_once u v H t t' n n' x x' rest rest' (mld_rules.NotYet d e m y) (mld_rules.GivenUp d' e' m' y') same = absurd cc
mld_once u v H t t' n n' x x' rest rest' (mld_rules.NotYet d e m y) (mld_rules.ReportGoes o f mid d' s e' y') same = absurd cc
mld_once u v H t t' n n' x x' rest rest' (mld_rules.GivenUp d e m y) (mld_rules.NotYet d' e' m' y') same = absurd cc
mld_once u v H t t' n n' x x' rest rest' (mld_rules.GivenUp d e m y) (mld_rules.GivenUp d' e' m' y') same = agree e m y e' m' y'
mld_once u v H t t' n n' x x' rest rest' (mld_rules.GivenUp d e m y) (mld_rules.ReportGoes o f mid d' s e' y') same =
    absurd (refused_or_given rest rest' e e' same)
mld_once u v H t t' n n' x x' rest rest' (mld_rules.ReportGoes o f mid d s e y) (mld_rules.NotYet d' e' m' y') same = absurd cc
mld_once u v H t t' n n' x x' rest rest' (mld_rules.ReportGoes o f mid d s e y) (mld_rules.GivenUp d' e' m' y') same =
    absurd (refused_or_given rest' rest e' e (sym same))
mld_once u v H t t' n n' x x' rest rest' (mld_rules.ReportGoes o f mid d s e y) (mld_rules.ReportGoes o' f' mid' d' s' e' y') same =
    sent_once (λ m. with_mld_report m mld.Inactive) refl s s' e e' y y'

-- groups of which routers are told

-- the same from its front: no group is in the state; or its first one is passed over, or leave for it is refused, or it is told
-- of, and then the others
data Telling (state : GroupState) (packet_for : List IpCidr → IpAddress → Option Packet) (after_report : List Group → IpAddress → List Group) : Host →
    List Event → List Note → Host → Type 0 where
  Ended : {H new : Host} {told : List Event} {notes : List Note} → first_in state H.groups ≡ None → told ≡ [] → notes ≡ [] → new ≡ H →
      Telling state packet_for after_report H told notes new
  Skipped : {H new : Host} {told : List Event} {notes : List Note} (a : IpAddress) →
      first_in state H.groups ≡ Some a → packet_for H.ip_addrs a ≡ None →
      Telling state packet_for after_report (with_groups H (after_report H.groups a)) told notes new →
      Telling state packet_for after_report H told notes new
  Withheld : {H new : Host} {told : List Event} {notes : List Note} (a : IpAddress) (p : Packet) →
      first_in state H.groups ≡ Some a → packet_for H.ip_addrs a ≡ Some p →
      told ≡ Asked H.moment false ∷ [] → notes ≡ [] → new ≡ H → Telling state packet_for after_report H told notes new
  Said : {H new : Host} {told : List Event} {notes : List Note} (a : IpAddress) (p : Packet) (outcome : Outcome)
      (frames : List (List ℕ)) (more : List Note) (mid : Host)
      (told_on : List Event) (notes_on : List Note) →
      first_in state H.groups ≡ Some a → packet_for H.ip_addrs a ≡ Some p → Dispatches p outcome H frames more mid →
      Telling state packet_for after_report (with_groups mid (after_report mid.groups a)) told_on notes_on new →
      told ≡ (Asked H.moment true ∷ sends frames) ++ told_on → notes ≡ more ++ notes_on →
      Telling state packet_for after_report H told notes new

module _ (state : GroupState) (packet_for : List IpCidr → IpAddress → Option Packet) (after_report : List Group → IpAddress → List Group) where
  onward : {old mid new : Host} {told more t : List Event} {notes ns n : List Note} →
      ReportsEach state packet_for after_report old true told notes mid → Telling state packet_for after_report mid more ns new →
      t ≡ told ++ more → n ≡ notes ++ ns → Telling state packet_for after_report old t n new
  onward multicast.Begins on e f = rw (e, f) on
  onward (multicast.Silently a w i none) on e f = onward w (Skipped a i none on) e f
  onward {more = more} {ns = ns} (multicast.Reported {told = so} {notes = noted} a p outcome frames further mid w i some d) on e f =
      onward w (Said a p outcome frames further mid more ns i some d on refl refl) (e ∙ append_assoc so _ more) (f ∙ append_assoc noted further ns)

  telling : {old new : Host} {told : List Event} {notes : List Note} →
      ReportsAll state packet_for after_report old told notes new → Telling state packet_for after_report old told notes new
  telling {told = told} {notes = notes} (multicast.All w none) = onward w (Ended none refl refl refl) (sym (append-nil told)) (sym (append-nil notes))
  telling {notes = notes} (multicast.UpToRefusal (multicast.Refused a p w i some)) =
      onward w (Withheld a p i some refl refl refl) refl (sym (append-nil notes))

  telling_once : {H x x' : Host} {t t' : List Event} {n n' : List Note} (rest rest' : List Bool) →
      Telling state packet_for after_report H t n x → Telling state packet_for after_report H t' n' x' →
      grants t ++ rest ≡ grants t' ++ rest' → IsOnePart t t' n n' x x'
  telling_once rest rest' (Ended i e m y) (Ended i' e' m' y') same = agree e m y e' m' y'
  telling_once rest rest' (Ended i e m y) (Skipped a i' s' w') same = absurd cc
  telling_once rest rest' (Ended i e m y) (Withheld a p i' s' e' m' y') same = absurd cc
  telling_once rest rest' (Ended i e m y) (Said a p o f more mid on noted i' s' d' w' e' m') same = absurd cc
  telling_once rest rest' (Skipped a i s w) (Ended i' e' m' y') same = absurd cc
  telling_once rest rest' (Skipped a i s w) (Skipped b i' s' w') same =
      let both : Some a ≡ Some b = sym i ∙ i' in
      let one : a ≡ b = cc in
      telling_once rest rest' w (rw one w') same
  telling_once rest rest' (Skipped a i s w) (Withheld b p i' s' e' m' y') same = absurd cc
  telling_once rest rest' (Skipped a i s w) (Said b p o f more mid on noted i' s' d' w' e' m') same = absurd cc
  telling_once rest rest' (Withheld a p i s e m y) (Ended i' e' m' y') same = absurd cc
  telling_once rest rest' (Withheld a p i s e m y) (Skipped b i' s' w') same = absurd cc
  telling_once rest rest' (Withheld a p i s e m y) (Withheld b q i' s' e' m' y') same = agree e m y e' m' y'
  telling_once rest rest' (Withheld a p i s e m y) (Said b q o f more mid on noted i' s' d' w' e' m') same =
      absurd (refused_or_given rest rest' e e' same)
  telling_once rest rest' (Said a p o f more mid on noted i s d w e m) (Ended i' e' m' y') same = absurd cc
  telling_once rest rest' (Said a p o f more mid on noted i s d w e m) (Skipped b i' s' w') same = absurd cc
  telling_once rest rest' (Said a p o f more mid on noted i s d w e m) (Withheld b q i' s' e' m' y') same =
      absurd (refused_or_given rest' rest e' e (sym same))
  telling_once {H} rest rest' (Said a p o f more mid on noted i s d w e m) (Said b q o' f' more' mid' on' noted' i' s' d' w' e' m') same =
      let both : Some a ≡ Some b = sym i ∙ i' in
      let group : a ≡ b = cc in
      let packets : Some p ≡ Some q = sym s ∙ rw group s' in
      let packet : p ≡ q = cc in
      let gone = gone_once packet d d' in
      let events : Asked H.moment true ∷ sends f ≡ Asked H.moment true ∷ sends f' = ap (λ fs. Asked H.moment true ∷ sends fs) gone.frames_are in
      let e_is = split (Asked H.moment true ∷ sends f) on e in
      let e_is' = split (Asked H.moment true ∷ sends f') on' e' in
      let others = telling_once rest rest' w (rw (group, gone.host_is) w') (behind grants grants-append rest rest' e_is e_is' events same) in record {
        answer_is = refl;
        told_is = joined e_is e_is' events others.told_is;
        notes_are = joined (split more noted m) (split more' noted' m') gone.notes_are others.notes_are;
        host_is = others.host_is;
      }

  groups_once : IsOnceAlone (ReportsAll state packet_for after_report)
  groups_once u v H t t' n n' x x' rest rest' w w' same = telling_once rest rest' (telling w) (telling w') same

-- sockets

told_same : (H : Host) (w : Wait) (known known' : Bool) (t : ℤ) → IsAnswerFor (HasNeighbor H) w known → IsAnswerFor (HasNeighbor H) w known' →
    is_permitted w known t ≡ is_permitted w known' t
told_same H None known known' t a b = refl
told_same H (Some w) known known' t a b = ap (λ k. is_permitted (Some w) k t) (known_is_one a b)

asked_same : (H : Host) (w : Wait) (known known' : Bool) → IsAnswerFor (HasNeighbor H) w known → IsAnswerFor (HasNeighbor H) w known' →
    after_asking w known ≡ after_asking w known'
asked_same H None known known' a b = refl
asked_same H (Some w) known known' a b = ap (after_asking (Some w)) (known_is_one a b)

-- what is left of a socket and of its turn
record IsOneTurn (turn turn' : Turn) (s s' : Socket) (t t' : List Event) (n n' : List Note) (x x' : Host) : Type 0 where
  turn_is : turn ≡ turn'
  socket_is : s ≡ s'
  told_is : t ≡ t'
  notes_are : n ≡ n'
  host_is : x ≡ x'

alike : {turn turn' d : Turn} {s s' z : Socket} {t t' ts : List Event} {n n' ns : List Note} {x x' K : Host} →
    turn ≡ d → t ≡ ts → n ≡ ns → x ≡ K → s ≡ z → turn' ≡ d → t' ≡ ts → n' ≡ ns → x' ≡ K → s' ≡ z →
    IsOneTurn turn turn' s s' t t' n n' x x'
alike d t n x s d' t' n' x' s' =
    record { turn_is = d ∙ sym d'; socket_is = s ∙ sym s'; told_is = t ∙ sym t'; notes_are = n ∙ sym n'; host_is = x ∙ sym x' }

turn_once : {s r r' : Socket} {turn turn' : Turn} {H x x' : Host} {t t' : List Event} {n n' : List Note} (rest rest' : List Bool) →
    SocketTurn s turn r H t n x → SocketTurn s turn' r' H t' n' x' →
    grants t ++ rest ≡ grants t' ++ rest' → IsOneTurn turn turn' r r' t t' n n' x x'
turn_once rest rest' (turns.Silent p d e m y z) (turns.Silent p' d' e' m' y' z') same = alike d e m y z d' e' m' y' z'
turn_once rest rest' (turns.Silent p d e m y z) (turns.Refused q p' d' e' m' y' z') same = absurd cc
turn_once rest rest' (turns.Silent p d e m y z) (turns.Sent q o f p' g d' e' z') same = absurd cc
turn_once rest rest' (turns.Refused q p d e m y z) (turns.Silent p' d' e' m' y' z') same = absurd cc
turn_once rest rest' (turns.Refused q p d e m y z) (turns.Refused q' p' d' e' m' y' z') same = alike d e m y z d' e' m' y' z'
turn_once rest rest' (turns.Refused q p d e m y z) (turns.Sent q' o f p' g d' e' z') same = absurd (refused_or_given rest rest' e e' same)
turn_once rest rest' (turns.Sent q o f p g d e z) (turns.Silent p' d' e' m' y' z') same = absurd cc
turn_once rest rest' (turns.Sent q o f p g d e z) (turns.Refused q' p' d' e' m' y' z') same = absurd (refused_or_given rest' rest e' e (sym same))
turn_once {s} {H = H} rest rest' (turns.Sent q o f p g d e z) (turns.Sent q' o' f' p' g' d' e' z') same =
    let both : Some q ≡ Some q' = sym p ∙ p' in
    let packet : q ≡ q' = cc in
    let gone = gone_once packet g g' in record {
      turn_is = d ∙ ap (turn_of q) gone.outcome_is ∙ ap (λ k. turn_of k o') packet ∙ sym d';
      socket_is = z ∙ ap (λ k. socket_after_told (is_ok k) (socket_after_asking H s)) gone.outcome_is ∙ sym z';
      told_is = e ∙ ap (λ fs. Asked H.moment true ∷ sends fs) gone.frames_are ∙ sym e';
      notes_are = gone.notes_are;
      host_is = gone.host_is;
    }

-- a place without a turn
idle : {turn turn' : Turn} {t t' : List Event} {n n' : List Note} {x x' H : Host} →
    turn ≡ Idle → t ≡ [] → n ≡ [] → x ≡ H → turn' ≡ Idle → t' ≡ [] → n' ≡ [] → x' ≡ H → IsOneCall turn turn' t t' n n' x x'
idle d t n x d' t' n' x' = record { answer_is = d ∙ sym d'; told_is = t ∙ sym t'; notes_are = n ∙ sym n'; host_is = x ∙ sym x' }

-- a socket that may send, or may not
clash : (H : Host) (i : ℕ) (known known' : Bool) → IsAnswerFor (HasNeighbor H) (wait_at H.sockets i) known →
    IsAnswerFor (HasNeighbor H) (wait_at H.sockets i) known' →
    is_permitted (wait_at H.sockets i) known H.moment ≡ false → is_permitted (wait_at H.sockets i) known' H.moment ≡ true → ⊥
clash H i known known' is is' kept may = let one = told_same H (wait_at H.sockets i) known known' H.moment is is' in absurd cc

serves_once : (i : ℕ) → IsOnceFor (Serves i)
serves_once i turn turn' H t t' n n' x x' rest rest' (turns.Free f d e m y) (turns.Free f' d' e' m' y') same = idle d e m y d' e' m' y'
serves_once i turn turn' H t t' n n' x x' rest rest' (turns.Free f d e m y) (turns.Waits s k f' l w d' e' m' y') same = absurd cc
serves_once i turn turn' H t t' n n' x x' rest rest' (turns.Free f d e m y) (turns.Served s r k mid f' l w z y') same = absurd cc
serves_once i turn turn' H t t' n n' x x' rest rest' (turns.Waits s k f l w d e m y) (turns.Free f' d' e' m' y') same = absurd cc
serves_once i turn turn' H t t' n n' x x' rest rest' (turns.Waits s k f l w d e m y) (turns.Waits s' k' f' l' w' d' e' m' y') same =
    idle d e m y d' e' m' y'
serves_once i turn turn' H t t' n n' x x' rest rest' (turns.Waits s k f l w d e m y) (turns.Served s' r k' mid f' l' w' z y') same =
    absurd (clash H i k k' l l' w w')
serves_once i turn turn' H t t' n n' x x' rest rest' (turns.Served s r k mid f l w z y) (turns.Free f' d' e' m' y') same = absurd cc
serves_once i turn turn' H t t' n n' x x' rest rest' (turns.Served s r k mid f l w z y) (turns.Waits s' k' f' l' w' d' e' m' y') same =
    absurd (clash H i k' k l' l w' w)
serves_once i turn turn' H t t' n n' x x' rest rest' (turns.Served s r k mid f l w z y) (turns.Served s' r' k' mid' f' l' w' z' y') same =
    let both : Some (Some s) ≡ Some (Some s') = sym f ∙ f' in
    let socket : s ≡ s' = cc in
    let one = turn_once rest rest' z (rw socket z') same in
    let after = asked_same H (wait_at H.sockets i) k k' l l' in record {
      answer_is = one.turn_is;
      told_is = one.told_is;
      notes_are = one.notes_are;
      host_is = y ∙ ap (λ h. with_socket h i r (wait_after turn H.moment (after_asking (wait_at H.sockets i) k))) one.host_is
          ∙ ap (λ a. with_socket mid' i a (wait_after turn H.moment (after_asking (wait_at H.sockets i) k))) one.socket_is
          ∙ ap (λ d. with_socket mid' i r' (wait_after d H.moment (after_asking (wait_at H.sockets i) k))) one.turn_is
          ∙ ap (λ a. with_socket mid' i r' (wait_after turn' H.moment a)) after ∙ sym y';
    }

-- a refused leave changes no socket
unchanged : (turn : Turn) (c : Bool) → is_exhausted turn ≡ true → c ≡ (c || is_done turn)
unchanged Idle c t = absurd cc
unchanged Done c t = absurd cc
unchanged (Deferred destination) c t = absurd cc
unchanged Exhausted true t = refl
unchanged Exhausted false t = refl

-- the last turn of a walk over k + 1 places
record LastTurn (old : Host) (k : ℕ) (granted changed : Bool) (told : List Event) (notes : List Note) (new : Host) : Type 0 where
  changed_so : Bool
  told_so : List Event
  notes_so : List Note
  mid : Host
  walk : Walks old k true changed_so told_so notes_so mid
  turn : Turn
  told_last : List Event
  notes_last : List Note
  served : Serves k turn mid told_last notes_last new
  granted_is : granted ≡ not (is_exhausted turn)
  changed_is : changed ≡ (changed_so || is_done turn)
  told_is : Splits told told_so told_last
  notes_are : Splits notes notes_so notes_last

last_turn : {old new : Host} {n : ℕ} {granted changed : Bool} {told : List Event} {notes : List Note} (k : ℕ) →
    n ≡ k + 1 → Walks old n granted changed told notes new → LastTurn old k granted changed told notes new
last_turn k e turns.Begins = absurd (omega (arith, e))
last_turn {old} k e (turns.Goes {n = m} {changed = c} {told_so = so} {notes_so = noted} {mid = mid} turn told notes new w s t) =
    let one : m ≡ k = omega (arith, e) in record {
      changed_so = c;
      told_so = so;
      notes_so = noted;
      mid = mid;
      walk = subst (λ i. Walks old i true c so noted mid) one w;
      turn = turn;
      told_last = told;
      notes_last = notes;
      served = subst (λ i. Serves i turn mid told notes new) one s;
      granted_is = sym (ap not t);
      changed_is = refl;
      told_is = split so told refl;
      notes_are = split noted notes refl;
    }
last_turn {old} k e (turns.Stops {n = m} {changed = c} {told_so = so} {notes_so = noted} {mid = mid} turn told notes new w s t) =
    let one : m ≡ k = omega (arith, e) in record {
      changed_so = c;
      told_so = so;
      notes_so = noted;
      mid = mid;
      walk = subst (λ i. Walks old i true c so noted mid) one w;
      turn = turn;
      told_last = told;
      notes_last = notes;
      served = subst (λ i. Serves i turn mid told notes new) one s;
      granted_is = sym (ap not t);
      changed_is = unchanged turn c t;
      told_is = split so told refl;
      notes_are = split noted notes refl;
    }

-- a walk over no places
record IsNoTurn (old : Host) (granted changed : Bool) (told : List Event) (notes : List Note) (new : Host) : Type 0 where
  goes : granted ≡ true
  unchanged : changed ≡ false
  untold : told ≡ []
  unnoted : notes ≡ []
  same : new ≡ old

no_turn : {old new : Host} {n : ℕ} {granted changed : Bool} {told : List Event} {notes : List Note} →
    n ≡ 0 → Walks old n granted changed told notes new → IsNoTurn old granted changed told notes new
no_turn e turns.Begins = record { goes = refl; unchanged = refl; untold = refl; unnoted = refl; same = refl }
no_turn e (turns.Goes turn told notes new w s t) = absurd (omega (arith, e))
no_turn e (turns.Stops turn told notes new w s t) = absurd (omega (arith, e))

-- two walks over as many places
record IsOneWalk (granted granted' changed changed' : Bool) (t t' : List Event) (n n' : List Note) (x x' : Host) : Type 0 where
  granted_is : granted ≡ granted'
  changed_is : changed ≡ changed'
  told_is : t ≡ t'
  notes_are : n ≡ n'
  host_is : x ≡ x'

walks_once : (k : ℕ) {old x x' : Host} {granted granted' changed changed' : Bool} {t t' : List Event} {n n' : List Note} (rest rest' : List Bool) →
    Walks old k granted changed t n x → Walks old k granted' changed' t' n' x' → grants t ++ rest ≡ grants t' ++ rest' →
    IsOneWalk granted granted' changed changed' t t' n n' x x'
walks_once zero rest rest' w w' same =
    let a = no_turn refl w in
    let b = no_turn refl w' in record {
      granted_is = a.goes ∙ sym b.goes;
      changed_is = a.unchanged ∙ sym b.unchanged;
      told_is = a.untold ∙ sym b.untold;
      notes_are = a.unnoted ∙ sym b.unnoted;
      host_is = a.same ∙ sym b.same;
    }
walks_once (suc k) {x = x} {x' = x'} {granted = granted} {granted' = granted'} {changed = changed} {changed' = changed'} rest rest' w w' same =
    let a = last_turn k (omega arith) w in
    let b = last_turn k (omega arith) w' in
    let so = walks_once k (grants a.told_last ++ rest) (grants b.told_last ++ rest') a.walk b.walk
    (before grants grants-append rest rest' a.told_is b.told_is same) in
    let last = serves_once k a.turn b.turn a.mid a.told_last b.told_last a.notes_last b.notes_last x x' rest rest' a.served (rw so.host_is b.served)
    (behind grants grants-append rest rest' a.told_is b.told_is so.told_is same) in record {
      granted_is = a.granted_is ∙ ap (λ d. not (is_exhausted d)) last.answer_is ∙ sym b.granted_is;
      changed_is = a.changed_is ∙ ap (λ c. c || is_done a.turn) so.changed_is ∙ ap (λ d. b.changed_so || is_done d) last.answer_is ∙ sym b.changed_is;
      told_is = joined a.told_is b.told_is so.told_is last.told_is;
      notes_are = joined a.notes_are b.notes_are so.notes_are last.notes_are;
      host_is = last.host_is;
    }

-- the first places of a walk over more than k, and the turn of the next
record FirstTurns (old : Host) (k : ℕ) (told : List Event) : Type 0 where
  changed : Bool
  told_so : List Event
  notes_so : List Note
  mid : Host
  next : Host
  walk : Walks old k true changed told_so notes_so mid
  turn : Turn
  told_next : List Event
  notes_next : List Note
  served : Serves k turn mid told_next notes_next next
  more : List Event
  told_is : Splits told told_so more

next_turn : {old mid new : Host} {m : ℕ} {c : Bool} {told so last : List Event} {noted notes_last : List Note} {turn : Turn} (k : ℕ) →
    k < m + 1 → Splits told so last →
    Walks old m true c so noted mid → Serves m turn mid last notes_last new → (k < m → FirstTurns old k so) → FirstTurns old k told
next_turn {old} {mid} {new} {m} {c} {told} {so} {last} {noted} {notes_last} {turn} k l e w s first = elim (cases_eq k m) [
  | inl same ↦ record {
    changed = c;
    told_so = so;
    notes_so = noted;
    mid = mid;
    next = new;
    walk = subst (λ i. Walks old i true c so noted mid) (sym same) w;
    turn = turn;
    told_next = last;
    notes_next = notes_last;
    served = subst (λ i. Serves i turn mid last notes_last new) (sym same) s;
    more = last;
    told_is = e;
  }
  | inr other ↦ (let f = first (omega (arith, l, other)) in record {
    changed = f.changed;
    told_so = f.told_so;
    notes_so = f.notes_so;
    mid = f.mid;
    next = f.next;
    walk = f.walk;
    turn = f.turn;
    told_next = f.told_next;
    notes_next = f.notes_next;
    served = f.served;
    more = f.more ++ last;
    told_is = split f.told_so (f.more ++ last) (e.is ∙ ap (λ z. z ++ last) f.told_is.is ∙ append_assoc f.told_so f.more last);
  })
]

first_turns : {old new : Host} {n : ℕ} {granted changed : Bool} {told : List Event} {notes : List Note} (k : ℕ) →
    k < n → Walks old n granted changed told notes new → FirstTurns old k told
first_turns k l turns.Begins = absurd (omega (arith, l))
first_turns k l (turns.Goes {told_so = so} turn told notes new w s t) = next_turn k l (split so told refl) w s (λ less. first_turns k less w)
first_turns k l (turns.Stops {told_so = so} turn told notes new w s t) = next_turn k l (split so told refl) w s (λ less. first_turns k less w)

-- where leave was refused at a place, no walk goes on behind it
stopped_there : {old x x' : Host} {m n : ℕ} {granted changed changed' : Bool} {t t' : List Event} {noted noted' : List Note}
    (rest rest' : List Bool) → m < n → Walks old m false changed t noted x →
    Walks old n granted changed' t' noted' x' → grants t ++ rest ≡ grants t' ++ rest' → ⊥
stopped_there {old} {m = m} {t = t} rest rest' l w w' same =
    let f = first_turns m l w' in
    let one = walks_once m ([] ++ rest) (grants f.more ++ rest') w f.walk
    (before grants grants-append rest rest' (split t [] (sym (append-nil t))) f.told_is same) in
    let bad : false ≡ true = one.granted_is in
    absurd cc

-- a turn is of a place that is there, and leaves as many
served_within : {i : ℕ} {turn : Turn} {H x : Host} {t : List Event} {n : List Note} → Serves i turn H t n x → i < length H.sockets.places
served_within {i} {H = H} (turns.Free f d e m y) = slice_get_within H.sockets.places i None f
served_within {i} {H = H} (turns.Waits s k f l w d e m y) = slice_get_within H.sockets.places i (Some s) f
served_within {i} {H = H} (turns.Served s r k mid f l w z y) = slice_get_within H.sockets.places i (Some s) f

serves_places : {i : ℕ} {turn : Turn} {H x : Host} {t : List Event} {n : List Note} →
    Serves i turn H t n x → length x.sockets.places ≡ length H.sockets.places
serves_places (turns.Free f d e m y) = ap (λ (K : Host). length K.sockets.places) y
serves_places (turns.Waits s k f l w d e m y) = ap (λ (K : Host). length K.sockets.places) y
serves_places {i} (turns.Served s r k mid f l w z y) =
    ap (λ (K : Host). length K.sockets.places) y ∙ length-set mid.sockets.places i (Some r) ∙ ap (λ (S : SocketSet). length S.places) (turn_sockets z)

walk_places : {old new : Host} {n : ℕ} {granted changed : Bool} {told : List Event} {notes : List Note} →
    Walks old n granted changed told notes new → length new.sockets.places ≡ length old.sockets.places
walk_places turns.Begins = refl
walk_places (turns.Goes turn told notes new w s t) = serves_places s ∙ walk_places w
walk_places (turns.Stops turn told notes new w s t) = serves_places s ∙ walk_places w

-- a walk of all places isn't one that stopped
whole_or_stopped : {old x x' : Host} {m : ℕ} {changed changed' : Bool} {t t' : List Event} {n n' : List Note} (rest rest' : List Bool) →
    Walks old (length old.sockets.places) true changed t n x →
    Walks old m false changed' t' n' x' → grants t ++ rest ≡ grants t' ++ rest' → ⊥
whole_or_stopped {old} {x = x} {m = m} {changed} {t = t} {n = n} rest rest' w w' same = by (nat_lt m (length old.sockets.places))
    (nat_lt (length old.sockets.places) m) refl refl where
      by : (a b : Bool) → nat_lt m (length old.sockets.places) ≡ a → nat_lt (length old.sockets.places) m ≡ b → ⊥
      by true b less more = stopped_there rest' rest (grind (arith, nat_tests)) w' w (sym same)
      by false true less more =
          let f = first_turns (length old.sockets.places) (grind (arith, nat_tests)) w' in
          let there : length old.sockets.places < length f.mid.sockets.places = served_within f.served in
          let stay : length f.mid.sockets.places ≡ length old.sockets.places = walk_places f.walk in
          absurd (omega (arith, there, stay))
      by false false less more =
          let places : length old.sockets.places ≡ m = grind (arith, nat_tests) in
          let one = walks_once m rest' rest w' (subst (λ i. Walks old i true changed t n x) places w) (sym same) in
          let bad : false ≡ true = one.granted_is in
          absurd cc

stopped_once : {old x x' : Host} (m m' : ℕ) {changed changed' : Bool} {t t' : List Event} {n n' : List Note} (rest rest' : List Bool) →
    Walks old m false changed t n x →
    Walks old m' false changed' t' n' x' → grants t ++ rest ≡ grants t' ++ rest' → IsOneWalk false false changed changed' t t' n n' x x'
stopped_once {old} {x} {x'} m m' {changed} {changed'} {t} {t'} {n} {n'} rest rest' w w' same = by (nat_lt m m') (nat_lt m' m) refl refl where
  by : (a b : Bool) → nat_lt m m' ≡ a → nat_lt m' m ≡ b → IsOneWalk false false changed changed' t t' n n' x x'
  by true b less more = absurd (stopped_there rest rest' (grind (arith, nat_tests)) w w' same)
  by false true less more = absurd (stopped_there rest' rest (grind (arith, nat_tests)) w' w (sym same))
  by false false less more =
      let places : m' ≡ m = grind (arith, nat_tests) in
      walks_once m rest rest' w (subst (λ i. Walks old i false changed' t' n' x') places w') same

-- the walk, as a part
walked : {granted changed changed' : Bool} {t t' : List Event} {n n' : List Note} {x x' : Host} →
    IsOneWalk granted granted changed changed' t t' n n' x x' → IsOneCall changed changed' t t' n n' x x'
walked one = record { answer_is = one.changed_is; told_is = one.told_is; notes_are = one.notes_are; host_is = one.host_is }

abbrev Sockets : Bool → Part
Sockets changed = λ old told notes new. SocketEgress old changed told notes new

sockets_once : IsOnceFor Sockets
sockets_once c c' H t t' n n' x x' rest rest' (turns.Whole w) (turns.Whole w') same =
    walked (walks_once (length H.sockets.places) rest rest' w w' same)
sockets_once c c' H t t' n n' x x' rest rest' (turns.Whole w) (turns.Stopped m w') same = absurd (whole_or_stopped rest rest' w w' same)
sockets_once c c' H t t' n n' x x' rest rest' (turns.Stopped m w) (turns.Whole w') same = absurd (whole_or_stopped rest' rest w' w (sym same))
sockets_once c c' H t t' n n' x x' rest rest' (turns.Stopped m w) (turns.Stopped m' w') same = walked (stopped_once m m' rest rest' w w' same)

-- the round

after_leaves : IsOnceFor (λ c. Both IgmpEgress (Both MldEgress (Sockets c)))
after_leaves = both_once grants grants-append IgmpEgress
    (λ c. Both MldEgress (Sockets c)) igmp_once (both_once grants grants-append MldEgress Sockets mld_once sockets_once)

after_routers : IsOnceFor (λ c. Both JoinsEgress (Both LeavesEgress (Both IgmpEgress (Both MldEgress (Sockets c)))))
after_routers =
    both_once grants grants-append JoinsEgress (λ c. Both LeavesEgress (Both IgmpEgress (Both MldEgress (Sockets c))))
    (groups_once Joining join_packet join_reported)
    (both_once grants grants-append LeavesEgress (λ c. Both IgmpEgress (Both MldEgress (Sockets c)))
    (groups_once Leaving leave_packet leave_reported) after_leaves)

round_once : IsOnceFor Round
round_once =
    both_once grants grants-append Ipv4Egress
    (λ c. Both NdiscRsEgress (Both JoinsEgress (Both LeavesEgress (Both IgmpEgress (Both MldEgress (Sockets c)))))) piece_once
    (both_once grants grants-append NdiscRsEgress
    (λ c. Both JoinsEgress (Both LeavesEgress (Both IgmpEgress (Both MldEgress (Sockets c))))) routers_once after_routers)

pub egress_on : (t : ℤ) → IsOnceFor (Egress t)
egress_on t answer answer' old told told' notes notes' new new' rest rest' p q same =
    let one = round_once p.changed q.changed (at old t) told told' notes notes' new new' rest rest' p.round q.round same in record {
      answer_is = p.answers ∙ ap answer_of one.answer_is ∙ sym q.answers;
      told_is = one.told_is;
      notes_are = one.notes_are;
      host_is = one.host_is;
    }

pub egress_once : EgressIsDetermined
egress_once t answer answer' old new new' told told' notes notes' p q same =
    egress_on t answer answer' old told told' notes notes' new new' [] [] p q (ap (λ z. z ++ []) same)
