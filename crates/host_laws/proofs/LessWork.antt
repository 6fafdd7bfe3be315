-- A poll after which something is due leaves less work.
use Rattle.std.proofs.Common.{◌≡◌, ℕ, zero, suc, ◌+◌, ◌≤◌, ◌<◌, Bool, true, false, List, [], ◌∷◌, ◌++◌, length}
use Rattle.std.proofs.Common.{refl, sym, ◌∙◌, ap, subst, Option, Some, None, arith}
use Rattle.std.proofs.lemmas.Int.{ints}
use Rattle.std.specs.Prelude.{ℤ, ◌≤ℤ◌, ◌<ℤ◌, cond, filter, map, slice_get, if◌then◌else◌}
use Rattle.std.specs.List.{AllByRecursion}
use Rattle.std.specs.Cmp.{int_ranks}
use Rattle.std.specs.Ordering.{int_cmp, is_lt, MatchOrdering}
use Rattle.std.specs.declared.cmp.Ordering.{Ordering}
use Rattle.std.specs.declared.cmp.Ordering.TheVariants.{Less, Equal, Greater}
use Rattle.net_base.specs.Checksum.{ip_mtu_of}
use Rattle.net_base.specs.Device.{Event, Received, Asked, Sent, Reception, Frame, Nothing, Withheld, handed_frames}
use Rattle.iface_tables.specs.declared.groups.GroupState.TheVariants.{Joining, Leaving}
use Rattle.iface_tables.specs.Groups.{join_reported, leave_reported}
use Rattle.iface_tables.specs.declared.slaac.Prefix.{Prefix}
use Rattle.iface_tables.specs.declared.slaac.Route.{Route}
use Rattle.iface_tables.specs.Slaac.{is_before, sync_required}
use Rattle.host_machine.specs.declared.results.PollIngressSingleResult.{PollIngressSingleResult}
use Rattle.host_machine.specs.declared.results.PollIngressSingleResult.TheVariants as ingress
use Rattle.host_machine.specs.declared.results.PollResult.{PollResult}
use Rattle.host_machine.specs.declared.results.PollResult.TheVariants as result
use Rattle.host_machine.specs.declared.command.Command.{Command}
use Rattle.host_machine.specs.declared.command.Command.TheVariants.{Poll}
use Rattle.host_machine.specs.declared.command.Answer.{Answer}
use Rattle.host_machine.specs.Context.Note.{Note}
use Rattle.host_machine.specs.Context.Host.{Host, at, without_expired}
use Rattle.host_machine.specs.Receive.Reply.{Reply, IsDropped}
use Rattle.host_machine.specs.Packet.Frame.{sends}
use Rattle.host_machine.specs.Multicast.Joins.{join_packet, leave_packet}
use Rattle.host_machine.specs.Multicast.Igmp.{igmp_poll_at, igmp_timeout_of}
use Rattle.host_machine.specs.Multicast.Mld.{mld_timeout_of}
use Rattle.host_machine.specs.Context.Addresses.{ipv4_addr}
use Rattle.host_machine.specs.Discovery.RouterSolicitation.{NdiscRsEgress, rs_poll_at}
use Rattle.host_machine.specs.Context.Autoconfiguration.{with_slaac_applied}
use Rattle.host_machine.specs.Discovery.RouterSolicitation as slaac
use Rattle.host_machine.specs.Interface.Egress.{Egress}
use Rattle.host_machine.specs.Interface.Due.{Due}
use Rattle.host_machine.specs.Discovery.Polling.{sync_poll_at}
use Rattle.host_machine.specs.Interface.Due as due
use Rattle.host_machine.specs.Interface.Ingress.{Ingress, Takes}
use Rattle.host_machine.specs.Interface.Polling.{Repeats, Until, Polls, after_maintenance, is_changed, may_change}
use Rattle.host_machine.specs.Interface.Polling as polling
use Rattle.host_machine.specs.Interface.Run.{Transition, Run, Ends, Then}
use Rattle.host_machine.specs.Interface.Step.{Act, Step}
use Rattle.host_machine.specs.Interface.Step as step
use Rattle.host_laws.specs.Laws.Service.{IsDone, IsLater, all_granted}
use Rattle.host_laws.proofs.Receive.Malformed.{nothing_responded}
use Rattle.host_laws.proofs.Interface.SlaacPolls.{polls_sync_slaac}
use Rattle.host_laws.proofs.Interface.GrantedEgress.{all_untouched, dispatched_gone, given_parts, groups_way}
use Rattle.host_laws.proofs.Interface.GrantedEgress.{routers_way, to_sockets}
use Rattle.host_laws.proofs.Interface.DueWork.{all_kept, due_done, groups_kept, igmp_kept, mld_kept, piece_gone}
use Rattle.host_laws.specs.Progress.{ComeToRest, PollsComeToRest, RunsComeToRest, PollsMakeProgress, LeavesWorkDue, to_name, work}
use Rattle.host_machine.specs.Context.Real.{IsSound}
use Rattle.host_laws.proofs.QueuesAfterTurns.{CallLoads, NoLoad, LessLoad, call_loads, call_works}
use Rattle.host_laws.proofs.QueuesAfterTurns.{one_less_apart}
use Rattle.host_laws.proofs.GroupsToName.{groups_for_least, groups_least, igmp_less, igmp_named, join_reported_least}
use Rattle.host_laws.proofs.GroupsToName.{leave_reported_least}
use Rattle.host_laws.proofs.GroupsToName.{named, named_least, number_v4, report_address, report_time}

-- Instants

later_not : (o : Option ℤ) (t x : ℤ) → IsLater t o → o ≡ Some x → x ≤ℤ t → ⊥
later_not None t x l e le = absurd cc
later_not (Some y) t x l e le = let same : y ≡ x = cc in omega (arith, ints, l, same, le)

lt_of : (t x : ℤ) → is_lt (int_cmp t x) ≡ true → t <ℤ x
lt_of t x = by (int_cmp t x) (int_ranks t x) where
  by : (o : Ordering) → MatchOrdering o (t <ℤ x) (t ≡ x) (x <ℤ t) → is_lt o ≡ true → t <ℤ x
  by Less m e = m
  by Equal m e = absurd cc
  by Greater m e = absurd cc

-- what is listed has not ended
listed_later : (t x : ℤ) (xs : List ℤ) (i : ℕ) → slice_get (filter (is_before t) xs) i ≡ Some x → t <ℤ x
listed_later t x [] i e = absurd (let bad : None ≡ Some x = e in cc)
listed_later t x (y ∷ ys) i e = by (is_before t y) refl i e (λ k f. listed_later t x ys k f) where
  by : (b : Bool) → is_before t y ≡ b → (k : ℕ) → slice_get (cond b (y ∷ filter (is_before t) ys) (filter (is_before t) ys)) k ≡ Some x →
      ((j : ℕ) → slice_get (filter (is_before t) ys) j ≡ Some x → t <ℤ x) → t <ℤ x
  by true f zero g others = let same : y ≡ x = cc in subst (λ z. t <ℤ z) same (lt_of t y f)
  by true f (suc k) g others = others k g
  by false f k g others = others k g

-- A call that sends names no more groups

routers_named : {H new : Host} {told : List Event} {notes : List Note} → NdiscRsEgress H told notes new → named new ≡ named H
routers_named (slaac.NotDue d e m y) = ap named y
routers_named (slaac.NotGranted p d e m y) = ap named y
routers_named (slaac.Goes p o f mid d s e y) = ap named y ∙ ap named (dispatched_gone s)

record CallNames (t : ℤ) (old new : Host) : Type 0 where
  least : named new ≤ named old
  less : (x : ℤ) → igmp_poll_at new ≡ Some x → x ≤ℤ t → named new < named old

call_names : {t : ℤ} {answer : PollResult} {old new : Host} {told : List Event} {notes : List Note} →
    Egress t answer old told notes new → all_granted told ≡ true → CallNames t old new
call_names {t} {answer} {old} {new} e all =
    let a = e.round in
    let b = a.ends in
    let c = b.ends in
    let d = c.ends in
    let f = d.ends in
    let g = f.ends in
    let given_a = given_parts a.told_one a.told_two (sym (ap all_granted a.events) ∙ all) in
    let given_b = given_parts b.told_one b.told_two (sym (ap all_granted b.events) ∙ given_a.1) in
    let given_c = given_parts c.told_one c.told_two (sym (ap all_granted c.events) ∙ given_b.1) in
    let given_d = given_parts d.told_one d.told_two (sym (ap all_granted d.events) ∙ given_c.1) in
    let given_f = given_parts f.told_one f.told_two (sym (ap all_granted f.events) ∙ given_d.1) in
    let named_a : named a.mid ≡ named old = ap named (piece_gone a.begins) in
    let named_b : named b.mid ≡ named a.mid = routers_named b.begins in
    let report_c : c.mid.igmp_report ≡ b.mid.igmp_report =
    ap (λ (K : Host). K.igmp_report) (groups_kept Joining join_packet join_reported c.begins) in
    let report_d : d.mid.igmp_report ≡ c.mid.igmp_report =
    ap (λ (K : Host). K.igmp_report) (groups_kept Leaving leave_packet leave_reported d.begins) in
    let groups_c : number_v4 c.mid.groups ≤ number_v4 b.mid.groups =
    groups_least Joining join_packet join_reported join_reported_least c.begins in
    let groups_d : number_v4 d.mid.groups ≤ number_v4 c.mid.groups =
    groups_least Leaving leave_packet leave_reported leave_reported_least d.begins in
    let same_d : named d.mid ≡ to_name d.mid.groups b.mid.igmp_report = ap (to_name d.mid.groups) (report_d ∙ report_c) in
    let least_d : to_name d.mid.groups b.mid.igmp_report ≤ named b.mid =
    named_least d.mid.groups b.mid.groups b.mid.igmp_report (omega (arith, groups_c, groups_d)) in
    let report_new : new.igmp_report ≡ f.mid.igmp_report = ap (λ (K : Host). K.igmp_report) (all_kept g.ends)
    ∙ ap (λ (K : Host). K.igmp_report) (mld_kept g.begins) in
    let named_new : named new ≡ named f.mid = ap named (all_kept g.ends) ∙ ap named (mld_kept g.begins) in
    let addrs_new : new.ip_addrs ≡ d.mid.ip_addrs =
    ap (λ (K : Host). K.ip_addrs) (all_kept g.ends) ∙ ap (λ (K : Host). K.ip_addrs) (mld_kept g.begins)
    ∙ ap (λ (K : Host). K.ip_addrs) (igmp_kept f.begins) in
    let moment_d : d.mid.moment ≡ t = ap (λ (K : Host). K.moment) (groups_way Leaving leave_packet leave_reported d.begins)
    ∙ ap (λ (K : Host). K.moment) (groups_way Joining join_packet join_reported c.begins)
    ∙ ap (λ (K : Host). K.moment) (routers_way b.begins) ∙ ap (λ (K : Host). K.moment) (piece_gone a.begins) in
    let named_f : named f.mid ≤ named d.mid = igmp_named f.begins in
    record {
      least = omega (arith, named_a, named_b, same_d, least_d, named_new, named_f);
      less = λ x due le.
          let less_f : named f.mid < named d.mid = igmp_less x f.begins given_f.0
          (sym (ap igmp_timeout_of report_new) ∙ report_time new x due) (subst (λ m. x ≤ℤ m) (sym moment_d) le)
          (λ none. report_address new x due (ap ipv4_addr addrs_new ∙ none)) in
          omega (arith, named_a, named_b, same_d, least_d, named_new, less_f);
    }

-- A call that sends, after which something but a sync is due, leaves less work

call_least : {t : ℤ} {answer : PollResult} {old new : Host} {told : List Event} {notes : List Note} →
    Egress t answer old told notes new → all_granted told ≡ true → IsSound old → work new ≤ work old
call_least {old = old} {new = new} e all sound = by (call_loads (call_works e all sound.mtu)) (call_names e all).least where
  by : CallLoads old new → named new ≤ named old → work new ≤ work old
  by (NoLoad l c same) le = omega (arith, same, le)
  by (LessLoad less) le = omega (arith, less, le)

-- work that is due after a call is among what it left
call_less : {t : ℤ} {answer : PollResult} {old new : Host} {told : List Event} {notes : List Note} (x : ℤ) →
    Egress t answer old told notes new → all_granted told ≡ true → IsSound old → sync_poll_at (at new t) ≡ None →
    Due (at new t) x → x ≤ℤ t → work new < work old
call_less {t} {answer} {old} {new} {told} {notes} x e all sound synced named_due le =
    by (call_loads (call_works e all sound.mtu)) named_due where
      names : CallNames t old new
      names = call_names e all

      moment : new.moment ≡ t
      moment = let k = to_sockets e in ap (λ (K : Host). K.moment) (all_untouched k.sends_them).1.rest ∙ ap (λ (K : Host). K.moment) k.way

      done : IsDone (at old t) (at new t)
      done = subst (IsDone (at old t)) (ap (at new) moment) (due_done t answer old new told notes e all sound.waits)

      by : CallLoads old new → Due (at new t) x → work new < work old
      by (LessLoad less) d = omega (arith, less, names.least)
      by (NoLoad l c same) (due.OfPiece p) = absurd (let bad : [] ≡ p.first ∷ p.others = sym l ∙ p.are in cc)
      by (NoLoad l c same) (due.OfSync s) = absurd (let bad : None ≡ Some x = sym synced ∙ s in cc)
      by (NoLoad l c same) (due.OfSolicitation s) = absurd (later_not (rs_poll_at (at new t)) t x done.solicitation s le)
      by (NoLoad l c same) (due.OfPrefix i s) =
          let later : t <ℤ x = listed_later t x (map (λ (p : Prefix). p.info.valid_until) new.slaac.prefixes) i s in
          absurd (omega (arith, ints, later, le))
      by (NoLoad l c same) (due.OfRouter i s) =
          let later : t <ℤ x = listed_later t x (map (λ (r : Route). r.valid_until) new.slaac.routers) i s in
          absurd (omega (arith, ints, later, le))
      by (NoLoad l c same) (due.OfJoin s) = absurd (let bad : None ≡ Some x = sym done.joins ∙ s in cc)
      by (NoLoad l c same) (due.OfLeave s) = absurd (let bad : None ≡ Some x = sym done.leaves_reported ∙ s in cc)
      by (NoLoad l c same) (due.OfIgmpReport s) = omega (arith, same, names.less x s le)
      by (NoLoad l c same) (due.OfMldReport s) = absurd (later_not (mld_timeout_of new.mld_report) t x done.mld s le)
      by (NoLoad l c same) (due.OfSocket i s) =
          let one = done.sockets i x s le in
          absurd (one_less_apart old new i one.before one.after one.was one.is one.less c)

-- Calls without frames

handed_frames-append : (xs ys : List Event) → handed_frames (xs ++ ys) ≡ handed_frames xs ++ handed_frames ys
handed_frames-append [] ys = refl
handed_frames-append (Received t (Frame f) ∷ xs) ys = ap (λ fs. f ∷ fs) (handed_frames-append xs ys)
handed_frames-append (Received t Nothing ∷ xs) ys = handed_frames-append xs ys
handed_frames-append (Received t Withheld ∷ xs) ys = handed_frames-append xs ys
handed_frames-append (Asked t b ∷ xs) ys = handed_frames-append xs ys
handed_frames-append (Sent id f ∷ xs) ys = handed_frames-append xs ys

none_of : {A : Type 0} (xs ys : List A) → xs ++ ys ≡ [] → (xs ≡ []) × (ys ≡ [])
none_of [] ys e = (refl, e)
none_of (x ∷ xs) ys e = absurd cc

nothing_handed : (xs ys : List Event) → handed_frames (xs ++ ys) ≡ [] → (handed_frames xs ≡ []) × (handed_frames ys ≡ [])
nothing_handed xs ys e = none_of (handed_frames xs) (handed_frames ys) (sym (handed_frames-append xs ys) ∙ e)

dropped : (t : ℤ) (H : Host) (r : Reception) (es : List Event) (reply : Option Reply) (notes : List Note) (new : Host) →
    Takes H r reply notes new → handed_frames (Received t r ∷ es) ≡ [] → IsDropped H reply notes new
dropped t H Nothing es reply notes new k e = k
dropped t H Withheld es reply notes new k e = k
dropped t H (Frame f) es reply notes new k e = absurd cc

-- no more work, and all that a sound host has
record KeepsWork (old new : Host) : Type 0 where
  least : work new ≤ work old
  sound : IsSound new

kept : (old new : Host) → IsSound old → work new ≤ work old → new.sockets ≡ old.sockets → new.capabilities ≡ old.capabilities → KeepsWork old new
kept old new s le same caps = record {
  least = le;
  sound = record {
    waits = ap (λ k. length k.waits) same ∙ s.waits ∙ sym (ap (λ k. length k.places) same);
    mtu = subst (λ c. 576 ≤ ip_mtu_of c) (sym caps) s.mtu;
  };
}

ingress_keeps : {t : ℤ} {answer : PollIngressSingleResult} {old new : Host} {told : List Event} {notes : List Note} →
    Ingress t answer old told notes new → handed_frames told ≡ [] → IsSound old → KeepsWork old new
ingress_keeps {t} {answer} {old} {new} i none s =
    let d = dropped t (without_expired old t) i.reception (sends i.frames) i.response.reply i.response.notes_taking i.response.taken
    i.response.takes (sym (ap handed_frames i.events) ∙ none) in
    let r = nothing_responded d.silent i.response.responds in
    let e : new ≡ without_expired old t = r.2 ∙ d.unchanged in
    kept old new s (omega (arith, ap work e)) (ap (λ (K : Host). K.sockets) e) (ap (λ (K : Host). K.capabilities) e)

keeps_then : {a b c : Host} → KeepsWork a b → KeepsWork b c → KeepsWork a c
keeps_then x y = record { least = omega (arith, x.least, y.least); sound = y.sound }

receives_keep : {t : ℤ} {old new : Host} {n : ℕ} {told : List Event} {notes : List Note} {changed : Bool} →
    Repeats (Ingress t) ingress.None may_change old n told notes new changed → handed_frames told ≡ [] → IsSound old → KeepsWork old new
receives_keep polling.Begins none s = record { least = omega arith; sound = s }
receives_keep (polling.Again {told_so = so} answer told notes new r call other) none s =
    let parts = nothing_handed so told none in
    let k = receives_keep r parts.0 s in
    keeps_then k (ingress_keeps call parts.1 k.sound)

received_keeps : {t : ℤ} {budget : ℕ} {changed : Bool} {old new : Host} {told : List Event} {notes : List Note} →
    Until (Ingress t) ingress.None may_change budget changed old told notes new → handed_frames told ≡ [] → IsSound old → KeepsWork old new
received_keeps (polling.Spent r) none s = receives_keep r none s
received_keeps (polling.Done n so last notes_so notes_last mid less r call e f) none s =
    let parts = nothing_handed so last (sym (ap handed_frames e) ∙ none) in
    let k = receives_keep r parts.0 s in
    keeps_then k (ingress_keeps call parts.1 k.sound)

-- Calls that send

egress_keeps : {t : ℤ} {answer : PollResult} {old new : Host} {told : List Event} {notes : List Note} →
    Egress t answer old told notes new → all_granted told ≡ true → IsSound old → KeepsWork old new
egress_keeps {t} {old = old} {new = new} e all s =
    let k = to_sockets e in
    let whole = (all_untouched k.sends_them).1 in
    let same : k.mid.sockets ≡ old.sockets = ap (λ (K : Host). K.sockets) k.way in
    let caps : new.capabilities ≡ old.capabilities = ap (λ (K : Host). K.capabilities) whole.rest ∙ ap (λ (K : Host). K.capabilities) k.way in
    record {
      least = call_least e all s;
      sound = record {
        waits = whole.waits ∙ ap (λ t. length t.waits) same ∙ s.waits ∙ sym (ap (λ t. length t.places) same) ∙ sym whole.places;
        mtu = subst (λ c. 576 ≤ ip_mtu_of c) (sym caps) s.mtu;
      };
    }

sends_keep : {t : ℤ} {old new : Host} {n : ℕ} {told : List Event} {notes : List Note} {changed : Bool} →
    Repeats (Egress t) result.None is_changed old n told notes new changed → all_granted told ≡ true → IsSound old → KeepsWork old new
sends_keep polling.Begins all s = record { least = omega arith; sound = s }
sends_keep (polling.Again {told_so = so} answer told notes new r call other) all s =
    let parts = given_parts so told all in
    let k = sends_keep r parts.0 s in
    keeps_then k (egress_keeps call parts.1 k.sound)

sent_keeps : {t : ℤ} {budget : ℕ} {changed : Bool} {old new : Host} {told : List Event} {notes : List Note} →
    Until (Egress t) result.None is_changed budget changed old told notes new → all_granted told ≡ true → IsSound old → KeepsWork old new
sent_keeps (polling.Spent r) all s = sends_keep r all s
sent_keeps (polling.Done n so last notes_so notes_last mid less r call e f) all s =
    let parts = given_parts so last (sym (ap all_granted e) ∙ all) in
    let k = sends_keep r parts.0 s in
    keeps_then k (egress_keeps call parts.1 k.sound)

-- the last of them does some, if something is due after it
module _ {t : ℤ} {new : Host} (x : ℤ) (synced : sync_poll_at (at new t) ≡ None) (due_is : Due (at new t) x) (le : x ≤ℤ t) where
  last_less : {old mid : Host} {answer : PollResult} {told : List Event} {notes : List Note} →
      KeepsWork old mid → Egress t answer mid told notes new → all_granted told ≡ true → work new < work old
  last_less k call all = omega (arith, k.least, call_less x call all k.sound synced due_is le)

  sends_less : {old : Host} {n : ℕ} {told : List Event} {notes : List Note} {changed : Bool} →
      Repeats (Egress t) result.None is_changed old n told notes new changed → 1 ≤ n → all_granted told ≡ true → IsSound old → work new < work old
  sends_less polling.Begins some all s = absurd (omega (arith, some))
  sends_less (polling.Again {told_so = so} answer told notes new r call other) some all s =
      let parts = given_parts so told all in last_less (sends_keep r parts.0 s) call parts.1

  sent_less : {budget : ℕ} {changed : Bool} {old : Host} {told : List Event} {notes : List Note} →
      Until (Egress t) result.None is_changed budget changed old told notes new → 1 ≤ budget → all_granted told ≡ true → IsSound old →
      work new < work old
  sent_less (polling.Spent r) some all s = sends_less r some all s
  sent_less (polling.Done n so last notes_so notes_last mid less r call e f) some all s =
      let parts = given_parts so last (sym (ap all_granted e) ∙ all) in last_less (sends_keep r parts.0 s) call parts.1

-- Maintenance

maintained : (H : Host) (t : ℤ) → IsSound H → KeepsWork H (after_maintenance (at H t))
maintained H t s = by (sync_required H.slaac t) where
  groups : number_v4 (with_slaac_applied (without_expired H t)).groups ≤ number_v4 H.groups
  groups = groups_for_least H.hardware_addr (with_slaac_applied (without_expired H t)).ip_addrs H.group_room H.groups

  by : (b : Bool) → KeepsWork H (if b then with_slaac_applied (without_expired H t) else without_expired H t)
  by true = kept H (with_slaac_applied (without_expired H t)) s
      (omega (arith, named_least (with_slaac_applied (without_expired H t)).groups H.groups H.igmp_report groups)) refl refl
  by false = kept H (without_expired H t) s (omega arith) refl refl

-- Polls

poll_keeps : {t : ℤ} {budget : ℕ} {answer : PollResult} {old new : Host} {told : List Event} {notes : List Note} →
    Polls t budget answer old told notes new → handed_frames told ≡ [] → all_granted told ≡ true → IsSound old → KeepsWork old new
poll_keeps {t} {old = old} p none all s =
    let parts = nothing_handed p.told_receiving p.told_sending (sym (ap handed_frames p.events) ∙ none) in
    let given = given_parts p.told_receiving p.told_sending (sym (ap all_granted p.events) ∙ all) in
    let k = maintained old t s in
    let m = received_keeps p.receives parts.0 k.sound in
    keeps_then k (keeps_then m (sent_keeps p.sends given.1 m.sound))

pub make_progress : PollsMakeProgress
make_progress t budget answer old new told notes x p some none all s due_is le =
    let parts = nothing_handed p.told_receiving p.told_sending (sym (ap handed_frames p.events) ∙ none) in
    let given = given_parts p.told_receiving p.told_sending (sym (ap all_granted p.events) ∙ all) in
    let k = maintained old t s in
    let m = received_keeps p.receives parts.0 k.sound in
    let less : work new < work p.mid =
    sent_less x (polls_sync_slaac t budget answer old new told notes p none) due_is le p.sends some given.1 m.sound in
    omega (arith, k.least, m.least, less)

-- a transition by a poll
polls_of : {command : Command} {answer : Answer} {old new : Host} {told : List Event} {acts : List Act} {notes : List Note} {t : ℤ} {budget : ℕ} →
    Step command answer old told acts notes new → command ≡ Poll t budget → (r : PollResult) × Polls t budget r old told notes new
polls_of {t = t} {budget = budget} (step.Polled {t = s} {budget = n} {result = r} {old = old} {new = new} {told = told} {notes = notes} p) e =
    let moment : s ≡ t = cc in
    let spent : n ≡ budget = cc in
    (r, subst (λ k. Polls k budget r old told notes new) moment (subst (λ k. Polls s k r old told notes new) spent p))
polls_of other e = absurd cc

pub come_to_rest : PollsComeToRest
come_to_rest t first last transitions run busy sound = by run busy sound where
  by : {first last : Host} {transitions : List Transition} → Run first transitions last → AllByRecursion (LeavesWorkDue t) transitions → IsSound first →
      length transitions + work last ≤ work first
  by Ends busy s = omega arith
  by (Then {old = old} {mid = mid} {told = told} {notes = notes} s run) busy sound =
      let b = busy.0 in
      let p = polls_of s b.poll in
      let less = make_progress t b.budget p.0 old mid told notes b.instant p.1 b.some b.no_frame b.granted sound b.due b.by_now in
      omega (arith, less, by run busy.1 (poll_keeps p.1 b.no_frame b.granted sound).sound)

-- a run begins with a run
begun : {first last : Host} (ps qs : List Transition) → Run first (ps ++ qs) last → (mid : Host) × Run first ps mid
begun {first} [] qs r = (first, Ends)
begun (p ∷ ps) qs (Then s r) = let more = begun ps qs r in (more.0, Then s more.1)

pub runs_rest : RunsComeToRest
runs_rest first last transitions run = by run where
  by : {first last : Host} {transitions : List Transition} → Run first transitions last → ComeToRest transitions
  by Ends = tt
  by {first} {last} (Then {transitions = ps} s r) = (
    λ sound t busy others is all_busy.
        let front = begun busy others (subst (λ qs. Run first qs last) is (Then s r)) in
        let least = come_to_rest t first front.0 busy front.1 all_busy sound in omega (arith, least),
    by r,
  )
