-- Polls bring addresses and routes into line, and end in a call that sends.
use Rattle.std.proofs.Common.{◌≡◌, ℕ, ◌≤◌, ◌==◌, Bool, true, false, List, [], ◌∷◌, ◌++◌, refl, sym, ◌∙◌, ap, append_assoc, Option, Some, None, arith}
use Rattle.std.proofs.lemmas.Map.Views.{any-filter_same}
use Rattle.std.specs.Prelude.{if◌then◌else◌, ℤ, pos, not, filter}
use Rattle.std.specs.List.{list_any}
use Rattle.net_base.specs.Device.{Event, Received, Asked, Sent, Reception, Frame, Nothing, Withheld, handed_frames}
use Rattle.iface_tables.specs.declared.groups.GroupState.TheVariants.{Joining, Leaving}
use Rattle.iface_tables.specs.Groups.{join_reported, leave_reported}
use Rattle.iface_tables.specs.declared.slaac.Phase.TheVariants as phase
use Rattle.iface_tables.specs.Slaac.{SlaacState, is_its_time, is_prefix_valid, is_route_valid, rs_sent, slaac_after_sent, sync_required, slaac_after_update}
use Rattle.host_machine.specs.declared.results.PollIngressSingleResult.{PollIngressSingleResult}
use Rattle.host_machine.specs.declared.results.PollIngressSingleResult.TheVariants as ingress
use Rattle.host_machine.specs.declared.results.PollResult.{PollResult}
use Rattle.host_machine.specs.declared.results.PollResult.TheVariants as result
use Rattle.host_machine.specs.Context.Note.{Note}
use Rattle.host_machine.specs.Context.Host.{Host, at, without_expired}
use Rattle.host_machine.specs.Packet.Frame.{sends}
use Rattle.host_machine.specs.Multicast.Joins.{join_packet, leave_packet}
use Rattle.host_machine.specs.Discovery.RouterSolicitation.{NdiscRsEgress}
use Rattle.host_machine.specs.Context.Autoconfiguration.{with_slaac_applied, after_sync}
use Rattle.host_machine.specs.Discovery.RouterSolicitation as slaac
use Rattle.host_machine.specs.Interface.Ingress.{Ingress, Takes}
use Rattle.host_machine.specs.Interface.Egress.{Egress}
use Rattle.host_machine.specs.Receive.Reply.{Reply, IsDropped}
use Rattle.host_machine.specs.Interface.Polling.{Repeats, Until, is_changed, may_change}
use Rattle.host_machine.specs.Interface.Polling as polling
use Rattle.host_laws.specs.Laws.Service.{EndsIn, PollsSyncSlaac, PollsEndInCalls}
use Rattle.host_laws.proofs.Receive.Malformed.{nothing_responded}
use Rattle.host_laws.proofs.Interface.GrantedEgress.{dispatched_gone}
use Rattle.host_laws.proofs.Interface.DueWork.{all_kept, groups_kept, igmp_kept, mld_kept, piece_gone}

-- what was learnt, as far as addresses and routes follow it
abbrev line_of : SlaacState → SlaacState
line_of s = record s { phase = phase.Start; retry_at = pos 0; left = 0 }

sent_line : (s : SlaacState) (t : ℤ) → line_of (rs_sent s t) ≡ line_of s
sent_line s t = by (is_its_time s t) (s.left == 0) where
  by : (b c : Bool) → line_of (if b then (if c then record s { phase = phase.None } else slaac_after_sent s t) else s) ≡ line_of s
  by true true = refl
  by true false = refl
  by false c = refl

routers_line : {H new : Host} {told : List Event} {notes : List Note} → NdiscRsEgress H told notes new → line_of new.slaac ≡ line_of H.slaac
routers_line (slaac.NotDue d e m y) = ap (λ (K : Host). line_of K.slaac) y
routers_line (slaac.NotGranted p d e m y) = ap (λ (K : Host). line_of K.slaac) y
routers_line (slaac.Goes p o f mid d s e y) = ap (λ (K : Host). line_of K.slaac) y ∙ sent_line mid.slaac mid.moment
    ∙ ap (λ (K : Host). line_of K.slaac) (dispatched_gone s)

egress_line : {t : ℤ} {answer : PollResult} {old new : Host} {told : List Event} {notes : List Note} →
    Egress t answer old told notes new → line_of new.slaac ≡ line_of old.slaac
egress_line e =
    let a = e.round in
    let b = a.ends in
    let c = b.ends in
    let d = c.ends in
    let f = d.ends in
    let g = f.ends in
    ap (λ (K : Host). line_of K.slaac) (all_kept g.ends) ∙ ap (λ (K : Host). line_of K.slaac) (mld_kept g.begins)
    ∙ ap (λ (K : Host). line_of K.slaac) (igmp_kept f.begins)
    ∙ ap (λ (K : Host). line_of K.slaac) (groups_kept Leaving leave_packet leave_reported d.begins)
    ∙ ap (λ (K : Host). line_of K.slaac) (groups_kept Joining join_packet join_reported c.begins)
    ∙ routers_line b.begins ∙ ap (λ (K : Host). line_of K.slaac) (piece_gone a.begins)

-- calls that receive, without a frame

handed_frames-append : (xs ys : List Event) → handed_frames (xs ++ ys) ≡ handed_frames xs ++ handed_frames ys
handed_frames-append [] ys = refl
handed_frames-append (Received t (Frame f) ∷ xs) ys = ap (λ fs. f ∷ fs) (handed_frames-append xs ys)
handed_frames-append (Received t Nothing ∷ xs) ys = handed_frames-append xs ys
handed_frames-append (Received t Withheld ∷ xs) ys = handed_frames-append xs ys
handed_frames-append (Asked t b ∷ xs) ys = handed_frames-append xs ys
handed_frames-append (Sent id f ∷ xs) ys = handed_frames-append xs ys

none_of : {A : Type 0} (xs ys : List A) → xs ++ ys ≡ [] → (xs ≡ []) × (ys ≡ [])
none_of [] ys e = (refl, e)
none_of (x ∷ xs) ys e = absurd cc

nothing_handed : (xs ys : List Event) → handed_frames (xs ++ ys) ≡ [] → (handed_frames xs ≡ []) × (handed_frames ys ≡ [])
nothing_handed xs ys e = none_of (handed_frames xs) (handed_frames ys) (sym (handed_frames-append xs ys) ∙ e)

taken_line : (t : ℤ) (H : Host) (r : Reception) (es : List Event) (reply : Option Reply) (notes : List Note) (new : Host) →
    Takes H r reply notes new → handed_frames (Received t r ∷ es) ≡ [] → IsDropped H reply notes new
taken_line t H Nothing es reply notes new k e = k
taken_line t H Withheld es reply notes new k e = k
taken_line t H (Frame f) es reply notes new k e = absurd cc

ingress_line : {t : ℤ} {answer : PollIngressSingleResult} {old new : Host} {told : List Event} {notes : List Note} →
    Ingress t answer old told notes new → handed_frames told ≡ [] → line_of new.slaac ≡ line_of old.slaac
ingress_line {t} {answer} {old} {new} {told} {notes} i none =
    let d = taken_line t (without_expired old t) i.reception (sends i.frames) i.response.reply i.response.notes_taking i.response.taken
    i.response.takes (sym (ap handed_frames i.events) ∙ none) in
    let r = nothing_responded d.silent i.response.responds in
    ap (λ (K : Host). line_of K.slaac) (r.2 ∙ d.unchanged)

receives_line : {t : ℤ} {old new : Host} {n : ℕ} {told : List Event} {notes : List Note} {changed : Bool} →
    Repeats (Ingress t) ingress.None may_change old n told notes new changed → handed_frames told ≡ [] →
    line_of new.slaac ≡ line_of old.slaac
receives_line polling.Begins none = refl
receives_line (polling.Again {told_so = so} answer told notes new r call other) none =
    let parts = nothing_handed so told none in
    ingress_line call parts.1 ∙ receives_line r parts.0

received_line : {t : ℤ} {budget : ℕ} {changed : Bool} {old new : Host} {told : List Event} {notes : List Note} →
    Until (Ingress t) ingress.None may_change budget changed old told notes new → handed_frames told ≡ [] →
    line_of new.slaac ≡ line_of old.slaac
received_line (polling.Spent r) none = receives_line r none
received_line (polling.Done n so last notes_so notes_last mid less r call e f) none =
    let parts = nothing_handed so last (sym (ap handed_frames e) ∙ none) in
    ingress_line call parts.1 ∙ receives_line r parts.0

sends_line : {t : ℤ} {old new : Host} {n : ℕ} {told : List Event} {notes : List Note} {changed : Bool} →
    Repeats (Egress t) result.None is_changed old n told notes new changed → line_of new.slaac ≡ line_of old.slaac
sends_line polling.Begins = refl
sends_line (polling.Again answer told notes new r call other) = egress_line call ∙ sends_line r

sent_all_line : {t : ℤ} {budget : ℕ} {changed : Bool} {old new : Host} {told : List Event} {notes : List Note} →
    Until (Egress t) result.None is_changed budget changed old told notes new →
    line_of new.slaac ≡ line_of old.slaac
sent_all_line (polling.Spent r) = sends_line r
sent_all_line (polling.Done n so last notes_so notes_last mid less r call e f) = egress_line call ∙ sends_line r

-- maintenance

not_true : (b : Bool) → not b ≡ true → b ≡ false
not_true true e = absurd cc
not_true false e = refl

held : {A : Type 0} (test : A → Bool) (xs : List A) → list_any (λ x. not (test x)) (filter test xs) ≡ false
held test xs = any-filter_same (λ x. not (test x)) test false (λ k e. not_true (test k) e) xs

updated_line : (s : SlaacState) (t : ℤ) → sync_required (slaac_after_update s t) t ≡ false
updated_line s t = rw (held (is_prefix_valid t) s.prefixes, held (is_route_valid t) s.routers) refl

maintained_line : (H : Host) → sync_required (after_sync H).slaac H.moment ≡ false
maintained_line H = by (sync_required H.slaac H.moment) refl where
  by : (b : Bool) → sync_required H.slaac H.moment ≡ b → sync_required (if b then with_slaac_applied H else H).slaac H.moment ≡ false
  by true e = updated_line H.slaac H.moment
  by false e = e

pub polls_sync_slaac : PollsSyncSlaac
polls_sync_slaac t budget answer old new told notes p none =
    let parts = nothing_handed p.told_receiving p.told_sending (sym (ap handed_frames p.events) ∙ none) in
    let line = sent_all_line p.sends ∙ received_line p.receives parts.0 in
    let in_line_is : sync_required new.slaac t ≡ false = ap (λ l. sync_required l t) line ∙ maintained_line (without_expired (at old t) t) in
    ap (λ b. if b then Some (pos 0) else None) in_line_is

-- The last call

ends_in : {t : ℤ} {old new : Host} {n : ℕ} {told : List Event} {notes : List Note} {changed : Bool} →
    Repeats (Egress t) result.None is_changed old n told notes new changed → 1 ≤ n → EndsIn t told new
ends_in polling.Begins some = absurd (omega (arith, some))
ends_in (polling.Again {told_so = so} {mid = mid} answer told notes new r call other) some =
    record { mid = mid; answer = answer; front = so; told_last = told; notes_last = notes; call = call; behind = refl }

until_ends_in : {t : ℤ} {budget : ℕ} {changed : Bool} {old new : Host} {told : List Event} {notes : List Note} →
    Until (Egress t) result.None is_changed budget changed old told notes new → 1 ≤ budget → EndsIn t told new
until_ends_in (polling.Spent r) some = ends_in r some
until_ends_in (polling.Done n so last notes_so notes_last mid less r call e f) some =
    record { mid = mid; answer = result.None; front = so; told_last = last; notes_last = notes_last; call = call; behind = e }

-- and so does all that a poll does
behind_all : {t : ℤ} {new : Host} {told sending : List Event} (receiving : List Event) → told ≡ receiving ++ sending → EndsIn t sending new →
    EndsIn t told new
behind_all receiving is e = record {
  mid = e.mid;
  answer = e.answer;
  front = receiving ++ e.front;
  told_last = e.told_last;
  notes_last = e.notes_last;
  call = e.call;
  behind = is ∙ ap (λ x. receiving ++ x) e.behind ∙ sym (append_assoc receiving e.front e.told_last);
}

pub polls_end_in_calls : PollsEndInCalls
polls_end_in_calls t budget answer old new told notes p some = behind_all p.told_receiving p.events (until_ends_in p.sends some)
