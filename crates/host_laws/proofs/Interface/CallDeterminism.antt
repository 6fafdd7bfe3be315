-- What a call that takes a frame does, and what a poll does, is determined by the host and by what the device answers, but for which
-- neighbour makes room.
use Rattle.std.proofs.Common.{◌≡◌, ◌⊎◌, ℕ, List, [], ◌∷◌, ◌++◌, refl, sym, ◌∙◌, ap, inl, inr, Option, Some, None}
use Rattle.std.specs.Prelude.{ℤ, Bool, ◌||◌}
use Rattle.net_base.specs.Device.{Event, Received, Asked, Sent, Reception, grants}
use Rattle.host_machine.specs.declared.results.PollIngressSingleResult.{PollIngressSingleResult}
use Rattle.host_machine.specs.declared.results.PollIngressSingleResult.TheVariants as ingress
use Rattle.host_machine.specs.declared.results.PollResult.{PollResult}
use Rattle.host_machine.specs.declared.results.PollResult.TheVariants as result
use Rattle.host_machine.specs.Context.Note.{Note}
use Rattle.host_machine.specs.Context.Host.{Host, at, without_expired}
use Rattle.host_machine.specs.Receive.Reply.{Reply, Arp, Ip}
use Rattle.host_machine.specs.Packet.Frame.{sends}
use Rattle.host_machine.specs.Receive.Response.{Responds}
use Rattle.host_machine.specs.Interface.Ingress.{Ingress, answer_to}
use Rattle.host_machine.specs.Interface.Egress.{Egress, answer_of}
use Rattle.host_machine.specs.Interface.Polling.{Polls, may_change, is_changed, after_maintenance}
use Rattle.host_laws.specs.Laws.Determined.{OtherMadeRoom, IsOneReception, IsOneCall, IngressDiffers}
use Rattle.host_laws.specs.Laws.Determined.{IngressIsDetermined, PollsDiffer, PollIsDetermined, receptions}
use Rattle.host_laws.proofs.Send.DispatchDeterminism.{dispatches_once}
use Rattle.host_laws.proofs.Receive.ReceiveDeterminism.{received_once}
use Rattle.host_laws.proofs.Interface.PartDeterminism.{Splits, split, before, behind, joined}
use Rattle.host_laws.proofs.Interface.EgressDeterminism.{grants-append, egress_on}
use Rattle.host_laws.proofs.Interface.LoopDeterminism.{Parted, parted_on, until_once}

pub receptions-append : (xs ys : List Event) → receptions (xs ++ ys) ≡ receptions xs ++ receptions ys
receptions-append [] ys = refl
receptions-append (Received t r ∷ xs) ys = ap (λ rs. r ∷ rs) (receptions-append xs ys)
receptions-append (Asked t b ∷ xs) ys = receptions-append xs ys
receptions-append (Sent id f ∷ xs) ys = receptions-append xs ys

-- one reply is sent once
record IsOneReply (f f' : List (List ℕ)) (n n' : List Note) (x x' : Host) : Type 0 where
  frames_are : f ≡ f'
  notes_are : n ≡ n'
  host_is : x ≡ x'

responds_once : (reply : Option Reply) (H : Host) {x x' : Host} {f f' : List (List ℕ)} {n n' : List Note} →
    Responds reply H f n x → Responds reply H f' n' x' → IsOneReply f f' n n' x x'
responds_once None H r s = record { frames_are = r.0 ∙ sym s.0; notes_are = r.1 ∙ sym s.1; host_is = r.2 ∙ sym s.2 }
responds_once (Some (Arp packet)) H r s = record { frames_are = r.0 ∙ sym s.0; notes_are = r.1 ∙ sym s.1; host_is = r.2 ∙ sym s.2 }
responds_once (Some (Ip packet)) H {x} {x'} {f} {f'} {n} {n'} r s =
    let one = dispatches_once packet r.0 s.0 H x x' f f' n n' r.1 s.1 in
    record { frames_are = one.frames_are; notes_are = one.notes_are; host_is = one.host_is }

pub ingress_on : (t : ℤ) (answer answer' : PollIngressSingleResult) (old : Host) (told told' : List Event) (notes notes' : List Note)
    (new new' : Host) (rest rest' : List Reception) →
    Ingress t answer old told notes new → Ingress t answer' old told' notes' new' → receptions told ++ rest ≡ receptions told' ++ rest' →
    IsOneCall answer answer' told told' notes notes' new new' ⊎ IngressDiffers t old told told' notes notes' new new'
ingress_on t answer answer' old told told' notes notes' new new' rest rest' p q same =
    elim taken.taken_is [
      | inl one ↦ (let sent = responds_once p.response.reply p.response.taken p.response.responds (rw (taken.reply_is, one) q.response.responds) in
          inl (record {
            answer_is = p.answers ∙ ap answer_to given ∙ sym q.answers;
            told_is = p.events ∙ ap (λ r. Received t r ∷ sends p.frames) given
                ∙ ap (λ fs. Received t q.reception ∷ sends fs) sent.frames_are ∙ sym q.events;
            notes_are = joined (split p.response.notes_taking p.response.notes_responding p.response.all_notes)
                (split q.response.notes_taking q.response.notes_responding q.response.all_notes) taken.noted_is sent.notes_are;
            host_is = sent.host_is;
          }))
      | inr room ↦ inr (record {
        answer = answer;
        one = p;
        other =
            record { reception = q.reception; frames = q.frames; response = q.response; events = q.events; answers = p.answers ∙ ap answer_to given };
        same_reception = given;
        same_reply = taken.reply_is;
        same_notes = taken.noted_is;
        room = room;
      })
    ] where
      given : p.reception ≡ q.reception
      given =
          let lists : p.reception ∷ (receptions (sends p.frames) ++ rest) ≡ q.reception ∷ (receptions (sends q.frames) ++ rest') =
          rw (p.events, q.events) at same in
          cc

      taken : IsOneReception p.response.reply q.response.reply p.response.notes_taking q.response.notes_taking p.response.taken q.response.taken
      taken = received_once p.reception (without_expired old t) p.response.taken q.response.taken p.response.reply q.response.reply
          p.response.notes_taking q.response.notes_taking p.response.takes (rw given q.response.takes)

pub ingress_once : IngressIsDetermined
ingress_once t answer answer' old new new' told told' notes notes' p q same =
    ingress_on t answer answer' old told told' notes notes' new new' [] [] p q (ap (λ z. z ++ []) same)

-- two calls that differ, whatever is noted in them and wherever they lead
record CallsDiffer (t : ℤ) (old : Host) (told told' : List Event) : Type 0 where
  notes : List Note
  notes' : List Note
  new : Host
  new' : Host
  differ : IngressDiffers t old told told' notes notes' new new'

other_way : {x x' : Host} → OtherMadeRoom x x' → OtherMadeRoom x' x
other_way m = record {
  before = m.before;
  address = m.address;
  neighbor = m.neighbor;
  unknown = m.unknown;
  full = m.full;
  one = m.other;
  other = m.one;
  one_ends_first = m.other_ends_first;
  other_ends_first = m.one_ends_first;
  apart = λ e. m.apart (sym e);
  by_one = m.by_other;
  by_other = m.by_one;
}

calls_flip : (t : ℤ) (old : Host) (told told' : List Event) → CallsDiffer t old told told' → CallsDiffer t old told' told
calls_flip t old told told' c = record {
  notes = c.notes';
  notes' = c.notes;
  new = c.new';
  new' = c.new;
  differ = record {
    answer = c.differ.answer;
    one = c.differ.other;
    other = c.differ.one;
    same_reception = sym c.differ.same_reception;
    same_reply = sym c.differ.same_reply;
    same_notes = sym c.differ.same_notes;
    room = other_way c.differ.room;
  };
}

call_on : (t : ℤ) (answer answer' : PollIngressSingleResult) (old : Host) (told told' : List Event) (notes notes' : List Note)
    (new new' : Host) (rest rest' : List Reception) →
    Ingress t answer old told notes new → Ingress t answer' old told' notes' new' → receptions told ++ rest ≡ receptions told' ++ rest' →
    IsOneCall answer answer' told told' notes notes' new new' ⊎ CallsDiffer t old told told'
call_on t answer answer' old told told' notes notes' new new' rest rest' p q same =
    elim (ingress_on t answer answer' old told told' notes notes' new new' rest rest' p q same) [
      | inl one ↦ inl one
      | inr differ ↦ inr (record { notes = notes; notes' = notes'; new = new; new' = new'; differ = differ })
    ]

-- calls that send never differ
abbrev Never : Host → List Event → List Event → Type 0
Never H told told' = ⊥

round_on : (t : ℤ) (answer answer' : PollResult) (old : Host) (told told' : List Event) (notes notes' : List Note)
    (new new' : Host) (rest rest' : List Bool) →
    Egress t answer old told notes new → Egress t answer' old told' notes' new' → grants told ++ rest ≡ grants told' ++ rest' →
    IsOneCall answer answer' told told' notes notes' new new' ⊎ ⊥
round_on t answer answer' old told told' notes notes' new new' rest rest' p q same =
    inl (egress_on t answer answer' old told told' notes notes' new new' rest rest' p q same)

pub poll_on : (t : ℤ) (budget : ℕ) (answer answer' : PollResult) (old new new' : Host) (told told' : List Event) (notes notes' : List Note)
    (rest rest' : List Reception) (more more' : List Bool) →
    Polls t budget answer old told notes new → Polls t budget answer' old told' notes' new' → receptions told ++ rest ≡ receptions told' ++ rest' →
    grants told ++ more ≡ grants told' ++ more' →
    IsOneCall answer answer' told told' notes notes' new new' ⊎ PollsDiffer t old told told'
poll_on t budget answer answer' old new new' told told' notes notes' rest rest' more more' p q same_given same_grants =
    elim (until_once receptions receptions-append (Ingress t) ingress.None may_change (CallsDiffer t) (calls_flip t) (call_on t)
    (receptions p.told_sending ++ rest) (receptions q.told_sending ++ rest') p.receives q.receives
    (before receptions receptions-append rest rest' one other same_given)) [
      | inl so_far ↦ inl (sent so_far)
      | inr parted ↦ inr (differs
          (parted_on receptions receptions-append (Ingress t) ingress.None may_change (CallsDiffer t) (calls_flip t) (call_on t) one other parted))
    ] where
      one : Splits told p.told_receiving p.told_sending
      one = split p.told_receiving p.told_sending p.events

      other : Splits told' q.told_receiving q.told_sending
      other = split q.told_receiving q.told_sending q.events

      sent : IsOneCall p.received q.received p.told_receiving q.told_receiving p.notes_receiving q.notes_receiving p.mid q.mid →
          IsOneCall answer answer' told told' notes notes' new new'
      sent so_far =
          elim (until_once grants grants-append (Egress t) result.None is_changed Never (λ H a b never. never)
          (round_on t) more more' p.sends (rw so_far.host_is q.sends)
          (behind grants grants-append more more' one other so_far.told_is same_grants)) [
            | inl gone ↦ record {
              answer_is = p.answers ∙ ap (λ z. answer_of (z || p.went)) so_far.answer_is
                  ∙ ap (λ z. answer_of (q.received || z)) gone.answer_is ∙ sym q.answers;
              told_is = joined one other so_far.told_is gone.told_is;
              notes_are = joined (split p.notes_receiving p.notes_sending p.all_notes)
                  (split q.notes_receiving q.notes_sending q.all_notes) so_far.notes_are gone.notes_are;
              host_is = gone.host_is;
            }
            | inr parted ↦ absurd parted.differ
          ]

      differs : Parted receptions receptions-append (Ingress t) ingress.None may_change (CallsDiffer t) (calls_flip t) (call_on t)
          (after_maintenance (at old t)) told told' → PollsDiffer t old told told'
      differs d = record {
        calls = d.calls;
        changed = d.changed;
        told_so = d.told_so;
        notes_so = d.notes_so;
        mid = d.mid;
        so_far = d.so_far;
        next = d.next;
        next' = d.next';
        notes_next = d.differ.notes;
        notes_next' = d.differ.notes';
        new = d.differ.new;
        new' = d.differ.new';
        differ = d.differ.differ;
        more = d.more;
        more' = d.more';
        told_is = d.told_is;
        told_is' = d.told_is';
      }

pub poll_once : PollIsDetermined
poll_once t budget answer answer' old new new' told told' notes notes' p q given leave =
    poll_on t budget answer answer' old new new' told told' notes notes' [] [] [] [] p q (ap (λ z. z ++ []) given) (ap (λ z. z ++ []) leave)
