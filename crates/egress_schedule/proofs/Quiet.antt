-- A socket that waits as it is written down, and keeps its packet.
use Rattle.std.specs.Prelude.{ℕ, ℤ, ◌≡◌, ◌&&◌, ◌||◌, not, Bool, true, false, is_none, Option, Some, None, refl}
use Rattle.std.specs.Ordering.{int_eq}
use Rattle.std.proofs.Common.{sym, ap, ◌∙◌}
use Rattle.std.proofs.lemmas.Bool.{and_parts}
use Rattle.ip_address.specs.declared.ip.IpAddress.{IpAddress}
use Rattle.sockets.specs.Source.{is_same}
use Rattle.socket_set.specs.SocketMeta.{Wait, is_wait}
use Rattle.socket_set.specs.SocketSet.{socket_at, wait_of}
use Rattle.egress_schedule.specs.declared.watch.Waiting.{Waiting}
use Rattle.egress_schedule.specs.declared.watch.Watch.{Watch}
use Rattle.egress_schedule.specs.Patience.{is_at_end, is_given_up, is_recent, is_second_over, must_go}
use Rattle.egress_schedule.specs.Plan.{Planned, watch_at}
use Rattle.egress_schedule.specs.Queues.{has_others, is_crowded}
use Rattle.egress_schedule.specs.Details.Settled.{is_quiet, is_settled, is_settled_as}
use Rattle.egress_schedule.proofs.AllSettled.{if_not, none_if}

both_false : (a b : Bool) → (a && (b && false)) ≡ false
both_false true true = refl
both_false true false = refl
both_false false b = refl

module _ {L : Type 0} where
  -- the packet of a socket that gave none up, and whose request may still be answered, needn't make room
  may_stay : (now : ℤ) (i : ℕ) (r : Planned L) (w : Waiting) →
      is_second_over now w.asked ≡ false → (watch_at i r).dropped ≡ None → must_go now i r w ≡ false
  may_stay now i r w asked dropped =
      let s = socket_at r.sockets i in
      ap (λ (b : Bool). has_others s && (b || is_crowded s && is_recent now (watch_at i r).dropped)) asked
      ∙ (ap (λ (at : Option ℤ). has_others s && (is_crowded s && is_recent now at)) dropped
      ∙ both_false (has_others s) (is_crowded s))

  -- so it keeps its packet, whatever is queued behind it
  pub quiet_keeps : (now : ℤ) (i : ℕ) (r : Planned L) (watch : Watch) (w : Waiting) → watch ≡ watch_at i r →
      is_quiet r.plan.patience now watch w ≡ true → not (is_given_up r.plan.patience now (must_go now i r w) watch.unreachable w) ≡ true
  quiet_keeps now i r watch w here quiet =
      let patience = r.plan.patience in
      let first = and_parts (is_none watch.unreachable) _ quiet in
      let second = and_parts (is_none watch.dropped) _ first.1 in
      let third = and_parts (not (is_second_over now w.asked)) _ second.1 in
      let dropped : (watch_at i r).dropped ≡ None = ap (λ (v : Watch). v.dropped) (sym here) ∙ none_if watch.dropped second.0 in
      ap (λ (o : Option IpAddress). not (is_given_up patience now (must_go now i r w) o w)) (none_if watch.unreachable first.0)
      ∙ (ap (λ (b : Bool). not (is_at_end patience now b w)) (may_stay now i r w (if_not _ third.0) dropped) ∙ third.1)

  -- it is settled, if it waits as it is written down, and keeps its packet
  pub settled_if_kept : (now end : ℤ) (i : ℕ) (r : Planned L) (watch : Watch) (w : Waiting) (kept : Bool) → watch ≡ watch_at i r →
      watch.waiting ≡ Some w → int_eq w.until end ≡ true → is_wait w.neighbor end (wait_of r.sockets i) ≡ true →
      kept ≡ not (is_given_up r.plan.patience now (must_go now i r w) watch.unreachable w) → kept ≡ is_settled now end r i
  settled_if_kept now end i r watch w kept here waiting until wait is =
      by (wait_of r.sockets i) wait ∙ sym (ap (is_settled_as now end r i (wait_of r.sockets i)) (ap (λ (v : Watch). v.waiting) (sym here) ∙ waiting)) where
        unreachable : kept ≡ not (is_given_up r.plan.patience now (must_go now i r w) (watch_at i r).unreachable w)
        unreachable = is ∙ ap (λ (v : Watch). not (is_given_up r.plan.patience now (must_go now i r w) v.unreachable w)) here

        by : (o : Wait) → is_wait w.neighbor end o ≡ true → kept ≡ is_settled_as now end r i o (Some w)
        by None it = absurd cc
        by (Some at) it =
            let parts = and_parts (int_eq at.1 end) (is_same w.neighbor at.0) it in
            rw (parts.1, until, parts.0) unreachable
