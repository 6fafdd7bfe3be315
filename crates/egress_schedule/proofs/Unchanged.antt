-- Where nothing is to be written down, the plan stays as it is.
use Rattle.std.specs.Prelude.{ℕ, zero, suc, ◌≡◌, ◌||◌, Bool, true, false, ℤ, List, [], ◌∷◌, is_some, get_or, slice_set, Some, None, refl}
use Rattle.std.proofs.Common.{sym, ap, ◌∙◌}
use Rattle.socket_set.specs.SocketMeta.{Wait}
use Rattle.socket_set.specs.SocketSet.{wait_of}
use Rattle.egress_schedule.specs.declared.watch.Watch.{Watch}
use Rattle.egress_schedule.specs.Plan.{Plan, Planned, idle, watch_at}
use Rattle.egress_schedule.specs.Patience.{IsUnnoted, after_look_at, plan_after_look}

same_set : (xs : List Watch) (i : ℕ) → slice_set xs i (get_or xs i idle) ≡ xs
same_set [] i = refl
same_set (x ∷ xs) zero = refl
same_set (x ∷ xs) (suc i) = ap (λ ys. x ∷ ys) (same_set xs i)

or_false : (b : Bool) → (b || false) ≡ b
or_false true = refl
or_false false = refl

same_watch : (w : Watch) → w.waiting ≡ None → w.unreachable ≡ None → record w { waiting = None; unreachable = None } ≡ w
same_watch w waiting unreachable =
    ap (λ o. record w { waiting = o; unreachable = None }) (sym waiting) ∙ ap (λ o. record w { unreachable = o }) (sym unreachable)

pub unchanged : (now : ℤ) (i : ℕ) (plan : Plan) → IsUnnoted (get_or plan.watches i idle) → plan_after_look now i None plan ≡ plan
unchanged now i plan noted =
    let as_it_is = same_watch (get_or plan.watches i idle) noted.waiting noted.unreachable in
    ap (λ (w : Watch). record plan { watches = slice_set plan.watches i w; is_waiting = plan.is_waiting || false }) as_it_is
    ∙ (ap (λ (ws : List Watch). record plan { watches = ws; is_waiting = plan.is_waiting || false }) (same_set plan.watches i)
    ∙ ap (λ (b : Bool). record plan { is_waiting = b }) (or_false plan.is_waiting))

none_is : (wait : Wait) → is_some wait ≡ false → wait ≡ None
none_is None is = refl
none_is (Some w) is = absurd cc

pub look_unchanged : {L : Type 0} (now : ℤ) (i : ℕ) (r : Planned L) (wait : Wait) → wait ≡ wait_of r.sockets i → is_some wait ≡ false →
    IsUnnoted (watch_at i r) → r ≡ after_look_at now i r
look_unchanged now i r wait wait_is none noted =
    ap (λ (plan : Plan). record r { plan = plan })
    (sym (ap (λ (w : Wait). plan_after_look now i w r.plan) (sym wait_is ∙ none_is wait none) ∙ unchanged now i r.plan noted))
