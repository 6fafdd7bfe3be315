-- What is written down of a socket is changed by fields.
use Rattle.std.specs.Prelude.{ℕ, zero, suc, ◌≡◌, List, [], ◌∷◌, get_or, slice_set, refl}
use Rattle.std.proofs.Common.{ap, ◌∙◌}
use Rattle.egress_schedule.specs.declared.watch.Watch.{Watch}
use Rattle.egress_schedule.specs.Plan.{Plan, idle, with_watch}

-- what was changed, changed again
changed_again : (ws : List Watch) (i : ℕ) (w : Watch) (change : Watch → Watch) →
    slice_set (slice_set ws i w) i (change (get_or (slice_set ws i w) i idle)) ≡ slice_set ws i (change w)
changed_again [] i w change = refl
changed_again (x ∷ ws) zero w change = refl
changed_again (x ∷ ws) (suc i) w change = ap (λ (vs : List Watch). x ∷ vs) (changed_again ws i w change)

-- a plan with a watch at an index that is changed again
pub written_again : (plan next last : Plan) (i : ℕ) (w : Watch) (change : Watch → Watch) → next ≡ with_watch i w plan →
    last ≡ with_watch i (change (get_or next.watches i idle)) next → last ≡ with_watch i (change w) plan
written_again plan next last i w change is then =
    then ∙ (ap (λ (p : Plan). with_watch i (change (get_or p.watches i idle)) p) is
    ∙ ap (λ (ws : List Watch). record plan { watches = ws }) (changed_again plan.watches i w change))
