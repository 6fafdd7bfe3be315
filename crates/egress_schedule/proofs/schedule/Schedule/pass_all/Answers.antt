use Rattle.std.proofs.Common.{◌≡◌, ℕ, ap, ◌∙◌, subst}
use Rattle.egress_schedule.specs.Passing.{after_passing_at}
use Rattle.egress_schedule.specs.Plan.{Planned, each_of, planned}
use Rattle.egress_schedule.proofs.First.{add-one}
use Rattle.egress_schedule.proofs.schedule.Schedule.pass_all.Goals as goal

pub loop-index-preserved : goal.loop-index-preserved
loop-index-preserved g c =
    let i : ℕ = c.loop-index.index in
    let step : ℕ → Planned g.row.L.Denot → Planned g.row.L.Denot = after_passing_at (g.N.Neighbors.knows c.args.neighbors.now) c.args.now in
    subst (λ (k : ℕ). planned c.pass_at.new.self c.pass_at.new.sockets ≡ each_of step k (planned c.args.self.now c.args.sockets.now)) (add-one i)
    (c.pass_at.ensures ∙ ap (step i) c.loop-index.invariant)
