use Rattle.std.proofs.Common.{sym, ◌∙◌}
use Rattle.egress_schedule.specs.Plan.{planned}
use Rattle.egress_schedule.specs.Details.Settled.{is_settled}
use Rattle.egress_schedule.proofs.AllSettled.{one_further}
use Rattle.egress_schedule.proofs.schedule.Schedule.are_settled.Goals as goal

pub loop-index-preserved : goal.loop-index-preserved
loop-index-preserved g c =
    one_further (is_settled c.args.now c.args.end (planned c.args.self.now c.args.sockets.now)) c.loop-index.index c.loop-index.invariant
    (sym c.is_settled_at.ensures ∙ c.if-not-is_settled_at.false)
