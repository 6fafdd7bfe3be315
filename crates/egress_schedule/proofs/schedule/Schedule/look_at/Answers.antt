use Rattle.egress_schedule.specs.Plan.{planned}
use Rattle.std.proofs.Common.{sym, ◌∙◌}
use Rattle.egress_schedule.proofs.Unchanged.{look_unchanged}
use Rattle.egress_schedule.proofs.schedule.Schedule.look_at.Goals as goal

pub returns-else-is_noted : goal.returns-else-is_noted
returns-else-is_noted g c =
    look_unchanged c.args.now c.args.index (planned c.args.self.now c.args.sockets.now) c.wait-wait.result c.wait-wait.ensures
    (sym c.is_some.ensures ∙ c.if-is_some.false) (c.is_noted.ensures c.if-is_noted.false)
