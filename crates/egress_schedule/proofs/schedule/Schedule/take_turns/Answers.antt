use Rattle.std.proofs.Common.{sym}
use Rattle.egress_schedule.specs.Plan.{planned}
use Rattle.egress_schedule.proofs.AllSettled.{no_turns}
use Rattle.egress_schedule.proofs.schedule.Schedule.take_turns.Goals as goal

pub returns-then-not-has_over : goal.returns-then-not-has_over
returns-then-not-has_over g c =
    sym (no_turns c.args.now (planned c.args.self.now c.args.sockets.now) (c.has_over.ensures c.if-not-has_over.true))
