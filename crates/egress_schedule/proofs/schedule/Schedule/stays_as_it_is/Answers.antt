use Rattle.std.proofs.Common.{sym, ◌∙◌, length, refl}
use Rattle.egress_schedule.specs.Plan.{planned}
use Rattle.egress_schedule.proofs.AllSettled.{settled_stay}
use Rattle.egress_schedule.proofs.schedule.Schedule.stays_as_it_is.Goals as goal

pub returns-then-gt : goal.returns-then-gt
returns-then-gt g c = λ settled.
    settled_stay c.args.now c.in-Some.end (sym c.gt.ensures ∙ c.if-gt.true) (planned c.args.self.now c.args.sockets.now)
    (length c.args.self.now.watches) c.in-Some.ensures.0 refl c.requires (c.are_settled.ensures settled) c.in-Some.ensures.1
