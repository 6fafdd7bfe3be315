use Rattle.std.specs.Prelude.{get_or}
use Rattle.egress_schedule.specs.declared.watch.Watch.{Watch}
use Rattle.egress_schedule.specs.Patience.{unreachable_after}
use Rattle.egress_schedule.specs.Plan.{idle}
use Rattle.egress_schedule.proofs.Fields.{written_again}
use Rattle.egress_schedule.proofs.schedule.Schedule.note_wait.Goals as goal

pub returns : goal.returns
returns c =
    let plan = c.args.self.now in
    let i = c.args.index in
    let waiting = c.args.waiting in
    written_again plan c.set_waiting.new.self c.keep_unreachable.new.self i (record (get_or plan.watches i idle) { waiting = waiting })
    (λ (w : Watch). record w { unreachable = unreachable_after waiting w.unreachable }) c.set_waiting.ensures c.keep_unreachable.ensures
