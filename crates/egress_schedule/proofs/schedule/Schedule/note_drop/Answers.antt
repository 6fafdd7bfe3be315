use Rattle.std.specs.Prelude.{get_or, Some, None}
use Rattle.egress_schedule.specs.declared.watch.Watch.{Watch}
use Rattle.egress_schedule.specs.Plan.{idle}
use Rattle.egress_schedule.proofs.Fields.{written_again}
use Rattle.egress_schedule.proofs.schedule.Schedule.note_drop.Goals as goal

pub returns : goal.returns
returns c =
    let plan = c.args.self.now in
    let i = c.args.index in
    let neighbor = c.args.neighbor in
    let ended : Watch = record (get_or plan.watches i idle) { waiting = None } in
    written_again plan c.set_unreachable.new.self c.set_given_up.new.self i (record ended { unreachable = Some neighbor })
    (λ (w : Watch). record w { given_up = Some neighbor; dropped = Some c.args.now })
    (written_again plan c.set_waiting.new.self c.set_unreachable.new.self i ended (λ (w : Watch). record w { unreachable = Some neighbor })
    c.set_waiting.ensures c.set_unreachable.ensures) c.set_given_up.ensures
