use Rattle.std.specs.Prelude.{◌≡◌, get_or, Some}
use Rattle.std.proofs.Common.{arith}
use Rattle.std.proofs.lemmas.Grind.{common_steps}
use Rattle.egress_schedule.specs.declared.watch.Watch.{Watch}
use Rattle.egress_schedule.specs.Plan.{idle, with_watch}
use Rattle.egress_schedule.proofs.Fields.{written_again}
use Rattle.egress_schedule.proofs.schedule.Schedule.set_wait_aside.Goals as goal

pub returns : goal.returns
returns g c =
    let plan = c.args.self.now in
    let i = c.args.index in
    let waiting = c.waiting_unasked-waiting.result in
    let own = Some c.own_wait-own.result in
    let watch : Watch = get_or plan.watches i idle in
    let written : c.set_aside_wait.new.self ≡ with_watch i (record watch { waiting = waiting; set_aside = own }) plan =
    written_again plan c.set_waiting.new.self c.set_aside_wait.new.self i (record watch { waiting = waiting })
    (λ (w : Watch). record w { set_aside = own }) c.set_waiting.ensures c.set_aside_wait.ensures in
    grind (arith, common_steps, written)
