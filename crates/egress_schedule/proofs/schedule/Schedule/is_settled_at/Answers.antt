use Rattle.std.specs.Prelude.{◌≡◌, true}
use Rattle.std.specs.Ordering.{int_eq}
use Rattle.std.proofs.Common.{sym, ◌∙◌, arith}
use Rattle.std.proofs.lemmas.Grind.{common_steps}
use Rattle.socket_set.specs.SocketMeta.{is_wait}
use Rattle.socket_set.specs.SocketSet.{wait_of}
use Rattle.egress_schedule.specs.declared.watch.Waiting.{Waiting}
use Rattle.egress_schedule.specs.declared.watch.Watch.{Watch}
use Rattle.egress_schedule.specs.Plan.{Planned, planned, watch_at}
use Rattle.egress_schedule.proofs.Quiet.{quiet_keeps, settled_if_kept}
use Rattle.egress_schedule.proofs.schedule.Schedule.is_settled_at.Goals as goal

pub returns-then-is_quiet : goal.returns-then-is_quiet
returns-then-is_quiet g c =
    let r : Planned g.row.L.Denot = planned c.args.self.now c.args.sockets.now in
    let watch : Watch = c.in-Some.watch.now in
    let w : Waiting = c.in-Some-waiting.waiting in
    let here : watch ≡ watch_at c.args.index r = grind (arith, common_steps) in
    let until : int_eq w.until c.args.end ≡ true = grind (arith, common_steps) in
    let wait : is_wait w.neighbor c.args.end (wait_of c.args.sockets.now c.args.index) ≡ true = grind (arith, common_steps) in
    settled_if_kept c.args.now c.args.end c.args.index r watch w c.is_quiet.result here c.in-Some-waiting.is until wait
    (c.if-is_quiet.true ∙ sym (quiet_keeps c.args.now c.args.index r watch w here (sym c.is_quiet.ensures ∙ c.if-is_quiet.true)))

pub returns-else-is_quiet : goal.returns-else-is_quiet
returns-else-is_quiet g c =
    let r : Planned g.row.L.Denot = planned c.args.self.now c.args.sockets.now in
    let watch : Watch = c.in-Some.watch.now in
    let w : Waiting = c.in-Some-waiting.waiting in
    let here : watch ≡ watch_at c.args.index r = grind (arith, common_steps) in
    let until : int_eq w.until c.args.end ≡ true = grind (arith, common_steps) in
    let wait : is_wait w.neighbor c.args.end (wait_of c.args.sockets.now c.args.index) ≡ true = grind (arith, common_steps) in
    settled_if_kept c.args.now c.args.end c.args.index r watch w c.keeps_packet.result here c.in-Some-waiting.is until wait
    c.keeps_packet.ensures
