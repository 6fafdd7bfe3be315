use Rattle.std.proofs.Common.{◌≡◌, ◌∙◌, arith, sym}
use Rattle.iface_context.specs.Stands.{host_in}
use Rattle.iface_sockets.proofs.PassedSockets.{due_more, in_vain}
use Rattle.iface_sockets.proofs.polling.pass_run.Goals as goal

pub loop-index-preserved : goal.loop-index-preserved
loop-index-preserved c = λ slots before.
    let H = host_in c.args.context.now slots c.args.sockets.now in
    let unknown = in_vain H c.args.first (c.in-Some.address, c.in-Some.field-0-1) c.has_neighbor.result (sym c.wait.ensures ∙ c.in-Some.is)
    (c.has_neighbor.ensures slots c.args.sockets.now) c.if-has_neighbor.false in
    rw c.earlier_of-sooner.ensures (due_more H c.args.first c.loop-index.index unknown c.in-Some-waits_like.until c.loop-index.sooner
    (rw c.now-now.ensures at (sym c.waits_like.ensures ∙ c.in-Some-waits_like.is)) (c.loop-index.invariant slots before))

pub returns-clause-least : goal.returns-clause-least
returns-clause-least c = λ slots before.
    let all : c.loop-index.index ≡ c.places.result = omega arith in
    rw (← all) (c.loop-index.invariant slots before)
