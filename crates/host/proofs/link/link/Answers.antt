use Rattle.std.proofs.Common.{◌≡◌, [], ◌∷◌, Some, Ok, Err, ◌+◌, take, arith}
use Rattle.std.specs.Prelude.{slice_get}
use Rattle.std.proofs.lemmas.List.{take_more, take_all}
use Rattle.std.proofs.lemmas.Option.{slice_get-get_or}
use Rattle.host.specs.declared.link.LinkError.TheVariants.{NoMemory}
use Rattle.host.specs.Link.{Goes, Copies, All, Before}
use Rattle.host.proofs.LinkSteps.{goes_none, goes_on, link_went, no_error, an_error}
use Rattle.host.proofs.link.link.Goals as goal

pub loop-i-init : goal.loop-i-init
loop-i-init g c = goes_none g.OA.Owner.did g.OB.Owner.did c.frames_sent-sent_by_a.result c.frames_sent-sent_by_b.result c.args.a.now c.args.b.now

pub loop-i-preserved : goal.loop-i-preserved
loop-i-preserved g c =
    goes_on g.OA.Owner.did g.OB.Owner.did c.frames_sent-sent_by_a.result c.frames_sent-sent_by_b.result (take c.loop-i.i c.args.steps.now)
    (c.index-steps-i.result ∷ []) (take (c.loop-i.i + 1) c.args.steps.now)
    c.args.a.now c.loop-i.a c.link_step.new.a c.args.b.now c.loop-i.b c.link_step.new.b
    (rw (← c.index-steps-i.is) at (take_more c.args.steps.now c.loop-i.i c.index-steps-i.result c.loop-i-test.true))
    c.loop-i.invariant
    (no_error c.link_step.result (Goes g.OA.Owner.did g.OB.Owner.did c.frames_sent-sent_by_a.result c.frames_sent-sent_by_b.result
    (c.index-steps-i.result ∷ []) c.loop-i.a c.link_step.new.a c.loop-i.b c.link_step.new.b) c.if-is_err.ensures.value c.link_step.ensures.done)

pub returns-then-is_err : goal.returns-then-is_err
returns-then-is_err g c =
    let same_a : c.link_step.new.a ≡ c.loop-i.a =
    an_error c.link_step.result (c.link_step.new.a ≡ c.loop-i.a) c.if-is_err.ensures.value c.link_step.ensures.same_a in
    let same_b : c.link_step.new.b ≡ c.loop-i.b =
    an_error c.link_step.result (c.link_step.new.b ≡ c.loop-i.b) c.if-is_err.ensures.value c.link_step.ensures.same_b in
    let copies : Copies c.frames_sent-sent_by_a.result c.frames_sent-sent_by_b.result c.index-steps-i.result c.loop-i.a.device c.loop-i.b.device =
    an_error c.link_step.result
    (Copies c.frames_sent-sent_by_a.result c.frames_sent-sent_by_b.result c.index-steps-i.result c.loop-i.a.device c.loop-i.b.device)
    c.if-is_err.ensures.value c.link_step.ensures.refused in
    let there : slice_get c.args.steps.now c.loop-i.i ≡ Some c.index-steps-i.result =
    rw (← c.index-steps-i.is) at (slice_get-get_or c.args.steps.now c.loop-i.i c.index-steps-i.result c.loop-i-test.true) in
    rw (same_a, same_b) (link_went g.OA.Owner.did g.OB.Owner.did c.frames_sent-sent_by_a.result c.frames_sent-sent_by_b.result c.args.steps.now
    (take c.loop-i.i c.args.steps.now) (Err (NoMemory c.loop-i.i))
    c.args.a.now c.loop-i.a c.args.b.now c.loop-i.b c.frames_sent-sent_by_a.ensures c.frames_sent-sent_by_b.ensures
    c.requires.a_waits c.requires.b_waits c.is_on_its_medium.ensures c.is_on_its_medium-2.ensures
    (Before c.loop-i.i c.index-steps-i.result there copies) c.loop-i.invariant)

pub returns : goal.returns
returns g c =
    let all : take c.loop-i.i c.args.steps.now ≡ c.args.steps.now = take_all c.loop-i.i c.args.steps.now (omega arith) in
    link_went g.OA.Owner.did g.OB.Owner.did c.frames_sent-sent_by_a.result c.frames_sent-sent_by_b.result c.args.steps.now c.args.steps.now (Ok tt)
    c.args.a.now c.loop-i.a c.args.b.now c.loop-i.b c.frames_sent-sent_by_a.ensures c.frames_sent-sent_by_b.ensures c.requires.a_waits
    c.requires.b_waits c.is_on_its_medium.ensures c.is_on_its_medium-2.ensures All (rw all at c.loop-i.invariant)
