use Rattle.host.specs.Link.{HandsOver, Goes}
use Rattle.std.specs.Prelude.{[], ◌∷◌}
use Rattle.host.proofs.LinkSteps.{if_done, on_a, on_b, to_a, to_b}
use Rattle.host.proofs.link.link_step.Goals as goal

pub returns-in-A-clause-done : goal.returns-in-A-clause-done
returns-in-A-clause-done g c = on_a g.OA.Owner.did g.OB.Owner.did c.args.sent_by_a c.args.sent_by_b c.args.a.now c.run.new.host c.args.b.now
    c.args.step.now c.in-A.command c.run.result c.in-A.is c.run.ensures

pub returns-in-B-clause-done : goal.returns-in-B-clause-done
returns-in-B-clause-done g c = on_b g.OA.Owner.did g.OB.Owner.did c.args.sent_by_a c.args.sent_by_b c.args.a.now c.args.b.now c.run-in-B.new.host
    c.args.step.now c.in-B.command c.run-in-B.result c.in-B.is c.run-in-B.ensures

pub returns-in-ToA-clause-done : goal.returns-in-ToA-clause-done
returns-in-ToA-clause-done g c = if_done c.hand_over.result
    (HandsOver g.OA.Owner.did c.args.sent_by_b c.args.b.now.device c.in-ToA.k c.in-ToA.timestamp c.args.a.now c.hand_over.new.to)
    (Goes g.OA.Owner.did g.OB.Owner.did c.args.sent_by_a c.args.sent_by_b
    (c.args.step.now ∷ []) c.args.a.now c.hand_over.new.to c.args.b.now c.args.b.now)
    (to_a g.OA.Owner.did g.OB.Owner.did c.args.sent_by_a c.args.sent_by_b c.args.a.now c.hand_over.new.to c.args.b.now
    c.args.step.now c.in-ToA.k c.in-ToA.timestamp c.in-ToA.is)
    c.hand_over.ensures.done

pub returns-in-ToB-clause-done : goal.returns-in-ToB-clause-done
returns-in-ToB-clause-done g c = if_done c.hand_over-in-ToB.result
    (HandsOver g.OB.Owner.did c.args.sent_by_a c.args.a.now.device c.in-ToB.k c.in-ToB.timestamp c.args.b.now c.hand_over-in-ToB.new.to)
    (Goes g.OA.Owner.did g.OB.Owner.did c.args.sent_by_a c.args.sent_by_b
    (c.args.step.now ∷ []) c.args.a.now c.args.a.now c.args.b.now c.hand_over-in-ToB.new.to)
    (to_b g.OA.Owner.did g.OB.Owner.did c.args.sent_by_a c.args.sent_by_b c.args.a.now c.args.b.now c.hand_over-in-ToB.new.to
    c.args.step.now c.in-ToB.k c.in-ToB.timestamp c.in-ToB.is)
    c.hand_over-in-ToB.ensures.done
