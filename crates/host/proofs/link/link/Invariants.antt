use Rattle.std.proofs.Common.{take}
use Rattle.host.specs.Link.{Goes}
use Rattle.host.proofs.link.link.Given as goal

abbrev pub invariant-loop-i : goal.invariant-loop-i
invariant-loop-i g l = Goes g.OA.Owner.did g.OB.Owner.did l.sent_by_a l.sent_by_b (take l.i l.steps) l.fn.a l.a l.fn.b l.b
