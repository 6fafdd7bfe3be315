use Rattle.std.proofs.Common.{arith, rules}
use Rattle.net_base.proofs.RangesLemmas.{kept, union_of, union_none}
use Rattle.net_base.proofs.assembler.Assembler.add.Goals as goal

pub invariant_of-self : goal.invariant_of-self
invariant_of-self c = kept c.include.result c.args.offset _ c.self.inside.ranges.items c.include.new.ranges.items c.include.ensures.refused
    c.include.ensures.ok (search rules) (omega arith) c.self.invariant.0 c.self.invariant.1

pub returns-clause-added : goal.returns-clause-added
returns-clause-added c = rw (← c.self.view_is) (union_of c.args.offset _ c.self.inside.ranges.items (omega arith) c.self.invariant.0)

pub returns-then-len-eq0-clause-added : goal.returns-then-len-eq0-clause-added
returns-then-len-eq0-clause-added c = rw (← c.self.view_is) (union_none c.args.offset _ c.self.inside.ranges.items (omega arith) c.self.invariant.0)
