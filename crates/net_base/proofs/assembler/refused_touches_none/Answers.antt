use Rattle.net_base.proofs.FifthRange.{fifth_touches_none}
use Rattle.net_base.proofs.assembler.refused_touches_none.Goals as goal

pub returns : goal.returns
returns c = fifth_touches_none
