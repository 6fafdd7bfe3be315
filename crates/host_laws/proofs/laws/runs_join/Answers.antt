use Rattle.host_laws.proofs.Interface.SingleCalls.{run_on}
use Rattle.host_laws.proofs.laws.runs_join.Goals as goal

pub returns : goal.returns
returns c = λ first mid last ps qs one two. run_on one two
