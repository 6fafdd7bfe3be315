use Rattle.host_laws.proofs.RunTraffic.{runs_keep_datagrams}
use Rattle.host_laws.proofs.datagrams.runs_keep_datagrams.Goals as goal

pub returns : goal.returns
returns c = λ first last places r before between after e. runs_keep_datagrams first last places r before between after e
