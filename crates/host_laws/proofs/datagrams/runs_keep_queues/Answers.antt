use Rattle.host_laws.proofs.RunTraffic.{runs_keep_queues}
use Rattle.host_laws.proofs.datagrams.runs_keep_queues.Goals as goal

pub returns : goal.returns
returns c = λ first last places r none. runs_keep_queues first last places r none
