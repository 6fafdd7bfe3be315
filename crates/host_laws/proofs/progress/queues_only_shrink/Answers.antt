use Rattle.host_laws.proofs.QueuesAfterTurns.{only_shrink}
use Rattle.host_laws.proofs.progress.queues_only_shrink.Goals as goal

pub returns : goal.returns
returns c = only_shrink
