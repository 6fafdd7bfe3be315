use Rattle.host_laws.proofs.Discovery.NotedRequests.{sends_one}
use Rattle.host_laws.proofs.laws.dispatches_send_one_thing.Goals as goal

pub returns : goal.returns
returns c = sends_one
