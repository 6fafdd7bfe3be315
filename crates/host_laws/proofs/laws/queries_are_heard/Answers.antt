use Rattle.host_laws.proofs.Multicast.HeardQueries.{queries_heard}
use Rattle.host_laws.proofs.laws.queries_are_heard.Goals as goal

pub returns : goal.returns
returns c = queries_heard
