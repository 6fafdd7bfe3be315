use Rattle.host_laws.proofs.PingsBack.{come_back}
use Rattle.host_laws.proofs.pings.pings_come_back.Goals as goal

pub returns : goal.returns
returns c = come_back
