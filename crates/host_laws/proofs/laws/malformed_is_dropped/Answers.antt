use Rattle.host_laws.proofs.Receive.Malformed.{malformed}
use Rattle.host_laws.proofs.laws.malformed_is_dropped.Goals as goal

pub returns : goal.returns
returns c = malformed
