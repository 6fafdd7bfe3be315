use Rattle.host_laws.proofs.Discovery.Advertisements.{advertisements_learnt}
use Rattle.host_laws.proofs.laws.advertisements_are_learnt.Goals as goal

pub returns : goal.returns
returns c = advertisements_learnt
