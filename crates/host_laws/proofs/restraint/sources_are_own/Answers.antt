use Rattle.host_laws.proofs.Runs.OwnSources.{sources_own}
use Rattle.host_laws.proofs.restraint.sources_are_own.Goals as goal

pub returns : goal.returns
returns c = sources_own
