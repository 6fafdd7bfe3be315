use Rattle.host_laws.proofs.Interface.RefusedEgress.{loses_nothing}
use Rattle.host_laws.proofs.laws.refusals_lose_nothing.Goals as goal

pub returns : goal.returns
returns c = loses_nothing
