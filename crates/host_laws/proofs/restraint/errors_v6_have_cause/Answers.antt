use Rattle.host_laws.proofs.Receive.ReplyLaws.{errors_v6_caused}
use Rattle.host_laws.proofs.restraint.errors_v6_have_cause.Goals as goal

pub returns : goal.returns
returns c = errors_v6_caused
