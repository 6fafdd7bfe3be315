use Rattle.host_laws.proofs.Receive.ReplyLaws.{echoes_caused}
use Rattle.host_laws.proofs.restraint.echoes_have_cause.Goals as goal

pub returns : goal.returns
returns c = echoes_caused
