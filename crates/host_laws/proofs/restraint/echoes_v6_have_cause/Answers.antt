use Rattle.host_laws.proofs.Receive.ReplyLaws.{echoes_v6_caused}
use Rattle.host_laws.proofs.restraint.echoes_v6_have_cause.Goals as goal

pub returns : goal.returns
returns c = echoes_v6_caused
