use Rattle.host_laws.proofs.Receive.ReplyLaws.{resets_caused}
use Rattle.host_laws.proofs.restraint.resets_have_cause.Goals as goal

pub returns : goal.returns
returns c = resets_caused
