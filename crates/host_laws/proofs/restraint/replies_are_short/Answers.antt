use Rattle.host_laws.proofs.Runs.ReplyLengths.{replies_short}
use Rattle.host_laws.proofs.restraint.replies_are_short.Goals as goal

pub returns : goal.returns
returns c = replies_short
