use Rattle.host_laws.proofs.Receive.ReplyLaws.{kinds_of_replies}
use Rattle.host_laws.proofs.restraint.replies_are_of_kinds.Goals as goal

pub returns : goal.returns
returns c = kinds_of_replies
