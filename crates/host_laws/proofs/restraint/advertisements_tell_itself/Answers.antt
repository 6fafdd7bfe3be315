use Rattle.host_laws.proofs.Receive.ReplyLaws.{advert_told}
use Rattle.host_laws.proofs.restraint.advertisements_tell_itself.Goals as goal

pub returns : goal.returns
returns c = advert_told
