use Rattle.host_laws.proofs.Receive.FrameRepliesV6.{advertisers_learnt}
use Rattle.host_laws.proofs.laws.advertisers_are_learnt.Goals as goal

pub returns : goal.returns
returns c = advertisers_learnt
