use Rattle.dns_client.proofs.MessageAgain as again
use Rattle.dns_client.proofs.message.read_again.Goals as goal

pub returns : goal.returns
returns c = again.read_again
