use Rattle.dns_client.proofs.TextAgain as again
use Rattle.dns_client.proofs.text.text_read_again.Goals as goal

pub returns : goal.returns
returns c = again.read_again
