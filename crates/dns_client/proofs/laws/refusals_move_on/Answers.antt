use Rattle.dns_client.proofs.DnsClient.Asking as of
use Rattle.dns_client.proofs.laws.refusals_move_on.Goals as goal

pub returns : goal.returns
returns c = of.refusals_move_on
