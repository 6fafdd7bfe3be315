use Rattle.dns_client.proofs.DnsClient.Asking as of
use Rattle.dns_client.proofs.laws.first_is_asked.Goals as goal

pub returns : goal.returns
returns c = of.first_is_asked
