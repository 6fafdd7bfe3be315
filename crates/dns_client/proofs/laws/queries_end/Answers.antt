use Rattle.dns_client.proofs.DnsClient.Ends as law
use Rattle.dns_client.proofs.laws.queries_end.Goals as goal

pub returns : goal.returns
returns c = law.queries_end
