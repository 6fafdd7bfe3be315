use Rattle.dns_client.proofs.DnsClient.Ends as law
use Rattle.dns_client.proofs.laws.poll_at_is_exact.Goals as goal

pub returns : goal.returns
returns c = law.poll_at_is_exact
