use Rattle.dns_client.proofs.DnsClient.Spacing as law
use Rattle.dns_client.proofs.laws.queries_are_spaced.Goals as goal

pub returns : goal.returns
returns c = law.queries_are_spaced
