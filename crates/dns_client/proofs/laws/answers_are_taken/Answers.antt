use Rattle.dns_client.proofs.DnsClient.Taking as law
use Rattle.dns_client.proofs.laws.answers_are_taken.Goals as goal

pub returns : goal.returns
returns c = law.answers_are_taken
