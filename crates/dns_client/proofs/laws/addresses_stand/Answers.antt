use Rattle.dns_client.proofs.DnsClient.Standing as law
use Rattle.dns_client.proofs.laws.addresses_stand.Goals as goal

pub returns : goal.returns
returns c = law.addresses_stand
