use Rattle.dns_client.proofs.DnsClient.Telling as of
use Rattle.dns_client.proofs.laws.addresses_are_told.Goals as goal

pub returns : goal.returns
returns c = of.addresses_are_told
