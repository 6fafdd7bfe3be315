use Rattle.dns_client.proofs.DnsClient.Ends as law
use Rattle.dns_client.proofs.laws.never_stuck.Goals as goal

pub returns : goal.returns
returns c = law.never_stuck
