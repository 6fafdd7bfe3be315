use Rattle.dns_client.proofs.DnsClient.Asking as of
use Rattle.dns_client.proofs.laws.servers_go_round.Goals as goal

pub returns : goal.returns
returns c = of.servers_go_round
