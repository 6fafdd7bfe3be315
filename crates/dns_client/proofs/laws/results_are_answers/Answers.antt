use Rattle.dns_client.proofs.DnsClient.Asking as law
use Rattle.dns_client.proofs.laws.results_are_answers.Goals as goal

pub returns : goal.returns
returns c = law.results_are_answers
