use Rattle.dns_client.proofs.Alone as law
use Rattle.dns_client.proofs.dns_resolver.laws.each_goes_alone.Goals as goal

pub returns : goal.returns
returns c = law.each_goes_alone
