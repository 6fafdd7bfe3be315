use Rattle.dhcp_client.proofs.Renewals as of
use Rattle.dhcp_client.proofs.laws.renewals_wait.Goals as goal

pub returns : goal.returns
returns c = of.renewals_wait
