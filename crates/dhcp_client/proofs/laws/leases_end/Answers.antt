use Rattle.dhcp_client.proofs.Ends as of
use Rattle.dhcp_client.proofs.laws.leases_end.Goals as goal

pub returns : goal.returns
returns c = of.leases_end
