use Rattle.dhcp_client.proofs.Leases as of
use Rattle.dhcp_client.proofs.laws.leases_are_answered.Goals as goal

pub returns : goal.returns
returns c = of.leases_are_answered
