use Rattle.dhcp_client.proofs.Declining as of
use Rattle.dhcp_client.proofs.laws.declines_wait.Goals as goal

pub returns : goal.returns
returns c = of.declines_wait
