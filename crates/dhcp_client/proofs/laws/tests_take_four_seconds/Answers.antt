use Rattle.dhcp_client.proofs.Testing as of
use Rattle.dhcp_client.proofs.laws.tests_take_four_seconds.Goals as goal

pub returns : goal.returns
returns c = of.tests_take_four_seconds
