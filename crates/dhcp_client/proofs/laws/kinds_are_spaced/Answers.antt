use Rattle.dhcp_client.proofs.Spacing as of
use Rattle.dhcp_client.proofs.laws.kinds_are_spaced.Goals as goal

pub returns : goal.returns
returns c = of.kinds_are_spaced
