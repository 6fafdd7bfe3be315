use Rattle.tcp_laws.proofs.Serves as serves
use Rattle.tcp_laws.proofs.octets_are_served.Goals as goal

pub returns : goal.returns
returns c = serves.octets_are_served
