use Rattle.tcp_laws.proofs.ServesInExample as example
use Rattle.tcp_laws.proofs.a_connection_serves.Goals as goal

pub returns : goal.returns
returns c = example.a_connection_serves
