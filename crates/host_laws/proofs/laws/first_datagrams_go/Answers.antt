use Rattle.host_laws.proofs.Interface.GrantedEgress.{firsts_go}
use Rattle.host_laws.proofs.laws.first_datagrams_go.Goals as goal

pub returns : goal.returns
returns c = firsts_go
