use Rattle.network.proofs.NetworkLaws.{networks_keep_laws}
use Rattle.network.proofs.network.networks_keep_laws.Goals as goal

pub returns : goal.returns
returns g c = λ old new calls answers goes is_new regular a stands.
    networks_keep_laws g.O.Owner.did old new calls answers goes is_new regular a stands
