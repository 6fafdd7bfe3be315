use Rattle.tcp_host_laws.proofs.Releases as lemmas
use Rattle.tcp_host_laws.proofs.released_places_end.Goals as goal

pub returns : goal.returns
returns c = lemmas.released_places_end
