use Rattle.guard_laws.proofs.Ipv6ClaimLemmas as lemma
use Rattle.guard_laws.proofs.laws.pinned_ipv6_neighbors_stay.Goals as goal

pub returns : goal.returns
returns c = lemma.pinned_ipv6_neighbors_stay
