use Rattle.guard_laws.proofs.ClaimLemmas as lemma
use Rattle.guard_laws.proofs.laws.pinned_neighbors_stay.Goals as goal

pub returns : goal.returns
returns c = lemma.pinned_neighbors_stay
