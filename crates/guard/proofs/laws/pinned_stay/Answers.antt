use Rattle.guard.proofs.PassLemmas as lemma
use Rattle.guard.proofs.laws.pinned_stay.Goals as goal

pub returns : goal.returns
returns c = lemma.pinned_stay
