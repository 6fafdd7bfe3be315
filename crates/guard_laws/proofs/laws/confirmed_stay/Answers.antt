use Rattle.guard_laws.proofs.StrangerLemmas as lemma
use Rattle.guard_laws.proofs.laws.confirmed_stay.Goals as goal

pub returns : goal.returns
returns c = lemma.confirmed_stay
