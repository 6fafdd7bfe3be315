use Rattle.guard_laws.proofs.NewcomerLemmas as lemma
use Rattle.guard_laws.proofs.laws.newcomers_stay.Goals as goal

pub returns : goal.returns
returns c = lemma.newcomers_stay
