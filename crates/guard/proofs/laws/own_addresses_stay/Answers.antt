use Rattle.guard.proofs.PassLemmas as lemma
use Rattle.guard.proofs.laws.own_addresses_stay.Goals as goal

pub returns : goal.returns
returns c = lemma.own_addresses_stay
