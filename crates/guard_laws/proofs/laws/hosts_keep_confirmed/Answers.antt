use Rattle.guard_laws.proofs.LearningLemmas as lemma
use Rattle.guard_laws.proofs.laws.hosts_keep_confirmed.Goals as goal

pub returns : goal.returns
returns c = lemma.hosts_keep_confirmed
