use Rattle.guard.proofs.PassLemmas as lemma
use Rattle.guard.proofs.laws.loops_end.Goals as goal

pub returns : goal.returns
returns c = lemma.loops_end
