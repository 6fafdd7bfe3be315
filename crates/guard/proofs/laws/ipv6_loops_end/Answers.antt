use Rattle.guard.proofs.Ipv6Lemmas as lemma
use Rattle.guard.proofs.laws.ipv6_loops_end.Goals as goal

pub returns : goal.returns
returns c = lemma.ipv6_loops_end
