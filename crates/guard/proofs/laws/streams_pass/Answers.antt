use Rattle.guard.proofs.Ipv6Lemmas as lemma
use Rattle.guard.proofs.laws.streams_pass.Goals as goal

pub returns : goal.returns
returns c = lemma.streams_pass
