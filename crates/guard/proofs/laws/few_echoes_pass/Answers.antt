use Rattle.guard.proofs.EchoLemmas as lemma
use Rattle.guard.proofs.laws.few_echoes_pass.Goals as goal

pub returns : goal.returns
returns c = lemma.few_echoes
