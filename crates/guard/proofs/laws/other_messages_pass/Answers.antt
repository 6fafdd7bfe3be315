use Rattle.guard.proofs.Ipv6Lemmas as lemma
use Rattle.guard.proofs.laws.other_messages_pass.Goals as goal

pub returns : goal.returns
returns c = lemma.other_messages_pass
