use Rattle.guard.proofs.Ipv6Lemmas as lemma
use Rattle.guard.proofs.laws.own_messages_stay.Goals as goal

pub returns : goal.returns
returns c = lemma.own_messages_stay
