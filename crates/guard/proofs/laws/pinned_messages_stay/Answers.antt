use Rattle.guard.proofs.Ipv6Lemmas as lemma
use Rattle.guard.proofs.laws.pinned_messages_stay.Goals as goal

pub returns : goal.returns
returns c = lemma.pinned_messages_stay
