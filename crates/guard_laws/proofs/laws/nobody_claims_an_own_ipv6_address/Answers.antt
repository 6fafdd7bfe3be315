use Rattle.guard_laws.proofs.Ipv6ClaimLemmas as lemma
use Rattle.guard_laws.proofs.laws.nobody_claims_an_own_ipv6_address.Goals as goal

pub returns : goal.returns
returns c = lemma.nobody_claims_an_own_ipv6_address
