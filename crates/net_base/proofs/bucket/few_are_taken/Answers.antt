use Rattle.net_base.proofs.BucketLemmas as lemma
use Rattle.net_base.proofs.bucket.few_are_taken.Goals as goal

pub returns : goal.returns
returns c = lemma.few_are_taken
