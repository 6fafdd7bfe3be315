use Rattle.net_base.proofs.BucketLemmas as lemma
use Rattle.net_base.proofs.bucket.after_rest.Goals as goal

pub returns : goal.returns
returns c = lemma.after_rest
