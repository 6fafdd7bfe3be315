use Rattle.std.proofs.Common.{arith}
use Rattle.std.proofs.lemmas.Grind.{common_steps}
use Rattle.tcp_host.specs.SipHash.{sip_hash}
use Rattle.tcp_host.proofs.SipHashLemmas.{one_more, no_more}
use Rattle.tcp_host.proofs.sip_hash.sip_hash.Goals as goal

pub loop-word-preserved : goal.loop-word-preserved
loop-word-preserved c = grind (arith, common_steps, one_more)

pub returns : goal.returns
unfolding sip_hash
returns c = grind (arith, common_steps, no_more)
