use Rattle.host_laws.proofs.Icmp.EchoReplies.{replies_v6_queued}
use Rattle.host_laws.proofs.laws.echo_replies_v6_are_queued.Goals as goal

pub returns : goal.returns
returns c = replies_v6_queued
