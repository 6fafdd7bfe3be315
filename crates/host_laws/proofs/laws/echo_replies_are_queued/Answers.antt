use Rattle.host_laws.proofs.Icmp.EchoReplies.{replies_queued}
use Rattle.host_laws.proofs.laws.echo_replies_are_queued.Goals as goal

pub returns : goal.returns
returns c = replies_queued
