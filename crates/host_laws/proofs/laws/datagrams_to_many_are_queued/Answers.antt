use Rattle.host_laws.proofs.Sockets.ManyDelivery.{many_queued}
use Rattle.host_laws.proofs.laws.datagrams_to_many_are_queued.Goals as goal

pub returns : goal.returns
returns c = many_queued
