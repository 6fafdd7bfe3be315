use Rattle.host_laws.proofs.Sockets.SocketDelivery.{raw_packets_queued}
use Rattle.host_laws.proofs.laws.raw_packets_are_queued.Goals as goal

pub returns : goal.returns
returns c = raw_packets_queued
