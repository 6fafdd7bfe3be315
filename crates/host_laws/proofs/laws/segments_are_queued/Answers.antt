use Rattle.host_laws.proofs.Sockets.SocketDelivery.{segments_queued}
use Rattle.host_laws.proofs.laws.segments_are_queued.Goals as goal

pub returns : goal.returns
returns c = segments_queued
