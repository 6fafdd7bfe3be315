use Rattle.host_laws.proofs.Sockets.RebuiltDelivery.{rebuilt_queued}
use Rattle.host_laws.proofs.laws.rebuilt_datagrams_are_queued.Goals as goal

pub returns : goal.returns
returns c = rebuilt_queued
