use Rattle.host_laws.proofs.Sockets.DatagramDelivery.{datagrams_queued}
use Rattle.host_laws.proofs.laws.datagrams_are_queued.Goals as goal

pub returns : goal.returns
returns c = datagrams_queued
