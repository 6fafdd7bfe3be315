use Rattle.host_laws.proofs.Sockets.DatagramDeliveryV6.{datagrams_v6_queued}
use Rattle.host_laws.proofs.laws.datagrams_v6_are_queued.Goals as goal

pub returns : goal.returns
returns c = datagrams_v6_queued
