use Rattle.sockets.specs.Raw as raw_spec
use Rattle.tcp_sockets.specs.Arrivals.{value_of}
use Rattle.tcp_sockets.proofs.ReceivingLemmas.{received_sent}
use Rattle.tcp_sockets.proofs.receiving.receive_packet.Goals as goal

pub returns-in-Some : goal.returns-in-Some
returns-in-Some c =
    received_sent c.args.now c.args.checked c.args.own.now (raw_spec.packet_in c.args.version c.args.octets.now)
    (value_of c.in-Some.arrival) c.args.host.now c.receive_arrival.result c.receive_arrival.new.host c.in-Some.ensures.segment
    c.receive_arrival.ensures
