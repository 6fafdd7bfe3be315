use Rattle.dhcp_client.proofs.datagrams.receive_one.Goals as goal

pub returns : goal.returns
returns c = record { gave = c.receive_datagram.result; received = c.receive_datagram.ensures.received }
