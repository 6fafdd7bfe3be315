use Rattle.tcp_host.proofs.host.TcpHost.receive_segment.Goals as goal

pub receive_at-requires-clause-at : goal.receive_at-requires-clause-at
receive_at-requires-clause-at c = c.in-Some.ensures.some
