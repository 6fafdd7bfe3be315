use Rattle.tcp_host.proofs.host.TcpHost.connect.Goals as goal

pub returns-in-Some-clause-in_use : goal.returns-in-Some-clause-in_use
returns-in-Some-clause-in_use c = λ _. (c.in-Some._place, c.in-Some.ensures.some)
