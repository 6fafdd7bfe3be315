use Rattle.tcp_host.specs.Arrivals.{IsFullest}
use Rattle.tcp_host.proofs.host.TcpHost.fullest.Given as goal

abbrev pub invariant-loop-index : goal.invariant-loop-index
invariant-loop-index l = IsFullest l.index l.self l.fullest
