use Rattle.tcp_host.proofs.NewsLemmas.{Spent, marks}
use Rattle.tcp_host.proofs.host.TcpHost.next_changed.Given as goal

abbrev pub invariant-loop-self : goal.invariant-loop-self
invariant-loop-self l = Spent l.fn.self l.self

abbrev pub decreases-loop-self : goal.decreases-loop-self
decreases-loop-self l = marks l.self.news
