use Rattle.std.proofs.Common.{refl}
use Rattle.tcp_host.specs.Arrivals.{Known, Reopened}
use Rattle.tcp_host.proofs.host.TcpHost.receive_at.Goals as goal

pub returns-in-Some : goal.returns-in-Some
returns-in-Some c = Reopened c.args.place c.requires.at c.in-Some.index c.in-Some.ensures.some refl c.reopen.ensures

pub returns-in-None : goal.returns-in-None
returns-in-None c = Known c.args.place c.requires.at (c.in-None.ensures.none refl) refl c.deliver.ensures
