use Rattle.std.proofs.Common.{refl}
use Rattle.tcp_host.proofs.host.TcpHost.number_for.Goals as goal

pub returns : goal.returns
returns c = rw (c.iss.ensures, ← c.self.view_is) refl
