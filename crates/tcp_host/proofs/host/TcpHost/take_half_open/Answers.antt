use Rattle.std.proofs.Common.{sym}
use Rattle.tcp_host.specs.Arrivals.{OfHalfOpen}
use Rattle.tcp_host.proofs.host.TcpHost.take_half_open.Goals as goal

pub returns-clause-found : goal.returns-clause-found
returns-clause-found c =
    OfHalfOpen c.in_ok-index.index c.requires c.in_ok-index.ensures (sym c.in_ok-place.ensures.value) c.make_room.ensures.value
