use Rattle.std.proofs.Common.{◌≡◌, false, arith}
use Rattle.tcp_host.specs.Listener.{has_room}
use Rattle.tcp_host.specs.Host.{listener_at}
use Rattle.tcp_host.specs.Arrivals.{NoRoom}
use Rattle.tcp_host.proofs.host.TcpHost.reopening.Goals as goal

pub returns-else-has_room-clause-none : goal.returns-else-has_room-clause-none
returns-else-has_room-clause-none c =
    let none : has_room (listener_at c.in-Some.index c.args.self.now) ≡ false = grind (arith, c.has_room.ensures, c.if-has_room.false) in
    λ _. NoRoom c.in-Some.index c.in-Some.ensures.some none
