use Rattle.std.proofs.Common.{◌≡◌, true, subst, arith}
use Rattle.tcp_host.specs.Listener.{has_room}
use Rattle.tcp_host.specs.Host.{Host, listener_at}
use Rattle.tcp_host.specs.Arrivals.{AtPlace, Delivers}
use Rattle.tcp_host.proofs.host.TcpHost.resume.Goals as goal

pub returns-in-Some : goal.returns-in-Some
returns-in-Some c =
    let room : has_room (listener_at c.args.index c.args.self.now) ≡ true = grind (arith, c.has_room.ensures, c.if-not-has_room.false, c.if-not-has_room.ensures) in
    AtPlace c.in-Some.place c.make_place.new.self room c.in-Some.ensures.found
    (subst (λ (h : Host). Delivers c.in-Some.place c.args.now c.args.endpoints.now c.args.segment.now c.args.octets.now h c.deliver.new.self)
    c.resume_at.ensures.value c.deliver.ensures)
