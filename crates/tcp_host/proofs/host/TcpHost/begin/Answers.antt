use Rattle.std.proofs.Common.{◌≡◌, true, Some, ap, refl, arith}
use Rattle.tcp_host.specs.Listener.{has_room}
use Rattle.tcp_host.specs.Host.{listener_at}
use Rattle.tcp_host.specs.Arrivals.{InPlace, Unkept}
use Rattle.tcp_host.specs.declared.resets.Reply.TheVariants.{Cookie}
use Rattle.tcp_host.specs.declared.resets.SynAck.{SynAck}
use Rattle.tcp_host.proofs.host.TcpHost.begin.Goals as goal

pub returns-in-Some : goal.returns-in-Some
returns-in-Some c =
    let room : has_room (listener_at c.args.index c.args.self.now) ≡ true = grind (arith, c.has_room.ensures, c.if-not-has_room.false, c.if-not-has_room.ensures) in
    InPlace c.in-Some.place room c.in-Some.ensures.few c.in-Some.ensures.some refl c.begin_at.ensures

pub returns-in-None : goal.returns-in-None
returns-in-None c =
    let room : has_room (listener_at c.args.index c.args.self.now) ≡ true = grind (arith, c.has_room.ensures, c.if-not-has_room.false, c.if-not-has_room.ensures) in
    Unkept room (c.in-None.ensures.none refl) (c.may_have_place.ensures.has c.if-may_have_place.true)
    (ap (λ (a : SynAck). Some (Cookie a)) c.syn_ack.ensures) refl
