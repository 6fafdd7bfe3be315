use Rattle.std.proofs.Common.{◌≡◌, ℕ, Option, true, false, is_some, refl, ap, arith}
use Rattle.tcp_host.specs.Resets.{begins}
use Rattle.tcp_host.specs.Arrivals.{Begun, Unheeded}
use Rattle.tcp_host.proofs.host.TcpHost.receive_new.Goals as goal

pub returns-in-None-ack : goal.returns-in-None-ack
returns-in-None-ack c =
    let is_syn : begins c.args.segment.now ≡ true = grind (arith, c.begins.ensures, c.if-begins.true) in
    Begun c.requires.new c.requires.proper c.in-Some.index c.in-Some.ensures.some is_syn c.begin.ensures

pub returns-in-None-2 : goal.returns-in-None-2
returns-in-None-2 c =
    let is_syn : begins c.args.segment.now ≡ false = grind (arith, c.begins.ensures, c.if-begins.false) in
    let has : is_some c.args.segment.now.ack ≡ false = ap (λ (o : Option ℕ). is_some o) c.in-None-2.is in
    Unheeded c.requires.new c.requires.proper c.in-Some.index c.in-Some.ensures.some is_syn has refl refl
