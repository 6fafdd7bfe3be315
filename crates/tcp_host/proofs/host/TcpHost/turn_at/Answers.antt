use Rattle.std.proofs.Common.{◌≡◌, true, false, get_or, refl, arith}
use Rattle.std.specs.Prelude.{nat_lt}
use Rattle.std.proofs.lemmas.Bool.Decides.{nat_tests}
use Rattle.tcp_host.proofs.host.TcpHost.turn_at.Goals as goal

pub returns-then-get-now : goal.returns-then-get-now
returns-then-get-now c =
    let waits : nat_lt c.args.now (get_or c.args.self.now.alarms c.args.place 0) ≡ true = grind (arith, nat_tests, c.get.ensures, c.if-get-now.true, c.self.view_is) in
    rw waits refl

pub returns : goal.returns
returns c =
    let is_due : nat_lt c.args.now (get_or c.args.self.now.alarms c.args.place 0) ≡ false = grind (arith, nat_tests, c.get.ensures, c.if-get-now.false, c.self.view_is) in
    rw (is_due, c.turn_due.ensures) refl
