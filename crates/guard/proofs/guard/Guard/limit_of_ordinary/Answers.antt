use Rattle.std.proofs.Common.{rules, ◌≡◌, true}
use Rattle.std.specs.Prelude.{None, Some}
use Rattle.std.specs.FinMap as map
use Rattle.iface_tables.specs.Neighbor.{is_before}
use Rattle.guard.specs.Strangers.{end_of_stay, packet_sender}
use Rattle.guard.proofs.OrdinaryLemmas.{ordinary_confirmed, ordinary_new}
use Rattle.guard.proofs.guard.Guard.limit_of_ordinary.Goals as goal

pub returns-in-None : goal.returns-in-None
returns-in-None c =
    let none : map.get c.args.neighbors.now.known (packet_sender c.args.frame.now) ≡ None = search rules in
    ordinary_new c.args.now c.args.frame.now c.args.own.now c.args.neighbors.now c.args.self.now c.requires.ordinary none

pub returns-in-Some : goal.returns-in-Some
returns-in-Some c =
    let some : map.get c.args.neighbors.now.known (packet_sender c.args.frame.now) ≡ Some c.in-Some.neighbor = search rules in
    let late : is_before (end_of_stay c.args.now c.args.self.now) c.in-Some.neighbor.expires_at ≡ true = search rules in
    ordinary_confirmed c.args.now c.args.frame.now c.args.own.now c.args.neighbors.now c.args.self.now c.in-Some.neighbor c.requires.ordinary some
    late
