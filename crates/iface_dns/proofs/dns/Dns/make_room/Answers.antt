use Rattle.std.proofs.Common.{◌≡◌, ℕ, Bool, true, false, List, Option, Some, refl, ap}
use Rattle.iface_dns.specs.Ask.{NoneWaits, OneWaits, is_waiting, socket_at}
use Rattle.iface_dns.specs.declared.dns.Dns.{Dns}
use Rattle.iface_dns.proofs.dns.Dns.make_room.Goals as goal

abbrev with_sockets : Dns → List (Option ℕ) → Dns
with_sockets d sockets = record d { sockets = sockets }

pub returns-then-is_waiting : goal.returns-then-is_waiting
returns-then-is_waiting c =
    let there : socket_at c.args.self.now c.args.place ≡ Some c.in-Some.number = cc in
    let waits : is_waiting c.args.host.now c.in-Some.number ≡ true = cc in
    OneWaits c.in-Some.number c.open_at-another.result c.close_one.new.host there waits c.close_one.ensures c.open_at-another.ensures
    (ap (with_sockets c.args.self.now) c.set.ensures)

pub returns-else-is_waiting : goal.returns-else-is_waiting
returns-else-is_waiting c =
    let there : socket_at c.args.self.now c.args.place ≡ Some c.in-Some.number = cc in
    let idle : is_waiting c.args.host.now c.in-Some.number ≡ false = cc in
    NoneWaits c.in-Some.number there idle refl refl
