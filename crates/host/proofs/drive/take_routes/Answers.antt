use Rattle.std.proofs.Common.{◌≡◌, ℕ, List, ap, rules, ◌∙◌}
use Rattle.host_machine.specs.Context.Host.{no_sockets}
use Rattle.iface_tables.specs.declared.route.Route.{Route}
use Rattle.iface_tables.specs.Store.{Stored}
use Rattle.interface.proofs.SettingCalls.{routes_become}
use Rattle.host.proofs.drive.take_routes.Goals as goal

pub returns : goal.returns
returns c =
    let put : c.update.new.self ≡ record c.routes_mut.result.now { items = c.args.list.items } = search rules in
    λ sockets H h. routes_become c.args.interface.now c.update.new.self sockets H h (λ (room : ℕ) (routes : List Route). c.args.list.items)
    (ap (λ (s : Stored Route). s.items) put) (ap (λ (s : Stored Route). s.room) put ∙ c.routes_mut.ensures.room no_sockets)
