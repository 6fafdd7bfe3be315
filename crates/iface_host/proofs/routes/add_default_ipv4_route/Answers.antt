use Rattle.std.proofs.Common.{ℕ, List, ap, ◌∙◌}
use Rattle.host_machine.specs.Context.Host.{no_sockets}
use Rattle.iface_tables.specs.declared.route.Route.{Route}
use Rattle.iface_tables.specs.Route.{is_ipv4_gateway, ipv4_gateway, with_default}
use Rattle.iface_tables.specs.Store.{Stored}
use Rattle.interface.proofs.SettingCalls.{routes_become}
use Rattle.iface_host.proofs.routes.add_default_ipv4_route.Goals as goal

pub returns-clause-answer : goal.returns-clause-answer
returns-clause-answer c = λ sockets.
    rw (c.routes_mut.ensures.items sockets, c.routes_mut.ensures.room sockets) at c.add_default_ipv4_route.ensures.answer

pub returns-clause-table : goal.returns-clause-table
returns-clause-table c = λ sockets H h.
    routes_become c.args.interface.now c.add_default_ipv4_route.new.self sockets H h
    (λ (room : ℕ) (routes : List Route). with_default room is_ipv4_gateway routes (ipv4_gateway c.args.gateway))
    (rw (c.routes_mut.ensures.items no_sockets, c.routes_mut.ensures.room no_sockets) at
    (ap (λ (s : Stored Route). s.items) c.add_default_ipv4_route.ensures.table))
    (ap (λ (s : Stored Route). s.room) c.add_default_ipv4_route.ensures.table ∙ c.routes_mut.ensures.room no_sockets)
