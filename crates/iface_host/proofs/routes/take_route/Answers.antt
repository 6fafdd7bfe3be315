use Rattle.std.proofs.Common.{ℕ, List, ap, ◌∙◌}
use Rattle.std.specs.List.{remove}
use Rattle.host_machine.specs.Context.Host.{no_sockets}
use Rattle.iface_tables.specs.declared.route.Route.{Route}
use Rattle.iface_tables.specs.Store.{Stored}
use Rattle.interface.proofs.SettingCalls.{routes_become}
use Rattle.iface_host.proofs.routes.take_route.Goals as goal

pub returns : goal.returns
returns c = λ sockets H h.
    routes_become c.args.interface.now c.remove.new.self sockets H h (λ (room : ℕ) (routes : List Route). remove routes c.args.index)
    (rw (c.routes_mut.ensures.items no_sockets) at (ap (λ (s : Stored Route). s.items) c.remove.ensures.table))
    (ap (λ (s : Stored Route). s.room) c.remove.ensures.table ∙ c.routes_mut.ensures.room no_sockets)
