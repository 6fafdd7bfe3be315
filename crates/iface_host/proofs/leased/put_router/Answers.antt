use Rattle.std.proofs.Common.{ℕ, List, ap, ◌∙◌}
use Rattle.host_machine.specs.Context.Host.{no_sockets}
use Rattle.iface_tables.specs.declared.route.Route.{Route}
use Rattle.iface_tables.specs.Store.{Stored}
use Rattle.interface.proofs.SettingCalls.{routes_become}
use Rattle.iface_host.specs.Leased.{routes_with}
use Rattle.iface_host.proofs.leased.put_router.Goals as goal

pub replace_router-requires : goal.replace_router-requires
replace_router-requires c = rw (← (c.routes_mut.ensures.items no_sockets), ← (c.routes_mut.ensures.room no_sockets)) at c.requires

pub returns : goal.returns
returns c = λ sockets H h.
    routes_become c.args.interface.now c.replace_router.new.routes sockets H h
    (λ (room : ℕ) (routes : List Route). routes_with c.args.old.now c.args.new.now routes)
    (rw (c.routes_mut.ensures.items no_sockets) at (ap (λ (s : Stored Route). s.items) c.replace_router.ensures))
    (ap (λ (s : Stored Route). s.room) c.replace_router.ensures ∙ c.routes_mut.ensures.room no_sockets)
