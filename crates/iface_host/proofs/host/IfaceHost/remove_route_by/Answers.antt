use Rattle.std.proofs.Common.{◌≡◌, ◌<◌, ◌≤◌, List, length, ap, rules, ◌∙◌, arith}
use Rattle.std.specs.List.{position_or_len}
use Rattle.iface_tables.specs.declared.route.Route.{Route}
use Rattle.host_machine.specs.Context.Host.{no_sockets}
use Rattle.iface_host.proofs.RefusalCalls.{way_none, way_there}
use Rattle.iface_host.proofs.RuleCalls.{removed_by}
use Rattle.iface_host.specs.Calls.{is_way}
use Rattle.iface_host.proofs.host.IfaceHost.remove_route_by.Goals as goal

pub returns-clause-removed : goal.returns-clause-removed
returns-clause-removed c =
    let at : c.index_of_way-index.result ≡ position_or_len (is_way c.args.network c.args.router) c.as_slice-routes.result.now = search rules in
    let own = c.as_slice-routes.ensures.value ∙ (rw c.deref.ensures at (c.routes.ensures.items no_sockets)) in
    removed_by c.args.self.now _ c.args.network c.args.router c.index_of_way-index.result
    (at ∙ ap (λ (routes : List Route). position_or_len (is_way c.args.network c.args.router) routes) own) (rw c.deref_mut.ensures.value at c.take_route.ensures)

pub returns-then-index-routes-clause-why : goal.returns-then-index-routes-clause-why
returns-then-index-routes-clause-why c =
    let at : c.index_of_way-index.result ≡ position_or_len (is_way c.args.network c.args.router) c.as_slice-routes.result.now = search rules in
    let le : length c.as_slice-routes.result.now ≤ c.index_of_way-index.result = omega arith in
    way_none c.args.self.now c.as_slice-routes.result.now c.args.network c.args.router c.index_of_way-index.result
    (c.as_slice-routes.ensures.value ∙ (rw c.deref.ensures at (c.routes.ensures.items no_sockets))) at le

pub returns-clause-why : goal.returns-clause-why
returns-clause-why c =
    let at : c.index_of_way-index.result ≡ position_or_len (is_way c.args.network c.args.router) c.as_slice-routes.result.now = search rules in
    let lt : c.index_of_way-index.result < length c.as_slice-routes.result.now = omega arith in
    way_there c.args.self.now c.as_slice-routes.result.now c.args.network c.args.router c.index_of_way-index.result
    (c.as_slice-routes.ensures.value ∙ (rw c.deref.ensures at (c.routes.ensures.items no_sockets))) at lt
