use Rattle.std.proofs.Common.{◌≡◌, ◌∙◌, ◌-◌, ◌==◌, ap, sym, List, ℕ, true, false, length, take, drop, Option, Some, arith}
use Rattle.std.proofs.lemmas.Bool.Decides.{nat_tests}
use Rattle.std.proofs.lemmas.List.{take_rest}
use Rattle.dhcp_client.specs.declared.routes.DhcpRoute.{DhcpRoute}
use Rattle.dhcp_client.specs.Details.Routes.{route_len, route_in, default_in}
use Rattle.dhcp_client.proofs.RouteReading.{default_here, default_later, no_default}
use Rattle.dhcp_client.proofs.routes.default_router_in.Goals as goal

pub returns-then-route-eq0 : goal.returns-then-route-eq0
returns-then-route-eq0 c =
    let xs : List ℕ = c.loop-len.rest.now in
    let zero : ((route_in xs).prefix_len == 0) ≡ true =
    grind (arith, nat_tests, ap (λ (r : DhcpRoute). r.prefix_len) c.route_in-route.ensures, c.if-route-eq0.true) in
    ap (λ (r : DhcpRoute). Some r.router) c.route_in-route.ensures ∙ default_here xs c.in-Some.ensures.0 zero ∙ c.loop-len.invariant

pub loop-len-preserved : goal.loop-len-preserved
loop-len-preserved c =
    let xs : List ℕ = c.loop-len.rest.now in
    let n : ℕ = c.in-Some.len in
    let is : n ≡ route_len xs = c.in-Some.ensures.1 in
    let rest : take (length xs - n) (drop n xs) ≡ drop (route_len xs) xs = take_rest xs n ∙ ap (λ (k : ℕ). drop k xs) is in
    let other : ((route_in xs).prefix_len == 0) ≡ false =
    grind (arith, nat_tests, ap (λ (r : DhcpRoute). r.prefix_len) c.route_in-route.ensures, c.if-route-eq0.false) in
    default_later xs (take (length xs - n) (drop n xs)) c.in-Some.ensures.0 rest other ∙ c.loop-len.invariant

pub returns : goal.returns
returns c = sym (no_default c.loop-len.rest.now c.in_default.ensures) ∙ c.loop-len.invariant
