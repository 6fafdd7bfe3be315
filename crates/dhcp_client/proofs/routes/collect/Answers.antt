use Rattle.std.proofs.Common.{◌≡◌, ◌∙◌, ◌-◌, ap, List, ℕ, length, take, drop}
use Rattle.std.proofs.lemmas.List.{take_rest}
use Rattle.dhcp_client.specs.declared.routes.DhcpRoute.{DhcpRoute}
use Rattle.dhcp_client.specs.Details.Routes.{route_len, is_usable, one_if, in_eight}
use Rattle.std.proofs.Common.{◌++◌}
use Rattle.dhcp_client.proofs.RouteReading.{next_usable, all_usable}
use Rattle.dhcp_client.proofs.routes.collect.Goals as goal

pub loop-len-preserved : goal.loop-len-preserved
loop-len-preserved c =
    let xs : List ℕ = c.loop-len.rest.now in
    let n : ℕ = c.in-Some.len in
    let is : n ≡ route_len xs = c.in-Some.ensures.1 in
    let rest : take (length xs - n) (drop n xs) ≡ drop (route_len xs) xs = take_rest xs n ∙ ap (λ (k : ℕ). drop k xs) is in (
      next_usable c.args.own.now xs (take (length xs - n) (drop n xs)) c.loop-len.routes.items c.push_if.new.routes.items
          c.in-Some.ensures.0 rest
          (c.push_if.ensures.items
          ∙ ap (λ (r : DhcpRoute). in_eight (c.loop-len.routes.items ++ one_if (is_usable c.args.own.now r) r)) c.route_in.ensures)
          ∙ c.loop-len.invariant.0,
      c.push_if.ensures.len,
    )

pub returns-clause-items : goal.returns-clause-items
returns-clause-items c =
    all_usable c.args.own.now c.loop-len.rest.now c.loop-len.routes.items c.in_default.ensures c.loop-len.invariant.1
    ∙ c.loop-len.invariant.0
