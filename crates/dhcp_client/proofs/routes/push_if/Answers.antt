use Rattle.std.proofs.Common.{◌≡◌, ◌==◌, length, true, arith, ◌∙◌, sym}
use Rattle.std.proofs.lemmas.Bool.Decides.{nat_tests}
use Rattle.dhcp_client.specs.Details.Routes.{is_usable}
use Rattle.dhcp_client.proofs.RouteReading.{no_more}
use Rattle.dhcp_client.proofs.routes.push_if.Goals as goal

pub returns-then-is_full-clause-items : goal.returns-then-is_full-clause-items
returns-then-is_full-clause-items c =
    let full : length c.args.routes.now.items ≡ 8 = grind (arith, nat_tests, c.is_full.ensures.value, c.if-is_full.true) in
    no_more c.args.routes.now.items (is_usable c.args.own.now c.args.route) c.args.route full
