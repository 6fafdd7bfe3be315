use Rattle.std.proofs.Common.{◌≡◌, arith}
use Rattle.std.proofs.lemmas.Grind.{common_steps}
use Rattle.std.specs.Prelude.{Some}
use Rattle.tcp_host.specs.Table.{ends_at}
use Rattle.tcp_host.proofs.table.Table.find.Goals as goal

pub returns-clause-none : goal.returns-clause-none
returns-clause-none c = λ none place has.
    let view = c.self.view_is in
    let has_it : ends_at c.self.inside.ends.items place ≡ Some c.args.endpoints.now = grind (arith, has, view) in
    let f = c.self.invariant.found c.args.endpoints.now place has_it in
    let near = f.near in
    let cell = f.cell in
    c.search.ensures.none none f.offset place (grind (arith, common_steps, near)) (grind (arith, common_steps, cell)) (grind (arith, has, view, c.deref-2.ensures.value, c.deref.ensures.value))
