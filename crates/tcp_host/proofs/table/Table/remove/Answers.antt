use Rattle.std.proofs.Common.{◌≡◌, ◌<◌, ◌≤◌, ◌+◌, length, arith}
use Rattle.std.specs.Prelude.{get_or, Some}
use Rattle.std.proofs.lemmas.Grind.{common_steps}
use Rattle.tcp_host.specs.Table.{ends_at}
use Rattle.tcp_host.specs.Homes.{home}
use Rattle.tcp_host.proofs.TableLemmas.{removed}
use Rattle.tcp_host.proofs.table.Table.remove.Goals as goal

pub offset_of-offset-requires-clause-there : goal.offset_of-offset-requires-clause-there
offset_of-offset-requires-clause-there c =
    let i = c.self.inside in
    let has : ends_at i.ends.items c.args.place ≡ Some c.in-Some.endpoints = grind (arith, common_steps, c.index-ends.ensures, c.in-Some.is, c.requires, c.self.view_is) in
    let f = c.self.invariant.found c.in-Some.endpoints c.args.place has in
    let is_home : c.home-first.result ≡ home i.key (length i.reaches.items) c.in-Some.endpoints = grind (arith, c.home-first.ensures.value, c.len.ensures) in
    let near = f.near in
    let cell = f.cell in
    (f.offset, grind (arith, common_steps, near, is_home, c.index.ensures), grind (arith, common_steps, cell, is_home, c.deref.ensures.value))

pub invariant_of-self : goal.invariant_of-self
invariant_of-self c =
    let i = c.self.inside in
    let h = c.home-first.result in
    let offset = c.offset_of-offset.result in
    let has : ends_at i.ends.items c.args.place ≡ Some c.in-Some.endpoints = grind (arith, common_steps, c.index-ends.ensures, c.in-Some.is, c.requires, c.self.view_is) in
    let h_within : h < length i.reaches.items = grind (arith, c.home-first.ensures.within, c.len.ensures) in
    let place_within : c.args.place < length i.ends.items = grind (arith, c.requires, c.self.view_is) in
    let w = c.self.invariant.within h h_within in
    let reach : get_or i.reaches.items h 0 ≡ c.index.result.now = grind (arith, common_steps, c.index.ensures) in
    let cell_within : h + offset < length i.cells.items = grind (arith, c.offset_of-offset.ensures.near, w, reach) in
    let cell : get_or i.cells.items (h + offset) 0 ≡ c.args.place + 1 = grind (arith, c.offset_of-offset.ensures.at, c.deref.ensures.value) in
    let less : c.needed.result ≤ get_or i.reaches.items h 0 = grind (arith, c.needed.ensures.less, reach) in
    removed i.key i.ends.items i.cells.items i.reaches.items c.self.invariant c.args.place h offset c.needed.result c.in-Some.endpoints h_within
    place_within cell_within cell has less (λ k l m. let e = c.needed.ensures.empty k l (omega (arith, m, reach)) in grind (arith, e, c.deref-2.ensures.value))
