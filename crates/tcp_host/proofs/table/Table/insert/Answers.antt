use Rattle.std.proofs.Common.{◌≡◌, ◌<◌, ◌+◌, ℕ, length, max, arith, subst}
use Rattle.std.specs.Prelude.{get_or, set, Some, None}
use Rattle.std.proofs.lemmas.Grind.{common_steps}
use Rattle.tcp_host.specs.Table.{ends_at, IsNowhere}
use Rattle.tcp_host.specs.Details.Cells.{Stands}
use Rattle.tcp_host.specs.Homes.{home}
use Rattle.tcp_host.proofs.TableLemmas.{inserted}
use Rattle.tcp_host.proofs.table.Table.insert.Goals as goal

pub overflow_cast-offset : goal.overflow_cast-offset
overflow_cast-offset c =
    let a = c.self.invariant.cells_len in
    let b = c.self.invariant.few in
    let d = c.self.invariant.few_homes in
    let w = c.free_offset-offset.ensures.within in
    grind (arith, a, b, d, w)

pub overflow_add-offset : goal.overflow_add-offset
overflow_add-offset c =
    let a = c.self.invariant.cells_len in
    let b = c.self.invariant.few in
    let d = c.self.invariant.few_homes in
    let w = c.free_offset-offset.ensures.within in
    grind (arith, a, b, d, w)

pub invariant_of-self : goal.invariant_of-self
invariant_of-self c =
    let i = c.self.inside in
    let h = c.home-first.result in
    let offset = c.free_offset-offset.result in
    let view = c.self.view_is in
    let is_max : max (get_or i.reaches.items h 0) (offset + 1) ≡ c.max.result = grind (arith, common_steps, c.max.ensures, c.index-reach.ensures) in
    let is_home : h ≡ home i.key (length i.reaches.items) c.args.endpoints.now = grind (arith, c.home-first.ensures.value, c.len.ensures) in
    let h_within : h < length i.reaches.items = grind (arith, c.home-first.ensures.within, c.len.ensures) in
    let place_within : c.args.place < length i.ends.items = grind (arith, c.requires.within, view) in
    let cell_within : h + offset < length i.cells.items = grind (arith, c.free_offset-offset.ensures.within, c.deref.ensures.len) in
    let empty : get_or i.cells.items (h + offset) 0 ≡ 0 = grind (arith, c.free_offset-offset.ensures.empty, c.deref.ensures.value) in
    let free : ends_at i.ends.items c.args.place ≡ None = grind (arith, c.requires.free, view) in
    let none = c.find.ensures.none (grind (arith, c.if-is_some.false, c.is_some.ensures)) in
    let nowhere : IsNowhere c.args.endpoints.now i.ends.items = rw (← view) at none in
    subst
    (λ (m : ℕ). Stands i.key (set i.ends.items c.args.place (Some c.args.endpoints.now)) (set i.cells.items (h + offset) (c.args.place + 1))
    (set i.reaches.items h m))
    is_max
    (inserted i.key i.ends.items i.cells.items i.reaches.items c.self.invariant c.args.place h offset c.args.endpoints.now is_home h_within
    place_within cell_within empty free nowhere)
