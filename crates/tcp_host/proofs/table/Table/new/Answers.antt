use Rattle.std.proofs.Common.{◌≡◌, refl, arith, ◌+◌, ◌*◌}
use Rattle.std.specs.Prelude.{Option, None, replicate}
use Rattle.tcp_host.specs.declared.iss.Endpoints.{Endpoints}
use Rattle.tcp_host.proofs.TableLemmas.{at_first}
use Rattle.tcp_host.proofs.table.Table.new.Goals as goal

pub invariant_of-result : goal.invariant_of-result
invariant_of-result c =
    let a : c.in_ok-vec.field-0.items ≡ replicate {A = Option Endpoints} c.args.places None = c.in_ok-vec.ensures.items_if_clones_equal (λ y e. grind (arith, e)) in
    let b = c.in_ok-vec-2.ensures.items_if_clones_equal (λ y e. e) in
    let d = c.in_ok-vec-3.ensures.items_if_clones_equal (λ y e. e) in
    rw (a, b, d)
    (at_first c.args.key c.args.places (2 * c.args.places + 1) (2 * c.args.places + 1 + c.args.places) (omega arith) c.requires (omega (arith, c.requires)) refl)
