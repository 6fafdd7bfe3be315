use Rattle.std.proofs.Common.{arith, ap, ◌∙◌}
use Rattle.std.specs.Prelude.{pos, ◌+ℤ◌}
use Rattle.std.proofs.lemmas.Int.{ints}
use Rattle.iface_tables.proofs.SortedLemmas.{count_all, count_none, in_order}
use Rattle.iface_tables.proofs.neighbor.end_at.Goals as goal

pub sub-requires : goal.sub-requires
sub-requires c =
    in_order c.first_end-low.result c.last_end.result c.args.entries.now (omega (arith, c.requires)) c.first_end-low.ensures c.last_end.ensures

pub loop-width-init : goal.loop-width-init
loop-width-init c =
    let es = c.args.entries.now in
    let none = count_none c.first_end-low.result es c.first_end-low.ensures in
    let all = count_all c.last_end.result es c.last_end.ensures in
    let high = ap (λ w. c.first_end-low.result +ℤ pos w) c.total_micros-width.ensures ∙ c.sub.ensures in
    record {
      top = omega (arith, ints, high, c.last_end.type_inv);
      before = omega (arith, none);
      until = rw high (omega (arith, all, c.requires));
    }
