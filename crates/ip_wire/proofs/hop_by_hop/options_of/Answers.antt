use Rattle.std.proofs.Common.{◌-◌, ◌<◌, length, arith}
use Rattle.ip_wire.proofs.Options.{all_read, none_left, no_more, one_read, runs_out}
use Rattle.ip_wire.proofs.hop_by_hop.options_of.Goals.{then-loop-options-test+else-not-is_full, else-loop-options-test}
use Rattle.ip_wire.proofs.hop_by_hop.options_of.Goals as goal

pub returns-in_err-option : goal.returns-in_err-option
returns-in_err-option c =
    let left = c.loop-options.left.now in
    let options = c.loop-options.options.items in
    let some : 0 < length left = grind (arith, c.loop-options-test.ensures) in
    let few : length options < 4 = grind (arith, c.loop-options.invariant.few, c.if-not-is_full.ensures.value) in
    rw c.from_residual.ensures (λ all. c.in_err-option.ensures (runs_out c.args.octets.now options left c.loop-options.invariant some few all))

pub loop-options-preserved : goal.loop-options-preserved
loop-options-preserved c =
    let left = c.loop-options.left.now in
    let options = c.loop-options.options.items in
    let some : 0 < length left = grind (arith, c.loop-options-test.ensures) in
    let few : length options < 4 = grind (arith, c.loop-options.invariant.few, c.if-not-is_full.ensures.value) in
    rw c.push.ensures.items (one_read c.args.octets.now options left c.in_ok-option.option c.in_ok-option.after.now c.loop-options.invariant some few
    (c.in_ok-option.ensures))

pub returns : goal.returns
returns c =
    let left = c.loop-options.left.now in
    let options = c.loop-options.options in
    all_read c.args.octets.now options left c.loop-options.invariant
    (elim c.loop-options-test.branch [
      | then-loop-options-test+else-not-is_full w ↦ no_more (4 - length options.items) left (grind (arith, w.if-not-is_full.ensures.value))
      | else-loop-options-test w ↦ none_left (4 - length options.items) left (grind (arith, w.loop-options-test.ensures))
    ])
