use Rattle.std.proofs.Common.{◌≡◌, ◌<◌, ◌≤◌, length, get_or, sym, ◌∙◌}
use Rattle.ip_wire.specs.HopByHop.{failure_of}
use Rattle.ip_wire.specs.declared.hop_by_hop.Ipv6OptionRepr.TheVariants.{Pad1}
use Rattle.ip_wire.proofs.Failures.{skipped, decided, all_skipped}
use Rattle.ip_wire.proofs.hop_by_hop.Ipv6HopByHopRepr.failure_type.Goals as goal

pub returns-in_default : goal.returns-in_default
returns-in_default c =
    let options = c.args.self.now.options.items in
    let i = c.loop-option.option-index in
    let here : c.failure_type.result ≡ failure_of (get_or options i Pad1) = rw (sym c.as_slice-option-items.ensures.value) c.failure_type.ensures in
    let lt : i < length options = rw (sym c.as_slice-option-items.ensures.value) c.loop-option-test.true in
    here ∙ sym (c.loop-option.invariant ∙ decided options i Pad1 lt (λ skip. c.in_default.not-Skip (here ∙ skip)))

pub loop-option-preserved : goal.loop-option-preserved
loop-option-preserved c =
    let options = c.args.self.now.options.items in
    let i = c.loop-option.option-index in
    let here : c.failure_type.result ≡ failure_of (get_or options i Pad1) = rw (sym c.as_slice-option-items.ensures.value) c.failure_type.ensures in
    let lt : i < length options = rw (sym c.as_slice-option-items.ensures.value) c.loop-option-test.true in
    c.loop-option.invariant ∙ skipped options i Pad1 lt (sym here ∙ c.in-Skip.is)

pub returns : goal.returns
returns c =
    let options = c.args.self.now.options.items in
    let past : length options ≤ c.loop-option.option-index = rw (sym c.as_slice-option-items.ensures.value) c.loop-option-test.false in
    sym (c.loop-option.invariant ∙ all_skipped options c.loop-option.option-index past)
