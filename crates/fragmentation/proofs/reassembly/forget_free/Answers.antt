use Rattle.std.proofs.Common.{◌≡◌, length, ap, ◌∙◌, arith}
use Rattle.fragmentation.proofs.LoopLemmas.{keyed_to, forgot_more, keyed_all}
use Rattle.fragmentation.proofs.reassembly.forget_free.Goals as goal

pub loop-i-preserved : goal.loop-i-preserved
loop-i-preserved g c =
    forgot_more c.loop-i.i c.args.keys.now c.loop-i.keys c.args.assemblers.now c.index-keys-i.result c.forget_if_free.new.key
    c.index-assemblers-i.result c.requires.as_many c.loop-i-test.true c.loop-i.invariant c.index-assemblers-i.is
    c.forget_if_free.ensures

pub returns : goal.returns
returns g c =
    let end : c.loop-i.i ≡ length c.args.keys.now = omega arith in
    c.loop-i.invariant ∙ ap (λ i. keyed_to i c.args.keys.now c.args.assemblers.now) end
    ∙ keyed_all c.args.keys.now c.args.assemblers.now c.requires.as_many
