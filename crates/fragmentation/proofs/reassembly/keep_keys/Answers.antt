use Rattle.std.proofs.Common.{◌≡◌, length, ap, ◌∙◌, arith, sym}
use Rattle.fragmentation.specs.Assembly.{keys_of}
use Rattle.fragmentation.proofs.LoopLemmas.{kept_to, keyed_to, kept_more, kept_all, keyed_all}
use Rattle.fragmentation.proofs.reassembly.keep_keys.Goals as goal

pub loop-i-preserved : goal.loop-i-preserved
loop-i-preserved g c =
    kept_more c.loop-i.i c.args.keys.now c.loop-i.keys c.args.assemblers.now c.loop-i.assemblers c.index-keys-i.result c.keep_key.result
    c.index-assemblers-i.result c.keep_key.new.self c.requires c.loop-i-test.true c.loop-i.invariant.0 c.loop-i.invariant.1
    c.index-keys-i.is c.keep_key.ensures.kept c.keep_key.ensures.value

pub returns-clause-places : goal.returns-clause-places
returns-clause-places g c =
    let end : c.loop-i.i ≡ length c.args.keys.now = omega arith in
    c.loop-i.invariant.0 ∙ ap (λ i. kept_to i c.args.keys.now c.args.assemblers.now) end ∙ kept_all c.args.keys.now c.args.assemblers.now c.requires

pub returns-clause-keys : goal.returns-clause-keys
returns-clause-keys g c =
    let end : c.loop-i.i ≡ length c.args.keys.now = omega arith in
    c.loop-i.invariant.1 ∙ ap (λ i. keyed_to i c.args.keys.now c.args.assemblers.now) end ∙ keyed_all c.args.keys.now c.args.assemblers.now c.requires
    ∙ ap keys_of (sym (returns-clause-places g c))
