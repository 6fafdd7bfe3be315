use Rattle.std.proofs.Common.{◌∙◌, sym}
use Rattle.fragmentation.proofs.KeptLemmas.{first_again, first_keys, first_serves}
use Rattle.fragmentation.proofs.reassembly.is_first_for.Goals as goal

pub returns-clause-slot : goal.returns-clause-slot
returns-clause-slot g c = λ _.
    first_serves g.K.PartialEq.eq c.args.key.now c.args.keys.now c.args.assemblers.now c.index-keys-0.result c.index-assemblers-0.result
    c.index-assemblers-1.result c.requires.keys c.requires.places c.index-assemblers-0.is
    (sym c.is_alone_for.ensures ∙ c.if-not-is_alone_for.false)

pub returns-clause-taken : goal.returns-clause-taken
returns-clause-taken g c = λ _.
    first_again g.K.PartialEq.eq c.args.key.now c.args.keys.now c.args.assemblers.now c.index-keys-0.result c.index-keys-0-2.result
    c.index-assemblers-0.result c.index-assemblers-1.result c.index-assemblers-0-2.result c.keep_key.new.self c.requires.keys
    c.requires.places c.index-assemblers-0.is c.index-assemblers-1.is
    (sym c.is_alone_for.ensures ∙ c.if-not-is_alone_for.false) c.index-keys-0-2.is c.keep_key.ensures.kept

pub returns-clause-keys : goal.returns-clause-keys
returns-clause-keys g c = λ _. rw c.forget.ensures (
    first_keys g.K.PartialEq.eq c.args.key.now c.args.keys.now c.args.assemblers.now c.index-keys-0.result c.keep_key.result
    c.index-assemblers-0.result c.index-assemblers-1.result c.keep_key.new.self c.requires.keys c.requires.places
    c.index-assemblers-1.is (sym c.is_alone_for.ensures ∙ c.if-not-is_alone_for.false) c.keep_key.ensures.value)
