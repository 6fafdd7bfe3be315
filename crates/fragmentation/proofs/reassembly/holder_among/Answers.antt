use Rattle.std.proofs.Common.{◌≡◌, ◌≤◌, length, sym, ◌∙◌, arith}
use Rattle.fragmentation.specs.Assembly.{with_keys}
use Rattle.fragmentation.proofs.HolderLemmas.{holder_in, none_beyond}
use Rattle.fragmentation.proofs.KeptLemmas.{length-with_keys}
use Rattle.fragmentation.proofs.reassembly.holder_among.Goals as goal

pub returns-then-index-keys : goal.returns-then-index-keys
returns-then-index-keys g c =
    let long = c.requires.as_many in
    c.holder.ensures ∙ holder_in c.args.index c.args.keys.now c.args.assemblers.now c.index-keys-index.result c.index-assemblers-index.result
    c.if-index-keys.true (omega (arith, long, c.if-index-keys.true)) c.index-keys-index.is c.index-assemblers-index.is

pub returns-else-index-keys : goal.returns-else-index-keys
returns-else-index-keys g c =
    let long = length-with_keys c.args.keys.now c.args.assemblers.now c.requires.as_many in
    let many = c.requires.as_many in
    sym (none_beyond c.args.index (with_keys c.args.keys.now c.args.assemblers.now) (omega (arith, long, many, c.if-index-keys.false)))
