use Rattle.std.proofs.Common.{◌≡◌, ◌≤◌, length, sym, ◌∙◌, arith}
use Rattle.fragmentation.specs.Assembly.{with_keys}
use Rattle.fragmentation.proofs.HolderLemmas.{released_with, left_beyond, kept_released, none_released}
use Rattle.fragmentation.proofs.KeptLemmas.{length-with_keys}
use Rattle.fragmentation.proofs.reassembly.release_among.Goals as goal

pub returns-then-index-keys-clause-left : goal.returns-then-index-keys-clause-left
returns-then-index-keys-clause-left g c =
    let long = c.requires.as_many in
    released_with c.args.index c.args.keys.now c.args.assemblers.now c.index-assemblers-index.result c.reset.new.self
    c.if-index-keys.true (omega (arith, long, c.if-index-keys.true)) c.reset.ensures

pub returns-then-index-keys-clause-kept : goal.returns-then-index-keys-clause-kept
returns-then-index-keys-clause-kept g c = kept_released c.args.index c.args.keys.now c.args.assemblers.now c.reset.new.self

pub returns-then-index-keys-clause-none : goal.returns-then-index-keys-clause-none
returns-then-index-keys-clause-none g c = none_released c.args.index c.args.keys.now

pub returns-else-index-keys-clause-left : goal.returns-else-index-keys-clause-left
returns-else-index-keys-clause-left g c =
    let long = length-with_keys c.args.keys.now c.args.assemblers.now c.requires.as_many in
    let many = c.requires.as_many in
    left_beyond c.args.index (with_keys c.args.keys.now c.args.assemblers.now) (omega (arith, long, many, c.if-index-keys.false))
