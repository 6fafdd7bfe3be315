use Rattle.std.proofs.Common.{◌≡◌, not, length, ap, sym, ◌∙◌, arith}
use Rattle.fragmentation.specs.Assembly.{with_keys}
use Rattle.fragmentation.proofs.LoopLemmas.{left_to, left_more, left_same, left_all}
use Rattle.fragmentation.proofs.reassembly.drop_expired.Goals.{then-is_some, else-is_some}
use Rattle.fragmentation.proofs.reassembly.drop_expired.Goals as goal

pub loop-i-preserved : goal.loop-i-preserved
loop-i-preserved g c =
    let t = c.args.timestamp in
    elim c.if-is_some.branch [
      | then-is_some w ↦ rw w.assemblers-is (left_more t c.loop-i.i c.args.keys.now c.args.assemblers.now c.loop-i.assemblers c.index-keys-i.result
          w.index-assemblers-i.result w.leave_at.new.self c.requires.as_many c.loop-i-test.true c.loop-i.invariant c.index-keys-i.is
          (ap not (sym w.if-is_some.ensures)) w.leave_at.ensures)
      | else-is_some w ↦ rw w.assemblers-is (left_same t c.loop-i.i c.args.keys.now c.args.assemblers.now c.loop-i.assemblers c.index-keys-i.result
          c.loop-i-test.true c.loop-i.invariant c.index-keys-i.is (ap not (sym w.if-is_some.ensures)))
    ]

pub returns-clause-left : goal.returns-clause-left
returns-clause-left g c =
    let end : c.loop-i.i ≡ length c.args.keys.now = omega arith in
    ap (with_keys c.args.keys.now) (c.loop-i.invariant ∙ ap (λ i. left_to c.args.timestamp i c.args.keys.now c.args.assemblers.now) end)
    ∙ left_all c.args.timestamp c.args.keys.now c.args.assemblers.now c.requires.as_many
