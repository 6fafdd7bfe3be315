use Rattle.std.proofs.Common.{◌≡◌, ◌≤◌, ℕ, List, length, sym, ap, ◌∙◌, arith, Option}
use Rattle.net_base.specs.declared.assembler.Range.{Range}
use Rattle.tcp_machine.specs.Receiving.{expected}
use Rattle.tcp_machine.specs.Sack as sack
use Rattle.tcp_connection.specs.Blocks.{blocks_in, part_beyond, newest_first}
use Rattle.tcp_connection.proofs.BlockLemmas.{blocks_are}
use Rattle.tcp_connection.proofs.receive_buffer.ReceiveBuffer.blocks.Goals as goal

pub returns : goal.returns
returns c =
    let i = c.self.inside in
    let v = c.self.invariant in
    let p = c.args.latest in
    let e = c.expected-expected.result in
    let same = c.ranges-ranges.ensures.value in
    let at = λ (n : ℕ). ap (λ (rs : List Range). part_beyond e rs n) same in
    let len = ap length same in
    let few = c.ranges-ranges.ensures.few in
    ap blocks_in c.newest_first.ensures
    ∙ ap (λ (o : Option Range). blocks_in (newest_first p o c.part_beyond-second.result c.part_beyond-first.result)) (c.part_beyond-third.ensures ∙ at 3)
    ∙ ap (λ (o : Option Range). blocks_in (newest_first p (part_beyond e i.arrived 3) o c.part_beyond-first.result)) (c.part_beyond-second.ensures ∙ at 2)
    ∙ ap (λ (o : Option Range). blocks_in (newest_first p (part_beyond e i.arrived 3) (part_beyond e i.arrived 2) o)) (c.part_beyond-first.ensures ∙ at 1)
    ∙ blocks_are c.rings_stand.ensures p i.base i.items.items i.start i.room i.arrived i.stop e v.0 v.1 v.2 (omega (arith, len, few))
    (c.expected-expected.ensures.value ∙ ap expected (sym c.self.view_is))
    ∙ ap (sack.blocks_of p) c.self.view_is
