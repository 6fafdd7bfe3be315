use Rattle.std.proofs.Common.{◌≡◌, ◌+◌, ◌-◌, ℕ, List, take, drop, sym, ap, ◌∙◌, arith}
use Rattle.tcp_machine.specs.Receiving.{Receiver, in_order}
use Rattle.tcp_connection.proofs.ArrivedLemmas.{readable_of}
use Rattle.tcp_connection.proofs.receive_buffer.ReceiveBuffer.readable.Goals as goal

pub returns : goal.returns
returns c =
    let i = c.self.inside in
    let v = c.self.invariant in
    let f = c.peek_front.ensures in
    let n : i.start + (c.peek_front.result - i.base) - i.start ≡ Rattle.net_base.specs.Ranges.front i.arrived - i.base = omega (arith, f) in
    ap (λ (k : ℕ). take k (drop i.start c.deref.result.now)) n
    ∙ ap (λ (xs : List ℕ). take (Rattle.net_base.specs.Ranges.front i.arrived - i.base) (drop i.start xs)) c.deref.ensures.value
    ∙ sym (ap (λ (r : Receiver). in_order r.cells) (sym c.self.view_is)
    ∙ readable_of c.rings_stand.ensures i.base i.items.items i.start i.room i.arrived i.stop v.0 v.1 v.2)
