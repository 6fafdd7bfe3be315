use Rattle.std.proofs.Common.{sym, ap, ◌∙◌, arith}
use Rattle.tcp_machine.specs.Receiving.{next, edge}
use Rattle.tcp_connection.proofs.ArrivedLemmas.{next_of, edge_of, front_within}
use Rattle.tcp_connection.proofs.receive_buffer.ReceiveBuffer.next.Goals as goal

pub returns-clause-value : goal.returns-clause-value
returns-clause-value c =
    let i = c.self.inside in
    let v = c.self.invariant in
    c.peek_front.ensures
    ∙ sym (ap next (sym c.self.view_is) ∙ next_of c.rings_stand.ensures i.base i.items.items i.start i.room i.arrived i.stop v.0 v.1 v.2)

pub returns-clause-within : goal.returns-clause-within
returns-clause-within c =
    let i = c.self.inside in
    let v = c.self.invariant in
    let e = ap edge (sym c.self.view_is) ∙ edge_of i.base i.items.items i.start i.room i.arrived i.stop v.1 v.2 in
    let f = c.peek_front.ensures in
    let w = front_within i.base i.room i.arrived v.0 in
    omega (arith, e, f, w)
