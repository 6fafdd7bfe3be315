use Rattle.std.proofs.Common.{sym, ap, ◌∙◌}
use Rattle.tcp_machine.specs.Receiving.{edge}
use Rattle.tcp_connection.proofs.ArrivedLemmas.{edge_of}
use Rattle.tcp_connection.proofs.receive_buffer.ReceiveBuffer.edge.Goals as goal

pub returns-clause-value : goal.returns-clause-value
returns-clause-value c =
    let i = c.self.inside in
    let v = c.self.invariant in
    sym (ap edge (sym c.self.view_is) ∙ edge_of i.base i.items.items i.start i.room i.arrived i.stop v.1 v.2)
