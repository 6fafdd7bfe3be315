use Rattle.std.proofs.Common.{length, sym, ap, ◌∙◌}
use Rattle.tcp_machine.specs.Receiving.{Receiver}
use Rattle.tcp_connection.proofs.ArrivedLemmas.{room_of}
use Rattle.tcp_connection.proofs.receive_buffer.ReceiveBuffer.room.Goals as goal

pub returns-clause-value : goal.returns-clause-value
returns-clause-value c =
    let i = c.self.inside in
    let v = c.self.invariant in
    sym (ap (λ (r : Receiver). length r.cells) (sym c.self.view_is) ∙ room_of i.base i.items.items i.start i.room i.arrived i.stop v.1 v.2)
