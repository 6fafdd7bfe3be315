use Rattle.std.proofs.Common.{List, length, sym, ap, ◌∙◌, None}
use Rattle.net_base.specs.declared.assembler.Range.{Range}
use Rattle.tcp_connection.specs.Details.Arrived.{receiver_of}
use Rattle.tcp_machine.specs.Receiving.{Receiver, open_receiver}
use Rattle.tcp_connection.proofs.ArrivedLemmas.{opened_is, room_of}
use Rattle.tcp_connection.proofs.receive_buffer.ReceiveBuffer.clear.Goals as goal

pub returns : goal.returns
returns c =
    let i = c.self.inside in
    let v = c.self.invariant in
    let same = ap (λ (r : Receiver). length r.cells) (sym c.self.view_is) ∙ room_of i.base i.items.items i.start i.room i.arrived i.stop v.1 v.2 in
    ap (λ (rs : List Range). receiver_of 1 i.items.items 0 i.room rs None) c.only_syn-self-inside.ensures
    ∙ opened_is i.items.items i.room v.2 ∙ sym (ap open_receiver same)
