use Rattle.std.proofs.Common.{ℕ, sym, ap, ◌∙◌}
use Rattle.std.specs.Prelude.{nat_lt}
use Rattle.tcp_machine.specs.Arrivals.{has_gap}
use Rattle.tcp_connection.proofs.GapLemmas.{gap_is}
use Rattle.tcp_connection.proofs.receive_buffer.ReceiveBuffer.has_gap.Goals as goal

pub returns : goal.returns
returns c =
    let i = c.self.inside in
    let v = c.self.invariant in
    ap (λ (n : ℕ). nat_lt n i.furthest) c.peek_front.ensures
    ∙ sym (ap has_gap (sym c.self.view_is)
    ∙ gap_is c.rings_stand.ensures i.base i.items.items i.start i.room i.arrived i.stop i.furthest v.0 v.1 v.2 v.5)
