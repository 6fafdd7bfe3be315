use Rattle.std.proofs.Common.{◌≡◌, Bool, true, ap, ◌∙◌, rules}
use Rattle.std.specs.Prelude.{◌||◌}
use Rattle.host_machine.specs.Context.Host.{no_sockets}
use Rattle.egress_schedule.specs.Rounds.{before_round}
use Rattle.interface.specs.declared.interface.Interface.{Interface}
use Rattle.iface_host.specs.Frames.{planned}
use Rattle.iface_host.specs.Known.{knows_at}
use Rattle.iface_host.specs.Outbox.{with_room}
use Rattle.iface_host.proofs.FrameCalls.{rounded}
use Rattle.iface_host.proofs.host.IfaceHost.round.Goals as goal

pub returns-clause-went : goal.returns-clause-went
returns-clause-went c =
    let reserved : c.reserve.new.self ≡ with_room true c.args.self.now.outbox = search rules in
    rounded c.args.now c.poll_into-answer.result.1 c.args.out.now c.poll_into-answer.new.out c.args.self.now c.reserve.new.self reserved
    c.has_pending_fragment-is_piece_left.result (rw c.deref.ensures at (c.has_pending_fragment-is_piece_left.ensures no_sockets))
    (record { plan = c.prepare.new.schedule; sockets = c.prepare.new.sockets })
    (record { plan = c.after_round.new.self; sockets = c.after_round.new.sockets })
    (c.prepare.ensures ∙ ap (λ (i : Interface).
    before_round (knows_at i) c.args.now c.args.self.now.ip_mtu c.has_pending_fragment-is_piece_left.result (planned c.args.self.now)) c.deref-2.ensures)
    c.poll_into-answer.result.0 _ _ _ (rw c.deref_mut.ensures.value at c.poll_into-answer.ensures) c.after_round.ensures
    (c.args.self.now.changed || c.is_changed.result) (ap (λ (b : Bool). c.args.self.now.changed || b) c.is_changed.ensures)
    c.hand_over.new.self c.hand_over.ensures
