use Rattle.std.proofs.Common.{◌∙◌, Some, ap, refl}
use Rattle.std.specs.Option.{option_map}
use Rattle.tcp_connection.specs.declared.outgoing.Action.{Action}
use Rattle.tcp_connection.specs.Actions.{action_of}
use Rattle.tcp_host.specs.declared.turns.Turn.TheVariants.{Idle, Quiet, Sends}
use Rattle.tcp_sockets.proofs.TurnLemmas.{sends_is_due}
use Rattle.tcp_sockets.proofs.tcp_sockets.TcpSockets.give_turn.Goals as goal

pub returns-in-Idle : goal.returns-in-Idle
returns-in-Idle g c = record { turn = Idle; host = c.next_segment.new.self; takes = c.in-Idle.ensures; follows = (refl, refl) }

pub returns-in-Quiet : goal.returns-in-Quiet
returns-in-Quiet g c = record { turn = Quiet; host = c.next_segment.new.self; takes = c.in-Quiet.ensures; follows = (refl, refl) }

pub send_from-requires-clause-due : goal.send_from-requires-clause-due
send_from-requires-clause-due g c =
    let d = sends_is_due c.in-Sends.place c.in-Sends.action c.args.now c.args.host.now c.next_segment.new.self c.in-Sends.ensures in
    ap (option_map action_of) d.is_due ∙ ap (λ (a : Action). Some a) d.is_asked

pub returns-in-Sends : goal.returns-in-Sends
returns-in-Sends g c =
    let d = sends_is_due c.in-Sends.place c.in-Sends.action c.args.now c.args.host.now c.next_segment.new.self c.in-Sends.ensures in
    record {
      turn = Sends c.in-Sends.place c.in-Sends.action;
      host = c.next_segment.new.self;
      takes = c.in-Sends.ensures;
      follows = (refl, record { due = d.due; is_due = d.is_due; is_asked = d.is_asked; sends = c.send_from.ensures d.due d.is_due d.is_asked });
    }
