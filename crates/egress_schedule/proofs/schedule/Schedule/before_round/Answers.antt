use Rattle.std.proofs.Common.{ap, ◌∙◌}
use Rattle.egress_schedule.specs.Rounds.{with_long_set_aside, with_packets_passing, with_turns_taken}
use Rattle.egress_schedule.proofs.schedule.Schedule.before_round.Goals as goal

pub returns : goal.returns
returns g c =
    c.let_packets_pass.ensures ∙ ap (with_packets_passing (g.N.Neighbors.knows c.args.neighbors.now) c.args.now)
    (c.prepare_waiting.ensures ∙ ap (with_turns_taken c.args.now)
    (c.prepare_long.ensures ∙ ap (with_long_set_aside c.args.ip_mtu c.args.now c.args.is_piece_left) c.bring_packets.ensures))
