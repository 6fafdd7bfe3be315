use Rattle.tcp_sockets.specs.Polls.{state}
use Rattle.tcp_sockets.proofs.PollLemmas.{after_resuming}
use Rattle.tcp_sockets.proofs.tcp_sockets.TcpSockets.poll_with_neighbors.Goals as goal

pub returns : goal.returns
returns g c =
    let after_v4 = state c.hear_family.new.self c.hear_family.new.host c.hear_family.new.sockets in
    let after_v6 = state c.hear_family-2.new.self c.hear_family-2.new.host c.hear_family-2.new.sockets in
    record {
      after_v4 = after_v4;
      after_v6 = after_v6;
      hears_v4 = c.hear_family.ensures;
      hears_v6 = c.hear_family-2.ensures;
      sends = after_resuming (goal.F-post g c.args.has_neighbor) c.args.now c.args.own.now c.resume.new.self c.resume.new.host after_v6
          (state c.give_turns.new.self c.give_turns.new.host c.give_turns.new.sockets) c.resume.ensures.carrier c.resume.ensures.host c.give_turns.ensures;
    }
