use Rattle.std.proofs.Common.{ap, ◌∙◌, sym}
use Rattle.host_machine.specs.Context.Host.{Host, at, with_slots}
use Rattle.interface.proofs.EgressCall.{egressed}
use Rattle.interface.proofs.interface.Interface.poll_egress.Goals as goal

pub returns : goal.returns
returns g c = λ H h.
    egressed g.met.D.Device.tells_on c.set_moment.new.context c.ipv4_egress.new.context c.ndisc_rs_egress.new.context c.joins_egress.new.context
    c.leaves_egress.new.context c.igmp_egress.new.context c.mld_egress.new.context c.socket_egress.new.context
    c.args.self.now.fragments c.args.sockets.now c.socket_egress.new.sockets c.args.timestamp H h.slots c.socket_egress.result c.poll_result.result
    h.stand (ap (λ (K : Host). at K c.args.timestamp) h.same ∙ ap (λ K. with_slots K h.slots) (sym (c.set_moment.ensures c.args.sockets.now)))
    c.ipv4_egress.ensures c.ndisc_rs_egress.ensures c.joins_egress.ensures c.leaves_egress.ensures c.igmp_egress.ensures c.mld_egress.ensures
    (c.socket_egress.ensures h.slots) c.poll_result.ensures
