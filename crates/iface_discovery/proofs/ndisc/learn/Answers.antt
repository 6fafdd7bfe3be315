use Rattle.std.proofs.Common.{ap, refl}
use Rattle.host_machine.specs.Context.Host.{no_sockets, with_slots}
use Rattle.iface_context.specs.Stands.{host_of}
use Rattle.iface_discovery.proofs.ndisc.learn.Goals as goal

pub returns-in_default : goal.returns-in_default
returns-in_default c = λ slots sockets. rw c.in_default.is refl

pub returns : goal.returns
returns c = λ slots sockets. rw c.in-Some.is (record {
  neighbors = (host_of c.fill_neighbor.new.context no_sockets).neighbors;
  filled = c.fill_neighbor.ensures.neighbors;
  same = ap (λ H. with_slots H slots) (c.fill_neighbor.ensures.same sockets);
})
