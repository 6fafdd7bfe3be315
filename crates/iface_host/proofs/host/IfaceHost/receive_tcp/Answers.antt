use Rattle.std.proofs.Common.{rules}
use Rattle.iface_host.proofs.host.IfaceHost.receive_tcp.Goals as goal

pub returns-clause-received : goal.returns-clause-received
returns-clause-received c = record {
  peeked = record {
    handle = c.in-Some.handle;
    socket = c.in-Some-get_mut.socket.now;
    names = search rules;
    first = search rules;
    within = c.in_ok-first.ensures.within;
  };
  after = search rules;
}
