use Rattle.iface_context.specs.Stands.{host_in}
use Rattle.iface_multicast.proofs.GroupQueries.{mld_taken}
use Rattle.iface_multicast.proofs.mld.process_mld.Goals as goal

pub returns-in-Query : goal.returns-in-Query
returns-in-Query c = λ slots sockets.
    mld_taken c.args.header.now c.args.message.now c.in-Query.max_resp_code c.in-Query.mcast_addr (host_in c.args.context.now slots sockets)
    (host_in c.process_mld_query.new.context slots sockets) c.in-Query.is (c.process_mld_query.ensures slots sockets)
