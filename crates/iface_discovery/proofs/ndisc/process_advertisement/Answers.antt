use Rattle.iface_discovery.proofs.ndisc.process_advertisement.Goals as goal

pub returns : goal.returns
returns c = λ slots sockets. rw c.advertised_lladdr-address.ensures.told at (c.learn.ensures slots sockets)
