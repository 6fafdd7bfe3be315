use Rattle.iface_send.proofs.dispatch.begin_frame.Goals as goal

pub returns-in-Ipv4-clause-refused : goal.returns-in-Ipv4-clause-refused
returns-in-Ipv4-clause-refused c = rw c.in-Ipv4.is c.begin_frame_v4.ensures.refused

pub returns-in-Ipv6-clause-refused : goal.returns-in-Ipv6-clause-refused
returns-in-Ipv6-clause-refused c = rw c.in-Ipv6.is c.begin_frame_v6.ensures.refused
