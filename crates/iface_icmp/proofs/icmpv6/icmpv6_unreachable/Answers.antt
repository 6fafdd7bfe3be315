use Rattle.iface_icmp.proofs.icmpv6.icmpv6_unreachable.Goals as goal

pub returns : goal.returns
returns c = rw (c.if-handled_by_raw_socket.false, ← c.quotation_of.ensures) c.send_icmpv6_reply.ensures
