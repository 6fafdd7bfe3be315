use Rattle.iface_icmp.proofs.icmpv4.icmpv4_unreachable.Goals as goal

pub returns : goal.returns
returns c = rw (c.if-handled_by_raw_socket.false, ← c.quotation_of.ensures) c.send_icmpv4_reply.ensures
