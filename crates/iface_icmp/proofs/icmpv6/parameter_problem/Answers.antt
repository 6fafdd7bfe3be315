use Rattle.iface_icmp.proofs.icmpv6.parameter_problem.Goals as goal

pub returns : goal.returns
returns c = rw (← c.quotation_of.ensures) c.send_message.ensures
