use Rattle.iface_icmp.proofs.unreachable.send_port_unreachable.Goals as goal

pub returns-in-Ipv4 : goal.returns-in-Ipv4
returns-in-Ipv4 c = rw c.in-Ipv4.is c.icmpv4_unreachable.ensures

pub returns-in-Ipv6 : goal.returns-in-Ipv6
returns-in-Ipv6 c = rw c.in-Ipv6.is c.icmpv6_unreachable.ensures

pub icmpv4_unreachable-requires-clause-quotable : goal.icmpv4_unreachable-requires-clause-quotable
icmpv4_unreachable-requires-clause-quotable c = rw c.in-Ipv4.is at c.requires.quotable
