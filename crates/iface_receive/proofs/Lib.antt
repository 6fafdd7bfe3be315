mod FragmentHandling
mod FragmentKeys
mod Icmpv6Rules
mod Messages
mod PacketRules
mod PacketRulesV6
mod UdpRules
