-- Whom an interface knows.
use Rattle.std.specs.Prelude.{Bool, not, Option, Some, if◌then◌else◌}
use Rattle.std.specs.Option.{option_and_then}
use Rattle.ip_address.specs.Ip.{is_unicast, is_unspecified}
use Rattle.ip_address.specs.declared.ip.IpAddress.{IpAddress}
use Rattle.iface_tables.specs.Route.{best, router_of}
use Rattle.host_machine.specs.Context.Host.{Host as Machine, in_same_network, no_sockets}
use Rattle.host_machine.specs.Send.Hops.{if_unicast, is_known_hop}
use Rattle.interface.specs.Stands.{host_with}
use Rattle.interface.specs.declared.interface.Interface.{Interface}

-- the next hop to an address (RFC 1122 3.3.1.1): itself in a network of the host, otherwise the gateway of the best route
abbrev pub hop_of : Machine → IpAddress → Option IpAddress
hop_of H a = if in_same_network H.ip_addrs a then Some a else option_and_then if_unicast (router_of (best H.routes a H.moment))

-- a packet for an address waits for nobody: the next hop is a known neighbour, or it is for many, who aren't asked for
abbrev pub knows : Machine → IpAddress → Bool
knows H a = if is_unicast a then is_known_hop H (hop_of H a) else not (is_unspecified a)

-- as far as an interface stands for a host
abbrev pub knows_at : Interface → IpAddress → Bool
knows_at i a = knows (host_with i no_sockets) a
