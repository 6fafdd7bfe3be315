-- The source address of what a socket sends.
use Rattle.std.specs.Prelude.{◌==◌, ◌&&◌, Bool, false, Option, Some, None}
use Rattle.std.specs.Option.{option_and_then}
use Rattle.ip_address.specs.declared.ip.IpAddress.{IpAddress}
use Rattle.ip_address.specs.declared.ip.IpAddress.TheVariants.{Ipv4, Ipv6}
use Rattle.sockets.specs.declared.endpoint.IpEndpoint.{IpEndpoint}

-- whether two addresses are equal
abbrev pub is_same : IpAddress → IpAddress → Bool
is_same (Ipv4 a) (Ipv4 b) = a.bits == b.bits
is_same (Ipv4 a) (Ipv6 b) = false
is_same (Ipv6 a) (Ipv4 b) = false
is_same (Ipv6 a) (Ipv6 b) = a.bits == b.bits

-- whether two endpoints are equal
abbrev pub is_same_end : IpEndpoint → IpEndpoint → Bool
is_same_end a b = is_same a.addr b.addr && (a.port == b.port)

-- an address, if it is of a peer's family
abbrev pub of_family : IpAddress → IpAddress → Option IpAddress
of_family (Ipv4 peer) (Ipv4 a) = Some (Ipv4 a)
of_family (Ipv4 peer) (Ipv6 a) = None
of_family (Ipv6 peer) (Ipv4 a) = None
of_family (Ipv6 peer) (Ipv6 a) = Some (Ipv6 a)

-- the given address, otherwise the one that the surroundings choose for the peer, if it is of the peer's family
abbrev pub source_of : (IpAddress → Option IpAddress) → Option IpAddress → IpAddress → Option IpAddress
source_of source (Some a) peer = of_family peer a
source_of source None peer = option_and_then (of_family peer) (source peer)
