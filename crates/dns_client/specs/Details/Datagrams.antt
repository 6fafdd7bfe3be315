-- What a resolver's queries receive and send, by sockets.
use Rattle.std.specs.Prelude.{ℕ, is_some, List, Option, Some, None, if◌then◌else◌}
use Rattle.std.specs.Option.{option_map}
use Rattle.sockets.specs.declared.endpoint.IpEndpoint.{IpEndpoint}
use Rattle.dns_client.specs.DnsResolver.Places.{Queries}
use Rattle.dns_client.specs.DnsResolver.Resolver as resolver
use Rattle.dns_client.specs.DnsResolver.Resolver.{at}
use Rattle.dns_client.specs.declared.dns_resolver.resolver.DnsMessage.{DnsMessage}

-- the port of the query at a place
abbrev pub port_at : Queries → ℕ → Option ℕ
port_at r place = option_map (λ n. n.query.source_port) (at r place)

-- the query at a place, if there is one, receives a datagram, if there is one
abbrev pub after_receiving : Option (IpEndpoint × List ℕ) → ℕ → ℕ → Queries → Queries
after_receiving None place port r = r
after_receiving (Some p) place port r =
    if is_some (at r place) then resolver.after_receiving place p.0.addr p.0.port port p.1 r else r

-- port 53 of a server
abbrev pub server_of : DnsMessage → IpEndpoint
server_of m = record { addr = m.server; port = 53 }
