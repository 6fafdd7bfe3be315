-- What queries make of the datagrams that came to their sockets.
use Rattle.std.specs.Prelude.{ℕ, zero, suc, ◌≡◌, ◌≢◌, ◌+◌, List, length, take, Option, Some, None}
use Rattle.sockets.specs.declared.endpoint.IpEndpoint.{IpEndpoint}
use Rattle.dns_client.specs.DnsResolver.Places.{Queries}
use Rattle.dns_client.specs.Details.Datagrams.{after_receiving, port_at}
use Rattle.dns_client.specs.DnsResolver.Resolver.{after_failure}
use Rattle.ip_address.specs.declared.ip.IpAddress.{IpAddress}
use Rattle.iface_host.specs.Queues.{fills_at}
use Rattle.iface_host.specs.Refusals.{udp_unreceived}
use Rattle.iface_host.specs.Sockets.{ReceivesUdp}
use Rattle.iface_host.specs.declared.host.IfaceHost.{IfaceHost}
use Rattle.iface_host.specs.declared.queues.Fill.{Fill}
use Rattle.iface_dns.specs.Dns.{socket_at, with_resolver}
use Rattle.iface_dns.specs.declared.dns.Dns.{Dns}

-- a datagram that came to a port is handed to the queries of so many places from one on, one after another
unfoldable pub handed : IpEndpoint → ℕ → List ℕ → ℕ → ℕ → Queries → Queries
handed from port octets zero place r = r
handed from port octets (suc k) place r = handed from port octets k (place + 1) (after_receiving (Some (from, octets)) place port r)

-- the first datagram of a socket is taken, and each query receives it
pub record HearsFirst (n port : ℕ) (r r' : Queries) (old new : IfaceHost) : Type 0 where
  pub from : IpEndpoint
  pub len : ℕ
  pub out : List ℕ
  pub taken : ReceivesUdp n from len out old new
  pub received : r' ≡ handed from port (take len out) (length r.places) 0 r

-- unless there is none, or one that is longer than the socket has room for
pub data Hears (n port : ℕ) (r r' : Queries) (old new : IfaceHost) : Type 0 where
  Heard : HearsFirst n port r r' old new → Hears n port r r' old new
  NotHeard : udp_unreceived old n 1024 ≢ None → r' ≡ r → new ≡ old → Hears n port r r' old new

-- so many, one after another
pub data HearsAll (n port : ℕ) : ℕ → Queries → Queries → IfaceHost → IfaceHost → Type 0 where
  NoMore : {r : Queries} {host : IfaceHost} → HearsAll n port zero r r host host
  OneMore : {k : ℕ} {r between r' : Queries} {old mid new : IfaceHost} →
      Hears n port r between old mid → HearsAll n port k between r' mid new → HearsAll n port (suc k) r r' old new

-- how many packets wait at a socket
abbrev pub packets_in : Option (Fill × Fill) → ℕ
packets_in None = 0
packets_in (Some fills) = fills.0.packets

abbrev pub waiting_at : IfaceHost → ℕ → ℕ
waiting_at host n = packets_in (fills_at host n)

-- those of a socket of a query of this port
pub record HearsSocket (n port : ℕ) (d d' : Dns) (old new : IfaceHost) : Type 0 where
  pub resolver : Queries
  pub hears : HearsAll n port (waiting_at old n) d.resolver resolver old new
  pub after : d' ≡ with_resolver resolver d

-- at a place with a query that has a socket
abbrev pub HearsBy : Option ℕ → Option ℕ → Dns → Dns → IfaceHost → IfaceHost → Type 0
HearsBy None port d d' old new = (d' ≡ d) × (new ≡ old)
HearsBy (Some n) None d d' old new = (d' ≡ d) × (new ≡ old)
HearsBy (Some n) (Some port) d d' old new = HearsSocket n port d d' old new

abbrev pub HearsAt : ℕ → Dns → Dns → IfaceHost → IfaceHost → Type 0
HearsAt place d = HearsBy (socket_at d place) (port_at d.resolver place) d

-- queries of so many places from one on learn that a server can't be reached, one after another
unfoldable pub failed : IpAddress → ℕ → ℕ → Queries → Queries
failed server zero place r = r
failed server (suc k) place r = failed server k (place + 1) (after_failure place server r)

abbrev pub after_failing : IpAddress → Dns → Dns
after_failing server d = with_resolver (failed server (length d.resolver.places) 0 d.resolver) d
