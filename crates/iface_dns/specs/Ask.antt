-- How queries are sent.
use Rattle.std.specs.Prelude.{ℕ, ◌≡◌, nat_lt, is_some, Bool, true, false, List, [], length, Option, Some, None}
use Rattle.dns_client.specs.DnsResolver.Resolver as resolver
use Rattle.dns_client.specs.DnsResolver.Resolver.{at, message_at, text_in}
use Rattle.dns_client.specs.declared.dns_resolver.resolver.DnsMessage.{DnsMessage}
use Rattle.dns_client.specs.Details.Datagrams as datagrams
use Rattle.sockets.specs.declared.endpoint.IpEndpoint.{IpEndpoint}
use Rattle.iface_host.specs.Refusals.{udp_unsent}
use Rattle.iface_host.specs.Queues.{fills_at}
use Rattle.iface_host.specs.Sockets.{Opens, SendsUdp, udp}
use Rattle.iface_host.specs.declared.host.IfaceHost.{IfaceHost}
use Rattle.iface_host.specs.declared.queues.Fill.{Fill}
use Rattle.iface_dns.specs.Dns as dns
use Rattle.iface_dns.specs.Dns.{ClosesOne, Unless, rooms, with_resolver, with_socket}
use Rattle.iface_dns.specs.declared.dns.Dns.{Dns}

abbrev pub socket_at : Dns → ℕ → Option ℕ
socket_at d place = dns.socket_at d place

-- port 53 of a server
abbrev pub server_of : DnsMessage → IpEndpoint
server_of m = datagrams.server_of m

-- a message is queued at a socket, if there is one, and room for it
abbrev pub SendsIf : DnsMessage → Option ℕ → List ℕ → IfaceHost → IfaceHost → Type 0
SendsIf m None text old new = new ≡ old
SendsIf m (Some n) text old new =
    Unless (udp_unsent old n (server_of m) (length text)) (SendsUdp n (server_of m) text) old new

-- whether a packet waits to be sent at a socket
abbrev pub are_waiting : Option (Fill × Fill) → Bool
are_waiting None = false
are_waiting (Some fills) = nat_lt 0 fills.1.packets

abbrev pub is_waiting : IfaceHost → ℕ → Bool
is_waiting host n = are_waiting (fills_at host n)

-- a socket for a query is opened at a port, if there is memory
abbrev pub OpensAt : ℕ → Option ℕ → IfaceHost → IfaceHost → Type 0
OpensAt port None old new = new ≡ old
OpensAt port (Some n) old new = Opens (udp (record { addr = None; port = port }) rooms) n old new

-- a question that waits at the socket of a place is dropped with the socket, and another one is opened at the same port
pub data MakesRoom (place port : ℕ) (d d' : Dns) (old new : IfaceHost) : Type 0 where
  NoSocket : socket_at d place ≡ None → d' ≡ d → new ≡ old → MakesRoom place port d d' old new
  NoneWaits : (n : ℕ) → socket_at d place ≡ Some n → is_waiting old n ≡ false → d' ≡ d → new ≡ old → MakesRoom place port d d' old new
  OneWaits : (n : ℕ) (another : Option ℕ) (between : IfaceHost) → socket_at d place ≡ Some n → is_waiting old n ≡ true →
      ClosesOne n old between → OpensAt port another between new → d' ≡ with_socket place another d → MakesRoom place port d d' old new

-- a message is sent, and what waited before it is dropped
pub record SendsMessage (m : DnsMessage) (text : List ℕ) (place : ℕ) (d d' : Dns) (old new : IfaceHost) : Type 0 where
  pub between : IfaceHost
  pub room : MakesRoom place m.source_port d d' old between
  pub sends : SendsIf m (socket_at d' place) text between new

abbrev pub SendsMessageIf : Option DnsMessage → List ℕ → ℕ → Dns → Dns → IfaceHost → IfaceHost → Type 0
SendsMessageIf None text place d d' old new = (d' ≡ d) × (new ≡ old)
SendsMessageIf (Some m) text place d d' old new = SendsMessage m text place d d' old new

-- a query does what is due, if there is one, and its message goes to its server
abbrev pub AsksBy : Bool → ℕ → ℕ → Dns → Dns → IfaceHost → IfaceHost → Type 0
AsksBy false now place d d' old new = (d' ≡ d) × (new ≡ old)
AsksBy true now place d d' old new =
    SendsMessageIf (message_at place now d.resolver) (text_in (message_at place now d.resolver) (at d.resolver place) []) place
    (with_resolver (resolver.after_asking place now d.resolver) d) d' old new

abbrev pub Asks : ℕ → ℕ → Dns → Dns → IfaceHost → IfaceHost → Type 0
Asks now place d = AsksBy (is_some (at d.resolver place)) now place d
