-- How queries are started.
use Rattle.std.specs.Prelude.{ℕ, ℤ, ◌≡◌, pos, is_some, true, List, Option, Some, None, if◌then◌else◌}
use Rattle.std.specs.Option.{option_map}
use Rattle.sockets.specs.declared.endpoint.IpListenEndpoint.{IpListenEndpoint}
use Rattle.dns_client.specs.Details.Text.{name_in}
use Rattle.dns_client.specs.declared.message.DnsType.{DnsType}
use Rattle.dns_client.specs.DnsResolver.Places.{Queries}
use Rattle.dns_client.specs.DnsResolver.Resolver as resolver
use Rattle.dns_client.specs.DnsResolver.Resolver.{free_in, has_server, next_port}
use Rattle.iface_host.specs.Refusals.{moment_refusal}
use Rattle.iface_host.specs.Sockets.{Opens, udp}
use Rattle.iface_host.specs.TableRefusals as table
use Rattle.iface_host.specs.declared.host.IfaceHost.{IfaceHost}
use Rattle.iface_host.specs.declared.refusal.Refusal.{Refusal}
use Rattle.iface_host.specs.declared.refusal.Refusal.TheVariants.{TableFull}
use Rattle.iface_dns.specs.Dns.{rooms, with_resolver, with_socket}
use Rattle.iface_dns.specs.Texts.{AnswersText}
use Rattle.iface_dns.specs.declared.dns.Dns.{Dns}
use Rattle.iface_dns.specs.declared.start.StartRefusal as refusal
use Rattle.iface_dns.specs.declared.start.StartRefusal.TheVariants.{Refused, BadName, NoServer}

abbrev pub StartRefusal : Type 0
StartRefusal = refusal.StartRefusal

abbrev pub local : Dns → IpListenEndpoint
local d = record { addr = None; port = next_port d.resolver }

-- the socket of the query that is started next
abbrev pub OpensNext : Dns → ℕ → IfaceHost → IfaceHost → Type 0
OpensNext d = Opens (udp (local d) rooms)

abbrev pub opening_refusal : IfaceHost → Option Refusal
opening_refusal host = table.opening_refusal host

-- each place has a query
abbrev pub place_refusal : Queries → Option StartRefusal
place_refusal r = if is_some (free_in r.places) then None else Some (Refused TableFull)

-- the text is no name, or there is no server, or no place
abbrev pub name_refusal : Option (List ℕ) → Queries → Option StartRefusal
name_refusal None r = Some BadName
name_refusal (Some name) r = if has_server r then place_refusal r else Some NoServer

abbrev pub first_reason : Option Refusal → Option StartRefusal → Option StartRefusal
first_reason None second = second
first_reason (Some e) second = Some (Refused e)

abbrev pub read_refusal : ℤ → List ℕ → Dns → Option StartRefusal
read_refusal now text d = first_reason (moment_refusal now) (name_refusal (name_in text) d.resolver)

-- the first reason of these, or else that the host has no place for a socket
abbrev pub or_else : Option StartRefusal → Option Refusal → Option StartRefusal
or_else None second = option_map (λ e. Refused e) second
or_else (Some e) second = Some e

abbrev pub start_refusal : ℤ → List ℕ → Dns → IfaceHost → Option StartRefusal
start_refusal now text d host = or_else (read_refusal now text d) (opening_refusal host)

-- a moment and a text were read, and a query may be started
pub record Reads (now : ℤ) (text : List ℕ) (d : Dns) (micros : ℕ) (name : List ℕ) : Type 0 where
  pub is_now : pos micros ≡ now
  pub name_is : name_in text ≡ Some name
  pub place : is_some (free_in d.resolver.places) ≡ true

-- a query is started in the first free place, and has a socket at its port
pub record StartsAsking (now : ℤ) (text : List ℕ) (type : DnsType) (place : ℕ) (d d' : Dns) (old new : IfaceHost) : Type 0 where
  pub micros : ℕ
  pub name : List ℕ
  pub number : ℕ
  pub queries : Queries
  pub is_now : pos micros ≡ now
  pub name_is : name_in text ≡ Some name
  pub opens : OpensNext d number old new
  pub starts : resolver.Starts micros name type place d.resolver queries
  pub after : d' ≡ with_socket place (Some number) (with_resolver queries d)

-- and where its name is an address in text it has that at once
pub record Starts (now : ℤ) (text : List ℕ) (type : DnsType) (place : ℕ) (d d' : Dns) (old new : IfaceHost) : Type 0 where
  pub asking : Dns
  pub starts : StartsAsking now text type place d asking old new
  pub answers : AnswersText text type place asking d'
