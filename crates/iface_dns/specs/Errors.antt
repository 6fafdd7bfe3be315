-- What queries make of errors about the messages that they sent (RFC 1034 5.3.3 4d; RFC 1122 4.1.3.3).
use Rattle.std.specs.Prelude.{ℕ, zero, suc, ◌≡◌, ◌==◌, ◌&&◌, Bool, true, false, Option, Some, None, if◌then◌else◌}
use Rattle.ip_address.specs.declared.protocol.IpProtocol.TheVariants.{Udp}
use Rattle.dns_client.specs.DnsResolver.Places.{Queries}
use Rattle.dns_client.specs.DnsResolver.Resolver.{after_failure}
use Rattle.dns_client.specs.Details.Datagrams.{port_at}
use Rattle.iface_host.specs.LastErrors.{first_about, without_first}
use Rattle.iface_host.specs.declared.errors.ErrorCause.{ErrorCause}
use Rattle.iface_host.specs.declared.errors.ErrorCause.TheVariants.{TooBig, Hard, Soft}
use Rattle.iface_host.specs.declared.errors.PacketError.{PacketError}
use Rattle.iface_host.specs.declared.host.IfaceHost.{IfaceHost}
use Rattle.iface_dns.specs.Dns.{with_resolver}
use Rattle.iface_dns.specs.declared.dns.Dns.{Dns}

-- a hard error about a message to port 53: nobody is there
abbrev pub is_hard : ErrorCause → Bool
is_hard (TooBig mtu) = false
is_hard Hard = true
is_hard Soft = false

abbrev pub is_closed : PacketError → Bool
is_closed e = is_hard e.cause && (e.remote.port == 53)

-- then the query of a place learns that this server can't be reached: where it is the one that it asked last, it asks the next one
abbrev pub told : (place : ℕ) → PacketError → Queries → Queries
told place e r = if is_closed e then after_failure place e.remote.addr r else r

abbrev pub told_if : (place : ℕ) → Option PacketError → Queries → Queries
told_if place None r = r
told_if place (Some e) r = told place e r

-- the first error about a message from a port is taken
abbrev pub without_error : (port : ℕ) → IfaceHost → IfaceHost
without_error port host = record host { errors = without_first Udp (Some port) host.errors }

pub record TakesError (port place : ℕ) (r r' : Queries) (old new : IfaceHost) : Type 0 where
  pub taken : new ≡ without_error port old
  pub told : r' ≡ told_if place (first_about Udp (Some port) old.errors) r

-- so many, one after another
pub data TakesErrors (port place : ℕ) : ℕ → Queries → Queries → IfaceHost → IfaceHost → Type 0 where
  NoMore : {r : Queries} {host : IfaceHost} → TakesErrors port place zero r r host host
  OneMore : {k : ℕ} {r between r' : Queries} {old mid new : IfaceHost} →
      TakesError port place r between old mid → TakesErrors port place k between r' mid new → TakesErrors port place (suc k) r r' old new

-- all that a host keeps: four
pub record HearsErrors (port place : ℕ) (d d' : Dns) (old new : IfaceHost) : Type 0 where
  pub resolver : Queries
  pub takes : TakesErrors port place 4 d.resolver resolver old new
  pub after : d' ≡ with_resolver resolver d

-- at a place with a query
abbrev pub HearsErrorsFrom : Option ℕ → ℕ → Dns → Dns → IfaceHost → IfaceHost → Type 0
HearsErrorsFrom None place d d' old new = (d' ≡ d) × (new ≡ old)
HearsErrorsFrom (Some port) place d d' old new = HearsErrors port place d d' old new

abbrev pub HearsErrorsAt : ℕ → Dns → Dns → IfaceHost → IfaceHost → Type 0
HearsErrorsAt place d = HearsErrorsFrom (port_at d.resolver place) place d
