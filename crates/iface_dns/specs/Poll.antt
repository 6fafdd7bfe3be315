-- What the client does whenever its owner calls it.
use Rattle.std.specs.Prelude.{ℕ, zero, suc, ℤ, ◌≡◌, ◌+◌, pos, length, Bool, true, false, Result, Ok, Err}
use Rattle.dns_client.specs.declared.query.DnsResult.{DnsResult}
use Rattle.dns_client.specs.Query as query
use Rattle.dns_client.specs.DnsResolver.Places.{Queries}
use Rattle.dns_client.specs.DnsResolver.Resolver.{result_at}
use Rattle.dns_client.specs.declared.dns_resolver.resolver.NoSuchQuery.{NoSuchQuery}
use Rattle.iface_host.specs.declared.host.IfaceHost.{IfaceHost}
use Rattle.iface_dns.specs.Ask.{Asks}
use Rattle.iface_dns.specs.Dns.{ClosesAt}
use Rattle.iface_dns.specs.Errors.{HearsErrorsAt}
use Rattle.iface_dns.specs.Hear.{HearsAt}
use Rattle.iface_dns.specs.declared.dns.Dns.{Dns}

-- a query is there, and waits for an answer
abbrev pub waits : Result DnsResult NoSuchQuery → Bool
waits (Ok result) = query.waits result
waits (Err none) = false

abbrev pub waits_at : Queries → ℕ → Bool
waits_at r place = waits (result_at r place)

-- the socket of a place is closed, unless its query waits
abbrev pub ClosesUnless : Bool → ℕ → Dns → Dns → IfaceHost → IfaceHost → Type 0
ClosesUnless true place d d' old new = (d' ≡ d) × (new ≡ old)
ClosesUnless false place d d' old new = ClosesAt place d d' old new

abbrev pub ClosesDone : ℕ → Dns → Dns → IfaceHost → IfaceHost → Type 0
ClosesDone place d = ClosesUnless (waits_at d.resolver place) place d

-- a place: what came to its socket is heard, and errors about its messages, what is due is done, and its socket is closed if it has a result
pub record PollsAt (now place : ℕ) (d d' : Dns) (old new : IfaceHost) : Type 0 where
  pub heard : Dns
  pub told : Dns
  pub asked : Dns
  pub after_hearing : IfaceHost
  pub after_telling : IfaceHost
  pub after_asking : IfaceHost
  pub hears : HearsAt place d heard old after_hearing
  pub tells : HearsErrorsAt place heard told after_hearing after_telling
  pub asks : Asks now place told asked after_telling after_asking
  pub closes : ClosesDone place asked d' after_asking new

-- so many places from one on, one after another
pub data PollsFrom (now : ℕ) : ℕ → ℕ → Dns → Dns → IfaceHost → IfaceHost → Type 0 where
  NoMore : {place : ℕ} {d : Dns} {host : IfaceHost} → PollsFrom now zero place d d host host
  OneMore : {k place : ℕ} {d between d' : Dns} {old mid new : IfaceHost} → PollsAt now place d between old mid →
      PollsFrom now k (place + 1) between d' mid new → PollsFrom now (suc k) place d d' old new

-- all places, at a moment
pub record Polls (now : ℤ) (d d' : Dns) (old new : IfaceHost) : Type 0 where
  pub micros : ℕ
  pub is_now : pos micros ≡ now
  pub each : PollsFrom micros (length d.sockets) 0 d d' old new
