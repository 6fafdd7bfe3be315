-- A resolver: its servers, and queries in places.
use Rattle.std.specs.Prelude.{ℕ, List, Option}
use Rattle.ip_address.specs.declared.ip.IpAddress.{IpAddress}
use Rattle.dns_client.specs.declared.query.DnsQuery.{DnsQuery}
use Rattle.tcp_host.specs.declared.sip_hash.SipKey.{SipKey}

-- a query with its name, by its labels
pub record Named : Type 0 where
  pub query : DnsQuery
  pub name : List ℕ

abbrev pub Place : Type 0
Place = Option Named

-- whom queries go to, and which of them first, what makes their numbers unknown to others, how many were started, and those that
-- there are
pub record Queries : Type 0 where
  pub servers : List IpAddress
  pub preferred : ℕ
  pub key : SipKey
  pub started : ℕ
  pub places : List Place
