-- What happens to a query: messages come, in any number and order, true ones and forged ones; and its owner asks whether a
-- server is to be asked, whenever that likes.
use Rattle.std.specs.Prelude.{ℕ, List, [], ◌∷◌, length, Option, None}
use Rattle.std.specs.Option.{option_or}
use Rattle.ip_address.specs.declared.ip.IpAddress.{IpAddress}
use Rattle.dns_client.specs.declared.query.DnsQuery.{DnsQuery}
use Rattle.dns_client.specs.Answers.{after_failure, after_receiving}
use Rattle.dns_client.specs.Query.{after_asking, asked_at}

pub data Event : Type 0 where
  -- a message comes, from an address and a port, to a port
  Receive : (from : IpAddress) → (from_port : ℕ) → (to_port : ℕ) → (octets : List ℕ) → Event
  -- a server can't be reached
  Fail : (server : IpAddress) → Event
  -- the owner asks, at an instant
  Ask : (now : ℕ) → Event

-- of a query of a name to servers
module _ (name : List ℕ) (servers : List IpAddress) where
  abbrev pub query_after : Event → DnsQuery → DnsQuery
  query_after (Receive from from_port to_port octets) q = after_receiving name servers from from_port to_port octets q
  query_after (Fail server) q = after_failure servers server q
  query_after (Ask now) q = after_asking now (length servers) q

  -- which server is asked, and which was last
  abbrev pub asked_by : Event → DnsQuery → Option ℕ
  asked_by (Receive from from_port to_port octets) q = None
  asked_by (Fail server) q = None
  asked_by (Ask now) q = asked_at now (length servers) q

  abbrev pub query_after_all : List Event → DnsQuery → DnsQuery
  query_after_all [] q = q
  query_after_all (e ∷ es) q = query_after_all es (query_after e q)

  abbrev pub last_asked : List Event → DnsQuery → Option ℕ → Option ℕ
  last_asked [] q last = last
  last_asked (e ∷ es) q last = last_asked es (query_after e q) (option_or (asked_by e q) last)
