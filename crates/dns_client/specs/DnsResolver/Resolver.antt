-- What the calls of a resolver do.
use Rattle.std.specs.Prelude.{ℕ, ◌≡◌, ◌==◌, ◌+◌, ◌/◌, ◌%◌, ◌^◌, ◌&&◌, not, nat_le, min, Bool, true, false, is_some, List, [], ◌∷◌, length, replicate}
use Rattle.std.specs.Prelude.{slice_get, slice_index_or, slice_set, Option, Some, None, Result, Ok, Err, if◌then◌else◌}
use Rattle.std.specs.List.{position}
use Rattle.std.specs.Option.{option_map}
use Rattle.std.specs.Borrow.{Bor}
use Rattle.ip_address.specs.declared.ip.IpAddress.{IpAddress}
use Rattle.dns_client.specs.Message.{is_whole_name, query_text}
use Rattle.dns_client.specs.declared.message.DnsType.{DnsType}
use Rattle.dns_client.specs.Answers as answers
use Rattle.dns_client.specs.Query as query
use Rattle.dns_client.specs.Query.{asked_at, asked_last, is_pending, new_query}
use Rattle.dns_client.specs.declared.query.DnsQuery.{DnsQuery}
use Rattle.dns_client.specs.declared.query.DnsFailure.TheVariants.{NoSuchName, ServerFailure, Truncated, NoAddress, TooManyAliases, TimedOut}
use Rattle.dns_client.specs.declared.query.DnsResult.{DnsResult}
use Rattle.dns_client.specs.declared.query.DnsResult.TheVariants.{Pending, Addresses, TruncatedAddresses, Failed}
use Rattle.tcp_host.specs.SipHash.{sip_hash}
use Rattle.tcp_host.specs.declared.sip_hash.SipKey.{SipKey}
use Rattle.dns_client.specs.DnsResolver.Places.{Named, Place, Queries}
use Rattle.dns_client.specs.declared.dns_resolver.resolver.DnsMessage.{DnsMessage}
use Rattle.dns_client.specs.declared.dns_resolver.resolver.NoSuchQuery.{NoSuchQuery}
use Rattle.dns_client.specs.declared.dns_resolver.resolver.StartQueryError.{StartQueryError}
use Rattle.dns_client.specs.declared.dns_resolver.resolver.StartQueryError.TheVariants.{InvalidName, NoFreePlace}

-- at first no place has a query
abbrev pub first : List IpAddress → ℕ → SipKey → Queries
first servers places key = record { servers = servers; preferred = 0; key = key; started = 0; places = replicate places None }

-- what is lent of a query
abbrev pub lent : Option (Bor Named) → Place
lent None = None
lent (Some b) = Some b.now

-- the query at a place, if there is one
abbrev pub at : Queries → ℕ → Place
at r place = slice_index_or r.places place None

-- another query, or none, at a place; the other places stay
abbrev pub with_place : ℕ → Place → Queries → Queries
with_place place named r = record r { places = slice_set r.places place named }

-- the first free place
abbrev pub is_free : Place → Bool
is_free None = true
is_free (Some named) = false

abbrev pub free_in : List Place → Option ℕ
free_in places = position is_free places

-- a whole name, of at most 255 octets (RFC 1035 2.3.4)
abbrev pub is_whole : List ℕ → Bool
is_whole name = nat_le (length name) 255 && is_whole_name name

abbrev pub start_refusal : Queries → List ℕ → Option StartQueryError
start_refusal r name =
    if is_whole name then (if is_some (free_in r.places) then None else Some NoFreePlace) else Some InvalidName

-- the random number of a query, after so many others
abbrev pub drawn : SipKey → ℕ → ℕ
drawn key started = sip_hash key (started ∷ []) % 0x1_0000_0000

-- the port of the query that is started next
abbrev pub next_port : Queries → ℕ
next_port r = 0xc000 + drawn r.key r.started / 0x1_0000 % 0x4000

abbrev pub has_server : Queries → Bool
has_server r = not (length r.servers == 0)

-- a query is started in the first free place
pub record Starts (now : ℕ) (name : List ℕ) (type : DnsType) (place : ℕ) (old new : Queries) : Type 0 where
  pub free : free_in old.places ≡ Some place
  pub after : new ≡ record old {
    started = (old.started + 1) % 2 ^ 64;
    places = slice_set old.places place (Some (record { query = new_query now type (drawn old.key old.started) old.preferred; name = name }));
  }

-- what has become of the query at a place
abbrev pub result_of : Place → Result DnsResult NoSuchQuery
result_of None = Err (record {})
result_of (Some named) = Ok named.query.result

abbrev pub result_at : Queries → ℕ → Result DnsResult NoSuchQuery
result_at r place = result_of (at r place)

-- other servers, of which the first is asked first
abbrev pub with_servers : List IpAddress → Queries → Queries
with_servers servers r = record r { servers = servers; preferred = 0 }

-- a query receives a message
abbrev pub named_after_receiving : List IpAddress → IpAddress → ℕ → ℕ → List ℕ → Named → Named
named_after_receiving servers from from_port to_port octets n =
    record n { query = answers.after_receiving n.name servers from from_port to_port octets n.query }

-- a query learns that a server can't be reached
abbrev pub named_after_failure : List IpAddress → IpAddress → Named → Named
named_after_failure servers server n = record n { query = answers.after_failure servers server n.query }

abbrev pub after_failure : ℕ → IpAddress → Queries → Queries
after_failure place server r = with_place place (option_map (named_after_failure r.servers server) (at r place)) r

-- the server that answered it, if a query that waited has a result that a server gave
abbrev pub is_given : DnsResult → Bool
is_given Pending = false
is_given (Addresses list) = true
is_given (TruncatedAddresses list) = true
is_given (Failed NoSuchName) = true
is_given (Failed ServerFailure) = false
is_given (Failed Truncated) = true
is_given (Failed NoAddress) = true
is_given (Failed TooManyAliases) = true
is_given (Failed TimedOut) = false

abbrev pub answered_by : ℕ → DnsQuery → DnsQuery → Option ℕ
answered_by servers old new = if is_pending old && is_given new.result then Some (asked_last servers new) else None

abbrev pub answered_in : List IpAddress → IpAddress → ℕ → ℕ → List ℕ → Place → Option ℕ
answered_in servers from from_port to_port octets None = None
answered_in servers from from_port to_port octets (Some n) =
    answered_by (length servers) n.query (named_after_receiving servers from from_port to_port octets n).query

-- this one is asked first from then on
abbrev pub preferred_after : Option ℕ → ℕ → ℕ
preferred_after None before = before
preferred_after (Some server) before = server

abbrev pub after_receiving : ℕ → IpAddress → ℕ → ℕ → List ℕ → Queries → Queries
after_receiving place from from_port to_port octets r = record r {
  places = slice_set r.places place (option_map (named_after_receiving r.servers from from_port to_port octets) (at r place));
  preferred = preferred_after (answered_in r.servers from from_port to_port octets (at r place)) r.preferred;
}

-- a query is asked what is due
abbrev pub named_after_asking : List IpAddress → ℕ → Named → Named
named_after_asking servers now n = record n { query = query.after_asking now (length servers) n.query }

abbrev pub after_asking : ℕ → ℕ → Queries → Queries
after_asking place now r = with_place place (option_map (named_after_asking r.servers now) (at r place)) r

-- a query has a result without asking, as where its name is an address in text
abbrev pub named_with_result : DnsResult → Named → Named
named_with_result result n = record n { query = record n.query { result = result } }

abbrev pub after_answer : ℕ → DnsResult → Queries → Queries
after_answer place result r = with_place place (option_map (named_with_result result) (at r place)) r

-- the message that goes to a server, from a query's port
abbrev pub to_server : ℕ → Option IpAddress → Option DnsMessage
to_server port None = None
to_server port (Some server) = Some (record { server = server; source_port = port })

abbrev pub message_to : List IpAddress → ℕ → Option ℕ → Option DnsMessage
message_to servers port None = None
message_to servers port (Some index) = to_server port (slice_get servers index)

abbrev pub message_of : List IpAddress → ℕ → Named → Option DnsMessage
message_of servers now n = message_to servers n.query.source_port (asked_at now (length servers) n.query)

abbrev pub message_in : List IpAddress → ℕ → Place → Option DnsMessage
message_in servers now None = None
message_in servers now (Some n) = message_of servers now n

abbrev pub message_at : ℕ → ℕ → Queries → Option DnsMessage
message_at place now r = message_in r.servers now (at r place)

-- its text is a query of the name (RFC 1035 4.1); where there is no message the buffer stays
abbrev pub text_of : Named → List ℕ
text_of n = query_text n.query.transaction_id n.name n.query.query_type

abbrev pub text_after : Option DnsMessage → Named → List ℕ → List ℕ
text_after None n before = before
text_after (Some m) n before = text_of n

abbrev pub text_in : Option DnsMessage → Place → List ℕ → List ℕ
text_in m None before = before
text_in m (Some n) before = text_after m n before

-- when something is due at a place, and the earliest of such instants and another one
abbrev pub due : ℕ → Place → Option ℕ
due servers None = None
due servers (Some n) = query.poll_at servers n.query

abbrev pub earlier : Option ℕ → Option ℕ → Option ℕ
earlier None other = other
earlier (Some one) None = Some one
earlier (Some one) (Some other) = Some (min one other)

abbrev pub earliest : ℕ → Option ℕ → List Place → Option ℕ
earliest servers least [] = least
earliest servers least (p ∷ ps) = earliest servers (earlier least (due servers p)) ps

abbrev pub poll_at : Queries → Option ℕ
poll_at r = earliest (length r.servers) None r.places
