-- What a query promises, whatever happens to it.
use Rattle.std.specs.Prelude.{◌≡◌, ℕ, suc, ◌+◌, ◌*◌, ◌≤◌, ◌<◌, ◌⊎◌, ◌&&◌, Bool, true, false, List, length, get_or, Option, Some, None, IfSome, nat_lt, slice_index, slice_index_or, if◌then◌else◌}
use Rattle.ip_wire.specs.Octets.{u16_at}
use Rattle.ip_address.specs.declared.ip.IpAddress.{IpAddress}
use Rattle.ip_address.specs.declared.ip.IpAddress.TheVariants.{Ipv4, Ipv6}
use Rattle.dns_client.specs.declared.message.DnsType.{DnsType}
use Rattle.dns_client.specs.declared.message.DnsType.TheVariants as type
use Rattle.dns_client.specs.declared.record.DnsData.{DnsData}
use Rattle.dns_client.specs.declared.record.DnsData.TheVariants.{A, Aaaa, Cname}
use Rattle.dns_client.specs.Names.{is_same_name, end_of}
use Rattle.dns_client.specs.Message.{header_in, question_in, number_of}
use Rattle.dns_client.specs.Record.{is_record, record_in}
use Rattle.dns_client.specs.declared.query.DnsFailure.TheVariants.{ServerFailure, TimedOut, TooManyAliases}
use Rattle.dns_client.specs.declared.query.DnsQuery.{DnsQuery}
use Rattle.dns_client.specs.declared.query.DnsResult.{DnsResult}
use Rattle.dns_client.specs.declared.query.DnsResult.TheVariants.{Addresses, TruncatedAddresses, Failed}
use Rattle.dns_client.specs.Answers.{after_receiving, is_answer, is_failure, is_refusal, is_same, is_server, result_in}
use Rattle.dns_client.specs.Query.{new_query, after_asking, asked_at, is_pending, poll_at}
use Rattle.dns_client.specs.Run.{Event, Receive, Fail, Ask, query_after, query_after_all, last_asked}

-- two queries of one server are two seconds apart at least, whatever happens in between. (A client that asks nobody keeps this;
-- one that asks a server that refused once more, when the others have refused too, doesn't)
abbrev pub QueriesAreSpaced : Type 0
QueriesAreSpaced =
    (name : List ℕ) (servers : List IpAddress) (first second server : ℕ) (q : DnsQuery) (es : List Event) →
    asked_at first (length servers) q ≡ Some server →
    asked_at second (length servers) (query_after_all name servers es (after_asking first (length servers) q)) ≡ Some server →
    first + 2000000 ≤ second

-- the server behind another one, in a circle
abbrev pub behind : ℕ → ℕ → ℕ
behind servers server = if nat_lt (server + 1) servers then server + 1 else 0

-- servers are asked in a circle, whatever happens in between: so none is asked again before all others were. (A client that asks
-- the first server alone doesn't keep this, if there are two)
abbrev pub ServersGoRound : Type 0
ServersGoRound =
    (name : List ℕ) (servers : List IpAddress) (begun random first now last server : ℕ) (type : DnsType) (es : List Event) →
    last_asked name servers es (new_query begun type random first) None ≡ Some last →
    asked_at now (length servers) (query_after_all name servers es (new_query begun type random first)) ≡ Some server →
    server ≡ behind (length servers) last

-- the server that a query is to ask first is asked first, if it is there
abbrev pub FirstIsAsked : Type 0
FirstIsAsked =
    (now servers begun random first server : ℕ) (type : DnsType) → first < servers →
    asked_at now servers (new_query begun type random first) ≡ Some server → server ≡ first

-- a query that waits has an instant at which something is due. (A client that does nothing then keeps this)
abbrev pub NeverStuck : Type 0
NeverStuck = (servers : ℕ) (q : DnsQuery) → is_pending q ≡ true → poll_at servers q ≡ None → ⊥

-- ten seconds for each server after it began a query doesn't wait any more, once its owner asks. (A client that gives up at
-- once keeps this)
abbrev pub QueriesEnd : Type 0
QueriesEnd =
    (name : List ℕ) (servers : List IpAddress) (begun random first now : ℕ) (type : DnsType) (es : List Event) →
    begun + length servers * 10000000 ≤ now →
    is_pending (after_asking now (length servers) (query_after_all name servers es (new_query begun type random first))) ≡ false

-- before the instant nothing happens; at every instant what is due then is done, so that something is due only later. (A
-- client that has failed from the beginning keeps this)
abbrev pub PollAtIsExact : Type 0
PollAtIsExact =
    (now servers : ℕ) (q : DnsQuery) → now < 0xffff_ffff_ffff_ffff →
    IfSome (poll_at servers q) (λ at. now < at → (asked_at now servers q ≡ None) × (after_asking now servers q ≡ q))
    × IfSome (poll_at servers (after_asking now servers q)) (λ at. now < at)

-- a message responds to a query by a number and from a port, that went to a server last (RFC 5452 9.1)
pub record Responds (servers : List IpAddress) (type : DnsType) (random : ℕ) (asked : ℕ) (from : IpAddress) (from_port to_port : ℕ)
    (octets : List ℕ) : Type 0 where
  pub server : asked < length servers
  pub by : is_same (slice_index_or servers asked from) from ≡ true
  pub sent_from : from_port ≡ 53
  pub sent_to : to_port ≡ (new_query 0 type random 0).source_port
  pub number : u16_at octets 0 ≡ (new_query 0 type random 0).transaction_id
  pub response : 128 ≤ slice_index octets 2

-- and it has the question
pub record Asks (name : List ℕ) (type : DnsType) (octets : List ℕ) : Type 0 where
  pub question : is_same_name octets 12 name 0 ≡ true
  pub is_type : u16_at octets (end_of octets 12) ≡ number_of type
  pub class : u16_at octets (end_of octets 12 + 2) ≡ 1

-- what a message is by which a query has a result: one with its question, or a refusal
abbrev pub AnswersTo : List ℕ → DnsType → List ℕ → DnsResult → Type 0
AnswersTo name type octets r = Asks name type octets ⊎ (r ≡ Failed ServerFailure)

-- a server is the one that was asked
pub record IsAsked (servers : List IpAddress) (asked : ℕ) (server : IpAddress) : Type 0 where
  pub there : asked < length servers
  pub same : is_same (slice_index_or servers asked server) server ≡ true

abbrev pub AnswersLast : List ℕ → List IpAddress → DnsType → ℕ → Option ℕ → Event → DnsResult → Type 0
AnswersLast name servers type random None e r = ⊥
AnswersLast name servers type random (Some asked) (Receive from from_port to_port octets) r =
    Responds servers type random asked from from_port to_port octets × AnswersTo name type octets r
AnswersLast name servers type random (Some asked) (Fail server) r = IsAsked servers asked server × (r ≡ Failed ServerFailure)
AnswersLast name servers type random (Some asked) (Ask now) r = ⊥

-- a query that waited and has a result now has it from a message that responds to what was asked last, with its question, or else
-- by a refusal, or since that server can't be reached; or it has timed out. (A client that takes no answer, or another result from it, keeps this; one that looks at the
-- number alone doesn't)
abbrev pub ResultsAreAnswers : Type 0
ResultsAreAnswers =
    (name : List ℕ) (servers : List IpAddress) (begun random first : ℕ) (type : DnsType) (es : List Event) (e : Event) →
    is_pending (query_after_all name servers es (new_query begun type random first)) ≡ true →
    is_pending (query_after name servers e (query_after_all name servers es (new_query begun type random first))) ≡ false →
    ((query_after name servers e (query_after_all name servers es (new_query begun type random first))).result ≡ Failed TimedOut)
    ⊎ AnswersLast name servers type random (last_asked name servers es (new_query begun type random first) None) e
    (query_after name servers e (query_after_all name servers es (new_query begun type random first))).result

-- the name at an offset of a message leads to that at another one: it is the same, or the alias of a name that leads to it
pub data Leads (octets : List ℕ) (name : ℕ) : ℕ → Type 0 where
  Itself : Leads octets name name
  ByAlias : {from to : ℕ} → (at : ℕ) → Leads octets name from → is_record octets at ≡ true → is_same_name octets at octets from ≡ true →
      (record_in octets at).«data» ≡ Cname to → Leads octets name to

-- the address that a record's data are
abbrev pub address_of : DnsData → Option IpAddress
address_of (A a) = Some (Ipv4 a)
address_of (Aaaa a) = Some (Ipv6 a)
address_of _ = None

-- an address stands in a message, in a record of the name at an offset, or of one that this leads to
pub record Stands (octets : List ℕ) (name : ℕ) (address : IpAddress) : Type 0 where
  pub at : ℕ
  pub under : ℕ
  pub whole : is_record octets at ≡ true
  pub leads : Leads octets name under
  pub named : is_same_name octets at octets under ≡ true
  pub is : address_of (record_in octets at).«data» ≡ Some address

-- the addresses of a result, of a whole answer or of one that was cut
abbrev pub IsOf : List (Option IpAddress) → DnsResult → Type 0
IsOf list r = (r ≡ Addresses list) ⊎ (r ≡ TruncatedAddresses list)

-- addresses of a result stand in the message that gave them, under the name of its question, which is the one asked for, or
-- behind a chain of aliases from it. (A client that takes one of them, or has them in another order, keeps this; one that takes
-- all addresses of a message doesn't)
abbrev pub AddressesStand : Type 0
AddressesStand =
    (name : List ℕ) (servers : List IpAddress) (from : IpAddress) (from_port to_port i : ℕ) (octets : List ℕ) (q : DnsQuery)
    (list : List (Option IpAddress)) (a : IpAddress) → is_pending q ≡ true →
    IsOf list (after_receiving name servers from from_port to_port octets q).result → get_or list i None ≡ Some a → Stands octets 12 a

-- What must come of it, so that no query keeps these laws by doing nothing.

-- an answer of the server that was just asked gives its result, if its records are whole. (A client that takes no
-- answer after it was asked for something else keeps this; one that ignores all doesn't)
abbrev pub AnswersAreTaken : Type 0
AnswersAreTaken =
    (name : List ℕ) (servers : List IpAddress) (now server : ℕ) (from : IpAddress) (octets : List ℕ) (q : DnsQuery) (r : DnsResult) →
    asked_at now (length servers) q ≡ Some server → is_server servers server from ≡ true →
    is_answer name octets (after_asking now (length servers) q) ≡ true → is_failure octets ≡ false →
    result_in octets (after_asking now (length servers) q) ≡ Some r →
    (after_receiving name servers from 53 (after_asking now (length servers) q).source_port octets (after_asking now (length servers) q)).result ≡ r

-- a server that was just asked refuses, and others of the round weren't asked: then the next one is asked as soon as the owner
-- asks whom. (A client that waits for the patience to end doesn't keep this)
abbrev pub RefusalsMoveOn : Type 0
RefusalsMoveOn =
    (name : List ℕ) (servers : List IpAddress) (begun random first now later server : ℕ) (type : DnsType) (es : List Event)
    (from : IpAddress) (octets : List ℕ) (q : DnsQuery) →
    q ≡ query_after_all name servers es (new_query begun type random first) → asked_at now (length servers) q ≡ Some server →
    is_server servers server from ≡ true → is_refusal name octets (after_asking now (length servers) q) ≡ true →
    (after_asking now (length servers) q).asked < length servers → now ≤ later → later < begun + length servers * 10000000 →
    asked_at later (length servers)
    (after_receiving name servers from 53 (after_asking now (length servers) q).source_port octets (after_asking now (length servers) q))
    ≡ Some (behind (length servers) server)

-- the address that a record's data are, for a query of a type
abbrev pub address_for : DnsType → DnsData → Option IpAddress
address_for type.A (A a) = Some (Ipv4 a)
address_for type.Aaaa (Aaaa a) = Some (Ipv6 a)
address_for t d = None

abbrev pub is_alias : DnsData → Bool
is_alias (Cname to) = true
is_alias d = false

-- of so many records from an offset on, one has an address of a name: it is the first of them, or comes behind one that has the
-- name as an alias of another, or behind one that hasn't
pub data Comes (t : DnsType) (octets : List ℕ) (a : IpAddress) : ℕ → ℕ → ℕ → Type 0 where
  Here : {count at name : ℕ} → is_record octets at ≡ true → is_same_name octets at octets name ≡ true →
      address_for t (record_in octets at).«data» ≡ Some a → Comes t octets a (suc count) at name
  BehindAlias : {count at name to : ℕ} → is_record octets at ≡ true → is_same_name octets at octets name ≡ true →
      (record_in octets at).«data» ≡ Cname to → Comes t octets a count (record_in octets at).end to → Comes t octets a (suc count) at name
  Behind : {count at name : ℕ} → is_record octets at ≡ true →
      (is_same_name octets at octets name && is_alias (record_in octets at).«data») ≡ false →
      Comes t octets a count (record_in octets at).end name → Comes t octets a (suc count) at name

-- an address is one of a list, or the list is full
abbrev pub IsIn : IpAddress → List (Option IpAddress) → Type 0
IsIn a list = (i : ℕ) × (get_or list i None ≡ Some a)

abbrev pub IsFull : List (Option IpAddress) → Type 0
IsFull list = (i : ℕ) → i < 4 → get_or list i None ≡ None → ⊥

pub record IsTold (a : IpAddress) (r : DnsResult) : Type 0 where
  pub list : List (Option IpAddress)
  pub told : r ≡ Addresses list
  pub is_in : IsIn a list ⊎ IsFull list

-- an A or AAAA record of a sound answer is told as its address, or four others are, unless there are too many aliases. (A client
-- that looks at the first record alone doesn't keep this)
abbrev pub AddressesAreTold : Type 0
AddressesAreTold =
    (octets : List ℕ) (q : DnsQuery) (a : IpAddress) (r : DnsResult) → (header_in octets).response_code ≡ 0 →
    (header_in octets).is_truncated ≡ false →
    Comes q.query_type octets a (header_in octets).answer_count (question_in octets 12).end 12 → result_in octets q ≡ Some r →
    (r ≡ Failed TooManyAliases) ⊎ IsTold a r
