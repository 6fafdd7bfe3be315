-- What happens to a resolver, and that each of its queries goes as if it were alone: so all laws of one query hold of each
-- (`dns_client`, its laws).
use Rattle.std.specs.Prelude.{ℕ, ◌≡◌, ◌+◌, ◌%◌, ◌^◌, ◌==◌, Bool, true, false, List, [], ◌∷◌, All, slice_set, Option, Some, None, if◌then◌else◌}
use Rattle.ip_address.specs.declared.ip.IpAddress.{IpAddress}
use Rattle.dns_client.specs.declared.message.DnsType.{DnsType}
use Rattle.dns_client.specs.Query.{new_query}
use Rattle.dns_client.specs.Run as query
use Rattle.dns_client.specs.DnsResolver.Places.{Named, Queries}
use Rattle.dns_client.specs.declared.query.DnsResult.{DnsResult}
use Rattle.dns_client.specs.DnsResolver.Resolver.{after_answer, after_asking, after_failure, after_receiving, at, drawn, free_in, is_whole, with_place}

pub data Event : Type 0 where
  -- a query is started
  Start : (now : ℕ) → (name : List ℕ) → (type : DnsType) → Event
  -- the query at a place is cancelled
  Cancel : (place : ℕ) → Event
  -- the query at a place has a result without asking
  Answer : (place : ℕ) → (result : DnsResult) → Event
  -- a message comes for the query at a place
  Receive : (place : ℕ) → (from : IpAddress) → (from_port : ℕ) → (to_port : ℕ) → (octets : List ℕ) → Event
  -- the query at a place learns that a server can't be reached
  Fail : (place : ℕ) → (server : IpAddress) → Event
  -- the owner asks what is due for the query at a place
  Ask : (place : ℕ) → (now : ℕ) → Event

-- a query is started in a free place, if there is one
abbrev pub with_query : ℕ → List ℕ → DnsType → Option ℕ → Queries → Queries
with_query now name type None r = r
with_query now name type (Some place) r = record r {
  started = (r.started + 1) % 2 ^ 64;
  places = slice_set r.places place (Some (record { query = new_query now type (drawn r.key r.started) r.preferred; name = name }));
}

abbrev pub after : Event → Queries → Queries
after (Start now name type) r = if is_whole name then with_query now name type (free_in r.places) r else r
after (Cancel place) r = with_place place None r
after (Answer place result) r = after_answer place result r
after (Receive place from from_port to_port octets) r = after_receiving place from from_port to_port octets r
after (Fail place server) r = after_failure place server r
after (Ask place now) r = after_asking place now r

abbrev pub after_all : List Event → Queries → Queries
after_all [] r = r
after_all (e ∷ es) r = after_all es (after e r)

-- an event cancels the query at a place, or gives it a result without asking
abbrev pub cancels : ℕ → Event → Bool
cancels place (Start now name type) = false
cancels place (Cancel other) = other == place
cancels place (Answer other result) = other == place
cancels place (Receive other from from_port to_port octets) = false
cancels place (Fail other server) = false
cancels place (Ask other now) = false

-- what of it happens to the query at a place
abbrev pub own_event : ℕ → Event → Option query.Event
own_event place (Start now name type) = None
own_event place (Cancel other) = None
own_event place (Answer other result) = None
own_event place (Receive other from from_port to_port octets) =
    if other == place then Some (query.Receive from from_port to_port octets) else None
own_event place (Fail other server) = if other == place then Some (query.Fail server) else None
own_event place (Ask other now) = if other == place then Some (query.Ask now) else None

abbrev pub with_event : Option query.Event → List query.Event → List query.Event
with_event None es = es
with_event (Some e) es = e ∷ es

abbrev pub own_events : ℕ → List Event → List query.Event
own_events place [] = []
own_events place (e ∷ es) = with_event (own_event place e) (own_events place es)

-- whatever happens, a query that isn't cancelled, nor given a result, has gone as one of its name and these servers, by its own
-- events alone. (A
-- resolver that ignores all of them doesn't keep this; nor does one that hands a message to another place)
abbrev pub EachGoesAlone : Type 0
EachGoesAlone =
    (place : ℕ) (n : Named) (es : List Event) (r : Queries) → at r place ≡ Some n → All (λ (e : Event). cancels place e ≡ false) es →
    at (after_all es r) place ≡ Some (record n { query = query.query_after_all n.name r.servers (own_events place es) n.query })
