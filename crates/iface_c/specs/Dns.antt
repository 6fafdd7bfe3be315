-- Clients of DNS: what their calls do, and what C reads of them.
use Rattle.std.specs.Prelude.{ℕ, ℤ, ◌≡◌, ◌≢◌, ◌==◌, is_some, [], ◌∷◌, ◌++◌, List, slice_index, slice_index_or}
use Rattle.std.specs.Prelude.{Ok, Option, Some, None, IsSomeAnd, if◌then◌else◌}
use Rattle.std.specs.Option.{option_and_then, option_map}
use Rattle.ip_address.specs.declared.ip.IpAddress.{IpAddress}
use Rattle.dns_client.specs.declared.message.DnsType.{DnsType}
use Rattle.dns_client.specs.declared.message.DnsType.TheVariants.{A, Aaaa}
use Rattle.dns_client.specs.declared.query.DnsFailure.{DnsFailure}
use Rattle.dns_client.specs.declared.query.DnsFailure.TheVariants.{NoSuchName, ServerFailure, Truncated, NoAddress, TooManyAliases, TimedOut}
use Rattle.dns_client.specs.declared.query.DnsResult.{DnsResult}
use Rattle.dns_client.specs.declared.query.DnsResult.TheVariants.{Pending, Addresses, TruncatedAddresses, Failed}
use Rattle.dns_client.specs.DnsResolver.Resolver.{at, result_at}
use Rattle.tcp_host.specs.declared.sip_hash.SipKey.{SipKey}
use Rattle.iface_host.specs.declared.host.IfaceHost.{IfaceHost}
use Rattle.iface_host.specs.declared.refusal.Refusal.{Refusal}
use Rattle.iface_host.specs.declared.refusal.Refusal.TheVariants.{NotThere}
use Rattle.iface_dns.specs.Dns as dns
use Rattle.iface_dns.specs.Dns.{new_dns, servers_refusal, with_servers}
use Rattle.iface_dns.specs.Start.{Starts, start_refusal}
use Rattle.iface_dns.specs.declared.dns.Dns.{Dns}
use Rattle.iface_dns.specs.declared.start.StartRefusal.{StartRefusal}
use Rattle.iface_dns.specs.declared.start.StartRefusal.TheVariants.{Refused, BadName, NoServer}
use Rattle.iface_c.specs.Addresses.{address_for_c, address_in}
use Rattle.iface_c.specs.DnsHandle.{dns_in}
use Rattle.iface_c.specs.Handle.{host_in}
use Rattle.iface_c.specs.Packets.{read_as}
use Rattle.iface_c.specs.Status.{code_by, code_if, code_of}
use Rattle.iface_c.specs.declared.addresses.IfaceAddress.{IfaceAddress}
use Rattle.iface_c.specs.declared.dns.IfaceDnsAnswer.{IfaceDnsAnswer}
use Rattle.iface_c.specs.declared.dns_handle.IfaceDns.{IfaceDns}
use Rattle.iface_c.specs.declared.handle.Iface.{Iface}

-- the code of a call of a client: 19 where the handle owns none
abbrev pub code_of_one : (Dns → Option Refusal) → Option Dns → ℕ
code_of_one why None = 19
code_of_one why (Some d) = code_if (why d)

-- of a call of a client and a host
abbrev pub code_of_both : (Dns → IfaceHost → Option Refusal) → Option Dns → Option IfaceHost → ℕ
code_of_both why None host = 19
code_of_both why (Some d) host = code_by (why d) host

-- there is a client before and after, and it was changed so
abbrev pub ChangedOne : (Dns → Dns → Type 0) → Option Dns → Option Dns → Type 0
ChangedOne Step (Some old) (Some new) = Step old new
ChangedOne Step (Some old) None = ⊥
ChangedOne Step None new = ⊥

-- 0: the call is done; else it is refused, and nothing changed
pub record DidOne (code : ℕ) (Step : Dns → Dns → Type 0) (old new : IfaceDns) : Type 0 where
  pub done : code ≡ 0 → ChangedOne Step (dns_in old) (dns_in new)
  pub refused : code ≢ 0 → dns_in new ≡ dns_in old

-- there are a client and a host before and after, and they were changed so
abbrev pub ChangedBoth : (Dns → Dns → IfaceHost → IfaceHost → Type 0) → Option Dns → Option Dns → Option IfaceHost → Option IfaceHost → Type 0
ChangedBoth Step d d' (Some old) (Some new) = ChangedOne (λ c c'. Step c c' old new) d d'
ChangedBoth Step d d' (Some old) None = ⊥
ChangedBoth Step d d' None new = ⊥

pub record DidBoth (code : ℕ) (Step : Dns → Dns → IfaceHost → IfaceHost → Type 0) (d d' : IfaceDns) (old new : Iface) : Type 0 where
  pub done : code ≡ 0 → ChangedBoth Step (dns_in d) (dns_in d') (host_in old) (host_in new)
  pub client : code ≢ 0 → dns_in d' ≡ dns_in d
  pub host : code ≢ 0 → host_in new ≡ host_in old

-- servers with one more, unless its version is 0, if it is an address otherwise
abbrev pub with_server : List IpAddress → IfaceAddress → Option (List IpAddress)
with_server servers a = if a.version == 0 then Some servers else option_map (λ ip. servers ++ ip ∷ []) (address_in a)

-- the address of a place: an array of three has each, and beyond it there is none
abbrev pub server_at : List IfaceAddress → ℕ → IfaceAddress
server_at list i = slice_index_or list i (record { version = 0; octets = [] })

-- the servers of three addresses
abbrev pub servers_in : List IfaceAddress → Option (List IpAddress)
servers_in list =
    option_and_then (λ two. with_server two (server_at list 2))
    (option_and_then (λ one. with_server one (server_at list 1)) (with_server [] (server_at list 0)))

-- the key of two words
abbrev pub key_in : List ℕ → SipKey
key_in words = record { k0 = slice_index words 0; k1 = slice_index words 1 }

-- of a call that makes a client: 20 where the handle owns one, 3 where the servers have no meaning, 6 where one isn't unicast
abbrev pub code_for_new : Option (List IpAddress) → Option Dns → ℕ
code_for_new servers (Some d) = 20
code_for_new None None = 3
code_for_new (Some servers) None = code_if (servers_refusal servers)

-- there was no client, and there is a new one
abbrev pub IsMade : ℕ → SipKey → Option (List IpAddress) → Option Dns → Option Dns → Type 0
IsMade queries key (Some servers) None (Some d) = d ≡ new_dns servers queries key
IsMade queries key (Some servers) None None = ⊥
IsMade queries key (Some servers) (Some d) d' = ⊥
IsMade queries key None d d' = ⊥

pub record Made (code queries : ℕ) (key : SipKey) (servers : Option (List IpAddress)) (d d' : IfaceDns) : Type 0 where
  pub done : code ≡ 0 → IsMade queries key servers (dns_in d) (dns_in d')
  pub refused : code ≢ 0 → dns_in d' ≡ dns_in d

-- of a call that sets servers: 3 where these have no meaning, before all others, and 6 where one isn't unicast
abbrev pub code_for_servers : Option (List IpAddress) → Option Dns → ℕ
code_for_servers None d = 3
code_for_servers (Some servers) None = 19
code_for_servers (Some servers) (Some d) = code_if (servers_refusal servers)

abbrev pub SetsServers : Option (List IpAddress) → Dns → Dns → Type 0
SetsServers servers old new = IsSomeAnd servers (λ list. new ≡ with_servers list old)

-- what is asked of a name (RFC 1035 3.2.2, RFC 3596 2.1)
abbrev pub type_in : ℕ → Option DnsType
type_in number = if number == 1 then Some A else (if number == 28 then Some Aaaa else None)

-- why a query isn't started
abbrev pub code_of_start : StartRefusal → ℕ
code_of_start (Refused refusal) = code_of refusal
code_of_start BadName = 24
code_of_start NoServer = 25

abbrev pub code_if_start : Option StartRefusal → ℕ
code_if_start None = 0
code_if_start (Some refusal) = code_of_start refusal

-- of a call that starts a query: 3 where it has no such type, before all others
abbrev pub code_for_start : ℤ → List ℕ → Option DnsType → Option Dns → Option IfaceHost → ℕ
code_for_start now text None d host = 3
code_for_start now text (Some type) None host = 19
code_for_start now text (Some type) (Some d) None = 1
code_for_start now text (Some type) (Some d) (Some host) = code_if_start (start_refusal now text d host)

-- a query was started, and its place written
abbrev pub Started : ℤ → List ℕ → Option DnsType → ℕ → Dns → Dns → IfaceHost → IfaceHost → Type 0
Started now text type place d d' old new = IsSomeAnd type (λ t. Starts now text t place d d' old new)

-- no address, as C reads it
abbrev pub no_address : IfaceAddress
no_address = record { version = 0; octets = 0 ∷ 0 ∷ 0 ∷ 0 ∷ 0 ∷ 0 ∷ 0 ∷ 0 ∷ 0 ∷ 0 ∷ 0 ∷ 0 ∷ 0 ∷ 0 ∷ 0 ∷ 0 ∷ [] }

-- an address as C reads it, if there is one
abbrev pub address_for_c_if : Option IpAddress → IfaceAddress
address_for_c_if None = no_address
address_for_c_if (Some a) = address_for_c a

-- a result as C reads it
abbrev pub without_addresses : ℕ → IfaceDnsAnswer
without_addresses state = record { state = state; addresses = no_address ∷ no_address ∷ no_address ∷ no_address ∷ [] }

abbrev pub number_of_failure : DnsFailure → ℕ
number_of_failure NoSuchName = 2
number_of_failure ServerFailure = 3
number_of_failure Truncated = 4
number_of_failure NoAddress = 5
number_of_failure TooManyAliases = 6
number_of_failure TimedOut = 7

abbrev pub address_at : List (Option IpAddress) → ℕ → IfaceAddress
address_at list i = address_for_c_if (slice_index_or list i None)

abbrev pub with_addresses : ℕ → List (Option IpAddress) → IfaceDnsAnswer
with_addresses state list = record {
  state = state;
  addresses = address_at list 0 ∷ address_at list 1 ∷ address_at list 2 ∷ address_at list 3 ∷ [];
}

abbrev pub result_for_c : DnsResult → IfaceDnsAnswer
result_for_c Pending = without_addresses 0
result_for_c (Addresses list) = with_addresses 1 list
result_for_c (TruncatedAddresses list) = with_addresses 8 list
result_for_c (Failed failure) = without_addresses (number_of_failure failure)

-- a number names no query
abbrev pub query_refusal : ℕ → Dns → Option Refusal
query_refusal place d = if is_some (at d.resolver place) then None else Some NotThere

-- what has become of a query was written, and nothing changed
pub record Shows (place : ℕ) (shown : IfaceDnsAnswer) (old new : Dns) : Type 0 where
  pub there : DnsResult
  pub is_there : result_at old.resolver place ≡ Ok there
  pub written : shown ≡ result_for_c there
  pub same : new ≡ old

-- when it does something next was written, and nothing changed
pub record ShowsPollAt (instant : ℤ) (old new : Dns) : Type 0 where
  pub written : instant ≡ read_as (dns.poll_at old)
  pub same : new ≡ old

-- a client is freed, and a host that is there has its sockets no more
pub record ClosesAll (d : Dns) (old new : IfaceHost) : Type 0 where
  pub without : Dns
  pub closes : dns.Closes d without old new

abbrev pub FreesOf : Dns → Option IfaceHost → Option IfaceHost → Type 0
FreesOf d None new = new ≡ None
FreesOf d (Some old) (Some new) = ClosesAll d old new
FreesOf d (Some old) None = ⊥

abbrev pub Frees : Option Dns → Option IfaceHost → Option IfaceHost → Type 0
Frees None old new = new ≡ old
Frees (Some d) old new = FreesOf d old new
