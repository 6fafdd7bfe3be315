-- What an answer's records tell of the name that was asked for (RFC 1035 3.3.1, 3.4.1, RFC 3596 2.2).
use Rattle.std.specs.Prelude.{ℕ, zero, suc, ◌+◌, ◌==◌, nat_lt, Bool, true, false, Option, Some, None, List, [], ◌∷◌, set, if◌then◌else◌}
use Rattle.ip_address.specs.declared.ip.IpAddress.{IpAddress}
use Rattle.ip_address.specs.declared.ip.IpAddress.TheVariants.{Ipv4, Ipv6}
use Rattle.dns_client.specs.declared.message.DnsType.{DnsType}
use Rattle.dns_client.specs.declared.message.DnsType.TheVariants as type
use Rattle.dns_client.specs.declared.record.DnsData.{DnsData}
use Rattle.dns_client.specs.declared.record.DnsData.TheVariants.{A, Aaaa, Cname, Other}
use Rattle.dns_client.specs.Names.{is_same_name}
use Rattle.dns_client.specs.Record.{is_record, record_in}
use Rattle.dns_client.specs.declared.found.Found.{Found}
use Rattle.dns_client.specs.declared.query.DnsFailure.TheVariants.{NoAddress, TooManyAliases}
use Rattle.dns_client.specs.declared.query.DnsResult.{DnsResult}
use Rattle.dns_client.specs.declared.query.DnsResult.TheVariants.{Addresses, Failed}

-- at first the name at an offset is looked for, and no address is known
abbrev pub nothing_at : ℕ → Found
nothing_at at = record { name = at; aliases = 0; count = 0; addresses = None ∷ None ∷ None ∷ None ∷ [] }

-- the first four addresses are kept
abbrev pub with_address : IpAddress → Found → Found
with_address a f = if nat_lt f.count 4
    then record f { count = f.count + 1; addresses = set f.addresses f.count (Some a) } else f

-- from an alias on, what it stands for is looked for; more than eight count as nine
abbrev pub with_alias : ℕ → Found → Found
with_alias name f = record f { name = name; aliases = if nat_lt f.aliases 9 then f.aliases + 1 else 9 }

-- only addresses of the type that was asked for count
abbrev pub is_for_v4 : DnsType → Bool
is_for_v4 type.A = true
is_for_v4 type.Aaaa = false

abbrev pub with_data : DnsType → DnsData → Found → Found
with_data t (A a) f = if is_for_v4 t then with_address (Ipv4 a) f else f
with_data t (Aaaa a) f = if is_for_v4 t then f else with_address (Ipv6 a) f
with_data t (Cname name) f = with_alias name f
with_data t Other f = f

-- and only records of the name that is looked for
abbrev pub with_record : DnsType → List ℕ → ℕ → DnsData → Found → Found
with_record t octets at d f = if is_same_name octets at octets f.name then with_data t d f else f

abbrev pub after_record : DnsType → List ℕ → ℕ → Found → Found
after_record t octets at f = with_record t octets at (record_in octets at).«data» f

-- so many records one after another; none is found where one of them isn't whole
unfoldable pub found_from : ℕ → DnsType → List ℕ → ℕ → Found → Option Found
found_from zero t octets at f = Some f
found_from (suc count) t octets at f = if is_record octets at
    then found_from count t octets (record_in octets at).end (after_record t octets at f) else None

abbrev pub result_of : Found → DnsResult
result_of f = if nat_lt 8 f.aliases then Failed TooManyAliases else if f.count == 0 then Failed NoAddress else Addresses f.addresses

abbrev pub result_if : Option Found → Option DnsResult
result_if None = None
result_if (Some f) = Some (result_of f)
