-- What a query makes of the messages that come (RFC 1035 7.3, RFC 5452 3, 9.1).
use Rattle.std.specs.Prelude.{ℕ, ◌==◌, ◌&&◌, ◌||◌, not, nat_le, nat_lt, Bool, false, Option, Some, None, List, length, slice_index_or, if◌then◌else◌}
use Rattle.ip_address.specs.declared.ip.IpAddress.{IpAddress}
use Rattle.ip_address.specs.declared.ip.IpAddress.TheVariants.{Ipv4, Ipv6}
use Rattle.dns_client.specs.Names.{is_same_name}
use Rattle.dns_client.specs.Message.{header_in, is_question, question_in, number_of}
use Rattle.dns_client.specs.declared.message.DnsHeader.{DnsHeader}
use Rattle.dns_client.specs.declared.query.DnsFailure.TheVariants.{NoSuchName, Truncated}
use Rattle.dns_client.specs.declared.query.DnsQuery.{DnsQuery}
use Rattle.dns_client.specs.declared.query.DnsResult.{DnsResult}
use Rattle.dns_client.specs.declared.query.DnsResult.TheVariants.{Pending, Addresses, TruncatedAddresses, Failed}
use Rattle.dns_client.specs.Found.{found_from, nothing_at, result_if}
use Rattle.dns_client.specs.Query.{after_refusal, asked_last, is_pending}

abbrev pub is_same : IpAddress → IpAddress → Bool
is_same (Ipv4 a) (Ipv4 b) = a.bits == b.bits
is_same (Ipv4 a) (Ipv6 b) = false
is_same (Ipv6 a) (Ipv4 b) = false
is_same (Ipv6 a) (Ipv6 b) = a.bits == b.bits

-- an address is the server's of this index
abbrev pub is_server : List IpAddress → ℕ → IpAddress → Bool
is_server servers i from = nat_lt i (length servers) && is_same (slice_index_or servers i from) from

-- a message is from the server that was asked last, from port 53 to the port that asked
abbrev pub is_by_asked : List IpAddress → IpAddress → ℕ → ℕ → DnsQuery → Bool
is_by_asked servers from from_port to_port q =
    is_pending q && nat_lt 0 q.asked && (from_port == 53) && (to_port == q.source_port)
    && is_server servers (asked_last (length servers) q) from

-- it responds to a standard query of this number
abbrev pub responds : DnsHeader → DnsQuery → Bool
responds h q = (h.transaction_id == q.transaction_id) && h.is_response && (h.opcode == 0)

abbrev pub is_response : List ℕ → DnsQuery → Bool
is_response octets q = nat_le 12 (length octets) && responds (header_in octets) q

-- with the query's question, which is the only one
abbrev pub has_question : List ℕ → List ℕ → DnsQuery → Bool
has_question name octets q =
    ((header_in octets).question_count == 1)
    && is_question octets 12
    && is_same_name octets 12 name 0
    && ((question_in octets 12).question_type == number_of q.query_type)
    && ((question_in octets 12).class == 1)

abbrev pub is_answer : List ℕ → List ℕ → DnsQuery → Bool
is_answer name octets q = is_response octets q && has_question name octets q

-- an RCODE other than 0, no error, and 3, no such name: as 1 (FORMERR), 2 (SERVFAIL) and 5 (REFUSED) (RFC 1035 4.1.1)
abbrev pub fails : DnsHeader → Bool
fails h = not (h.response_code == 0) && not (h.response_code == 3)

abbrev pub is_failure : List ℕ → Bool
is_failure octets = fails (header_in octets)

-- a server refuses with the question, or without any
abbrev pub is_refusal : List ℕ → List ℕ → DnsQuery → Bool
is_refusal name octets q =
    is_response octets q && is_failure octets && (((header_in octets).question_count == 0) || has_question name octets q)

-- what was found in an answer that was cut: its addresses, or none
abbrev pub truncated : Option DnsResult → DnsResult
truncated None = Failed Truncated
truncated (Some Pending) = Failed Truncated
truncated (Some (Addresses list)) = TruncatedAddresses list
truncated (Some (TruncatedAddresses list)) = Failed Truncated
truncated (Some (Failed reason)) = Failed Truncated

-- the records stand behind the question; where they aren't whole the message doesn't count, unless it was cut
abbrev pub found_in : List ℕ → DnsQuery → Option DnsResult
found_in octets q =
    result_if (found_from (header_in octets).answer_count q.query_type octets (question_in octets 12).end (nothing_at 12))

abbrev pub result_in : List ℕ → DnsQuery → Option DnsResult
result_in octets q =
    if (header_in octets).response_code == 3 then Some (Failed NoSuchName)
    else if (header_in octets).is_truncated then Some (truncated (found_in octets q)) else found_in octets q

abbrev pub with_result : Option DnsResult → DnsQuery → DnsQuery
with_result None q = q
with_result (Some r) q = record q { result = r }

abbrev pub after_answer : List ℕ → ℕ → List ℕ → DnsQuery → DnsQuery
after_answer name servers octets q = if is_refusal name octets q then after_refusal servers q
    else if is_answer name octets q && not (is_failure octets) then with_result (result_in octets q) q else q

abbrev pub after_receiving : List ℕ → List IpAddress → IpAddress → ℕ → ℕ → List ℕ → DnsQuery → DnsQuery
after_receiving name servers from from_port to_port octets q =
    if is_by_asked servers from from_port to_port q then after_answer name (length servers) octets q else q

-- a server can't be reached, as its port is closed or its neighbour absent: it counts as refusing, if it was asked last
abbrev pub waits_for : List IpAddress → IpAddress → DnsQuery → Bool
waits_for servers server q = is_pending q && nat_lt 0 q.asked && is_server servers (asked_last (length servers) q) server

abbrev pub after_failure : List IpAddress → IpAddress → DnsQuery → DnsQuery
after_failure servers server q = if waits_for servers server q then after_refusal (length servers) q else q
