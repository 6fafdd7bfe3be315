-- One query: whom it asks, and when (RFC 1034 5.3.3, RFC 1035 4.2.1, 7.2). Instants are in microseconds.
use Rattle.std.specs.Prelude.{ℕ, ◌≡◌, ◌+◌, ◌-◌, ◌*◌, ◌/◌, ◌%◌, ◌==◌, ◌&&◌, ◌||◌, nat_le, nat_lt, min, max, Bool, true, false, Option, Some, None, if◌then◌else◌, refl}
use Rattle.dns_client.specs.declared.message.DnsType.{DnsType}
use Rattle.dns_client.specs.declared.query.DnsFailure.TheVariants.{ServerFailure, TimedOut}
use Rattle.dns_client.specs.declared.query.DnsQuery.{DnsQuery}
use Rattle.dns_client.specs.declared.query.DnsResult.{DnsResult}
use Rattle.dns_client.specs.declared.query.DnsResult.TheVariants.{Pending, Addresses, TruncatedAddresses, Failed}

-- the number and the port are random (RFC 5452 9.2); one of the servers is asked first
abbrev pub new_query : ℕ → DnsType → ℕ → ℕ → DnsQuery
new_query now type random first = record {
  query_type = type;
  transaction_id = random % 0x1_0000;
  source_port = 0xc000 + random / 0x1_0000 % 0x4000;
  started_at = now;
  first = first;
  round = 0;
  asked = 0;
  has_refused = true;
  all_refused = true;
  next_at = 0;
  round_at = 0;
  silent_until = 0;
  result = Pending;
}

abbrev pub waits : DnsResult → Bool
waits Pending = true
waits (Addresses list) = false
waits (TruncatedAddresses list) = false
waits (Failed reason) = false

abbrev pub is_pending : DnsQuery → Bool
is_pending q = waits q.result

-- the servers stand in a circle, from the first one on: of three, if the second is the first, they are 1, 2, 0
abbrev pub first_of : ℕ → ℕ → ℕ
first_of servers first = if nat_lt first servers then first else 0

abbrev pub in_circle : ℕ → ℕ → ℕ
in_circle servers i = if nat_lt i servers then i else i - servers

abbrev pub server_of : ℕ → ℕ → ℕ → ℕ
server_of servers first i = in_circle servers (first_of servers first + i)

pub third_of_three : server_of 3 1 2 ≡ 0
third_of_three = refl

pub not_the_third : server_of 3 1 1 ≡ 2
not_the_third = refl

-- the server that was asked last
abbrev pub asked_last : ℕ → DnsQuery → ℕ
asked_last servers q = server_of servers q.first (q.asked - 1)

-- ten seconds for each server after it began a query has failed
abbrev pub ends_at : ℕ → DnsQuery → ℕ
ends_at servers q = q.started_at + servers * 10000000

abbrev pub is_over : ℕ → ℕ → DnsQuery → Bool
is_over now servers q = (servers == 0) || nat_le (ends_at servers q) now

abbrev pub after_time : ℕ → ℕ → DnsQuery → DnsQuery
after_time now servers q = if is_pending q && is_over now servers q then record q { result = Failed TimedOut } else q

-- once all servers were asked, another round begins
abbrev pub begins_round : ℕ → DnsQuery → Bool
begins_round servers q = nat_le servers q.asked

abbrev pub in_round : ℕ → DnsQuery → DnsQuery
in_round servers q = if begins_round servers q
    then record q { round = min 255 (q.round + 1); asked = 0; has_refused = true; all_refused = true; round_at = q.silent_until } else q

-- when the next server is asked
abbrev pub next_due : ℕ → DnsQuery → ℕ
next_due servers q = if begins_round servers q then max q.next_at q.silent_until else q.next_at

abbrev pub is_to_send : ℕ → ℕ → DnsQuery → Bool
is_to_send now servers q = is_pending q && nat_le (next_due servers q) now

-- each waits for an answer: two seconds in the first round, three in the second, five in the others
abbrev pub delay : ℕ → ℕ
delay round = if round == 0 then 2000000 else if round == 1 then 3000000 else 5000000

-- the next server of the round is asked; two seconds later the next round may begin
abbrev pub after_sending : ℕ → DnsQuery → DnsQuery
after_sending now q = record q {
  asked = q.asked + 1;
  has_refused = false;
  all_refused = q.all_refused && q.has_refused;
  next_at = max q.round_at (now + delay q.round);
  silent_until = max q.silent_until (now + 2000000);
}

-- first it is tested whether the time is over, then the next server is asked, if it is time
abbrev pub next_of : ℕ → DnsQuery → ℕ
next_of servers q = server_of servers q.first q.asked

abbrev pub asked_at : ℕ → ℕ → DnsQuery → Option ℕ
asked_at now servers q = if is_to_send now servers (after_time now servers q)
    then Some (next_of servers (in_round servers (after_time now servers q))) else None

abbrev pub after_asking : ℕ → ℕ → DnsQuery → DnsQuery
after_asking now servers q = if is_to_send now servers (after_time now servers q)
    then after_sending now (in_round servers (after_time now servers q)) else after_time now servers q

-- a server refused: the next one of the round is asked at once, and where all of the round have refused the query has failed
-- (RFC 1034 5.3.3 4d)
abbrev pub after_refusal : ℕ → DnsQuery → DnsQuery
after_refusal servers q = if q.all_refused && nat_le servers q.asked
    then record q { result = Failed ServerFailure } else record q { has_refused = true; next_at = q.round_at }

-- when something is due: a server is asked, or the time is over
abbrev pub due_at : ℕ → DnsQuery → ℕ
due_at servers q = if servers == 0 then 0 else min (next_due servers q) (ends_at servers q)

abbrev pub poll_at : ℕ → DnsQuery → Option ℕ
poll_at servers q = if is_pending q then Some (min (due_at servers q) 0xffff_ffff_ffff_ffff) else None
