-- Queries to one server are two seconds apart.
use Rattle.std.proofs.Common.{◌≡◌, ℕ, ◌+◌, ◌-◌, ◌<◌, ◌≤◌, Bool, true, false, refl, sym, ap, ◌∙◌, arith, List, [], ◌∷◌, length, inl, inr}
use Rattle.std.specs.Prelude.{◌⊎◌, Option, Some, None, max, min, nat_le, nat_lt, not, ◌&&◌, if◌then◌else◌}
use Rattle.std.proofs.lemmas.Bool.Decides.{nat_tests}
use Rattle.std.proofs.lemmas.Bool.{and_parts, leb-true}
use Rattle.ip_address.specs.declared.ip.IpAddress.{IpAddress}
use Rattle.dns_client.specs.declared.query.DnsFailure.TheVariants.{ServerFailure, TimedOut}
use Rattle.dns_client.specs.declared.query.DnsQuery.{DnsQuery}
use Rattle.dns_client.specs.declared.query.DnsResult.{DnsResult}
use Rattle.dns_client.specs.declared.query.DnsResult.TheVariants.{Failed}
use Rattle.dns_client.specs.Answers.{with_result, result_in, after_answer, is_by_asked, is_answer, is_failure, is_refusal, waits_for}
use Rattle.dns_client.specs.Query.{after_asking, after_refusal, after_sending, after_time, begins_round, delay, first_of, in_circle, in_round, is_over}
use Rattle.dns_client.specs.Query.{is_pending, is_to_send, next_due, next_of, server_of}
use Rattle.dns_client.specs.Run.{Event, Receive, Fail, Ask, query_after, query_after_all}
use Rattle.dns_client.specs.Laws.{QueriesAreSpaced}
use Rattle.dns_client.proofs.DnsClient.Ends.{still, within_time}

-- what is known since a server was asked: which servers were asked behind it, or when the round began
record Since (first at gate : ℕ) (q : DnsQuery) : Type 0 where
  pub first_is : q.first ≡ first
  pub later : q.round_at ≤ q.next_at
  pub silent : gate ≤ q.silent_until
  pub kept : (at < q.asked) ⊎ (gate ≤ q.round_at)

module _ (first at gate : ℕ) where
  with_it : (r : Option DnsResult) (q : DnsQuery) → Since first at gate q → Since first at gate (with_result r q)
  with_it None q k = k
  with_it (Some r) q k =
      let f = k.first_is in let l = k.later in let s = k.silent in let p = k.kept in record { first_is = f; later = l; silent = s; kept = p }

  refused : (b : Bool) (q : DnsQuery) → Since first at gate q → Since first at gate
      (if b then record q { result = Failed ServerFailure } else record q { has_refused = true; next_at = q.round_at })
  refused true q k =
      let f = k.first_is in let l = k.later in let s = k.silent in let p = k.kept in record { first_is = f; later = l; silent = s; kept = p }
  refused false q k =
      let f = k.first_is in let s = k.silent in let p = k.kept in record { first_is = f; later = omega arith; silent = s; kept = p }

  answered : (refuses answers : Bool) (servers : ℕ) (r : Option DnsResult) (q : DnsQuery) → Since first at gate q → Since first at gate
      (if refuses then after_refusal servers q else if answers then with_result r q else q)
  answered true answers servers r q k = refused (q.all_refused && nat_le servers q.asked) q k
  answered false true servers r q k = with_it r q k
  answered false false servers r q k = k

  by_receiving : (t : Bool) (name : List ℕ) (servers : ℕ) (octets : List ℕ) (q : DnsQuery) → Since first at gate q →
      Since first at gate (if t then after_answer name servers octets q else q)
  by_receiving true name servers octets q k =
      answered (is_refusal name octets q) (is_answer name octets q && not (is_failure octets)) servers (result_in octets q) q k
  by_receiving false name servers octets q k = k

  unreached : (b : Bool) (servers : ℕ) (q : DnsQuery) → Since first at gate q →
      Since first at gate (if b then after_refusal servers q else q)
  unreached true servers q k = refused (q.all_refused && nat_le servers q.asked) q k
  unreached false servers q k = k

  timed : (b : Bool) (q : DnsQuery) → Since first at gate q → Since first at gate (if b then record q { result = Failed TimedOut } else q)
  timed true q k =
      let f = k.first_is in let l = k.later in let s = k.silent in let p = k.kept in record { first_is = f; later = l; silent = s; kept = p }
  timed false q k = k

  -- a round begins once it is quiet
  rounded : (b : Bool) (q : DnsQuery) → Since first at gate q →
      (q.first ≡ first) → (gate ≤ q.silent_until) → ((at < q.asked) ⊎ (gate ≤ q.round_at)) →
      let d = if b then record q { round = min 255 (q.round + 1); asked = 0; has_refused = true; all_refused = true; round_at = q.silent_until } else q in
      (d.first ≡ first) × (gate ≤ d.silent_until) × ((at < d.asked) ⊎ (gate ≤ d.round_at))
  rounded true q k f s p = (f, s, inr s)
  rounded false q k f s p = (f, s, p)

  sent : (now : ℕ) (d : DnsQuery) → d.first ≡ first → gate ≤ d.silent_until → ((at < d.asked) ⊎ (gate ≤ d.round_at)) →
      Since first at gate (after_sending now d)
  sent now d f s (inl more) =
      record { first_is = f; later = omega arith; silent = omega (arith, s); kept = inl (omega (arith, more)) }
  sent now d f s (inr round) = record { first_is = f; later = omega arith; silent = omega (arith, s); kept = inr round }

  by_sending : (b : Bool) (now servers : ℕ) (d : DnsQuery) → Since first at gate d →
      Since first at gate (if b then after_sending now (in_round servers d) else d)
  by_sending true now servers d k =
      let r = rounded (begins_round servers d) d k k.first_is k.silent k.kept in sent now (in_round servers d) r.0 r.1 r.2
  by_sending false now servers d k = k

  by_event : (name : List ℕ) (servers : List IpAddress) (e : Event) (q : DnsQuery) → Since first at gate q →
      Since first at gate (query_after name servers e q)
  by_event name servers (Receive from from_port to_port octets) q k =
      by_receiving (is_by_asked servers from from_port to_port q) name (length servers) octets q k
  by_event name servers (Fail server) q k = unreached (waits_for servers server q) (length servers) q k
  by_event name servers (Ask now) q k =
      let n = length servers in
      let d = after_time now n q in
      by_sending (is_to_send now n d) now n d (timed (is_pending q && is_over now n q) q k)

  by_all : (name : List ℕ) (servers : List IpAddress) (es : List Event) (q : DnsQuery) → Since first at gate q →
      Since first at gate (query_after_all name servers es q)
  by_all name servers [] q k = k
  by_all name servers (e ∷ es) q k = by_all name servers es (query_after name servers e q) (by_event name servers e q k)

-- Servers in a circle.

first_there : (servers first : ℕ) (b : Bool) → 0 < servers → nat_lt first servers ≡ b → (if b then first else 0) < servers
first_there servers first true some e = grind (arith, nat_tests, e)
first_there servers first false some e = some

apart : (servers from i j : ℕ) (s t : Bool) → from < servers → i < j → j < servers → nat_lt (from + i) servers ≡ s → nat_lt (from + j) servers ≡ t →
    (if s then from + i else from + i - servers) ≡ (if t then from + j else from + j - servers) → ⊥
apart servers from i j true true f less few es et e = omega (arith, e, less)
apart servers from i j false false f less few es et e =
    let si : servers ≤ from + i = grind (arith, nat_tests, es) in
    let sj : servers ≤ from + j = grind (arith, nat_tests, et) in
    omega (arith, e, less, si, sj)
apart servers from i j true false f less few es et e =
    let sj : servers ≤ from + j = grind (arith, nat_tests, et) in
    omega (arith, e, less, few, sj)
apart servers from i j false true f less few es et e =
    let si : servers ≤ from + i = grind (arith, nat_tests, es) in
    let sj : from + j < servers = grind (arith, nat_tests, et) in
    omega (arith, e, less, si, sj)

-- two places of one round are two servers
distinct : (servers first i j : ℕ) → i < j → j < servers → server_of servers first i ≡ server_of servers first j → ⊥
distinct servers first i j less few e =
    let from = first_of servers first in
    apart servers from i j (nat_lt (from + i) servers) (nat_lt (from + j) servers)
    (first_there servers first (nat_lt first servers) (omega (arith, less, few)) refl) less few refl refl e

-- What is sent.

abbrev got : ℕ → Option ℕ → ℕ
got n None = n
got n (Some m) = m

pub sends : (t : Bool) (server one : ℕ) → (if t then Some server else None) ≡ Some one → (t ≡ true) × (server ≡ one)
sends true server one e = (refl, ap (got 0) e)
sends false server one e = absurd (cc)

pub waits_to_send : (now servers : ℕ) (d : DnsQuery) → is_to_send now servers d ≡ true → (is_pending d ≡ true) × (next_due servers d ≤ now)
waits_to_send now servers d h = let both = and_parts _ _ h in (both.0, leb-true _ _ both.1)

begun : (now gate : ℕ) (d : DnsQuery) → gate ≡ now + 2000000 → Since d.first d.asked gate (after_sending now d)
begun now gate d e = record { first_is = refl; later = omega arith; silent = omega (arith, e); kept = inl (omega arith) }

again : (b : Bool) (first at gate second servers server : ℕ) (d : DnsQuery) → Since first at gate d → begins_round servers d ≡ b →
    (if b then max d.next_at d.silent_until else d.next_at) ≤ second → server_of servers first at ≡ server →
    (if b then record d { round = min 255 (d.round + 1); asked = 0; has_refused = true; all_refused = true; round_at = d.silent_until } else d).asked ≡ (if b then 0 else d.asked) →
    (b ≡ false → server_of servers d.first d.asked ≡ server) → gate ≤ second
again true first at gate second servers server d k e due one is other = let s = k.silent in omega (arith, s, due)
again false first at gate second servers server d k e due one is other =
    by k.kept where
      by : ((at < d.asked) ⊎ (gate ≤ d.round_at)) → gate ≤ second
      by (inr round) = let l = k.later in omega (arith, round, l, due)
      by (inl more) =
          let few : d.asked < servers = grind (arith, nat_tests, e) in
          let same : server_of servers first at ≡ server_of servers first d.asked =
          one ∙ sym (other refl) ∙ ap (λ (f : ℕ). server_of servers f d.asked) k.first_is in
          absurd (distinct servers first at d.asked more few same)

same_round : (b : Bool) (servers server : ℕ) (d : DnsQuery) →
    next_of servers (if b then record d { round = min 255 (d.round + 1); asked = 0; has_refused = true; all_refused = true; round_at = d.silent_until } else d)
    ≡ server → b ≡ false → server_of servers d.first d.asked ≡ server
same_round true servers server d e f = absurd (cc)
same_round false servers server d e f = e

round_asked : (b : Bool) (d : DnsQuery) →
    (if b then record d { round = min 255 (d.round + 1); asked = 0; has_refused = true; all_refused = true; round_at = d.silent_until } else d).asked
    ≡ (if b then 0 else d.asked)
round_asked true d = refl
round_asked false d = refl

first_sent : (t : Bool) (now servers : ℕ) (d : DnsQuery) → t ≡ true →
    Since (in_round servers d).first (in_round servers d).asked (now + 2000000) (if t then after_sending now (in_round servers d) else d)
first_sent true now servers d e = begun now (now + 2000000) (in_round servers d) refl
first_sent false now servers d e = absurd (cc)

pub queries_are_spaced : QueriesAreSpaced
queries_are_spaced name servers first second server q es e f =
    let n = length servers in
    let d = after_time first n q in
    let r = in_round n d in
    let one = sends (is_to_send first n d) (next_of n r) server e in
    let since = first_sent (is_to_send first n d) first n d one.0 in
    let c = query_after_all name servers es (after_asking first n q) in
    let known = by_all r.first r.asked (first + 2000000) name servers es (after_asking first n q) since in
    let c' = after_time second n c in
    let two = sends (is_to_send second n c') (next_of n (in_round n c')) server f in
    let at = waits_to_send second n c' two.0 in
    let known' = timed r.first r.asked (first + 2000000) (is_pending c && is_over second n c) c known in
    again (begins_round n c') r.first r.asked (first + 2000000) second n server c' known' refl at.1 one.1 (round_asked (begins_round n c') c')
    (same_round (begins_round n c') n server c' two.1)
