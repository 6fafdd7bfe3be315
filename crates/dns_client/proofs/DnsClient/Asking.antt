-- Results are answers to what was asked last, and servers are asked in a circle.
use Rattle.std.proofs.Common.{◌≡◌, ℕ, ◌+◌, ◌-◌, ◌*◌, ◌<◌, ◌≤◌, Bool, true, false, refl, sym, ap, subst, ◌∙◌, arith, List, [], ◌∷◌, length, inl, inr}
use Rattle.std.specs.Prelude.{◌⊎◌, Option, Some, None, max, min, nat_le, nat_lt, not, ◌==◌, ◌&&◌, ◌||◌, if◌then◌else◌}
use Rattle.std.specs.Option.{option_or}
use Rattle.std.proofs.lemmas.Bool.Decides.{nat_tests}
use Rattle.std.proofs.lemmas.Bool.{and_parts, eqb-true, leb-true}
use Rattle.ip_address.specs.declared.ip.IpAddress.{IpAddress}
use Rattle.dns_client.specs.declared.message.DnsType.{DnsType}
use Rattle.dns_client.specs.Message.{number_of, header_in}
use Rattle.dns_client.specs.declared.query.DnsFailure.TheVariants.{ServerFailure, TimedOut}
use Rattle.dns_client.specs.declared.query.DnsQuery.{DnsQuery}
use Rattle.dns_client.specs.declared.query.DnsResult.{DnsResult}
use Rattle.dns_client.specs.declared.query.DnsResult.TheVariants.{Failed}
use Rattle.dns_client.specs.Answers.{after_answer, after_receiving, with_result, result_in, has_question, is_by_asked, is_answer, is_failure, is_refusal, is_response, is_server, waits_for}
use Rattle.dns_client.specs.Query.{new_query, after_asking, after_refusal, after_sending, after_time, asked_at, asked_last, begins_round, delay, ends_at, first_of, in_circle}
use Rattle.dns_client.specs.Query.{in_round, is_over, is_pending, is_to_send, next_due, next_of, server_of, waits}
use Rattle.dns_client.specs.Run.{Event, Receive, Fail, Ask, query_after, query_after_all, asked_by, last_asked}
use Rattle.dns_client.specs.Laws.{Asks, IsAsked, Responds, AnswersTo, AnswersLast, ResultsAreAnswers, ServersGoRound, FirstIsAsked, RefusalsMoveOn, behind}
use Rattle.dns_client.proofs.DnsClient.Ends.{same_result, started_same, still, within_time}
use Rattle.dns_client.proofs.DnsClient.Spacing.{sends, waits_to_send}
use Rattle.dns_client.proofs.DnsClient.Taking.{by_sent, just_asked}

-- A round that begins, or goes on.

abbrev round_by : Bool → DnsQuery → DnsQuery
round_by b q = if b
    then record q { round = min 255 (q.round + 1); asked = 0; has_refused = true; all_refused = true; round_at = q.silent_until } else q

few_asked : (b : Bool) (servers : ℕ) (q : DnsQuery) → begins_round servers q ≡ b → 0 < servers → (round_by b q).asked < servers
few_asked true servers q e some = some
few_asked false servers q e some = grind (arith, nat_tests, e)

round_first : (b : Bool) (q : DnsQuery) → (round_by b q).first ≡ q.first
round_first true q = refl
round_first false q = refl

module _ (name : List ℕ) (servers : List IpAddress) (type : DnsType) (random first : ℕ) where
  -- what is known of a query, by which server was asked last
  record Known (last : Option ℕ) (q : DnsQuery) : Type 0 where
    pub is_type : q.query_type ≡ type
    pub number : q.transaction_id ≡ (new_query 0 type random 0).transaction_id
    pub port : q.source_port ≡ (new_query 0 type random 0).source_port
    pub first_is : q.first ≡ first
    pub later : q.round_at ≤ q.next_at
    pub few : q.asked ≤ length servers
    pub asked : ((last ≡ None) × (q.asked ≡ 0)) ⊎ ((last ≡ Some (asked_last (length servers) q)) × (0 < q.asked))

  begun : (now : ℕ) → Known None (new_query now type random first)
  begun now =
      record { is_type = refl; number = refl; port = refl; first_is = refl; later = omega arith; few = omega arith; asked = inl (refl, refl) }

  with_it : (last : Option ℕ) (r : Option DnsResult) (q : DnsQuery) → Known last q → Known last (with_result r q)
  with_it last None q k = k
  with_it last (Some r) q k =
      let t = k.is_type in let n = k.number in let p = k.port in let f = k.first_is in let l = k.later in let w = k.few in let a = k.asked in
      record { is_type = t; number = n; port = p; first_is = f; later = l; few = w; asked = a }

  refused : (b : Bool) (last : Option ℕ) (q : DnsQuery) → Known last q → Known last
      (if b then record q { result = Failed ServerFailure } else record q { has_refused = true; next_at = q.round_at })
  refused true last q k =
      let t = k.is_type in let n = k.number in let p = k.port in let f = k.first_is in let l = k.later in let w = k.few in let a = k.asked in
      record { is_type = t; number = n; port = p; first_is = f; later = l; few = w; asked = a }
  refused false last q k =
      let t = k.is_type in let n = k.number in let p = k.port in let f = k.first_is in let w = k.few in let a = k.asked in
      record { is_type = t; number = n; port = p; first_is = f; later = omega arith; few = w; asked = a }

  answered : (refuses answers : Bool) (n : ℕ) (last : Option ℕ) (r : Option DnsResult) (q : DnsQuery) → Known last q →
      Known last (if refuses then after_refusal n q else if answers then with_result r q else q)
  answered true answers n last r q k = refused (q.all_refused && nat_le n q.asked) last q k
  answered false true n last r q k = with_it last r q k
  answered false false n last r q k = k

  by_receiving : (b : Bool) (last : Option ℕ) (octets : List ℕ) (q : DnsQuery) → Known last q →
      Known last (if b then after_answer name (length servers) octets q else q)
  by_receiving true last octets q k =
      answered (is_refusal name octets q) (is_answer name octets q && not (is_failure octets)) (length servers) last (result_in octets q) q k
  by_receiving false last octets q k = k

  unreached : (b : Bool) (last : Option ℕ) (q : DnsQuery) → Known last q →
      Known last (if b then after_refusal (length servers) q else q)
  unreached true last q k = refused (q.all_refused && nat_le (length servers) q.asked) last q k
  unreached false last q k = k

  timed : (b : Bool) (last : Option ℕ) (q : DnsQuery) → Known last q → Known last (if b then record q { result = Failed TimedOut } else q)
  timed true last q k =
      let t = k.is_type in let n = k.number in let p = k.port in let f = k.first_is in let l = k.later in let w = k.few in let a = k.asked in
      record { is_type = t; number = n; port = p; first_is = f; later = l; few = w; asked = a }
  timed false last q k = k

  -- what stays when a round begins
  record Same (q r : DnsQuery) : Type 0 where
    pub is_type : r.query_type ≡ q.query_type
    pub number : r.transaction_id ≡ q.transaction_id
    pub port : r.source_port ≡ q.source_port
    pub first_is : r.first ≡ q.first

  same_round : (b : Bool) (q : DnsQuery) → Same q (round_by b q)
  same_round true q = record { is_type = refl; number = refl; port = refl; first_is = refl }
  same_round false q = record { is_type = refl; number = refl; port = refl; first_is = refl }

  sent : (now : ℕ) (last : Option ℕ) (q r : DnsQuery) → Same q r → r.asked < length servers → Known last q →
      Known (Some (next_of (length servers) r)) (after_sending now r)
  sent now last q r s few k =
      record {
        is_type = s.is_type ∙ k.is_type;
        number = s.number ∙ k.number;
        port = s.port ∙ k.port;
        first_is = s.first_is ∙ k.first_is;
        later = omega arith;
        few = omega (arith, few);
        asked = inr (ap (λ (i : ℕ). Some i) (sym (just_asked (length servers) now r)), omega arith);
      }

  by_sending : (b : Bool) (now : ℕ) (last : Option ℕ) (d : DnsQuery) → (b ≡ true → 0 < length servers) → Known last d →
      Known (option_or (if b then Some (next_of (length servers) (in_round (length servers) d)) else None) last)
      (if b then after_sending now (in_round (length servers) d) else d)
  by_sending true now last d some k =
      let n = length servers in
      let r = in_round n d in
      sent now last d r (same_round (begins_round n d) d) (few_asked (begins_round n d) n d refl (some refl)) k
  by_sending false now last d some k = k

  positive : (n : ℕ) → (n == 0) ≡ false → 0 < n
  positive n e = grind (arith, nat_tests, e)

  -- whom is asked there are some of
  some_servers : (now : ℕ) (q : DnsQuery) → is_to_send now (length servers) (after_time now (length servers) q) ≡ true → 0 < length servers
  some_servers now q h =
      let n = length servers in
      let w = waits_to_send now n (after_time now n q) h in
      positive n (within_time now n q (still now n q w.0).within).some

  by_event : (e : Event) (last : Option ℕ) (q : DnsQuery) → Known last q →
      Known (option_or (asked_by name servers e q) last) (query_after name servers e q)
  by_event (Receive from from_port to_port octets) last q k = by_receiving (is_by_asked servers from from_port to_port q) last octets q k
  by_event (Fail server) last q k = unreached (waits_for servers server q) last q k
  by_event (Ask now) last q k =
      let n = length servers in
      let d = after_time now n q in
      by_sending (is_to_send now n d) now last d (some_servers now q) (timed (is_pending q && is_over now n q) last q k)

  by_all : (es : List Event) (last : Option ℕ) (q : DnsQuery) → Known last q →
      Known (last_asked name servers es q last) (query_after_all name servers es q)
  by_all [] last q k = k
  by_all (e ∷ es) last q k = by_all es (option_or (asked_by name servers e q) last) (query_after name servers e q) (by_event e last q k)

  responds : (last : Option ℕ) (q : DnsQuery) (from : IpAddress) (from_port to_port : ℕ) (octets : List ℕ) → Known last q →
      is_by_asked servers from from_port to_port q ≡ true → is_response octets q ≡ true →
      Responds servers type random (asked_last (length servers) q) from from_port to_port octets
  responds last q from from_port to_port octets k by is =
      let b1 = and_parts _ _ by in
      let b2 = and_parts _ _ b1.0 in
      let b3 = and_parts _ _ b2.0 in
      let server = and_parts _ _ b1.1 in
      let i1 = and_parts _ _ is in
      let i2 = and_parts _ _ i1.1 in
      let i3 = and_parts _ _ i2.0 in
      let there : nat_lt (asked_last (length servers) q) (length servers) ≡ true = server.0 in
      let same = server.1 in
      let response = leb-true _ _ i3.1 in
      record {
        server = grind (arith, nat_tests, there);
        by = same;
        sent_from = eqb-true _ _ b3.1;
        sent_to = eqb-true _ _ b2.1 ∙ k.port;
        number = eqb-true _ _ i3.0 ∙ k.number;
        response = response;
      }

  question : (last : Option ℕ) (q : DnsQuery) (octets : List ℕ) → Known last q → has_question name octets q ≡ true → Asks name type octets
  question last q octets k is =
      let i1 = and_parts _ _ is in
      let i2 = and_parts _ _ i1.0 in
      let i3 = and_parts _ _ i2.0 in
      let same = i3.1 in
      record { question = same; is_type = eqb-true _ _ i2.1 ∙ ap number_of k.is_type; class = eqb-true _ _ i1.1 }

  last_is : (last : Option ℕ) (server : ℕ) (from : IpAddress) (from_port to_port : ℕ) (octets : List ℕ) (r : DnsResult) → last ≡ Some server →
      Responds servers type random server from from_port to_port octets → AnswersTo name type octets r →
      AnswersLast name servers type random last (Receive from from_port to_port octets) r
  last_is last server from from_port to_port octets r e a b =
      subst (λ (l : Option ℕ). AnswersLast name servers type random l (Receive from from_port to_port octets) r) (sym e) (a, b)

  asked_there : (last : Option ℕ) (q : DnsQuery) → Known last q → 0 < q.asked → last ≡ Some (asked_last (length servers) q)
  asked_there last q k some = by k.asked where
    by : ((last ≡ None) × (q.asked ≡ 0)) ⊎ ((last ≡ Some (asked_last (length servers) q)) × (0 < q.asked)) →
        last ≡ Some (asked_last (length servers) q)
    by (inl none) = let zero = none.1 in absurd (omega (arith, zero, some))
    by (inr there) = there.0

  tried : (from : IpAddress) (from_port to_port : ℕ) (q : DnsQuery) → is_by_asked servers from from_port to_port q ≡ true → 0 < q.asked
  tried from from_port to_port q h =
      let asks : nat_lt 0 q.asked ≡ true = (and_parts _ _ (and_parts _ _ (and_parts _ _ (and_parts _ _ h).0).0).0).1 in
      grind (arith, nat_tests, asks)

  refusal_result : (b : Bool) (q : DnsQuery) → is_pending q ≡ true →
      is_pending (if b then record q { result = Failed ServerFailure } else record q { has_refused = true; next_at = q.round_at }) ≡ false →
      (if b then record q { result = Failed ServerFailure } else record q { has_refused = true; next_at = q.round_at }).result ≡ Failed ServerFailure
  refusal_result true q p n = refl
  refusal_result false q p n = absurd (cc)

  by_answer : (refuses answers sound : Bool) (last : Option ℕ) (q : DnsQuery) (from : IpAddress) (from_port to_port : ℕ) (octets : List ℕ) →
      Known last q → is_pending q ≡ true → is_by_asked servers from from_port to_port q ≡ true → is_refusal name octets q ≡ refuses →
      is_answer name octets q ≡ answers →
      is_pending (if refuses then after_refusal (length servers) q else if answers && sound then with_result (result_in octets q) q else q) ≡ false →
      AnswersLast name servers type random last (Receive from from_port to_port octets)
      (if refuses then after_refusal (length servers) q else if answers && sound then with_result (result_in octets q) q else q).result
  by_answer true answers sound last q from from_port to_port octets k p by r a n =
      let response = (and_parts _ _ (and_parts _ _ r).0).0 in
      last_is last (asked_last (length servers) q) from from_port to_port octets _ (asked_there last q k (tried from from_port to_port q by))
      (responds last q from from_port to_port octets k by response)
      (inr (refusal_result (q.all_refused && nat_le (length servers) q.asked) q p n))
  by_answer false true true last q from from_port to_port octets k p by r a n =
      let both = and_parts _ _ a in
      last_is last (asked_last (length servers) q) from from_port to_port octets _ (asked_there last q k (tried from from_port to_port q by))
      (responds last q from from_port to_port octets k by both.0) (inl (question last q octets k both.1))
  by_answer false true false last q from from_port to_port octets k p by r a n = absurd (cc)
  by_answer false false sound last q from from_port to_port octets k p by r a n = absurd (cc)

  by_message : (b : Bool) (last : Option ℕ) (q : DnsQuery) (from : IpAddress) (from_port to_port : ℕ) (octets : List ℕ) → Known last q →
      is_pending q ≡ true → is_by_asked servers from from_port to_port q ≡ b →
      is_pending (if b then after_answer name (length servers) octets q else q) ≡ false →
      AnswersLast name servers type random last (Receive from from_port to_port octets)
      (if b then after_answer name (length servers) octets q else q).result
  by_message false last q from from_port to_port octets k p h n = absurd (cc)
  by_message true last q from from_port to_port octets k p h n =
      by_answer (is_refusal name octets q) (is_answer name octets q) (not (is_failure octets)) last q from from_port to_port octets k p h refl refl n

  by_failure : (b : Bool) (last : Option ℕ) (q : DnsQuery) (server : IpAddress) → Known last q → is_pending q ≡ true →
      waits_for servers server q ≡ b → is_pending (if b then after_refusal (length servers) q else q) ≡ false →
      AnswersLast name servers type random last (Fail server) (if b then after_refusal (length servers) q else q).result
  by_failure false last q server k p h n = absurd (cc)
  by_failure true last q server k p h n =
      let both = and_parts _ _ h in
      let asks : nat_lt 0 q.asked ≡ true = (and_parts _ _ both.0).1 in
      let some : 0 < q.asked = grind (arith, nat_tests, asks) in
      let is = and_parts _ _ both.1 in
      let there : nat_lt (asked_last (length servers) q) (length servers) ≡ true = is.0 in
      let same = is.1 in
      subst (λ (l : Option ℕ). AnswersLast name servers type random l (Fail server) (after_refusal (length servers) q).result)
      (sym (asked_there last q k some)) (
        record { there = grind (arith, nat_tests, there); same = same },
        refusal_result (q.all_refused && nat_le (length servers) q.asked) q p n,
      )

  by_time : (waits over : Bool) (q : DnsQuery) → is_pending q ≡ waits → is_pending q ≡ true →
      is_pending (if waits && over then record q { result = Failed TimedOut } else q) ≡ false →
      (if waits && over then record q { result = Failed TimedOut } else q).result ≡ Failed TimedOut
  by_time true true q w p n = refl
  by_time true false q w p n = absurd (cc)
  by_time false over q w p n = absurd (cc)

  by_last : (e : Event) (last : Option ℕ) (q : DnsQuery) → Known last q → is_pending q ≡ true → is_pending (query_after name servers e q) ≡ false →
      ((query_after name servers e q).result ≡ Failed TimedOut) ⊎ AnswersLast name servers type random last e (query_after name servers e q).result
  by_last (Receive from from_port to_port octets) last q k p n =
      inr (by_message (is_by_asked servers from from_port to_port q) last q from from_port to_port octets k p refl n)
  by_last (Fail server) last q k p n = inr (by_failure (waits_for servers server q) last q server k p refl n)
  by_last (Ask now) last q k p n =
      let m = length servers in
      let d = after_time now m q in
      let same = same_result (is_to_send now m d) now m d in
      inl (same ∙ by_time (is_pending q) (is_over now m q) q refl p (sym (ap waits same) ∙ n))

pub results_are_answers : ResultsAreAnswers
results_are_answers name servers begun' random first type es e p n =
    let q = new_query begun' type random first in
    by_last name servers type random first e (last_asked name servers es q None) (query_after_all name servers es q)
    (by_all name servers type random first es None q (begun name servers type random first begun')) p n

-- Servers in a circle.

circle_ends : (servers from : ℕ) (s t : Bool) → from < servers → nat_lt (from + (servers - 1)) servers ≡ s → nat_lt (from + 0) servers ≡ t →
    (if t then from + 0 else from + 0 - servers) ≡ behind servers (if s then from + (servers - 1) else from + (servers - 1) - servers)
circle_ends servers from true true f es et =
    let one : from ≡ 0 = grind (arith, nat_tests, es, f) in
    rw (one) (ends servers f)
  where
    ends : (servers : ℕ) → from < servers → 0 + 0 ≡ behind servers (0 + (servers - 1))
    ends servers f = by (nat_lt (0 + (servers - 1) + 1) servers) refl where
      by : (b : Bool) → nat_lt (0 + (servers - 1) + 1) servers ≡ b → 0 + 0 ≡ (if b then 0 + (servers - 1) + 1 else 0)
      by true e = absurd (grind (arith, nat_tests, e, f))
      by false e = refl
circle_ends servers from false true f es et = by (nat_lt (from + (servers - 1) - servers + 1) servers) refl where
  by : (b : Bool) → nat_lt (from + (servers - 1) - servers + 1) servers ≡ b →
      from + 0 ≡ (if b then from + (servers - 1) - servers + 1 else 0)
  by true e = grind (arith, nat_tests, e, es, f)
  by false e = absurd (grind (arith, nat_tests, e, es, f))
circle_ends servers from s false f es et = absurd (grind (arith, nat_tests, et, f))

circle_next : (servers from i : ℕ) (s t : Bool) → from < servers → i + 1 < servers → nat_lt (from + i) servers ≡ s →
    nat_lt (from + (i + 1)) servers ≡ t →
    (if t then from + (i + 1) else from + (i + 1) - servers) ≡ behind servers (if s then from + i else from + i - servers)
circle_next servers from i true true f few es et = by (nat_lt (from + i + 1) servers) refl where
  by : (b : Bool) → nat_lt (from + i + 1) servers ≡ b → from + (i + 1) ≡ (if b then from + i + 1 else 0)
  by true e = omega arith
  by false e = absurd (grind (arith, nat_tests, e, et))
circle_next servers from i true false f few es et = by (nat_lt (from + i + 1) servers) refl where
  by : (b : Bool) → nat_lt (from + i + 1) servers ≡ b → from + (i + 1) - servers ≡ (if b then from + i + 1 else 0)
  by true e = absurd (grind (arith, nat_tests, e, et))
  by false e = grind (arith, nat_tests, e, es, et)
circle_next servers from i false true f few es et = absurd (grind (arith, nat_tests, es, et))
circle_next servers from i false false f few es et = by (nat_lt (from + i - servers + 1) servers) refl where
  by : (b : Bool) → nat_lt (from + i - servers + 1) servers ≡ b → from + (i + 1) - servers ≡ (if b then from + i - servers + 1 else 0)
  by true e = grind (arith, nat_tests, es)
  by false e = absurd (grind (arith, nat_tests, e, es, f, few))

first_there : (servers first : ℕ) (b : Bool) → 0 < servers → nat_lt first servers ≡ b → (if b then first else 0) < servers
first_there servers first true some e = grind (arith, nat_tests, e)
first_there servers first false some e = some

is_first : (servers first : ℕ) → 0 < servers → first_of servers first < servers
is_first servers first some = first_there servers first (nat_lt first servers) some refl

-- behind the last server of a round is the first one of the next, and behind another one is the next one
next_behind : (b : Bool) (servers : ℕ) (q : DnsQuery) → begins_round servers q ≡ b → 0 < servers → 0 < q.asked → q.asked ≤ servers →
    next_of servers (round_by b q) ≡ behind servers (asked_last servers q)
next_behind true servers q e some more few =
    let all : q.asked ≡ servers = grind (arith, nat_tests, e, few) in
    let from = first_of servers q.first in
    circle_ends servers from (nat_lt (from + (servers - 1)) servers) (nat_lt (from + 0) servers) (is_first servers q.first some) refl refl
    ∙ ap (λ (n : ℕ). behind servers (server_of servers q.first (n - 1))) (sym all)
next_behind false servers q e some more few =
    let left : q.asked < servers = grind (arith, nat_tests, e) in
    let from = first_of servers q.first in
    let i = q.asked - 1 in
    let is : i + 1 ≡ q.asked = omega (arith, more) in
    ap (λ (n : ℕ). server_of servers q.first n) (sym is)
    ∙ circle_next servers from i (nat_lt (from + i) servers) (nat_lt (from + (i + 1)) servers) (is_first servers q.first some)
    (omega (arith, is, left)) refl refl

pub servers_go_round : ServersGoRound
servers_go_round name servers begun' random first now last server type es el e =
    let n = length servers in
    let new = new_query begun' type random first in
    let q = query_after_all name servers es new in
    let d = after_time now n q in
    let k = by_all name servers type random first es None new (begun name servers type random first begun') in
    let kd = timed name servers type random first (is_pending q && is_over now n q) (last_asked name servers es new None) q k in
    let s = sends (is_to_send now n d) (next_of n (in_round n d)) server e in
    let some = some_servers name servers type random first now q s.0 in
    let there = were_asked (last_asked name servers es new None) (asked_last n d) d.asked last el kd.asked in
    sym s.1 ∙ next_behind (begins_round n d) n d refl some there.1 kd.few ∙ ap (behind n) there.0 where
      were_asked : (o : Option ℕ) (a asked last : ℕ) → o ≡ Some last → ((o ≡ None) × (asked ≡ 0)) ⊎ ((o ≡ Some a) × (0 < asked)) →
          (a ≡ last) × (0 < asked)
      were_asked o a asked last e (inl none) = absurd (let x = sym none.0 ∙ e in cc)
      were_asked o a asked last e (inr there) = (ap (got 0) (sym there.0 ∙ e), there.1) where
        got : ℕ → Option ℕ → ℕ
        got n None = n
        got n (Some m) = m

first_next : (b : Bool) (servers first : ℕ) → first < servers → nat_lt first servers ≡ b →
    (if nat_lt ((if b then first else 0) + 0) servers then (if b then first else 0) + 0 else (if b then first else 0) + 0 - servers) ≡ first
first_next true servers first less e = by (nat_lt (first + 0) servers) refl where
  by : (c : Bool) → nat_lt (first + 0) servers ≡ c → (if c then first + 0 else first + 0 - servers) ≡ first
  by true f = omega arith
  by false f = absurd (grind (arith, nat_tests, f, less))
first_next false servers first less e = absurd (grind (arith, nat_tests, e, less))

new_round : (servers begun' random first : ℕ) (type : DnsType) (b : Bool) → begins_round servers (new_query begun' type random first) ≡ b → 0 < servers →
    next_of servers (round_by b (new_query begun' type random first)) ≡ server_of servers first 0
new_round servers begun' random first type true e some = refl
new_round servers begun' random first type false e some = refl

pub first_is_asked : FirstIsAsked
first_is_asked now servers begun' random first server type less e =
    let q = new_query begun' type random first in
    let d = after_time now servers q in
    let s = sends (is_to_send now servers d) (next_of servers (in_round servers d)) server e in
    let w = waits_to_send now servers d s.0 in
    let same = (still now servers q w.0).same in
    sym s.1 ∙ ap (λ (x : DnsQuery). next_of servers (in_round servers x)) same
    ∙ new_round servers begun' random first type (begins_round servers q) refl (omega (arith, less))
    ∙ first_next (nat_lt first servers) servers first less refl

-- A server that refuses.

not_all : (b : Bool) (servers asked : ℕ) → asked < servers → (b && nat_le servers asked) ≡ false
not_all true servers asked less = grind (arith, nat_tests, less)
not_all false servers asked less = refl

after_refused : (by refuses all : Bool) (name : List ℕ) (servers : ℕ) (octets : List ℕ) (a : DnsQuery) → by ≡ true → refuses ≡ true → all ≡ false →
    (if by then (if refuses then (if all then record a { result = Failed ServerFailure } else record a { has_refused = true; next_at = a.round_at })
    else if is_answer name octets a && not (is_failure octets) then with_result (result_in octets a) a else a) else a)
    ≡ record a { has_refused = true; next_at = a.round_at }
after_refused by refuses all name servers octets a eb er ea = rw (eb, er, ea) refl

-- a query that is to go on, with servers left in the round
record GoesOn (servers : ℕ) (a : DnsQuery) (begun' : ℕ) (now server : ℕ) : Type 0 where
  pub waits : is_pending a ≡ true
  pub last : asked_last servers a ≡ server
  pub some : 0 < a.asked
  pub left : a.asked < servers
  pub round : a.round_at ≤ now
  pub began : a.started_at ≡ begun'

asks_next : (servers : ℕ) (a : DnsQuery) (begun' now later server : ℕ) → GoesOn servers a begun' now server → now ≤ later →
    later < begun' + servers * 10000000 → asked_at later servers (record a { has_refused = true; next_at = a.round_at }) ≡ Some (behind servers server)
asks_next servers a begun' now later server g after within =
    let b = record a { has_refused = true; next_at = a.round_at } in
    let left = g.left in
    let round = g.round in
    let began = g.began in
    let there : (servers == 0) ≡ false = grind (arith, nat_tests, left) in
    let in_time : nat_le (ends_at servers b) later ≡ false = grind (arith, nat_tests, began, within) in
    let not_over : is_over later servers b ≡ false = rw (there, in_time) refl in
    let same : after_time later servers b ≡ b = rw (g.waits, not_over) refl in
    let goes : begins_round servers b ≡ false = grind (arith, nat_tests, left) in
    let due : nat_le b.next_at later ≡ true = grind (arith, nat_tests, round, after) in
    let to_send : is_to_send later servers b ≡ true = rw (g.waits, goes, due) refl in
    let next : next_of servers (in_round servers b) ≡ behind servers server = ap (λ (t : Bool). next_of servers (round_by t b)) goes
    ∙ next_behind false servers b goes (omega (arith, left)) g.some (omega (arith, left)) ∙ ap (behind servers) g.last in
    ap (λ (x : DnsQuery). if is_to_send later servers x then Some (next_of servers (in_round servers x)) else None) same
    ∙ ap (λ (t : Bool). if t then Some (next_of servers (in_round servers b)) else None) to_send ∙ ap (λ (i : ℕ). Some i) next

round_passed : (b : Bool) (now : ℕ) (q : DnsQuery) → q.round_at ≤ q.next_at → (if b then max q.next_at q.silent_until else q.next_at) ≤ now →
    (round_by b q).round_at ≤ now
round_passed true now q l h = omega (arith, h)
round_passed false now q l h = omega (arith, l, h)

goes_on : (t : Bool) (name : List ℕ) (servers : List IpAddress) (type : DnsType) (random first begun' now server : ℕ) (last : Option ℕ) (d : DnsQuery) →
    is_to_send now (length servers) d ≡ t → Known name servers type random first last d → d.started_at ≡ begun' →
    (if t then Some (next_of (length servers) (in_round (length servers) d)) else None) ≡ Some server →
    (if t then after_sending now (in_round (length servers) d) else d).asked < length servers →
    GoesOn (length servers) (if t then after_sending now (in_round (length servers) d) else d) begun' now server
goes_on false name servers type random first begun' now server last d h k began e left = absurd (cc)
goes_on true name servers type random first begun' now server last d h k began e left =
    let n = length servers in
    let r = in_round n d in
    let w = waits_to_send now n d h in
    let round = round_passed (begins_round n d) now d k.later w.1 in
    record {
      waits = ap waits (same_result true now n d) ∙ w.0;
      last = just_asked n now r ∙ (sends true (next_of n r) server e).1;
      some = omega arith;
      left = left;
      round = round;
      began = same_start (begins_round n d) d ∙ began;
    } where
      same_start : (b : Bool) (q : DnsQuery) → (round_by b q).started_at ≡ q.started_at
      same_start true q = refl
      same_start false q = refl

pub refusals_move_on : RefusalsMoveOn
refusals_move_on name servers begun' random first now later server type es from octets q eq e is refuses left after within =
    let n = length servers in
    let new = new_query begun' type random first in
    let k : Known name servers type random first (last_asked name servers es new None) q =
    subst (λ (x : DnsQuery). Known name servers type random first (last_asked name servers es new None) x) (sym eq)
    (by_all name servers type random first es None new (begun name servers type random first begun')) in
    let began : q.started_at ≡ begun' = ap (λ (x : DnsQuery). x.started_at) eq ∙ started_same name servers es new in
    let d = after_time now n q in
    let a = after_asking now n q in
    let kd = timed name servers type random first (is_pending q && is_over now n q) (last_asked name servers es new None) q k in
    let began_d : d.started_at ≡ begun' = same_time_start (is_pending q && is_over now n q) q ∙ began in
    let g = goes_on (is_to_send now n d) name servers type random first begun' now server (last_asked name servers es new None) d refl kd began_d e left in
    let by : is_by_asked servers from 53 a.source_port a ≡ true = by_sent (is_to_send now n d) servers now server from d refl e is in
    let c : after_receiving name servers from 53 a.source_port octets a ≡ record a { has_refused = true; next_at = a.round_at } =
    after_refused (is_by_asked servers from 53 a.source_port a) (is_refusal name octets a) (a.all_refused && nat_le n a.asked) name n octets a by refuses
    (not_all a.all_refused n a.asked left) in
    ap (asked_at later n) c ∙ asks_next n a begun' now later server g after within where
      same_time_start : (b : Bool) (q : DnsQuery) → (if b then record q { result = Failed TimedOut } else q).started_at ≡ q.started_at
      same_time_start true q = refl
      same_time_start false q = refl
